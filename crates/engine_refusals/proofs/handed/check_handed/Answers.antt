-- `engine_refusals::handed::check_handed` meets its contract: a window that is not refused is small. Assumes nothing.
use Rattle.std.proofs.Common.{ap, sym, length, arith}
use Rattle.engine_spec.specs.Windows.{Submission}
use Rattle.engine_refusals.proofs.SmallWindow.{small}
use Rattle.engine_refusals.proofs.handed.check_handed.Goals as goal

pub work_fits-requires : goal.work_fits-requires
work_fits-requires c =
    let k = small _ (sym c.in_ok-check_window.ensures) in
    record {
      few_bands = omega (arith, k.bands, ap (λ (s : Submission). s.window.bands) c.submission.view_is);
      few_frames = omega (arith, k.frames, ap (λ (s : Submission). length s.window.times) c.submission.view_is);
    }
