-- What a window that is not refused is bounded by. Assumes nothing.
use Prim.Native.Nat.{◌≤◌}
use mathlib.Core.Bool.{◌&&◌}
use mathlib.Core.Path.{◌≡◌}
use lib.Dec.{ltb, leb, leb→le}
use lib.ListN.{length}
use Rattle.std.specs.Prelude.{None}
use Rattle.engine_spec.specs.Refusals.{window_refusal}
use Rattle.engine_spec.specs.Windows.{Window}
use Rattle.engine_spec.specs.declared.types.Refusal.TheVariants as refusal
use Rattle.engine_spec.proofs.Handed.{passed}
use Rattle.engine_spec.proofs.Tests.{and_l, and_r}
use Rattle.matcher_spec.specs.Limits.{window_most, bands_most}

pub record Small (w : Window) : Type 0 where
  pub frames : length w.times ≤ window_most
  pub bands : w.bands ≤ bands_most

pub small : (w : Window) → window_refusal w ≡ None → Small w
unfolding window_refusal
small w e =
    let n = length w.times in
    let p = passed (ltb 0 n) refusal.NoFrames _ e in
    let q = passed (leb n window_most && leb w.bands bands_most) refusal.WindowTooLarge _ p.on in
    record {
      frames = leb→le n window_most (and_l (leb n window_most) (leb w.bands bands_most) q.here);
      bands = leb→le w.bands bands_most (and_r (leb n window_most) (leb w.bands bands_most) q.here);
    }
