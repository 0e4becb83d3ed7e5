-- `matcher_bands::centring::Smoothing::centre_block` meets its contract. Assumes nothing.
use Rattle.std.proofs.Common.{ℕ, ◌+◌, length}
use Rattle.matcher_bands.specs.Smoothed.{mean_at}
use Rattle.matcher_bands.proofs.CentringLaws.{taken_off}
use Rattle.matcher_bands.proofs.centring.Smoothing.centre_block.Goals as goal

pub returns : goal.returns
returns c =
    let a = c.args in
    taken_off (λ (k : ℕ). mean_at a.self.now (a.i + k)) (length a.wide.now) a.from a.row.now c.fill_means.ensures c.narrow_row.ensures c.take_off.ensures
