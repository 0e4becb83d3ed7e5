-- `engine_readiness::active_fraction` meets its contract. Assumes nothing.
use lib.Ieee.{le}
use Rattle.std.proofs.Common.{length}
use Rattle.numbers_spec.proofs.ChainLaws.{tally_is_count}
use Rattle.engine_spec.specs.Readiness.{active_fraction}
use Rattle.engine_readiness.proofs.active_fraction.Goals as goal

pub returns : goal.returns
unfolding active_fraction
returns c =
    let t = tally_is_count (le c.args.configuration.minimum_active_frame_energy_dbfs) c.window.inside.energies.now (length c.window.inside.times.now) (rw (← c.window.view_is) at c.requires) in
    rw (← c.window.view_is) (simp (c.real.ensures, c.real-2.ensures, c.count_active.ensures, t))
