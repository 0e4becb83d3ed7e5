-- `engine_readiness::mean_power` meets its contract. Assumes nothing.
use Rattle.std.proofs.Common.{Float, length}
use Rattle.numbers_spec.specs.Arithmetic.{◌⊘◌}
use Rattle.numbers_spec.specs.Exponential.{ten_to}
use Rattle.numbers_spec.proofs.ChainLaws.{sum_is_fold}
use Rattle.engine_spec.specs.Thresholds.{ten}
use Rattle.engine_spec.specs.Readiness.{mean_power}
use Rattle.engine_readiness.proofs.mean_power.Goals as goal

pub returns : goal.returns
unfolding mean_power
returns c =
    let t = sum_is_fold (λ (e : Float). ten_to (e ⊘ ten)) c.window.inside.energies.now (length c.window.inside.times.now) (rw (← c.window.view_is) at c.requires) in
    rw (← c.window.view_is) (simp (c.power_sum.ensures, c.real.ensures, t))
