-- `engine_readiness::average_energy` meets its contract. Assumes nothing.
use lib.Ieee.{of_bits}
use Rattle.engine_spec.specs.Readiness.{average_energy}
use Rattle.engine_readiness.proofs.average_energy.Goals as goal

pub returns-else-mean : goal.returns-else-mean
unfolding average_energy of_bits
returns-else-mean c = simp (← c.mean_power-mean.ensures, c.if-mean.false)
