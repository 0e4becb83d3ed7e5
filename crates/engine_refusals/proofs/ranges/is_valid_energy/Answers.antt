-- `engine_refusals::ranges::is_valid_energy` meets its contract. Assumes nothing.
use lib.Ieee.{of_bits}
use Rattle.std.proofs.Common.{refl}
use Rattle.engine_refusals.proofs.ranges.is_valid_energy.Goals as goal

pub returns : goal.returns
unfolding of_bits
returns c = refl
