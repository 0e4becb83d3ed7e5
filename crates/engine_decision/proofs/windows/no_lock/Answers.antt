use mathlib.Core.Path.{refl}
use lib.Ieee.{of_bits}
use Rattle.engine_decision.proofs.windows.no_lock.Goals as goal

pub returns : goal.returns
unfolding of_bits
returns c = refl
