-- `engine_lock::rules::least` meets its contract. Assumes nothing.
use mathlib.Core.Path.{refl}
use Rattle.numbers_spec.specs.Arithmetic.{least}
use Rattle.engine_lock.proofs.LockLaws.{no_nan, nan_passed}
use Rattle.engine_lock.proofs.rules.least.Goals as goal

pub returns-then-y : goal.returns-then-y
unfolding least
returns-then-y c = rw (no_nan _ c.if-y.true) c.at_most.ensures

pub returns-else-y : goal.returns-else-y
unfolding least
returns-else-y c = rw (nan_passed _ c.if-y.false) refl
