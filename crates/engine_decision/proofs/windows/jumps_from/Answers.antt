use mathlib.Core.Path.{refl}
use lib.Ieee.{of_bits}
use Rattle.engine_spec.specs.Windows.{jumps_from}
use Rattle.engine_decision.proofs.windows.jumps_from.Goals as goal

pub returns : goal.returns
unfolding jumps_from of_bits
returns c = rw (c.endpoint_of.ensures, ← c.window.view_is) refl
