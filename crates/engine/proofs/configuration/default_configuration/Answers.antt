-- `engine::configuration::default_configuration` meets its contract. Assumes nothing.
use mathlib.Core.Path.{refl}
use lib.Ieee.{of_bits, neg}
use Rattle.engine_spec.specs.Opening.{default_configuration}
use Rattle.engine.proofs.configuration.default_configuration.Goals as goal

pub returns : goal.returns
unfolding default_configuration of_bits neg
returns c = refl
