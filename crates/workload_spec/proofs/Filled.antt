-- The number tells a load that is filled from one that is refused. Assumes nothing.
use mathlib.Core.Path.{refl}
use Rattle.std.specs.Prelude.{None, Some}
use Rattle.engine_spec.specs.Refusals.{number_of}
use Rattle.workload_spec.specs.Fill.{load_number}
use Rattle.workload_spec.specs.LoadLaws.{FilledByNumber}
use Rattle.workload_spec.specs.declared.types.LoadRefusal.TheVariants as refused

pub filled_by_number : FilledByNumber
unfolding load_number number_of
filled_by_number None = refl
filled_by_number (Some refused.SeedZero) = refl
filled_by_number (Some refused.HopOutOfRange) = refl
filled_by_number (Some refused.TooLarge) = refl
filled_by_number (Some refused.Miscounted) = refl
