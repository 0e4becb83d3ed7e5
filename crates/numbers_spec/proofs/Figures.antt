-- The figures P7 to P10 follow from the definitions, by computation. Assumes nothing.
use mathlib.Core.Path.{refl}
use lib.Ieee.{round, units, size, add, sub, mul, div, of_bits, to_bits, of_int, to_unsigned, lt, le}
use Rattle.numbers_spec.specs.Whole.{whole_nearest}
use Rattle.numbers_spec.specs.Narrow.{nearest_f32}
use Rattle.numbers_spec.specs.Root.{root_of}
use Rattle.numbers_spec.specs.Exponential.{exp_of, exp_series, two_to}
use Rattle.numbers_spec.specs.Logarithm.{log_of, log_series}
use Rattle.numbers_spec.specs.Figures.{Figures}

pub figures : Figures
unfolding root_of nearest_f32 whole_nearest exp_of exp_series two_to log_of log_series round units size add sub mul div of_bits to_bits of_int to_unsigned lt le
figures = record { p7 = refl; p8 = (refl, refl); p9 = (refl, refl); p10 = (refl, refl) }
