-- The figures follow from the definitions, by computation, each by itself. Assumes nothing.
use mathlib.Core.Path.{◌≡◌, refl}
use Rattle.std.specs.Float.{binary32}
use lib.Count.{count_trailing_zeros}
use lib.Ieee.{round, units, size, span, climb, odd, mul, of_bits, of_fields, of_int}
use Rattle.engine_spec.specs.Constants.{plus, nearest}
use Rattle.workload_spec.specs.Draws.{step, stepped, drawn}
use Rattle.workload_spec.specs.Load.{value_at, load_value, load_time}
use Rattle.workload_spec.specs.Figures.{FromOne, FromMarsaglias, TimeRoundedOnce, EnergyIs, Figures}

first_draw : drawn 1 0 ≡ 1082269761
unfolding step stepped
first_draw = refl

second_draw : drawn 1 1 ≡ 1152992998833853505
unfolding step stepped
second_draw = refl

third_draw : drawn 1 2 ≡ 11177516664432764457
unfolding step stepped
third_draw = refl

fourth_draw : drawn 1 3 ≡ 17678023832001937445
unfolding step stepped
fourth_draw = refl

first_value : value_at 1 0 ≡ nearest binary32 (plus 25390625 8)
unfolding step stepped load_value load_time round units size span climb odd count_trailing_zeros mul of_bits of_fields of_int
first_value = refl

second_value : value_at 1 1 ≡ nearest binary32 (plus 425390625 8)
unfolding step stepped load_value load_time round units size span climb odd count_trailing_zeros mul of_bits of_fields of_int
second_value = refl

third_value : value_at 1 2 ≡ nearest binary32 (plus 616015625 8)
unfolding step stepped load_value load_time round units size span climb odd count_trailing_zeros mul of_bits of_fields of_int
third_value = refl

fourth_value : value_at 1 3 ≡ nearest binary32 (plus 14453125 8)
unfolding step stepped load_value load_time round units size span climb odd count_trailing_zeros mul of_bits of_fields of_int
fourth_value = refl

from_one : FromOne
from_one = record {
  first = first_draw;
  second = second_draw;
  third = third_draw;
  fourth = fourth_draw;
  first_value = first_value;
  second_value = second_value;
  third_value = third_value;
  fourth_value = fourth_value;
}

first_of_marsaglias : drawn 88172645463325252 0 ≡ 8748534153485358512
unfolding step stepped
first_of_marsaglias = refl

second_of_marsaglias : drawn 88172645463325252 1 ≡ 3040900993826735515
unfolding step stepped
second_of_marsaglias = refl

third_of_marsaglias : drawn 88172645463325252 2 ≡ 3453997556048239312
unfolding step stepped
third_of_marsaglias = refl

from_marsaglias : FromMarsaglias
from_marsaglias = record { first = first_of_marsaglias; second = second_of_marsaglias; third = third_of_marsaglias }

time_rounded_once : TimeRoundedOnce
unfolding step stepped load_value load_time round units size span climb odd count_trailing_zeros mul of_bits of_fields of_int
time_rounded_once = refl

energy_is : EnergyIs
unfolding step stepped load_value load_time round units size span climb odd count_trailing_zeros mul of_bits of_fields of_int
energy_is = refl

pub figures : Figures
figures = record { from_one = from_one; from_marsaglias = from_marsaglias; time_rounded_once = time_rounded_once; energy_is = energy_is }
