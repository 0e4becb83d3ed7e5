-- Worked figures of a load, for whoever writes the generator in another language. Definitions only.
use Rattle.std.specs.Prelude.{◌≡◌}
use Rattle.std.specs.Float.{binary32, binary64}
use Rattle.engine_spec.specs.Constants.{plus, minus, f64, nearest, Rounded}
use Rattle.workload_spec.specs.Draws.{drawn}
use Rattle.workload_spec.specs.Load.{value_at, load_time, load_energy}

-- What seed 1 draws, and the values that it yields: 0.25390625, 4.25390625, 6.16015625, 0.14453125.
pub record FromOne : Type 0 where
  pub first : drawn 1 0 ≡ 1082269761
  pub second : drawn 1 1 ≡ 1152992998833853505
  pub third : drawn 1 2 ≡ 11177516664432764457
  pub fourth : drawn 1 3 ≡ 17678023832001937445
  pub first_value : value_at 1 0 ≡ nearest binary32 (plus 25390625 8)
  pub second_value : value_at 1 1 ≡ nearest binary32 (plus 425390625 8)
  pub third_value : value_at 1 2 ≡ nearest binary32 (plus 616015625 8)
  pub fourth_value : value_at 1 3 ≡ nearest binary32 (plus 14453125 8)

-- What the seed of Marsaglia's paper draws.
pub record FromMarsaglias : Type 0 where
  pub first : drawn 88172645463325252 0 ≡ 8748534153485358512
  pub second : drawn 88172645463325252 1 ≡ 3040900993826735515
  pub third : drawn 88172645463325252 2 ≡ 3453997556048239312

-- 14 × 23.22 is 325.08; a running sum comes out a unit in the last place higher.
abbrev pub TimeRoundedOnce : Type 0
TimeRoundedOnce = load_time (nearest binary64 (plus 2322 2)) 14 ≡ nearest binary64 (plus 32508 2)

-- The energy's bit pattern is its decimal.
abbrev pub EnergyIs : Type 0
EnergyIs = Rounded (f64 load_energy (minus 20 0))

pub record Figures : Type 0 where
  pub from_one : FromOne
  pub from_marsaglias : FromMarsaglias
  pub time_rounded_once : TimeRoundedOnce
  pub energy_is : EnergyIs
