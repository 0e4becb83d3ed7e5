-- Statements on E, the replacement of `exp`, and on 10^y. Definitions only.
use Rattle.std.specs.Prelude.{◌≡◌, ℕ, ◌≤◌, ◌<◌, Bool, true, false, T, ℤ, pos, negsuc, Float}
use Rattle.std.specs.Float.{fin, binary64}
use Rattle.std.specs.Float.Ieee.{round, lt, le, of_int}
use Rattle.std.specs.Float.Ieee.Scale.{finite}
use Rattle.numbers_spec.specs.Arithmetic.{zero⁺, one}
use Rattle.numbers_spec.specs.Exponential.{limit, limit⁻, two_to, exp_series, exp_whole, exp_rest, exp_of, ten_to}
use Rattle.numbers_spec.specs.Values.{Number, NotNegative, Between}

-- ---- 2^k
-- the exponents of a normal f64: -1022 to 1023
abbrev pub Exponent : ℤ → Type 0
Exponent (pos n) = n ≤ 1023
Exponent (negsuc n) = n < 1022

-- `two_to k` is exactly 2^k.
abbrev pub PowerOfTwo : Type 0
PowerOfTwo = (k : ℤ) → Exponent k → two_to (of_int binary64 k) ≡ fin false 1 k

-- ---- k and r
-- 3/8 and -3/8
abbrev pub rest_most : Float
rest_most = fin false 3 (negsuc 2)

abbrev pub rest_most⁻ : Float
rest_most⁻ = fin true 3 (negsuc 2)

-- k is the float of a whole number ±n, at most 995 in size (at n = 0 it may be -0), and r lies from -3/8 to 3/8.
pub record ExpReduced (x : Float) : Type 0 where
  pub minus : Bool
  pub whole : ℕ
  pub small : whole ≤ 995
  pub is : exp_whole x ≡ round binary64 minus whole 1
  pub rest : Between rest_most⁻ rest_most (exp_rest x (exp_whole x))

-- for every x from -690 to 690
abbrev pub ExpReduces : Type 0
ExpReduces = (x : Float) → Between limit⁻ limit x → ExpReduced x

-- ---- the series
-- 1/4 and 7/4
abbrev pub sum_least : Float
sum_least = fin false 1 (negsuc 1)

abbrev pub sum_most : Float
sum_most = fin false 7 (negsuc 1)

-- It stays from 1/4 to 7/4 for every r from -3/8 to 3/8.
abbrev pub ExpSeriesBounded : Type 0
ExpSeriesBounded = (r : Float) → Between rest_most⁻ rest_most r → Between sum_least sum_most (exp_series 13 r one)

-- ---- E and 10^y
-- g x is no NaN, not negative, above zero from x = l on, finite up to x = u, and at most 1, so from 0 to 1, up to x = 0.
pub record Exponential (g : Float → Float) (l u x : Float) : Type 0 where
  pub number : Number (g x)
  pub not_negative : NotNegative (g x)
  pub above_zero : T (le l x) → T (lt zero⁺ (g x))
  pub is_finite : T (le x u) → T (finite (g x))
  pub at_most_one : T (le x zero⁺) → T (le (g x) one)

-- So is E for every x that is no NaN, with l = -690 and u = 690.
abbrev pub ExpLaws : Type 0
ExpLaws = (x : Float) → Number x → Exponential exp_of limit⁻ limit x

-- And so is 10^y, with l = -299 and u = 299: 299 × ln 10 is below 690.
abbrev pub ten_most : Float
ten_most = fin false 299 (pos 0)

abbrev pub ten_most⁻ : Float
ten_most⁻ = fin true 299 (pos 0)

abbrev pub TenToLaws : Type 0
TenToLaws = (y : Float) → Number y → Exponential ten_to ten_most⁻ ten_most y
