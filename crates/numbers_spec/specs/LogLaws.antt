-- What is proved of L, `ln_1p` and `log10`: how L splits its argument, and that their results are finite and bounded. Definitions only.
use Rattle.std.specs.Prelude.{ℕ, ◌*◌, ◌^◌, ◌≤◌, ◌<◌, ◌≡◌, true, false, pos, T, Float}
use Rattle.std.specs.Float.{inf, fin, binary32, binary64}
use Rattle.std.specs.Float.Ieee.{up, down, minus, of_int, fits, lt, le}
use Rattle.std.specs.Float.Ieee.Exact.{HasValue}
use Rattle.std.specs.Float.Ieee.Scale.{finite}
use Rattle.numbers_spec.specs.Arithmetic.{zero⁺, one}
use Rattle.numbers_spec.specs.Logarithm.{mantissa, exponent, log_of, log1p_of, log10_of}
use Rattle.numbers_spec.specs.Values.{Normal, NotNegative, Between}

-- ---- a normal v above zero is m × 2 ^ e, with m from 1 to below 2 and a whole e from -1022 to 1023
pub record Split (v : Float) : Type 0 where
  -- m is digits / 2 ^ 52
  pub digits : ℕ
  pub from_one : 2 ^ 52 ≤ digits
  pub below_two : digits < 2 ^ 53
  pub mantissa_is : HasValue (mantissa v) false digits (2 ^ 52)
  -- e is field - 1023
  pub field : ℕ
  pub from_least : 1 ≤ field
  pub to_most : field ≤ 2046
  pub exponent_is : exponent v ≡ of_int binary64 (minus field 1023)
  -- v is m × 2 ^ e, where 2 ^ e is up e / down e
  pub value : HasValue v false (digits * up (minus field 1023)) (2 ^ 52 * down (minus field 1023))

abbrev pub Splits : Type 0
Splits = (v : Float) → Normal v → Split v

-- ---- L
-- 711 and -711, which L does not pass, and 91, which it does not pass for an f32
abbrev pub log_most : Float
log_most = fin false 711 (pos 0)

abbrev pub log_most⁻ : Float
log_most⁻ = fin true 711 (pos 0)

abbrev pub log_most₃₂ : Float
log_most₃₂ = fin false 91 (pos 0)

-- 2 ^ 128, which no finite f32 reaches
abbrev pub beyond₃₂ : Float
beyond₃₂ = fin false 1 (pos 128)

-- L of a normal v above zero is finite: from -711 to 711.
pub record LogBounded (v : Float) : Type 0 where
  pub finite_is : T (finite (log_of v))
  pub between : Between log_most⁻ log_most (log_of v)

abbrev pub LogFinite : Type 0
LogFinite = (v : Float) → Normal v → LogBounded v

-- From v = 1 on, L is not negative.
abbrev pub LogNotNegative : Type 0
LogNotNegative = (v : Float) → Normal v → T (le one v) → NotNegative (log_of v)

-- Up to v = 2 ^ 128, L is at most 91.
abbrev pub LogMost : Type 0
LogMost = (v : Float) → Normal v → T (le v beyond₃₂) → T (le (log_of v) log_most₃₂)

-- ---- `ln_1p`, for every f32 w that is finite and not negative
-- 2 ^ 9
abbrev pub log1p_beyond : Float
log1p_beyond = fin false 1 (pos 9)

pub record Log1pBounded (w : Float) : Type 0 where
  pub held : T (fits binary32 (log1p_of w))
  pub finite_is : T (finite (log1p_of w))
  pub not_negative : NotNegative (log1p_of w)
  pub most : T (le (log1p_of w) log_most₃₂)
  pub below : T (lt (log1p_of w) log1p_beyond)

abbrev pub Log1pFinite : Type 0
Log1pFinite = (w : Float) → T (fits binary32 w) → T (finite w) → NotNegative w → Log1pBounded w

-- Both zeros are kept.
pub record Log1pZeros : Type 0 where
  pub plus_zero : log1p_of zero⁺ ≡ zero⁺
  pub minus_zero : log1p_of (fin true 0 (pos 0)) ≡ fin true 0 (pos 0)

-- ---- `log10`: finite, from -309 to 309
abbrev pub log10_most : Float
log10_most = fin false 309 (pos 0)

abbrev pub log10_most⁻ : Float
log10_most⁻ = fin true 309 (pos 0)

pub record Log10Bounded (v : Float) : Type 0 where
  pub finite_is : T (finite (log10_of v))
  pub between : Between log10_most⁻ log10_most (log10_of v)

abbrev pub Log10Finite : Type 0
Log10Finite = (v : Float) → Normal v → Log10Bounded v

-- Plus infinity is kept.
abbrev pub Log10Infinite : Type 0
Log10Infinite = log10_of (inf false) ≡ inf false
