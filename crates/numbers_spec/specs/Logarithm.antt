-- L, for the natural logarithm, `ln_1p` and `log10` (document 01, Numbers: replaced functions). Definitions only.
use Rattle.std.specs.Prelude.{ℕ, zero, suc, ◌+◌, ◌*◌, ◌/◌, ◌%◌, ◌^◌, cond, false, pos, Float}
use Rattle.std.specs.Float.{nan, inf, binary64}
use Rattle.std.specs.Float.Ieee.{lt, le, of_bits, to_bits, of_int}
use Rattle.numbers_spec.specs.Arithmetic.{◌⊕◌, ◌⊖◌, ◌⊗◌, ◌⊘◌, zero⁺, one, two}
use Rattle.numbers_spec.specs.Narrow.{nearest_f32}
use Rattle.numbers_spec.specs.Exponential.{hi, lo, ln10, bias}

-- ---- constants
-- 2 ^ -1022, the smallest normal f64: the one nearest to 2.2250738585072014e-308
abbrev pub smallest_normal : Float
smallest_normal = of_bits binary64 0x0010000000000000

-- 1.4142135623730951, near √2: above it m is halved
abbrev pub sqrt2 : Float
sqrt2 = of_bits binary64 0x3ff6a09e667f3bcd

-- 0.5
abbrev pub half : Float
half = of_bits binary64 0x3fe0000000000000

-- 0.375, up to which ln_1p uses the series at once
abbrev pub series_most : Float
series_most = of_bits binary64 0x3fd8000000000000

-- ---- L
-- q = q × z + 1/n, for n = 2 × i − 1 with i down to 1
unfoldable pub log_series : ℕ → Float → Float → Float
log_series zero z q = q
log_series (suc i) z q = log_series i z (q ⊗ z ⊕ one ⊘ of_int binary64 (pos (2 * i + 1)))

-- 2 × (s × q), with z = s × s, from q = 0, for n = 23, 21, .. 1
abbrev pub log_twice : Float → Float
log_twice s = two ⊗ (s ⊗ log_series 12 (s ⊗ s) zero⁺)

-- s = (m − 1) / (m + 1); e × hi + (e × lo + 2 × (s × q))
abbrev pub log_at : Float → Float → Float
log_at m e = e ⊗ hi ⊕ (e ⊗ lo ⊕ log_twice ((m ⊖ one) ⊘ (m ⊕ one)))

-- A positive normal v is m × 2^e with 1 ≤ m < 2: m has v's digits, the low 52 bits, under 1023, the exponent's field of 1; e is v's field less 1023. That v = m × 2^e is a theorem: `Split` of LogLaws. A NaN, which L does not take, gives 1.5 and 1024.
abbrev pub mantissa : Float → Float
mantissa v = of_bits binary64 (to_bits binary64 v % 2 ^ 52 + 1023 * 2 ^ 52)

abbrev pub exponent : Float → Float
exponent v = of_int binary64 (pos (to_bits binary64 v / 2 ^ 52)) ⊖ bias

-- if m > 1.4142135623730951, halve m and add 1 to e
abbrev pub log_halved : Float → Float → Float
log_halved m e = cond (lt sqrt2 m) (log_at (m ⊗ half) (e ⊕ one)) (log_at m e)

-- L(v), for a positive normal v. L of plus infinity is itself; all else (zero, subnormal, negative, NaN) gives a NaN.
unfoldable pub log_of : Float → Float
log_of v = cond (le smallest_normal v) (cond (lt v (inf false)) (log_halved (mantissa v) (exponent v)) v) nan

-- ---- `ln_1p` and `log10`
-- ln_1p of an f32 w, before it is made an f32 again: up to 0.375, 2 × (s × q) with s = w / (2 + w); above, L(1 + w)
abbrev pub log1p_wide : Float → Float
log1p_wide w = cond (le w series_most) (log_twice (w ⊘ (two ⊕ w))) (log_of (one ⊕ w))

unfoldable pub log1p_of : Float → Float
log1p_of w = nearest_f32 (log1p_wide w)

unfoldable pub log10_of : Float → Float
log10_of v = log_of v ⊘ ln10
