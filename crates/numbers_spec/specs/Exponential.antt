-- E, for `exp`, and 10^y (document 01, Numbers: replaced functions). Definitions only.
use Rattle.std.specs.Prelude.{ℕ, zero, suc, ◌*◌, ◌^◌, cond, false, ◌&&◌, pos, Float}
use Rattle.std.specs.Float.{nan, inf, binary64}
use Rattle.std.specs.Float.Ieee.{lt, le, of_bits, of_int, to_unsigned}
use Rattle.numbers_spec.specs.Arithmetic.{◌⊕◌, ◌⊖◌, ◌⊗◌, ◌⊘◌, zero⁺, one}
use Rattle.numbers_spec.specs.Whole.{whole_nearest}

-- ---- constants
-- 690, beyond which E is 0 or plus infinity; and -690
abbrev pub limit : Float
limit = of_bits binary64 0x4085900000000000

abbrev pub limit⁻ : Float
limit⁻ = of_bits binary64 0xc085900000000000

-- 1.4426950408889634, near 1 / ln 2
abbrev pub log2e : Float
log2e = of_bits binary64 0x3ff71547652b82fe

-- 0.6931471803691238 and 1.9082149292705877e-10: hi + lo is near ln 2, and hi has so few digits that k × hi is exact.
abbrev pub hi : Float
hi = of_bits binary64 0x3fe62e42fee00000

abbrev pub lo : Float
lo = of_bits binary64 0x3dea39ef35793c76

-- 2.302585092994046, near ln 10
abbrev pub ln10 : Float
ln10 = of_bits binary64 0x40026bb1bbb55516

-- 1023, the exponent's field of 1; and 2046, the largest of a finite value
abbrev pub bias : Float
bias = of_bits binary64 0x408ff80000000000

abbrev pub field_most : Float
field_most = of_bits binary64 0x409ff80000000000

-- ---- E
-- p = 1 + (r × p) / n, for n down to 1
unfoldable pub exp_series : ℕ → Float → Float → Float
exp_series zero r p = p
exp_series (suc n) r p = exp_series n r (one ⊕ (r ⊗ p) ⊘ of_int binary64 (pos (suc n)))

-- 2 ^ k for a whole k from -1022 to 1023, by the exponent's field k + 1023; NaN for others. That it is exactly 2 ^ k is a theorem: `PowerOfTwo` of ExpLaws.
unfoldable pub two_to : Float → Float
two_to k = let field = k ⊕ bias in cond (le one field && le field field_most) (of_bits binary64 (to_unsigned 64 field * 2 ^ 52)) nan

-- k: x × 1.4426950408889634 rounded to whole
abbrev pub exp_whole : Float → Float
exp_whole x = whole_nearest (x ⊗ log2e)

-- r: (x − k×hi) − k×lo
abbrev pub exp_rest : Float → Float → Float
exp_rest x k = (x ⊖ k ⊗ hi) ⊖ k ⊗ lo

-- p × 2^k
abbrev pub exp_at : Float → Float → Float
exp_at x k = exp_series 13 (exp_rest x k) one ⊗ two_to k

-- E(x): 0 below −690, plus infinity above 690. E of a NaN is a NaN.
unfoldable pub exp_of : Float → Float
exp_of x = cond (lt x limit⁻) zero⁺ (cond (lt limit x) (inf false) (exp_at x (exp_whole x)))

-- 10^y
unfoldable pub ten_to : Float → Float
ten_to y = exp_of (y ⊗ ln10)
