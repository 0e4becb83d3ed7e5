-- The logarithms of a row. Definitions only.
use Rattle.std.specs.Prelude.{ℕ, zero, suc, ◌+◌, ◌*◌, ◌<◌, cond, false, List, ◌≡◌, T, pos, get_or, length, Float}
use Rattle.std.specs.Float.{nan, inf, binary64}
use Rattle.std.specs.Float.Ieee.{neg, lt, le, of_int}
use Rattle.numbers_spec.specs.Arithmetic.{◌⊕◌, ◌⊖◌, ◌⊗◌, ◌⊘◌, zero⁺, one, two}
use Rattle.numbers_spec.specs.Exponential.{hi, lo}
use Rattle.numbers_spec.specs.Logarithm.{half, sqrt2, series_most, mantissa, exponent}

-- w is below plus infinity, so no NaN.
abbrev pub Below : Float → Type 0
Below w = T (lt w (inf false))

-- Each number of a row is.
abbrev pub AllBelow : List Float → Type 0
AllBelow l = (k : ℕ) → k < length l → Below (get_or l k nan)

-- A working row holds f of each number of w.
abbrev pub Holds : (Float → Float) → List Float → List Float → Type 0
Holds f w row = (k : ℕ) → k < length w → get_or row k nan ≡ f (get_or w k nan)

-- m of 1 + w = m × 2^e, halved above √2.
unfoldable pub near_one : Float → Float
near_one w = cond (lt sqrt2 (mantissa (one ⊕ w))) (mantissa (one ⊕ w) ⊗ half) (mantissa (one ⊕ w))

-- The e beside it. Up to 0.375, where L is not asked, -0.0: a term that changes no sum.
unfoldable pub power : Float → Float
power w = cond (le w series_most) (neg zero⁺) (cond (lt sqrt2 (mantissa (one ⊕ w))) (exponent (one ⊕ w) ⊕ one) (exponent (one ⊕ w)))

-- s = w / (2 + w) up to 0.375, s = (m - 1) / (m + 1) above.
unfoldable pub ratio : Float → Float → Float
ratio w m = cond (le w series_most) w (m ⊖ one) ⊘ cond (le w series_most) (two ⊕ w) (m ⊕ one)

-- n of the series' terms: q = q × z + 1 / (2k + 1), for k = i + n - 1 down to i.
unfoldable pub terms : ℕ → ℕ → Float → Float → Float
terms zero i z q = q
terms (suc n) i z q = terms n i z (q ⊗ z ⊕ one ⊘ of_int binary64 (pos (2 * (i + n) + 1)))

-- e × hi + (e × lo + 2 × (s × q))
unfoldable pub joined : Float → Float → Float → Float
joined e s q = e ⊗ hi ⊕ (e ⊗ lo ⊕ two ⊗ (s ⊗ q))
