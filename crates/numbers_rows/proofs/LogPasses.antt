-- What the passes over a row of logarithms share: that numbers below plus infinity go through them, and that what the passes give is `ln_1p`. Assumes nothing.
use mathlib.Core.Path.{◌≡◌, refl, sym, ap, ◌∙◌}
use mathlib.Core.Bool.{Bool, true, false, cond, not, ◌&&◌}
use Prim.Native.Nat.{ℕ, zero, suc, ◌+◌, ◌-◌, ◌*◌}
use native.Mathlib.Nat.{zero-lt-suc, sub-zero, zero-add, add-zero, zero-mul, mul-one, one-mul}
use borrow.Author.Tests.{lt-ltb}
use lib.Dec.{T, ltb}
use lib.IntN.{pos}
use lib.Ieee.{Float, nan, inf, fin, binary32, binary64, up, down, sum, round, add, mul, neg, lt, le, of_bits, of_int, fits, is_nan}
use lib.Ieee.Fits.{mul-fits}
use Rattle.numbers_spec.specs.Arithmetic.{◌⊕◌, ◌⊖◌, ◌⊗◌, ◌⊘◌, zero⁺, one, two}
use Rattle.numbers_spec.specs.Exponential.{hi, lo}
use Rattle.numbers_spec.specs.Logarithm.{sqrt2, series_most, mantissa, exponent, log_series, log_twice, log_of, log1p_wide, log1p_of}
use Rattle.numbers_spec.specs.Narrow.{nearest_f32}
use Rattle.numbers_spec.proofs.Chosen.{chosen}
use Rattle.numbers_spec.specs.Values.{Normal}
use Rattle.numbers_spec.proofs.Order.{lt→le, not-le→lt, le_transitive}
use Rattle.numbers_spec.proofs.Placed.{round_own}
use Rattle.numbers_spec.proofs.LogLaws.{log_is}
use Rattle.numbers_spec.proofs.Log1p.{one_more_normal}
use Rattle.numbers_rows.specs.Logs.{Below, near_one, power, ratio, terms, joined}

-- ---- what is below plus infinity is no NaN
pub below_number : (w : Float) → Below w → T (not (is_nan w))
unfolding lt is_nan
below_number nan b = absurd b
below_number (inf s) b = tt
below_number (fin s m e) b = tt

-- ---- -0 changes no sum
minus_zero_sum : (a c : ℕ) → cond (ltb 0 a) (round binary64 false (a - 0) c) (round binary64 (true && ltb a 0) (0 - a) c) ≡ round binary64 false a c
minus_zero_sum zero c = refl
minus_zero_sum (suc a) c = rw (lt-ltb 0 (suc a) (zero-lt-suc a), sub-zero (suc a)) refl

minus_zero_add : (t : Float) → T (fits binary64 t) → neg zero⁺ ⊕ t ≡ t
unfolding add neg sum
minus_zero_add nan F = refl
minus_zero_add (inf s) F = refl
minus_zero_add (fin true m e) F = rw (zero-mul (down e), mul-one (m * up e), one-mul (down e), zero-add (m * up e)) (round_own binary64 true m e F)
minus_zero_add (fin false m e) F = rw (zero-mul (down e), mul-one (m * up e), one-mul (down e)) (minus_zero_sum (m * up e) (down e) ∙ round_own binary64 false m e F)

minus_zero_hi : neg zero⁺ ⊗ hi ≡ neg zero⁺
unfolding neg mul of_bits round
minus_zero_hi = refl

minus_zero_lo : neg zero⁺ ⊗ lo ≡ neg zero⁺
unfolding neg mul of_bits round
minus_zero_lo = refl

-- ---- the twelve terms, by fours
pub terms_are : (z : Float) → terms 4 0 z (terms 4 4 z (terms 4 8 z zero⁺)) ≡ log_series 12 z zero⁺
unfolding terms log_series
terms_are z = refl

abbrev part : ℕ → Float
part i = one ⊘ of_int binary64 (pos (2 * i + 1))

pub four_are : (i : ℕ) (z q : Float) {a b c d r : Float} → a ≡ part (i + 3) → b ≡ part (i + 2) → c ≡ part (i + 1) → d ≡ part i → r ≡ (((q ⊗ z ⊕ a) ⊗ z ⊕ b) ⊗ z ⊕ c) ⊗ z ⊕ d
    → r ≡ terms 4 i z q
unfolding terms
four_are i z q a b c d r = r ∙ rw (add-zero i) (λ j. (((q ⊗ z ⊕ a j) ⊗ z ⊕ b j) ⊗ z ⊕ c j) ⊗ z ⊕ d j)

-- ---- what the passes give of one w
abbrev pub ratio_of : Float → Float
ratio_of w = ratio w (near_one w)

abbrev pub series_of : Float → Float
series_of s = log_series 12 (s ⊗ s) zero⁺

small_is : (t : Float) → T (fits binary64 t) → neg zero⁺ ⊗ hi ⊕ (neg zero⁺ ⊗ lo ⊕ t) ≡ t
small_is t F = rw (minus_zero_hi, minus_zero_lo, minus_zero_add t F) (minus_zero_add t F)

-- above 0.375, 1 + w is normal
large_normal : (w : Float) → T (fits binary32 w) → Below w → T (not (le w series_most)) → Normal (one ⊕ w)
large_normal nan F b h = absurd (unfold lt in b)
large_normal (inf true) F b h = absurd (unfold le of_bits in h)
large_normal (inf false) F b h = absurd (unfold lt in b)
large_normal (fin s m e) F b h =
    let w = fin s m e in
    one_more_normal w F tt (le_transitive zero⁺ series_most w (unfold le of_bits in tt) (lt→le series_most w (not-le→lt series_most w (unfold is_nan of_bits in tt) (below_number w b) h)))

pub wide_is : (w : Float) → T (fits binary32 w) → Below w → joined (power w) (ratio_of w) (series_of (ratio_of w)) ≡ log1p_wide w
unfolding joined power ratio near_one
wide_is w F b = go (le w series_most) (large_normal w F b)
  where
    v : Float
    v = one ⊕ w

    m : Float
    m = near_one w

    e : Float
    e = cond (lt sqrt2 (mantissa v)) (exponent v ⊕ one) (exponent v)

    r : Bool → Float
    r small = cond small w (m ⊖ one) ⊘ cond small (two ⊕ w) (m ⊕ one)

    go : (small : Bool) → (T (not small) → Normal v)
        → cond small (neg zero⁺) e ⊗ hi ⊕ (cond small (neg zero⁺) e ⊗ lo ⊕ two ⊗ (r small ⊗ series_of (r small))) ≡ cond small (log_twice (w ⊘ (two ⊕ w))) (log_of v)
    go true n = small_is (log_twice (w ⊘ (two ⊕ w))) (mul-fits binary64 two _)
    go false n = chosen (lt sqrt2 (mantissa v)) (mantissa v) (exponent v) ∙ sym (log_is v (n tt))

-- ---- what the passes give at one place
pub logged_at : (w : Float) → T (fits binary32 w) → Below w → {e m s q x r : Float} → e ≡ power w → m ≡ near_one w → s ≡ ratio w m → q ≡ series_of s → x ≡ joined e s q → r ≡ nearest_f32 x → r ≡ log1p_of w
unfolding log1p_of
logged_at w F b {e} {m} {s} {q} {x} {r} pe pm ps pq px pr =
    let ratio_is : s ≡ ratio_of w = ps ∙ ap (ratio w) pm in
    pr ∙ ap nearest_f32 (px ∙ (λ i. joined (pe i) (ratio_is i) ((pq ∙ ap series_of ratio_is) i)) ∙ wide_is w F b)
