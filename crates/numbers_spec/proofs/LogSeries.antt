-- The series of L and `ln_1p`: from |s| ≤ 1/4 on, q stays from 0 to 5/4, and 2 × (s × q) within 5/8 of zero, on s's side. Assumes nothing.
use mathlib.Core.Path.{◌≡◌, refl}
use Prim.Native.Nat.{ℕ, zero, suc, ◌+◌, ◌*◌, ◌≤◌}
use native.Mathlib.Omega.{arith}
use mathlib.Core.Bool.{false}
use lib.IntN.{pos, negsuc}
use lib.Dec.{T}
use lib.Ieee.{Float, fin, binary64, add, mul, div, le, of_int, neg}
use lib.Ieee.Scale.{finite}
use Rattle.numbers_spec.specs.Arithmetic.{◌⊕◌, ◌⊗◌, ◌⊘◌, zero⁺, one, two, magnitude}
use Rattle.numbers_spec.specs.Logarithm.{log_series, log_twice}
use Rattle.numbers_spec.proofs.Value.{finite_no_nan}
use Rattle.numbers_spec.specs.Values.{AtMost, NotNegative, Between}
use Rattle.numbers_spec.proofs.Order.{le_transitive, wider, between_finite, between_at_most, at_most_high, at_most_finite, magnitude_above, positive_above}
use Rattle.numbers_spec.proofs.Sums.{add_between}
use Rattle.numbers_spec.proofs.Products.{mul_at_most, div_at_most, div_not_negative, mul_not_negative, square_not_negative, mul_between}
use Rattle.numbers_spec.proofs.Mantissa.{whole_finite, whole_mono}

-- ---- the bounds
abbrev pub quarter : Float
quarter = fin false 1 (negsuc 1)

abbrev sixteenth : Float
sixteenth = fin false 1 (negsuc 3)

abbrev most : Float
most = fin false 5 (negsuc 1)

abbrev pub five_eighths : Float
five_eighths = fin false 5 (negsuc 2)

-- 1 / n, for an odd n
from_one : (k : ℕ) → 1 ≤ k → T (le one (of_int binary64 (pos k)))
unfolding of_int
from_one k h = whole_mono 1 k h

one_over_one : one ⊘ one ≡ one
unfolding div
one_over_one = refl

inverse_between : (k : ℕ) → 1 ≤ k → k ≤ 9007199254740992 → Between zero⁺ one (one ⊘ of_int binary64 (pos k))
inverse_between k h b =
    let n = of_int binary64 (pos k) in
    let N = whole_finite k b in
    let g = from_one k h in
    let a : AtMost one (one ⊘ n) = rw one_over_one at (div_at_most binary64 one n one one tt tt (unfold magnitude le in tt) (le_transitive one n (magnitude n) g (magnitude_above n (finite_no_nan n N)))) in
    record {
      from = div_not_negative binary64 one n tt (positive_above one n tt N g) (unfold le in tt);
      to = at_most_high one (one ⊘ n) a;
    }

-- one step
step_low : T (le zero⁺ (zero⁺ ⊗ zero⁺ ⊕ zero⁺))
unfolding mul add le
step_low = tt

step_high : T (le (most ⊗ sixteenth ⊕ one) most)
unfolding mul add le
step_high = tt

zero_is_low : NotNegative zero⁺
unfolding le
zero_is_low = tt

step_between : (z q t : Float) → Between zero⁺ sixteenth z → Between zero⁺ most q → Between zero⁺ one t → Between zero⁺ most (q ⊗ z ⊕ t)
step_between z q t Z Q t-in =
    wider (zero⁺ ⊗ zero⁺ ⊕ zero⁺) (most ⊗ sixteenth ⊕ one) zero⁺ most (q ⊗ z ⊕ t) step_low step_high
    (add_between binary64 (zero⁺ ⊗ zero⁺) (most ⊗ sixteenth) zero⁺ one (q ⊗ z) t (unfold mul in tt) (unfold mul in tt) tt tt (mul_between binary64 zero⁺ most zero⁺ sixteenth q z tt tt tt tt zero_is_low zero_is_low Q Z) t-in)

series_between : (i : ℕ) → i ≤ 12 → (z q : Float) → Between zero⁺ sixteenth z → Between zero⁺ most q → Between zero⁺ most (log_series i z q)
unfolding log_series
series_between zero h z q Z Q = Q
series_between (suc i) h z q Z Q = series_between i (omega arith) z (q ⊗ z ⊕ one ⊘ of_int binary64 (pos (2 * i + 1))) Z (step_between z q (one ⊘ of_int binary64 (pos (2 * i + 1))) Z Q (inverse_between (2 * i + 1) (omega arith) (omega arith)))

-- ---- 2 × (s × q)
square_high : quarter ⊗ quarter ≡ sixteenth
unfolding mul
square_high = refl

product_high : quarter ⊗ most ≡ fin false 5 (negsuc 3)
unfolding mul
product_high = refl

twice_high : two ⊗ fin false 5 (negsuc 3) ≡ five_eighths
unfolding mul
twice_high = refl

module _ (s : Float) (S : T (finite s)) (small : AtMost quarter s) where
  square_between : Between zero⁺ sixteenth (s ⊗ s)
  square_between =
      let a : AtMost sixteenth (s ⊗ s) = rw square_high at (mul_at_most binary64 s s quarter quarter tt tt small small) in
      record { from = square_not_negative binary64 s S; to = at_most_high sixteenth (s ⊗ s) a }

  sum_between : Between zero⁺ most (log_series 12 (s ⊗ s) zero⁺)
  sum_between = series_between 12 (omega arith) (s ⊗ s) zero⁺ square_between (record { from = zero_is_low; to = unfold le in tt })

  sum_finite : T (finite (log_series 12 (s ⊗ s) zero⁺))
  sum_finite = between_finite zero⁺ most (log_series 12 (s ⊗ s) zero⁺) tt tt sum_between

  sum_at_most : AtMost most (log_series 12 (s ⊗ s) zero⁺)
  sum_at_most = between_at_most most (log_series 12 (s ⊗ s) zero⁺) (wider zero⁺ most (neg most) most (log_series 12 (s ⊗ s) zero⁺) (unfold neg le in tt) (unfold le in tt) sum_between)

  product_at_most : AtMost (fin false 5 (negsuc 3)) (s ⊗ log_series 12 (s ⊗ s) zero⁺)
  product_at_most = rw product_high at (mul_at_most binary64 s (log_series 12 (s ⊗ s) zero⁺) quarter most tt tt small sum_at_most)

  product_finite : T (finite (s ⊗ log_series 12 (s ⊗ s) zero⁺))
  product_finite = at_most_finite (fin false 5 (negsuc 3)) (s ⊗ log_series 12 (s ⊗ s) zero⁺) tt product_at_most

  pub twice_at_most : AtMost five_eighths (log_twice s)
  twice_at_most = rw twice_high at (mul_at_most binary64 two (s ⊗ log_series 12 (s ⊗ s) zero⁺) two (fin false 5 (negsuc 3)) tt tt (unfold magnitude le in tt) product_at_most)

  pub twice_finite : T (finite (log_twice s))
  twice_finite = at_most_finite five_eighths (log_twice s) tt twice_at_most

  pub twice_not_negative : NotNegative s → NotNegative (log_twice s)
  twice_not_negative h = mul_not_negative binary64 two (s ⊗ log_series 12 (s ⊗ s) zero⁺) tt product_finite (unfold le in tt) (mul_not_negative binary64 s (log_series 12 (s ⊗ s) zero⁺) S sum_finite h sum_between.from)
