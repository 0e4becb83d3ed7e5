-- E's series: it stays from 1/4 to 7/4 while |r| ≤ 3/8, and from 0 to 1 while r is not above zero. Assumes nothing.
use mathlib.Core.Path.{◌≡◌, refl, subst}
use Prim.Native.Nat.{ℕ, zero, suc, ◌≤◌}
use native.Mathlib.Omega.{arith}
use mathlib.Core.Bool.{false, true}
use lib.IntN.{pos, negsuc}
use lib.Dec.{T, lit≤, lit<}
use lib.Count.{count_trailing_zeros}
use lib.Ieee.{Float, fin, binary64, odd, round, size, units, span, climb, neg, sum, add, mul, div, lt, eq, le, of_int}
use lib.Ieee.Order.{round_mono}
use lib.Ieee.Positive.{positive, between}
use Rattle.numbers_spec.specs.Arithmetic.{◌⊕◌, ◌⊗◌, ◌⊘◌, zero⁺, one, magnitude}
use Rattle.numbers_spec.specs.Exponential.{exp_series}
use Rattle.numbers_spec.specs.Values.{AtMost, Between}
use Rattle.numbers_spec.specs.ExpLaws.{rest_most, sum_least, sum_most, ExpSeriesBounded}
use Rattle.numbers_spec.proofs.Order.{le_self, le_transitive, wider, between_finite, at_most_between, between_at_most, at_most_finite}
use Rattle.numbers_spec.proofs.Rounding.{magnitude_round}
use Rattle.numbers_spec.proofs.Sums.{add_between}
use Rattle.numbers_spec.proofs.Products.{mul_at_most, div_at_most, mul_mono_by, div_not_positive}

-- ---- |r| ≤ 3/8
-- 21/32, which is 3/8 × 7/4, and its quotient by 1
abbrev term_most : Float
term_most = fin false 21 (negsuc 4)

abbrev term_most⁻ : Float
term_most⁻ = fin true 21 (negsuc 4)

times_most : rest_most ⊗ sum_most ≡ term_most
unfolding mul round units size span climb odd count_trailing_zeros
times_most = refl

over_one : term_most ⊘ one ≡ term_most
unfolding div round units size span climb odd count_trailing_zeros
over_one = refl

-- 1 ± 21/32
least : T (le sum_least (one ⊕ term_most⁻))
unfolding le lt eq add sum round units size span climb odd count_trailing_zeros
least = tt

most : T (le (one ⊕ term_most) sum_most)
unfolding le lt eq add sum round units size span climb odd count_trailing_zeros
most = tt

one_is : round binary64 false 1 1 ≡ one
unfolding round units size span climb odd count_trailing_zeros
one_is = refl

number_least : (n : ℕ) → T (le one (magnitude (of_int binary64 (pos (suc n)))))
unfolding of_int
number_least n = rw (magnitude_round binary64 false (suc n) 1, ← one_is) (round_mono binary64 1 1 (suc n) 1 (lit< tt) (lit< tt) (omega arith))

sum_at_most : (p : Float) → Between sum_least sum_most p → AtMost sum_most p
unfolding neg
sum_at_most p b = between_at_most sum_most p (wider sum_least sum_most (neg sum_most) sum_most p (unfold le lt eq in tt) (le_self sum_most tt) b)

-- |r × p / n| ≤ 21/32
term_at_most : (n : ℕ) (r p : Float) → AtMost rest_most r → Between sum_least sum_most p → AtMost term_most (r ⊗ p ⊘ of_int binary64 (pos (suc n)))
term_at_most n r p R b =
    let m : AtMost term_most (r ⊗ p) = rw (← times_most) (mul_at_most binary64 r p rest_most sum_most tt tt R (sum_at_most p b)) in
    rw (← over_one) (div_at_most binary64 (r ⊗ p) (of_int binary64 (pos (suc n))) term_most one tt tt m (number_least n))

from_one : (q : Float) → AtMost term_most q → Between sum_least sum_most (one ⊕ q)
unfolding neg
from_one q h =
    wider (one ⊕ term_most⁻) (one ⊕ term_most) sum_least sum_most (one ⊕ q) least most
    (add_between binary64 one one term_most⁻ term_most one q tt tt tt tt (record { from = le_self one tt; to = le_self one tt }) (at_most_between term_most q h))

pub series_bounded : (n : ℕ) (r p : Float) → n ≤ 13 → AtMost rest_most r → Between sum_least sum_most p → Between sum_least sum_most (exp_series n r p)
unfolding exp_series
series_bounded zero r p h R b = b
series_bounded (suc n) r p h R b = series_bounded n r (one ⊕ r ⊗ p ⊘ of_int binary64 (pos (suc n))) (omega arith) R (from_one (r ⊗ p ⊘ of_int binary64 (pos (suc n))) (term_at_most n r p R b))

pub one_bounded : Between sum_least sum_most one
one_bounded = record { from = unfold le lt eq in tt; to = unfold le lt eq in tt }

pub exp_series_bounded : ExpSeriesBounded
unfolding neg
exp_series_bounded r b = series_bounded 13 r one (lit≤ tt) (between_at_most rest_most r b) one_bounded

-- ---- r from -1 to 0: each sum 1 + (r × p) / n is from 0 to 1
abbrev one⁻ : Float
one⁻ = fin true 1 (pos 0)

one_times_one : one ⊗ one ≡ one
unfolding mul round units size span climb odd count_trailing_zeros
one_times_one = refl

one_over_one : one ⊘ one ≡ one
unfolding div round units size span climb odd count_trailing_zeros
one_over_one = refl

zero_times_one : zero⁺ ⊗ one ≡ zero⁺
unfolding mul round units size span climb odd count_trailing_zeros
zero_times_one = refl

one_plus : T (le (one ⊕ zero⁺) one)
unfolding le lt eq add sum round units size span climb odd count_trailing_zeros
one_plus = tt

one_less : T (le zero⁺ (one ⊕ one⁻))
unfolding le lt eq add sum round units size span climb odd count_trailing_zeros
one_less = tt

-- 13
abbrev thirteen : Float
thirteen = fin false 13 (pos 0)

thirteen_is : round binary64 false 13 1 ≡ thirteen
unfolding round units size span climb odd count_trailing_zeros
thirteen_is = refl

number_positive : (n : ℕ) → suc n ≤ 13 → T (positive (of_int binary64 (pos (suc n))))
unfolding of_int
number_positive n h =
    between one (round binary64 false (suc n) 1) thirteen tt tt
    (rw (← one_is) (round_mono binary64 1 1 (suc n) 1 (lit< tt) (lit< tt) (omega arith)))
    (rw (← thirteen_is) (round_mono binary64 (suc n) 1 13 1 (lit< tt) (lit< tt) (omega arith)))

part_at_most : (p : Float) → Between zero⁺ one p → AtMost one p
unfolding neg
part_at_most p b = between_at_most one p (wider zero⁺ one (neg one) one p (unfold le lt eq in tt) (le_self one tt) b)

module _ (r : Float) (R : AtMost one r) (F : T (le r zero⁺)) where
  -- r × p and r × p / n are from -1 to 0
  product_size : (p : Float) → Between zero⁺ one p → AtMost one (r ⊗ p)
  product_size p b = rw (← one_times_one) (mul_at_most binary64 r p one one tt tt R (part_at_most p b))

  product_falls : (p : Float) → Between zero⁺ one p → T (le (r ⊗ p) zero⁺)
  product_falls p b =
      let z : AtMost zero⁺ (zero⁺ ⊗ p) = subst (λ (b : Float). AtMost b (zero⁺ ⊗ p)) zero_times_one (mul_at_most binary64 zero⁺ p zero⁺ one tt tt (unfold magnitude in le_self zero⁺ tt) (part_at_most p b)) in
      le_transitive (r ⊗ p) (zero⁺ ⊗ p) zero⁺ (mul_mono_by binary64 r zero⁺ p (at_most_finite one r tt R) tt (between_finite zero⁺ one p tt tt b) b.from F) (at_most_between zero⁺ (zero⁺ ⊗ p) z).to

  term_size : (n : ℕ) (p : Float) → Between zero⁺ one p → AtMost one (r ⊗ p ⊘ of_int binary64 (pos (suc n)))
  term_size n p b = rw (← one_over_one) (div_at_most binary64 (r ⊗ p) (of_int binary64 (pos (suc n))) one one tt tt (product_size p b) (number_least n))

  term_falls : (n : ℕ) (p : Float) → suc n ≤ 13 → Between zero⁺ one p → T (le (r ⊗ p ⊘ of_int binary64 (pos (suc n))) zero⁺)
  term_falls n p h b = div_not_positive binary64 (r ⊗ p) (of_int binary64 (pos (suc n))) (at_most_finite one (r ⊗ p) tt (product_size p b)) (number_positive n h) (product_falls p b)

  one_and : (q : Float) → AtMost one q → T (le q zero⁺) → Between zero⁺ one (one ⊕ q)
  unfolding neg
  one_and q h k =
      wider (one ⊕ one⁻) (one ⊕ zero⁺) zero⁺ one (one ⊕ q) one_less one_plus
      (add_between binary64 one one one⁻ zero⁺ one q tt tt tt tt (record { from = le_self one tt; to = le_self one tt }) (record { from = (at_most_between one q h).from; to = k }))

  pub series_falls : (n : ℕ) (p : Float) → n ≤ 13 → Between zero⁺ one p → Between zero⁺ one (exp_series n r p)
  unfolding exp_series
  series_falls zero p h b = b
  series_falls (suc n) p h b = series_falls n (one ⊕ r ⊗ p ⊘ of_int binary64 (pos (suc n))) (omega arith) (one_and (r ⊗ p ⊘ of_int binary64 (pos (suc n))) (term_size n p b) (term_falls n p h b))
