-- E is no NaN and not negative: its series stays from 1/4 to 7/4, and its k is in `two_to`'s range. Up to x = 0 it is at most 1. The same of 10^y follows. Assumes nothing.
use mathlib.Core.Path.{◌≡◌, refl, sym, ap, ◌∙◌, subst}
use Prim.Native.Nat.{ℕ, zero, suc, ◌*◌, ◌≤◌}
use native.Mathlib.Nat.{le_refl, le_trans, lt_irrefl, mul-pos, zero-mul, mul-le-mul, mul-le-mul_right}
use native.Mathlib.Omega.{arith}
use mathlib.Core.Bool.{Bool, true, false, not, cond}
use lib.IntN.{ℤ, pos, negsuc}
use lib.Dec.{T, T_not, lt→ltb, ltb→lt, lit≤, lit<}
use lib.Count.{count_trailing_zeros}
use lib.Ieee.{Float, nan, inf, fin, binary64, up, down, odd, round, size, units, span, climb, neg, sum, add, sub, mul, lt, eq, le, of_fields, of_bits, is_nan}
use lib.Ieee.Fits.{up_pos}
use lib.Ieee.Bits.{is_true, is_false}
use lib.Ieee.Positive.{positive, positive-finite, cross→le, between, mul_mono}
use lib.Ieee.Scale.{finite}
use lib.Pow.{pow_pos, pow_mono}
use Rattle.numbers_spec.specs.Arithmetic.{◌⊕◌, ◌⊖◌, ◌⊗◌, zero⁺, one, magnitude}
use Rattle.numbers_spec.specs.Exponential.{limit, limit⁻, ln10, hi, lo, two_to, exp_series, exp_whole, exp_rest, exp_at, exp_of, ten_to}
use Rattle.numbers_spec.proofs.Value.{finite_no_nan}
use Rattle.numbers_spec.specs.Values.{Number, AtMost, Between, Monotone}
use Rattle.numbers_spec.specs.ExpLaws.{rest_most, sum_least, sum_most, Exponential, ExpLaws, ten_most, ten_most⁻, TenToLaws}
use Rattle.numbers_spec.proofs.Order.{P, le_self, lt→le, not-lt→le, le→not-lt, le_transitive, between_finite, at_most_finite}
use Rattle.numbers_spec.proofs.Rounding.{zeros}
use Rattle.numbers_spec.proofs.Sums.{sub_mono, sub_at_most}
use Rattle.numbers_spec.proofs.Products.{mul_number, mul_mono_by, mul_mono_by_positive}
use Rattle.numbers_spec.proofs.TwoTo.{signed, two_to_whole}
use Rattle.numbers_spec.proofs.ExpSeries.{series_bounded, one_bounded, series_falls}
use Rattle.numbers_spec.proofs.ExpReduced.{Reduced, limited, reduced}

-- ---- 2^k for a k within ±995
power_le : (d e : ℤ) → up d * down e ≤ up e * down d → T (le (fin false 1 d) (fin false 1 e))
power_le d e h = cross→le (fin false 1 d) (fin false 1 e) tt tt (omega arith)

power_most : (s : Bool) (n : ℕ) → n ≤ 995 → T (le (fin false 1 (signed s n)) (fin false 1 (pos 995)))
power_most false n h = power_le (pos n) (pos 995) (mul-le-mul_right 1 (pow_mono h))
power_most true zero h = power_le (pos 0) (pos 995) (lit≤ tt)
power_most true (suc n) h = power_le (negsuc n) (pos 995) (mul-pos (pow_pos 995) (pow_pos (suc n)))

power_least : (s : Bool) (n : ℕ) → n ≤ 995 → T (le (fin false 1 (negsuc 994)) (fin false 1 (signed s n)))
power_least false n h = power_le (negsuc 994) (pos n) (mul-pos (pow_pos n) (pow_pos 995))
power_least true zero h = power_le (negsuc 994) (pos 0) (lit≤ tt)
power_least true (suc n) h = power_le (negsuc 994) (negsuc n) (mul-le-mul (le_refl 1) (pow_mono h))

power_half : (n : ℕ) → T (le (fin false 1 (negsuc n)) (fin false 1 (negsuc 0)))
power_half n = power_le (negsuc n) (negsuc 0) (mul-le-mul (le_refl 1) (pow_mono {i = 1} {j = suc n} (omega arith)))

-- ---- E from -690 to 690
-- 1/4 × 2^-995 and 7/4 × 2^995
product_least : sum_least ⊗ fin false 1 (negsuc 994) ≡ fin false 1 (negsuc 996)
unfolding mul round units size span climb odd count_trailing_zeros
product_least = refl

product_most : sum_most ⊗ fin false 1 (pos 995) ≡ fin false 7 (pos 993)
unfolding mul round units size span climb odd count_trailing_zeros
product_most = refl

-- 1/2, and 7/4 × 1/2
abbrev half : Float
half = fin false 1 (negsuc 0)

half_room : T (le (sum_most ⊗ half) one)
unfolding le lt eq mul round units size span climb odd count_trailing_zeros
half_room = tt

module _ (p : Float) (b : Between sum_least sum_most p) (s : Bool) (n : ℕ) (h : n ≤ 995) where
  p_positive : T (positive p)
  p_positive = between sum_least p sum_most tt tt b.from b.to

  product_positive : T (positive (p ⊗ fin false 1 (signed s n)))
  product_positive =
      between (fin false 1 (negsuc 996)) (p ⊗ fin false 1 (signed s n)) (fin false 7 (pos 993)) tt tt
      (rw (← product_least) (mul_mono binary64 sum_least p (fin false 1 (negsuc 994)) (fin false 1 (signed s n)) tt p_positive tt tt b.from (power_least s n h)))
      (rw (← product_most) (mul_mono binary64 p sum_most (fin false 1 (signed s n)) (fin false 1 (pos 995)) p_positive tt tt tt b.to (power_most s n h)))

  -- times 2^-(k + 1)
  product_below : (k : ℕ) → T (le (p ⊗ fin false 1 (negsuc k)) one)
  product_below k =
      le_transitive (p ⊗ fin false 1 (negsuc k)) (sum_most ⊗ half) one
      (mul_mono binary64 p sum_most (fin false 1 (negsuc k)) half p_positive tt tt tt b.to (power_half k)) half_room

in_range : (s : Bool) (n : ℕ) → n ≤ 995 → n ≤ cond s 1022 1023
in_range true n h = le_trans h (lit≤ tt)
in_range false n h = le_trans h (lit≤ tt)

module _ (x : Float) (r : Reduced x) where
  power_is : two_to (exp_whole x) ≡ fin false 1 (signed r.minus r.whole)
  power_is = ap two_to r.is ∙ two_to_whole r.minus r.whole (in_range r.minus r.whole r.small)

  series : Between sum_least sum_most (exp_series 13 (exp_rest x (exp_whole x)) one)
  series = series_bounded 13 (exp_rest x (exp_whole x)) one (lit≤ tt) r.rest one_bounded

  inside_positive : T (positive (exp_at x (exp_whole x)))
  inside_positive = rw power_is (product_positive (exp_series 13 (exp_rest x (exp_whole x)) one) series r.minus r.whole r.small)

-- ---- and up to 0: where k is 0, r is x up to the sign of a zero, and the series from 0 to 1; else 2^k is at most 1/2
zero_hi : (s : Bool) → T (le (zero⁺ ⊖ fin s 0 (pos 0) ⊗ hi) zero⁺)
unfolding le lt eq mul neg sub add sum round units size span climb of_bits of_fields odd count_trailing_zeros
zero_hi true = tt
zero_hi false = tt

zero_lo : (s : Bool) → T (le (zero⁺ ⊖ fin s 0 (pos 0) ⊗ lo) zero⁺)
unfolding le lt eq mul neg sub add sum round units size span climb of_bits of_fields odd count_trailing_zeros
zero_lo true = tt
zero_lo false = tt

zero_hi_finite : (s : Bool) → T (finite (fin s 0 (pos 0) ⊗ hi))
unfolding mul round units size span climb of_bits of_fields odd count_trailing_zeros
zero_hi_finite true = tt
zero_hi_finite false = tt

zero_lo_finite : (s : Bool) → T (finite (fin s 0 (pos 0) ⊗ lo))
unfolding mul round units size span climb of_bits of_fields odd count_trailing_zeros
zero_lo_finite true = tt
zero_lo_finite false = tt

zero_hi_size : (s : Bool) → AtMost one (fin s 0 (pos 0) ⊗ hi)
unfolding magnitude le lt eq mul round units size span climb of_bits of_fields odd count_trailing_zeros
zero_hi_size true = tt
zero_hi_size false = tt

-- 690
abbrev x_most : Float
x_most = fin false 345 (pos 1)

most_finite : T (finite (x_most ⊕ one))
unfolding add sum round units size span climb odd count_trailing_zeros
most_finite = tt

one_part : Between zero⁺ one one
one_part = record { from = unfold le lt eq in tt; to = le_self one tt }

one_times_one : one ⊗ one ≡ one
unfolding mul round units size span climb odd count_trailing_zeros
one_times_one = refl

at_one : (s : Bool) → fin false 1 (signed s 0) ≡ one
at_one true = refl
at_one false = refl

module _ (x : Float) (X : T (finite x)) (L : AtMost x_most x) (F : T (le x zero⁺)) (r : Reduced x) where
  abbrev rest : Float
  rest = exp_rest x (exp_whole x)

  abbrev sum_of : Float
  sum_of = exp_series 13 rest one

  rest_falls : (s : Bool) → T (le (exp_rest x (fin s 0 (pos 0))) zero⁺)
  rest_falls s =
      let k = fin s 0 (pos 0) in
      let held : T (finite (x ⊖ k ⊗ hi)) = at_most_finite (x_most ⊕ one) (x ⊖ k ⊗ hi) most_finite (sub_at_most binary64 x (k ⊗ hi) x_most one tt tt L (zero_hi_size s)) in
      let first : T (le (x ⊖ k ⊗ hi) zero⁺) = le_transitive (x ⊖ k ⊗ hi) (zero⁺ ⊖ k ⊗ hi) zero⁺ (sub_mono binary64 x zero⁺ (k ⊗ hi) X tt (zero_hi_finite s) F) (zero_hi s) in
      le_transitive (exp_rest x k) (zero⁺ ⊖ k ⊗ lo) zero⁺ (sub_mono binary64 (x ⊖ k ⊗ hi) zero⁺ (k ⊗ lo) held tt (zero_lo_finite s) first) (zero_lo s)

  -- k = 0
  level : r.whole ≡ 0 → T (le (sum_of ⊗ two_to (exp_whole x)) one)
  level e =
      let k : exp_whole x ≡ fin r.minus 0 (pos 0) = r.is ∙ ap (λ (n : ℕ). round binary64 r.minus n 1) e ∙ zeros binary64 r.minus 1 (lit< tt) in
      let power : two_to (exp_whole x) ≡ one = power_is x r ∙ ap (λ (n : ℕ). fin false 1 (signed r.minus n)) e ∙ at_one r.minus in
      let falls : T (le rest zero⁺) = subst (λ (z : Float). T (le (exp_rest x z) zero⁺)) (sym k) (rest_falls r.minus) in
      let small : AtMost one rest = le_transitive (magnitude rest) rest_most one r.rest (unfold le lt eq in tt) in
      let p : Between zero⁺ one sum_of = series_falls rest small falls 13 one (lit≤ tt) one_part in
      subst (λ (z : Float). T (le (sum_of ⊗ z) one)) (sym power)
      (subst (λ (z : Float). T (le (sum_of ⊗ one) z)) one_times_one
      (mul_mono_by binary64 sum_of one one (between_finite zero⁺ one sum_of tt tt p) tt tt one_part.from p.to))

  -- k < 0
  below : (n : ℕ) → r.minus ≡ true → r.whole ≡ suc n → T (le (sum_of ⊗ two_to (exp_whole x)) one)
  below n m e =
      let power : two_to (exp_whole x) ≡ fin false 1 (negsuc n) = power_is x r ∙ ap (λ (s : Bool). fin false 1 (signed s r.whole)) m ∙ ap (λ (n : ℕ). fin false 1 (signed true n)) e in
      subst (λ (z : Float). T (le (sum_of ⊗ z) one)) (sym power) (product_below sum_of (series x r) r.minus r.whole r.small n)

  inside_at_most : T (le (exp_at x (exp_whole x)) one)
  inside_at_most = go r.minus r.whole refl refl (r.down_to F)
    where
      go : (s : Bool) (n : ℕ) → r.minus ≡ s → r.whole ≡ n → P r.minus r.whole ≡ 0 → T (le (exp_at x (exp_whole x)) one)
      go s zero m e k = level e
      go true (suc n) m e k = below n m e
      go false (suc n) m e k = let z : suc n ≡ 0 = sym (ap (λ (s : Bool). P s r.whole) m ∙ e) ∙ k in absurd (lt_irrefl 0 (omega arith))

-- ---- E
positive_lt : (x : Float) → T (positive x) → T (lt zero⁺ x)
unfolding lt
positive_lt nan h = h
positive_lt (inf s) h = absurd h
positive_lt (fin true m e) h = absurd h
positive_lt (fin false m e) h = rw (zero-mul (down e)) (lt→ltb 0 (m * up e * 1) (mul-pos (mul-pos (ltb→lt 0 m h) (up_pos e)) (lit< tt)))

limit_number : T (not (is_nan limit))
unfolding is_nan of_bits of_fields odd count_trailing_zeros
limit_number = tt

limit⁻-number : T (not (is_nan limit⁻))
unfolding is_nan of_bits of_fields odd count_trailing_zeros
limit⁻-number = tt

zero_limit : T (le zero⁺ limit)
unfolding le lt eq of_bits of_fields odd count_trailing_zeros
zero_limit = tt

module _ (x : Float) where
  low_is : T (lt x limit⁻) → exp_of x ≡ zero⁺
  unfolding exp_of
  low_is h = rw (is_true (lt x limit⁻) h) refl

  high_is : T (not (lt x limit⁻)) → T (lt limit x) → exp_of x ≡ inf false
  unfolding exp_of
  high_is l h = rw (is_false (lt x limit⁻) l, is_true (lt limit x) h) refl

  inside_is : T (not (lt x limit⁻)) → T (not (lt limit x)) → exp_of x ≡ exp_at x (exp_whole x)
  unfolding exp_of
  inside_is l h = rw (is_false (lt x limit⁻) l, is_false (lt limit x) h) refl

abbrev Laws : Float → Type 0
Laws = Exponential exp_of limit⁻ limit

low_zero : (x : Float) → T (lt x limit⁻) → Laws x
low_zero x h = record {
  number = rw (low_is x h) (unfold is_nan in tt);
  not_negative = rw (low_is x h) (le_self zero⁺ tt);
  above_zero = λ l. absurd (T_not (lt x limit⁻) (le→not-lt x limit⁻ l) h);
  is_finite = λ l. rw (low_is x h) tt;
  at_most_one = λ l. rw (low_is x h) (unfold le lt eq in tt);
}

high_infinite : (x : Float) → T (not (lt x limit⁻)) → T (lt limit x) → Laws x
high_infinite x l h = record {
  number = rw (high_is x l h) (unfold is_nan in tt);
  not_negative = rw (high_is x l h) (unfold le lt eq in tt);
  above_zero = λ k. rw (high_is x l h) (unfold lt in tt);
  is_finite = λ k. absurd (T_not (lt limit x) (le→not-lt limit x k) h);
  at_most_one = λ k. absurd (T_not (lt limit x) (le→not-lt limit x (le_transitive x zero⁺ limit k zero_limit)) h);
}

inside : (x : Float) → Number x → T (not (lt x limit⁻)) → T (not (lt limit x)) → Laws x
inside x N l h =
    let k = limited x (record { from = not-lt→le x limit⁻ N limit⁻-number l; to = not-lt→le limit x limit_number N h }) in
    let r = reduced x k.0 k.1 in
    let p : T (positive (exp_of x)) = rw (inside_is x l h) (inside_positive x r) in
    record {
      number = finite_no_nan (exp_of x) (positive-finite (exp_of x) p);
      not_negative = lt→le zero⁺ (exp_of x) (positive_lt (exp_of x) p);
      above_zero = λ j. positive_lt (exp_of x) p;
      is_finite = λ j. positive-finite (exp_of x) p;
      at_most_one = λ j. rw (inside_is x l h) (inside_at_most x k.0 k.1 j r);
    }

pub exp_laws : ExpLaws
exp_laws x N = go (lt x limit⁻) (lt limit x) (low_zero x) (high_infinite x) (inside x N)
  where
    go : (b c : Bool) → (T b → Laws x) → (T (not b) → T c → Laws x) → (T (not b) → T (not c) → Laws x) → Laws x
    go true c f g i = f tt
    go false true f g i = g tt tt
    go false false f g i = i tt tt

-- ---- 10^y
ln10_positive : T (positive ln10)
unfolding of_bits of_fields odd count_trailing_zeros
ln10_positive = tt

times_ln10 : Monotone (λ y. y ⊗ ln10)
times_ln10 x y h = mul_mono_by_positive binary64 x y ln10 ln10_positive h

ten_most_lem : T (le (ten_most ⊗ ln10) limit)
unfolding le lt eq mul round units size span climb of_bits of_fields odd count_trailing_zeros
ten_most_lem = tt

ten_least : T (le limit⁻ (ten_most⁻ ⊗ ln10))
unfolding le lt eq mul round units size span climb of_bits of_fields odd count_trailing_zeros
ten_least = tt

ten_zero : T (le (zero⁺ ⊗ ln10) zero⁺)
unfolding le lt eq mul round units size span climb of_bits of_fields odd count_trailing_zeros
ten_zero = tt

pub ten_to_laws : TenToLaws
unfolding ten_to
ten_to_laws y h =
    let l = exp_laws (y ⊗ ln10) (mul_number binary64 y ln10 ln10_positive h) in
    record {
      number = l.number;
      not_negative = l.not_negative;
      above_zero = λ k. l.above_zero (le_transitive limit⁻ (ten_most⁻ ⊗ ln10) (y ⊗ ln10) ten_least (times_ln10 ten_most⁻ y k));
      is_finite = λ k. l.is_finite (le_transitive (y ⊗ ln10) (ten_most ⊗ ln10) limit (times_ln10 y ten_most k) ten_most_lem);
      at_most_one = λ k. l.at_most_one (le_transitive (y ⊗ ln10) (zero⁺ ⊗ ln10) zero⁺ (times_ln10 y zero⁺ k) ten_zero);
    }
