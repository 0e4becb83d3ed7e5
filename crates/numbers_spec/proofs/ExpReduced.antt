-- Where -690 ≤ x ≤ 690, E's k is a whole number within ±995, and its r lies within ±3/8. Assumes nothing.
-- With |x| = a / c: k is ±n, n the whole number nearest to the rounded a / c × log2e. So a / c × log2e itself is within a half of n, up to 1/1024 for the rounding, and x is near n × hi.
use mathlib.Core.Path.{◌≡◌, refl, sym, ap, ◌∙◌, subst}
use Prim.Native.Nat.{ℕ, zero, suc, ◌+◌, ◌-◌, ◌*◌, ◌%◌, ◌^◌, ◌≤◌, ◌<◌, suc-le-suc}
use native.Mathlib.Nat.{lt_irrefl, le_trans, mul-pos, zero-lt-suc, mod-lt, div-add-mod', mul-le-mul_right}
use native.Mathlib.Omega.{arith}
use mathlib.Core.Bool.{Bool, true, false, not, beq}
use lib.IntN.{ℤ, pos, negsuc}
use lib.Dec.{T, ltb, ltb→lt, nltb→le, lit≤, lit<}
use lib.Count.{count_trailing_zeros}
use lib.Ieee.{Float, nan, inf, fin, binary64, up, down, odd, round, size, units, span, climb, of_fields, of_bits, neg, sum, add, mul, lt, eq, le}
use lib.Ieee.Fits.{down_pos}
use lib.Ieee.Exact.{HasValue}
use lib.Ieee.Back.{round_whole}
use lib.Ieee.Order.{round_mono}
use lib.Ieee.Scale.{finite}
use Rattle.numbers_spec.specs.Arithmetic.{◌⊕◌, ◌⊖◌, ◌⊗◌, zero⁺, magnitude}
use Rattle.numbers_spec.specs.Whole.{half_up, whole_nearest}
use Rattle.numbers_spec.specs.Exponential.{limit, limit⁻, log2e, hi, lo, exp_whole, exp_rest}
use Rattle.numbers_spec.specs.Values.{sided, AtMost, Between}
use Rattle.numbers_spec.specs.ExpLaws.{rest_most, ExpReduces}
use Rattle.numbers_spec.proofs.Order.{P, Below, le→below, cross, le_self, le_transitive, between_finite, at_most_between, between_at_most}
use Rattle.numbers_spec.proofs.Rounding.{round_sided, magnitude_round}
use Rattle.numbers_spec.proofs.Sums.{sub_at_most}
use Rattle.numbers_spec.proofs.Products.{mul_at_most}
use Rattle.numbers_spec.proofs.ExactValues.{dyadic_exact, mul_value, rounded_below, rounded_above, sub_near}

-- ---- the digits of the constants: log2e is L / 2^51, hi is H / 2^32, lo is K / 2^84
abbrev L : ℕ
L = 3248660424278399

abbrev H : ℕ
H = 2977044471

abbrev K : ℕ
K = 3691024475790907

-- ---- n is the whole number nearest to a / c, up to 1/1024
record Near (a c n : ℕ) : Type 0 where
  high : 2 * a ≤ (2 * n + 1) * c
  low : 1024 * (n * c) ≤ 1024 * a + 513 * c

half_up_above : (p q : ℕ) → 0 < q → 2 * p < (2 * half_up p q + 1) * q
half_up_above p q h = at (half_up p q) ((2 * p + q) % (2 * q)) (div-add-mod' (2 * p + q) (2 * q)) (mod-lt (2 * p + q) (mul-pos (zero-lt-suc 1) h))
  where
    at : (n r : ℕ) → n * (2 * q) + r ≡ 2 * p + q → r < 2 * q → 2 * p < (2 * n + 1) * q
    at n r e l = omega arith

half_up_below : (p q : ℕ) → 2 * half_up p q * q ≤ 2 * p + q
half_up_below p q = at (half_up p q) ((2 * p + q) % (2 * q)) (div-add-mod' (2 * p + q) (2 * q))
  where
    at : (n r : ℕ) → n * (2 * q) + r ≡ 2 * p + q → 2 * n * q ≤ 2 * p + q
    at n r e = omega arith

module _ (a c : ℕ) (C : 0 < c) (m : ℕ) (e : ℤ) (is : round binary64 false a c ≡ fin false m e) (small : half_up (m * up e) (down e) < 1048576) where
  near : Near a c (half_up (m * up e) (down e))
  near = record { high = up_to (half_up (m * up e) (down e)) small (half_up_above (m * up e) (down e) (down_pos e)); low = from (half_up (m * up e) (down e)) small (half_up_below (m * up e) (down e)) }
    where
      up_to : (n : ℕ) → n < 1048576 → 2 * (m * up e) < (2 * n + 1) * down e → 2 * a ≤ (2 * n + 1) * c
      up_to n s h = go (ltb ((2 * n + 1) * c) (2 * a)) (ltb→lt _ _) (nltb→le _ _)
        where
          go : (b : Bool) → (T b → (2 * n + 1) * c < 2 * a) → (T (not b) → 2 * a ≤ (2 * n + 1) * c) → 2 * a ≤ (2 * n + 1) * c
          go false x y = y tt
          go true x y =
              let l = x tt in
              let k = rounded_above binary64 a c (2 * n + 1) 2 C (zero-lt-suc 1) (dyadic_exact binary64 false (2 * n + 1) 1 (omega arith) (lit≤ tt)) m e is (omega arith) in
              absurd (lt_irrefl 0 (omega arith))

      from : (n : ℕ) → n < 1048576 → 2 * n * down e ≤ 2 * (m * up e) + down e → 1024 * (n * c) ≤ 1024 * a + 513 * c
      from zero s h = omega arith
      from (suc n) s h = go (ltb (1024 * a + 513 * c) (1024 * (suc n * c))) (ltb→lt _ _) (nltb→le _ _)
        where
          go : (b : Bool) → (T b → 1024 * a + 513 * c < 1024 * (suc n * c)) → (T (not b) → 1024 * (suc n * c) ≤ 1024 * a + 513 * c) → 1024 * (suc n * c) ≤ 1024 * a + 513 * c
          go false x y = y tt
          go true x y =
              let l = x tt in
              let d = down_pos e in
              let k = rounded_below binary64 a c (1024 * n + 511) 1024 C (zero-lt-suc 1023) (dyadic_exact binary64 false (1024 * n + 511) 10 (omega arith) (lit≤ tt)) m e is (omega arith) in
              absurd (lt_irrefl 0 (omega arith))

-- ---- k
log2e_is : log2e ≡ fin false L (negsuc 50)
unfolding of_bits of_fields odd count_trailing_zeros
log2e_is = refl

-- 690 × log2e, near 995.46
most_is : fin false 345 (pos 1) ⊗ fin false L (negsuc 50) ≡ fin false 1094519381226609 (negsuc 39)
unfolding mul round units size span climb odd count_trailing_zeros
most_is = refl

-- k for |x| = a / c
record Whole (s : Bool) (a c : ℕ) (k : Float) : Type 0 where
  size_of_lem : ℕ
  small : size_of_lem ≤ 995
  is : k ≡ round binary64 s size_of_lem 1
  near_to_lem : Near (a * L) (c * 2 ^ 51) size_of_lem

same_sign : (t s : Bool) → T (beq t s) → t ≡ s
same_sign true true h = refl
same_sign true false h = absurd h
same_sign false true h = absurd h
same_sign false false h = refl

whole_of : (s : Bool) (m : ℕ) (e : ℤ) → AtMost (fin false 345 (pos 1)) (fin s m e) → Whole s (m * up e) (down e) (exp_whole (fin s m e))
unfolding whole_nearest
whole_of s m e h =
    rw log2e_is
    (go (fin s m e ⊗ fin false L (negsuc 50)) (mul_value binary64 (fin s m e) s (m * up e) (down e) L (negsuc 50) (down_pos e) (refl, refl))
    (subst (λ (b : Float). AtMost b (fin s m e ⊗ fin false L (negsuc 50))) most_is (mul_at_most binary64 (fin s m e) (fin false L (negsuc 50)) (fin false 345 (pos 1)) (fin false L (negsuc 50)) tt tt h (unfold magnitude in le_self (fin false L (negsuc 50)) tt))))
  where
    few : (p q : ℕ) → 0 < q → p * 2 ^ 40 ≤ 1094519381226609 * 1 * q → half_up p q ≤ 995
    few p q Q l = at (half_up p q) (half_up_below p q)
      where
        at : (n : ℕ) → 2 * n * q ≤ 2 * p + q → n ≤ 995
        at n k = go (ltb 995 n) (ltb→lt 995 n) (nltb→le 995 n)
          where
            go : (b : Bool) → (T b → 995 < n) → (T (not b) → n ≤ 995) → n ≤ 995
            go false x y = y tt
            go true x y = let w : 996 * q ≤ n * q = mul-le-mul_right q (x tt) in absurd (lt_irrefl 0 (omega arith))

    go : (z : Float) → z ≡ round binary64 s (m * up e * (L * 1)) (down e * 2 ^ 51) → AtMost (fin false 1094519381226609 (negsuc 39)) z → Whole s (m * up e) (down e) (whole_nearest z)
    go nan r l = absurd (unfold magnitude le lt eq in l)
    go (inf t) r l = absurd (unfold magnitude le lt eq in l)
    go (fin t n d) r l =
        let f = few (n * up d) (down d) (down_pos d) (cross n d 1094519381226609 (negsuc 39) (unfold magnitude in l)) in
        record {
          size_of_lem = half_up (n * up d) (down d);
          small = f;
          is = ap (λ (b : Bool). round binary64 b (half_up (n * up d) (down d)) 1) (same_sign t s (subst (λ (y : Float). T (sided s y)) (sym r) (round_sided binary64 s _ _)));
          near_to_lem = near (m * up e * L) (down e * 2 ^ 51) (mul-pos (down_pos e) (lit< tt)) n d (sym (magnitude_round binary64 s _ _) ∙ (unfold magnitude in ap magnitude (sym r))) (le_trans (suc-le-suc f) (lit≤ tt));
        }

-- ---- r
hi_is : hi ≡ fin false H (negsuc 31)
unfolding of_bits of_fields odd count_trailing_zeros
hi_is = refl

lo_is : lo ≡ fin false K (negsuc 83)
unfolding of_bits of_fields odd count_trailing_zeros
lo_is = refl

-- k × hi is exact
times_hi : (s : Bool) (n : ℕ) → n ≤ 995 → HasValue (round binary64 s n 1 ⊗ hi) s (n * H) (2 ^ 32)
times_hi s n h =
    rw (hi_is, mul_value binary64 (round binary64 s n 1) s n 1 H (negsuc 31) (lit< tt) (round_whole binary64 s n (le_trans h (lit≤ tt))))
    (dyadic_exact binary64 s (n * H) 32 (omega arith) (lit≤ tt))

-- 1 / log2e is from 0.693147 to 0.693148
by_log2e : (x y : ℕ) → x * L ≤ y * 2 ^ 51 → x * 1000000 ≤ y * 693148
by_log2e x y h = omega arith

by_log2e' : (x y : ℕ) → y * 2 ^ 51 ≤ x * L → y * 693147 ≤ x * 1000000
by_log2e' x y h = omega arith

-- |a / c - n × hi| ≤ 23/64, with w = n × c
not_above : (a c w : ℕ) → w ≤ 995 * c → 2 * a * 1000000 ≤ (2 * w + c) * 693148 → a * 64 * 2 ^ 32 ≤ w * 64 * H + 23 * c * 2 ^ 32
not_above a c w h k = omega arith

not_below : (a c w : ℕ) → w ≤ 995 * c → (1024 * w - 513 * c) * 693147 ≤ 1024 * a * 1000000 → w * 64 * H ≤ a * 64 * 2 ^ 32 + 23 * c * 2 ^ 32
not_below a c w h k = omega arith

-- the same over k × hi as o / g
carried : (a c n o g : ℕ) → o * 2 ^ 32 ≡ n * H * g → a * 64 * 2 ^ 32 ≤ n * c * 64 * H + 23 * c * 2 ^ 32 → a * g * 64 ≤ o * c * 64 + 23 * (c * g)
carried a c n o g e h =
    let x : a * 64 * 2 ^ 32 * g ≤ (n * c * 64 * H + 23 * c * 2 ^ 32) * g = mul-le-mul_right g h in
    let y : o * 2 ^ 32 * c ≡ n * H * g * c = ap (λ (z : ℕ). z * c) e in
    omega arith

carried' : (a c n o g : ℕ) → o * 2 ^ 32 ≡ n * H * g → n * c * 64 * H ≤ a * 64 * 2 ^ 32 + 23 * c * 2 ^ 32 → o * c * 64 ≤ a * g * 64 + 23 * (c * g)
carried' a c n o g e h =
    let x : n * c * 64 * H * g ≤ (a * 64 * 2 ^ 32 + 23 * c * 2 ^ 32) * g = mul-le-mul_right g h in
    let y : o * 2 ^ 32 * c ≡ n * H * g * c = ap (λ (z : ℕ). z * c) e in
    omega arith

first_rest : (s : Bool) (m : ℕ) (e : ℤ) (n : ℕ) → n ≤ 995 → Near (m * up e * L) (down e * 2 ^ 51) n → AtMost (round binary64 false 23 64) (fin s m e ⊖ round binary64 s n 1 ⊗ hi)
first_rest s m e n h k = go (round binary64 s n 1 ⊗ hi) (times_hi s n h)
  where
    w : n * down e ≤ 995 * down e
    w = mul-le-mul_right (down e) h

    above : m * up e * 64 * 2 ^ 32 ≤ n * down e * 64 * H + 23 * down e * 2 ^ 32
    above = not_above (m * up e) (down e) (n * down e) w (by_log2e (2 * (m * up e)) (2 * (n * down e) + down e) (let x = k.high in omega arith))

    below : n * down e * 64 * H ≤ m * up e * 64 * 2 ^ 32 + 23 * down e * 2 ^ 32
    below = not_below (m * up e) (down e) (n * down e) w (by_log2e' (1024 * (m * up e)) (1024 * (n * down e) - 513 * down e) (let x = k.low in omega arith))

    go : (y : Float) → HasValue y s (n * H) (2 ^ 32) → AtMost (round binary64 false 23 64) (fin s m e ⊖ y)
    go nan v = absurd v
    go (inf t) v = absurd v
    go (fin t o g) v =
        subst (λ (b : Bool). AtMost (round binary64 false 23 64) (fin s m e ⊖ fin b o g)) (sym v.0)
        (sub_near binary64 s m e o g 23 64 (lit< tt) (carried (m * up e) (down e) n (o * up g) (down g) v.1 above) (carried' (m * up e) (down e) n (o * up g) (down g) v.1 below))

first_bound : round binary64 false 23 64 ≡ fin false 23 (negsuc 5)
unfolding round units size span climb odd count_trailing_zeros
first_bound = refl

most_whole : round binary64 false 995 1 ≡ fin false 995 (pos 0)
unfolding round units size span climb odd count_trailing_zeros
most_whole = refl

-- 995 × lo
times_lo : fin false 995 (pos 0) ⊗ fin false K (negsuc 83) ≡ fin false 56038961081115 (negsuc 67)
unfolding mul round units size span climb odd count_trailing_zeros
times_lo = refl

total : T (le (fin false 23 (negsuc 5) ⊕ fin false 56038961081115 (negsuc 67)) (fin false 3 (negsuc 2)))
unfolding le lt eq add sum round units size span climb odd count_trailing_zeros
total = tt

whole_at_most : (s : Bool) (n : ℕ) → n ≤ 995 → AtMost (fin false 995 (pos 0)) (round binary64 s n 1)
whole_at_most s n h = rw (magnitude_round binary64 s n 1) (subst (λ (b : Float). T (le (round binary64 false n 1) b)) most_whole (round_mono binary64 n 1 995 1 (lit< tt) (lit< tt) (omega arith)))

lo_at_most : (k : Float) → AtMost (fin false 995 (pos 0)) k → AtMost (fin false 56038961081115 (negsuc 67)) (k ⊗ lo)
lo_at_most k h =
    rw (lo_is, ← times_lo)
    (mul_at_most binary64 k (fin false K (negsuc 83)) (fin false 995 (pos 0)) (fin false K (negsuc 83)) tt tt h (unfold magnitude in le_self (fin false K (negsuc 83)) tt))

rest_at_most : (s : Bool) (m : ℕ) (e : ℤ) (n : ℕ) → n ≤ 995 → Near (m * up e * L) (down e * 2 ^ 51) n → AtMost (fin false 3 (negsuc 2)) (exp_rest (fin s m e) (round binary64 s n 1))
rest_at_most s m e n h k =
    le_transitive (magnitude (exp_rest (fin s m e) (round binary64 s n 1))) (fin false 23 (negsuc 5) ⊕ fin false 56038961081115 (negsuc 67)) (fin false 3 (negsuc 2))
    (sub_at_most binary64 (fin s m e ⊖ round binary64 s n 1 ⊗ hi) (round binary64 s n 1 ⊗ lo) (fin false 23 (negsuc 5)) (fin false 56038961081115 (negsuc 67)) tt tt
    (subst (λ (b : Float). AtMost b (fin s m e ⊖ round binary64 s n 1 ⊗ hi)) first_bound (first_rest s m e n h k))
    (lo_at_most (round binary64 s n 1) (whole_at_most s n h)))
    total

-- ---- together
limit_is : limit ≡ fin false 345 (pos 1)
unfolding of_bits of_fields odd count_trailing_zeros
limit_is = refl

limit⁻-is : limit⁻ ≡ fin true 345 (pos 1)
unfolding of_bits of_fields odd count_trailing_zeros
limit⁻-is = refl

pub limited : (x : Float) → Between limit⁻ limit x → T (finite x) × AtMost (fin false 345 (pos 1)) x
unfolding neg
limited x b =
    let c : Between (fin true 345 (pos 1)) (fin false 345 (pos 1)) x = rw (limit_is, limit⁻-is) at b in
    (between_finite (fin true 345 (pos 1)) (fin false 345 (pos 1)) x tt tt c, between_at_most (fin false 345 (pos 1)) x c)

pub record Reduced (x : Float) : Type 0 where
  pub minus : Bool
  pub whole : ℕ
  pub small : whole ≤ 995
  pub is : exp_whole x ≡ round binary64 minus whole 1
  pub rest : AtMost rest_most (exp_rest x (exp_whole x))
  -- k is not above zero where x is not
  pub down_to : T (le x zero⁺) → P minus whole ≡ 0

pub reduced : (x : Float) → T (finite x) → AtMost (fin false 345 (pos 1)) x → Reduced x
reduced nan X h = absurd X
reduced (inf s) X h = absurd X
reduced (fin s m e) X h =
    let w = whole_of s m e h in
    record {
      minus = s;
      whole = w.size_of_lem;
      small = w.small;
      is = w.is;
      rest = rw w.is (rest_at_most s m e w.size_of_lem w.small w.near_to_lem);
      down_to = λ l. none s w.size_of_lem w.near_to_lem (le→below (fin s m e) zero⁺ tt tt l);
    }
  where
    none : (s : Bool) (n : ℕ) → Near (m * up e * L) (down e * 2 ^ 51) n → Below (fin s m e) zero⁺ → P s n ≡ 0
    none true n k l = refl
    none false zero k l = refl
    none false (suc n) k l = let x = k.low in let d = down_pos e in absurd (lt_irrefl 0 (omega arith))

pub exp_reduces : ExpReduces
unfolding neg
exp_reduces x b =
    let k = limited x b in
    let r = reduced x k.0 k.1 in
    record { minus = r.minus; whole = r.whole; small = r.small; is = r.is; rest = at_most_between rest_most (exp_rest x (exp_whole x)) r.rest }
