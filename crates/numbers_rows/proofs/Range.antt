-- Numbers that are kept in a range: no NaN, above zero, and with a place and digits. Assumes nothing.
use mathlib.Core.Path.{◌≡◌, sym, ap, ◌∙◌, subst}
use Prim.Native.Nat.{ℕ, ◌+◌, ◌-◌, ◌*◌, ◌/◌, ◌^◌, ◌≤◌, ◌<◌}
use native.Mathlib.Nat.{le_trans, lt_of_le_of_lt, lt_of_lt_of_le, le_of_mul-le-mul_right}
use native.Mathlib.Omega.{arith}
use mathlib.Core.Bool.{Bool, true, false, not, cond}
use lib.Dec.{T, lit<, lit≤}
use lib.Pow.{pow_pos, pow_mono, shl_lt, shr_lt}
use lib.Ieee.{Float, nan, inf, fin, binary64, fits, is_nan, lt, of_bits, size, to_bits}
use lib.Ieee.Bits.{nan_bits_is, of_bits-fits, of_bits-to_bits, to_bits-of_bits}
use lib.Ieee.Digits.{size-le, size-lt}
use lib.Ieee.Exact.{odd_sign}
use lib.Ieee.Positive.{above, above_of_le, between, positive, positive-finite, values_of_le}
use Rattle.numbers_spec.specs.Arithmetic.{at_least, at_most}
use Rattle.numbers_spec.proofs.Encode.{bits_inf, bits_of_value, size_gt}
use Rattle.numbers_spec.proofs.Rooted.{no_nan_bits}
use Rattle.numbers_spec.specs.Values.{Units}
use Rattle.numbers_spec.proofs.Order.{le_self, lt→le, positive_sign}
use Rattle.numbers_spec.proofs.Placed.{Placed, placed}
use Rattle.numbers_rows.specs.Rows.{Ranged}

-- ---- the ends of the range, 1.0e-140 and 1.0e140, and 1.0e-280
abbrev pub least : Float
least = of_bits binary64 0x22de_7c5f_127b_d87e

abbrev pub most : Float
most = of_bits binary64 0x5d00_cb70_d24b_7379

abbrev pub tiny : Float
tiny = of_bits binary64 0x05cd_0b15_a491_eb84

least_plus : T (positive least)
unfolding of_bits
least_plus = tt

most_plus : T (positive most)
unfolding of_bits
most_plus = tt

-- digits times a power of two, as the fields say
least_is : Units binary64 least false (8580997075163262 * 2 ^ 556)
unfolding of_bits
least_is = odd_sign 53 false 8580997075163262 556 1074

most_is : Units binary64 most false (4727285052306297 * 2 ^ 1487)
unfolding of_bits
most_is = odd_sign 53 false 4727285052306297 1487 1074

-- ---- the pattern of a units, by powers of two that a lies between
module _ (x : Float) (a k : ℕ) (v : Units binary64 x false a) where
  bits_from : 2 ^ (52 + k) ≤ a → k * 2 ^ 52 ≤ to_bits binary64 x
  bits_from h = go (to_bits binary64 x) (size a) (a / 2 ^ (size a - 53)) (bits_of_value binary64 x false a v) (size_gt a (52 + k) h)
    where
      go : (b z q : ℕ) → b ≡ 0 + (z - 53) * 4503599627370496 + q → 52 + k < z → k * 4503599627370496 ≤ b
      go b z q e f = omega arith

  bits_under : a < 2 ^ (53 + k) → to_bits binary64 x < (k + 2) * 2 ^ 52
  bits_under h =
      go (to_bits binary64 x) (size a) (a / 2 ^ (size a - 53)) (bits_of_value binary64 x false a v) (size-le a (53 + k) h)
      (shr_lt 53 (size a - 53) (lt_of_lt_of_le (size-lt a) (pow_mono (room (size a)))))
    where
      room : (z : ℕ) → z ≤ 53 + (z - 53)
      room z = omega arith

      go : (b z q : ℕ) → b ≡ 0 + (z - 53) * 4503599627370496 + q → z ≤ 53 + k → q < 9007199254740992 → b < (k + 2) * 4503599627370496
      go b z q e f g = omega arith

-- ---- a number above zero
module _ (x : Float) (F : T (fits binary64 x)) (h : T (positive x)) where
  in_place : Placed binary64 x
  in_place = placed binary64 x F (positive-finite x h)

  abbrev units : ℕ
  units = in_place.digits * 2 ^ in_place.shift

  units_is : Units binary64 x false units
  units_is = subst (λ (s : Bool). Units binary64 x s units) (positive_sign x in_place.sign units (2 ^ 1074) h in_place.value) in_place.value

  positive_bits : to_bits binary64 x ≤ 2047 * 2 ^ 52
  positive_bits = go in_place.shift in_place.reach (bits_under x units in_place.shift units_is (shl_lt 53 in_place.shift in_place.few))
    where
      go : (k : ℕ) → k < 2046 → to_bits binary64 x < (k + 2) * 4503599627370496 → to_bits binary64 x ≤ 9218868437227405312
      go k a b = omega arith

-- ---- from a floor above zero
-- no NaN, and not negative: the pattern is at most that of the infinity
pub record Plus (q : Float) : Type 0 where
  pub real : T (not (is_nan q))
  pub bits_le : to_bits binary64 q ≤ 2047 * 2 ^ 52

plus : (x : Float) → T (fits binary64 x) → T (above x) → Plus x
unfolding is_nan
plus nan F h = absurd h
plus (inf true) F h = absurd h
plus (inf false) F h = record { real = tt; bits_le = subst (λ (k : ℕ). k ≤ 2047 * 2 ^ 52) (sym (bits_inf binary64 false)) (lit≤ tt) }
plus (fin true m e) F h = absurd h
plus (fin false m e) F h = record { real = tt; bits_le = positive_bits (fin false m e) F h }

-- of either choice
either : (P : Float → Type 0) (t : Bool) (q r : Float) → (T t → P q) → P r → P (cond t q r)
either P true q r a b = a tt
either P false q r a b = b

from : (n : ℕ) → T (positive (of_bits binary64 n)) → (x : Float) → T (fits binary64 x) → Plus (at_least (of_bits binary64 n) x)
from n p x F =
    let l = of_bits binary64 n in
    either Plus (lt l x) x l
    (λ h. plus x F (above_of_le l x p (lt→le l x h)))
    (plus l (of_bits-fits binary64 n) (above_of_le l l p (le_self l (positive-finite l p))))

pub from_least : (x : Float) → T (fits binary64 x) → Plus (at_least least x)
from_least = from 0x22de_7c5f_127b_d87e least_plus

pub from_tiny : (x : Float) → T (fits binary64 x) → Plus (at_least tiny x)
unfolding of_bits
from_tiny = from 0x05cd_0b15_a491_eb84 tt

-- ---- in the range
-- a pattern is place * 2 ^ 52 + digits; the digits of a power of two are 2 ^ 53, so the place is one less
by_bits : (n : ℕ) → 556 * 2 ^ 52 ≤ n → n < 1489 * 2 ^ 52 → Ranged (of_bits binary64 n)
by_bits n h k =
    let p = (n - 1) / 4503599627370496 - 1 in
    record {
      place = p;
      digits = n - p * 4503599627370496;
      is = ap (λ (b : ℕ). of_bits binary64 b) (omega arith);
      digits_gt = omega arith;
      digits_le = omega arith;
      place_ge = omega arith;
      place_le = omega arith;
    }

-- between the ends, x has the pattern of such a size
within : (x : Float) → T (fits binary64 x) → T (lt least x) → T (lt x most) → Ranged x
within x F l m =
    let a = lt→le least x l in
    let b = lt→le x most m in
    let p = between least x most least_plus most_plus a b in
    let u = units x F p in
    let v = units_is x F p in
    let lo : 8580997075163262 * 2 ^ 556 ≤ u = le_of_mul-le-mul_right (values_of_le least x _ (2 ^ 1074) u (2 ^ 1074) least_plus p least_is v a) (pow_pos 1074) in
    let hi : u ≤ 4727285052306297 * 2 ^ 1487 = le_of_mul-le-mul_right (values_of_le x most u (2 ^ 1074) _ (2 ^ 1074) p most_plus v most_is b) (pow_pos 1074) in
    subst Ranged (of_bits-to_bits binary64 x F) (by_bits (to_bits binary64 x) (bits_from x u 556 v (le_trans (lit≤ tt) lo)) (bits_under x u 1487 v (lt_of_le_of_lt hi (lit< tt))))

pub ranged : (x : Float) → T (fits binary64 x) → Ranged (at_most most (at_least least x))
ranged x F =
    either Ranged (lt (at_least least x) most) (at_least least x) most
    (either (λ q. T (lt q most) → Ranged q) (lt least x) x least (within x F) (λ h. by_bits 0x22de_7c5f_127b_d87e (lit≤ tt) (lit< tt)))
    (by_bits 0x5d00_cb70_d24b_7379 (lit≤ tt) (lit< tt))

-- ---- the pattern of a number in the range
module _ (s : Float) (r : Ranged s) where
  abbrev b : ℕ
  b = r.place * 2 ^ 52 + r.digits

  b_le : b ≤ 1502 * 2 ^ 52
  b_le = under_most r.place r.digits r.place_le r.digits_le
    where
      under_most : (j c : ℕ) → j ≤ 1500 → c ≤ 9007199254740992 → j * 4503599627370496 + c ≤ 1502 * 4503599627370496
      under_most j c h k = omega arith

  pub ranged_real : T (not (is_nan s))
  ranged_real = subst (λ (z : Float). T (not (is_nan z))) (sym r.is) (subst (λ (t : Bool). T (not t)) (nan_bits_is binary64 b) (no_nan_bits b (small b b_le)))
    where
      small : (k : ℕ) → k ≤ 1502 * 4503599627370496 → k ≤ 9218868437227405312
      small k h = omega arith

  pub ranged_bits : to_bits binary64 s ≡ b
  ranged_bits = ap (to_bits binary64) r.is ∙ to_bits-of_bits binary64 b (small b b_le) (subst (λ (z : Float). T (not (is_nan z))) r.is ranged_real)
    where
      small : (k : ℕ) → k ≤ 1502 * 4503599627370496 → k < 18446744073709551616
      small k h = omega arith

  pub ranged_le : to_bits binary64 s ≤ 1502 * 2 ^ 52
  ranged_le = subst (λ (k : ℕ). k ≤ 1502 * 2 ^ 52) (sym ranged_bits) b_le

  pub ranged_ge : 537 * 2 ^ 52 ≤ to_bits binary64 s
  ranged_ge = subst (λ (k : ℕ). 537 * 2 ^ 52 ≤ k) (sym ranged_bits) (some r.place r.digits r.place_ge)
    where
      some : (j c : ℕ) → 537 ≤ j → 537 * 4503599627370496 ≤ j * 4503599627370496 + c
      some j c h = omega arith
