-- A positive normal v is m × 2^e, with m = `mantissa v` from 1 to below 2 and e = `exponent v` a whole number from −1022 to 1023; and what v's bounds make of e. Assumes nothing.
use mathlib.Core.Path.{◌≡◌, refl, sym, ap, ◌∙◌, subst}
use mathlib.Core.Bool.{Bool, true, false, not, cond, true≢false}
use Prim.Native.Nat.{ℕ, zero, suc, ◌+◌, ◌-◌, ◌*◌, ◌/◌, ◌%◌, ◌^◌, ◌≤◌, ◌<◌}
use native.Mathlib.Nat.{le_trans, le_of_eq, le_of_lt, lt_of_le_of_lt, lt_of_lt_of_le, lt_of_not-le, not-le_of_lt, lt_irrefl, mul-one, one-mul, mul_comm, mul_assoc, mul_left_comm, pow-succ', add-mul, mul-lt-mul_of_pos_right, mul-le-mul_right}
use native.Mathlib.Omega.{arith}
use lib.IntN.{pos, negsuc}
use lib.Dec.{T, leb, ltb, leb→le, nleb→lt, ltb→lt, nltb→le, not_T, lit<}
use lib.Pow.{pow_pos, pow-add, pow_mono, pow-lt, shl_lt}
use lib.Ieee.{Float, nan, inf, fin, Format, binary64, up, down, minus, of_int, of_bits, to_bits, of_fields, le, round, sum, add, sub, neg}
use lib.Ieee.Bits.{is_false}
use lib.Ieee.Exact.{HasValue, odd_sign}
use lib.Ieee.Order.{le_of_values, round_mono}
use lib.Ieee.Positive.{positive, values_of_le}
use lib.Ieee.Back.{round_whole}
use lib.Ieee.Digits.{back, minus_val}
use lib.Ieee.Fits.{down_pos}
use lib.Ieee.Scale.{round_same}
use Rattle.numbers_spec.specs.Arithmetic.{◌⊖◌, zero⁺, one, two}
use Rattle.numbers_spec.specs.Exponential.{bias}
use Rattle.numbers_spec.specs.Logarithm.{smallest_normal, mantissa, exponent}
use Rattle.numbers_spec.proofs.Value.{field_under, value_low, value_high, by_fields, at_some, value_finite, same_fraction}
use Rattle.numbers_spec.specs.Values.{Normal, Between}
use Rattle.numbers_spec.specs.FloatLaws.{WholeFinite}
use Rattle.numbers_spec.specs.LogLaws.{beyond₃₂, Splits}
use Rattle.numbers_spec.proofs.Order.{positive_above, positive_sign}
use Rattle.numbers_spec.proofs.Sums.{sub_mono}
use Rattle.numbers_spec.proofs.TwoTo.{bias_is}

-- ---- v by its fields: 4503599627370496 is 2^52, 9223372036854775808 is 2^63 and 4607182418800017408 is 1023 × 2^52
smallest_is : smallest_normal ≡ fin false 1 (negsuc 1021)
unfolding of_bits
smallest_is = refl

pub normal_positive : (v : Float) → Normal v → T (positive v)
normal_positive v n = positive_above (fin false 1 (negsuc 1021)) v tt n.finite_is (rw smallest_is at n.least)

-- the fields of v's pattern: suc place is the exponent's
pub record Fields (v : Float) : Type 0 where
  pub place : ℕ
  pub place_most_lem : place ≤ 2045
  pub digits : ℕ
  pub digits_are : digits ≡ 4503599627370496 + to_bits binary64 v % 4503599627370496
  pub field_is : to_bits binary64 v / 4503599627370496 ≡ suc place
  pub value : HasValue v false (digits * 2 ^ place) (2 ^ 1074)

some : (k : ℕ) → (k ≡ 0 → ⊥) → k ≡ suc (k - 1)
some zero h = absurd (h refl)
some (suc k) h = omega arith

not_leb : (a b : ℕ) → leb a b ≡ false → b < a
not_leb a b e = nleb→lt a b (subst (λ (x : Bool). T (not x)) (sym e) tt)

too_small : (t : ℕ) → t < 2 ^ 52 → 1 * 2 ^ 1074 ≤ t * 2 ^ 0 * 2 ^ 1022 → ⊥
too_small t h k = lt_irrefl (2 ^ 1074) (lt_of_le_of_lt (le_trans (le_of_eq (sym (one-mul (2 ^ 1074)))) (le_trans k (le_of_eq (ap (λ (x : ℕ). x * 2 ^ 1022) (mul-one t))))) (shl_lt 52 1022 h))

low_part : (b : ℕ) → b % 4503599627370496 < 2 ^ 52
low_part b = omega arith

whole_field : (b k : ℕ) → b < 9223372036854775808 → b / 4503599627370496 % 2048 ≡ suc k → b / 4503599627370496 ≡ suc k
whole_field b k h e = omega arith

less : (k : ℕ) → k < 2047 → k - 1 ≤ 2045
less k h = omega arith

module _ (v : Float) (n : Normal v) where
  abbrev B : ℕ
  B = to_bits binary64 v

  abbrev raw : ℕ
  raw = B / 4503599627370496 % 2048

  not_low : raw ≡ 0 → ⊥
  not_low e =
      let l = value_low v n.held n.finite_is e in
      let s = positive_sign v _ _ _ (normal_positive v n) l in
      let w : HasValue v false (B % 4503599627370496 * 2 ^ 0) (2 ^ 1074) = subst (λ (t : Bool). HasValue v t (B % 4503599627370496 * 2 ^ 0) (2 ^ 1074)) s l in
      let k = values_of_le (fin false 1 (negsuc 1021)) v 1 (2 ^ 1022) (B % 4503599627370496 * 2 ^ 0) (2 ^ 1074) tt (normal_positive v n) (refl, refl) w (rw smallest_is at n.least) in
      too_small (B % 4503599627370496) (low_part B) k

  pub fields_of : Fields v
  fields_of =
      let is : raw ≡ suc (raw - 1) = some raw not_low in
      let h = value_high v n.held n.finite_is (raw - 1) is in
      let s = positive_sign v _ _ _ (normal_positive v n) h in
      record {
        place = raw - 1;
        place_most_lem = less raw (field_under v n.held n.finite_is);
        digits = 4503599627370496 + B % 4503599627370496;
        digits_are = refl;
        field_is = whole_field B (raw - 1) (not_leb 9223372036854775808 B s) is;
        value = subst (λ (t : Bool). HasValue v t ((4503599627370496 + B % 4503599627370496) * 2 ^ (raw - 1)) (2 ^ 1074)) s h;
      }

-- ---- m, by the same digits
from_one_on : (t : ℕ) → t < 2 ^ 52 → of_bits binary64 (t + 4607182418800017408) ≡ of_fields binary64 false 1023 t
from_one_on t h =
    by_fields (t + 4607182418800017408)
    ∙ ap (λ (x : Bool). of_fields binary64 x ((t + 4607182418800017408) / 4503599627370496 % 2048) ((t + 4607182418800017408) % 4503599627370496)) (leb_false t h)
    ∙ ap (λ (x : ℕ). of_fields binary64 false x ((t + 4607182418800017408) % 4503599627370496)) (field t h)
    ∙ ap (λ (x : ℕ). of_fields binary64 false 1023 x) (rest t h)
  where
    leb_false : (t : ℕ) → t < 4503599627370496 → leb 9223372036854775808 (t + 4607182418800017408) ≡ false
    leb_false t h = is_false (leb 9223372036854775808 (t + 4607182418800017408)) (not_T (leb 9223372036854775808 (t + 4607182418800017408)) (λ (l : T (leb 9223372036854775808 (t + 4607182418800017408))). not-le_of_lt (sum_lt t h) (leb→le 9223372036854775808 (t + 4607182418800017408) l)))
      where
        sum_lt : (t : ℕ) → t < 4503599627370496 → t + 4607182418800017408 < 9223372036854775808
        sum_lt t h = omega arith

    field : (t : ℕ) → t < 4503599627370496 → (t + 4607182418800017408) / 4503599627370496 % 2048 ≡ 1023
    field t h = omega arith

    rest : (t : ℕ) → t < 4503599627370496 → (t + 4607182418800017408) % 4503599627370496 ≡ t
    rest t h = omega arith

mantissa_value : (t : ℕ) → t < 2 ^ 52 → HasValue (of_bits binary64 (t + 4607182418800017408)) false (4503599627370496 + t) (2 ^ 52)
mantissa_value t h =
    same_fraction (of_bits binary64 (t + 4607182418800017408)) false ((4503599627370496 + t) * 2 ^ 1022) (2 ^ 1074) (4503599627370496 + t) (2 ^ 52) (pow_pos 1074) (mul_assoc_pow (4503599627370496 + t))
    (subst (λ (x : Float). HasValue x false ((4503599627370496 + t) * 2 ^ 1022) (2 ^ 1074)) (sym (from_one_on t h ∙ at_some false t 1022 (lit< tt))) (odd_sign 53 false (4503599627370496 + t) 1022 1074))
  where
    mul_assoc_pow : (d : ℕ) → d * 2 ^ 1074 ≡ d * 2 ^ 1022 * 2 ^ 52
    mul_assoc_pow d = ap (λ (x : ℕ). d * x) (pow-add 2 1022 52) ∙ sym (mul_assoc d (2 ^ 1022) (2 ^ 52))

-- ---- e, a difference of whole numbers
scale_pos : (d : ℕ) → 0 < d → 0 < d * 1
scale_pos d h = omega arith

scaled : (a b d : ℕ) → b ≤ a → (a * d - b * d) * 1 ≡ (a - b) * (d * 1)
scaled a b d h = rw (mul-one d) (rest (a * d) (b * d) ((a - b) * d) (sym (ap (λ (x : ℕ). x * d) (back a b h)) ∙ add-mul (a - b) b d))
  where
    rest : (x y z : ℕ) → x ≡ z + y → (x - y) * 1 ≡ z
    rest x y z h = omega arith

up_one : (a b : ℕ) → b < a → suc (a - suc b) ≡ a - b
up_one a b h = omega arith

whole_less : (f : Format) (x : Float) (k j : ℕ) → HasValue x false k 1 → sub f x (fin false j (pos 0)) ≡ of_int f (minus k j)
unfolding sub add neg sum of_int
whole_less f nan k j v = absurd v
whole_less f (inf t) k j v = absurd v
whole_less f (fin true m e) k j v = absurd (true≢false v.0)
whole_less f (fin false m e) k j v =
    rw (v.1, mul-one j)
    (go (ltb (k * down e) (j * down e)) (leb j k) (ltb→lt (k * down e) (j * down e)) (nltb→le (k * down e) (j * down e)) (leb→le j k) (nleb→lt j k))
  where
    go : (b c : Bool) → (T b → k * down e < j * down e) → (T (not b) → j * down e ≤ k * down e) → (T c → j ≤ k) → (T (not c) → k < j)
        → cond b (round f true (j * down e - k * down e) (down e * 1)) (round f false (k * down e - j * down e) (down e * 1)) ≡ of_int f (cond c (pos (k - j)) (negsuc (j - suc k)))
    go true true p q r s = absurd (lt_irrefl _ (lt_of_lt_of_le (p tt) (mul-le-mul_right (down e) (r tt))))
    go true false p q r s = rw (up_one j k (s tt)) (round_same f true (j * down e - k * down e) (down e * 1) (j - k) 1 (scale_pos (down e) (down_pos e)) (omega arith) (scaled j k (down e) (le_of_lt (s tt))))
    go false true p q r s = round_same f false (k * down e - j * down e) (down e * 1) (k - j) 1 (scale_pos (down e) (down_pos e)) (omega arith) (scaled k j (down e) (r tt))
    go false false p q r s = absurd (lt_irrefl _ (lt_of_lt_of_le (mul-lt-mul_of_pos_right (s tt) (down_pos e)) (q tt)))

exponent_whole : (k : ℕ) → k ≤ 2 ^ 53 → of_int binary64 (pos k) ⊖ bias ≡ of_int binary64 (minus k 1023)
exponent_whole k h = rw bias_is (whole_less binary64 (of_int binary64 (pos k)) k 1023 (unfold of_int in round_whole binary64 false k h))

-- ---- v = m × 2^e
digits_at_least : (v : Float) (r : Fields v) → 2 ^ 52 ≤ r.digits
digits_at_least v r = rw r.digits_are (omega arith)

digits_below : (v : Float) (r : Fields v) → r.digits < 2 ^ 53
digits_below v r = rw r.digits_are (high (to_bits binary64 v))
  where
    high : (b : ℕ) → 4503599627370496 + b % 4503599627370496 < 9007199254740992
    high b = omega arith

by_power : (d k : ℕ) → d * up (minus (suc k) 1023) * 2 ^ 1074 ≡ d * 2 ^ k * (2 ^ 52 * down (minus (suc k) 1023))
by_power d k =
    let e = minus (suc k) 1023 in
    ap (λ (x : ℕ). d * up e * x) (pow-add 2 1023 51) ∙ sym (mul_assoc (d * up e) (2 ^ 1023) (2 ^ 51)) ∙ ap (λ (x : ℕ). x * 2 ^ 51) (minus_val d (suc k) 1023)
    ∙ regroup d (2 ^ suc k) (down e) (2 ^ 51) ∙ ap (λ (x : ℕ). d * x * (2 ^ 51 * down e)) (pow-succ' 2 k) ∙ doubled d (2 ^ k) (2 ^ 51) (down e)
  where
    regroup : (d p w b : ℕ) → d * p * w * b ≡ d * p * (b * w)
    regroup d p w b = simp (mul_assoc, mul_comm)

    doubled : (d p b w : ℕ) → d * (2 * p) * (b * w) ≡ d * p * (2 * b * w)
    doubled d p b w = simp (mul_assoc, mul_left_comm)

pub splits : Splits
splits v n =
    let r = fields_of v n in
    record {
      digits = r.digits;
      from_one = digits_at_least v r;
      below_two = digits_below v r;
      mantissa_is = rw r.digits_are (mantissa_value (to_bits binary64 v % 4503599627370496) (low_part (to_bits binary64 v)));
      field = suc r.place;
      from_least = omega arith;
      to_most = let h = r.place_most_lem in omega arith;
      exponent_is = rw r.field_is (exponent_whole (suc r.place) (let h = r.place_most_lem in omega arith));
      value = same_fraction v false (r.digits * 2 ^ r.place) (2 ^ 1074) _ _ (pow_pos 1074) (by_power r.digits r.place) r.value;
    }

-- ---- m lies from 1 to 2
pub mantissa_range : (v : Float) → Normal v → Between one two (mantissa v)
mantissa_range v n =
    let s = splits v n in
    let l = s.from_one in
    let h = s.below_two in
    record {
      from = le_of_values one (mantissa v) 1 1 s.digits (2 ^ 52) (pow_pos 0) (pow_pos 52) (refl, refl) s.mantissa_is (omega arith);
      to = le_of_values (mantissa v) two s.digits (2 ^ 52) 2 1 (pow_pos 52) (pow_pos 0) s.mantissa_is (refl, refl) (omega arith);
    }

-- ---- e lies where v's bounds put it
pub whole_finite : WholeFinite
unfolding of_int
whole_finite k h = value_finite (round binary64 false k 1) false k 1 (round_whole binary64 false k h)

pub whole_mono : (j k : ℕ) → j ≤ k → T (le (of_int binary64 (pos j)) (of_int binary64 (pos k)))
unfolding of_int
whole_mono j k h = round_mono binary64 j 1 k 1 (pow_pos 0) (pow_pos 0) (omega arith)

less_mono : (j k : ℕ) → j ≤ k → k ≤ 2 ^ 53 → T (le (of_int binary64 (pos j) ⊖ bias) (of_int binary64 (pos k) ⊖ bias))
less_mono j k h b = sub_mono binary64 (of_int binary64 (pos j)) (of_int binary64 (pos k)) bias (whole_finite j (le_trans h b)) (whole_finite k b) (unfold of_bits in tt) (whole_mono j k h)

-- -1022 and 1023
abbrev pub least_exponent : Float
least_exponent = fin true 511 (pos 1)

abbrev pub most_exponent : Float
most_exponent = fin false 1023 (pos 0)

place_from_one : (d k : ℕ) → d < 2 ^ 53 → 1 * 2 ^ 1074 ≤ d * 2 ^ k * 1 → 1023 ≤ suc k
place_from_one d k D h = let l : 1021 < k = lt_of_not-le far in omega arith
  where
    far : k ≤ 1021 → ⊥
    far l = lt_irrefl (2 ^ 1074) (lt_of_le_of_lt (le_trans (le_of_eq (sym (one-mul (2 ^ 1074)))) (le_trans h (le_of_eq (mul-one (d * 2 ^ k))))) (lt_of_lt_of_le (shl_lt 53 k D) (pow_mono (room k l))))
      where
        room : (k : ℕ) → k ≤ 1021 → 53 + k ≤ 1074
        room k l = omega arith

place_to_128 : (d k : ℕ) → 2 ^ 52 ≤ d → d * 2 ^ k * 1 ≤ 2 ^ 128 * 2 ^ 1074 → suc k ≤ 1151
place_to_128 d k D h = let l : k < 1151 = lt_of_not-le far in omega arith
  where
    far : 1151 ≤ k → ⊥
    far l =
        lt_irrefl (2 ^ 1202) (lt_of_lt_of_le (pow-lt (room k l)) (le_trans (le_of_eq (pow-add 2 52 k)) (le_trans (mul-le-mul_right (2 ^ k) D) (le_trans (le_of_eq (sym (mul-one (d * 2 ^ k)))) (le_trans h (le_of_eq (sym (pow-add 2 128 1074))))))))
      where
        room : (k : ℕ) → 1151 ≤ k → 1202 < 52 + k
        room k l = omega arith

module _ (v : Float) (n : Normal v) where
  abbrev place : ℕ
  place = (fields_of v n).place

  exponent_least : (j : ℕ) → j ≤ suc place → T (le (of_int binary64 (pos j) ⊖ bias) (exponent v))
  exponent_least j h = rw (fields_of v n).field_is (less_mono j (suc place) h (let l = (fields_of v n).place_most_lem in omega arith))

  exponent_most : (j : ℕ) → suc place ≤ j → j ≤ 2 ^ 53 → T (le (exponent v) (of_int binary64 (pos j) ⊖ bias))
  exponent_most j h b = rw (fields_of v n).field_is (less_mono (suc place) j h b)

  pub exponent_range : Between least_exponent most_exponent (exponent v)
  unfolding of_int sub of_bits
  exponent_range = record { from = exponent_least 1 (omega arith); to = exponent_most 2046 (let l = (fields_of v n).place_most_lem in omega arith) (omega arith) }

  -- v ≥ 1 makes e ≥ 0
  pub exponent_from_one : T (le one v) → T (le zero⁺ (exponent v))
  unfolding of_int sub of_bits
  exponent_from_one h =
      let r = fields_of v n in
      exponent_least 1023 (place_from_one r.digits r.place (digits_below v r) (values_of_le one v 1 1 (r.digits * 2 ^ r.place) (2 ^ 1074) tt (normal_positive v n) (refl, refl) r.value h))

  -- v ≤ 2^128 makes e ≤ 128
  pub exponent_to_128 : T (le v beyond₃₂) → T (le (exponent v) (fin false 1 (pos 7)))
  unfolding of_int sub of_bits
  exponent_to_128 h =
      let r = fields_of v n in
      exponent_most 1151 (place_to_128 r.digits r.place (digits_at_least v r) (values_of_le v beyond₃₂ (r.digits * 2 ^ r.place) (2 ^ 1074) (2 ^ 128) 1 (normal_positive v n) tt r.value (refl, refl) h)) (omega arith)
