-- `two_to k` is exactly 2^k, for a whole k from -1022 to 1023: the exponent's field k + 1023 is worked out without rounding, and its bits are those of 2^k. Assumes nothing.
use mathlib.Core.Path.{◌≡◌, refl, ap, ◌∙◌}
use Prim.Native.Nat.{ℕ, zero, suc, ◌+◌, ◌-◌, ◌*◌, ◌/◌, ◌%◌, ◌≤◌, ◌<◌}
use native.Mathlib.Nat.{lt_irrefl, le_trans, mul-pos}
use native.Mathlib.Omega.{arith}
use mathlib.Core.Bool.{Bool, true, false, cond}
use lib.IntN.{ℤ, pos, negsuc, neg_ℤ}
use lib.Dec.{T, leb, eqb, leb→le, le→leb, not_T, eqb→eq, lit<, lit≤}
use lib.Count.{count_trailing_zeros}
use lib.Ieee.{Float, nan, inf, fin, Format, binary64, up, down, minus, odd, round, size, units, span, climb, le, of_int, in_float, of_fields, of_bits}
use lib.Ieee.Fits.{down_pos}
use lib.Ieee.Exact.{HasValue}
use lib.Ieee.Back.{round_whole, unsigned_back}
use lib.Ieee.Order.{round_mono}
use lib.Ieee.Scale.{round_same}
use lib.Ieee.Bits.{is_true, is_false}
use Rattle.numbers_spec.specs.Arithmetic.{◌⊕◌, one}
use Rattle.numbers_spec.specs.Exponential.{two_to, bias, field_most}
use Rattle.numbers_spec.specs.ExpLaws.{PowerOfTwo}
use Rattle.numbers_spec.proofs.Order.{P, N}
use Rattle.numbers_spec.proofs.Rounding.{Is, Rounded}
use Rattle.numbers_spec.proofs.Sums.{add_rounded}

-- ---- the constants
pub bias_is : bias ≡ fin false 1023 (pos 0)
unfolding of_bits of_fields odd count_trailing_zeros
bias_is = refl

most_is : field_most ≡ of_int binary64 (pos 2046)
unfolding of_bits of_fields odd count_trailing_zeros of_int round units size span climb
most_is = refl

one_is : one ≡ of_int binary64 (pos 1)
unfolding odd count_trailing_zeros of_int round units size span climb
one_is = refl

-- ---- the field: ±n + 1023, not rounded
-- a sum whose exact value a / c is above zero
positive_sum : (f : Format) (p q c a : ℕ) (z : Float) → Rounded f p q c z → 0 < a → a + q ≡ p → z ≡ round f false a c
positive_sum f p q c a z u A h = u.rounded ∙ go u.sign u.size u.is
  where
    go : (r : Bool) (n : ℕ) → Is r n p q → round f r n c ≡ round f false a c
    go true n k = absurd (lt_irrefl 0 (omega arith))
    go false n k = ap (λ (x : ℕ). round f false x c) (omega arith)

field_of : (x : Float) (s : Bool) (n j : ℕ) → HasValue x s n 1 → 0 < j → P s n + 1023 ≡ j + N s n → x ⊕ fin false 1023 (pos 0) ≡ of_int binary64 (pos j)
unfolding of_int
field_of nan s n j v J h = absurd v
field_of (inf t) s n j v J h = absurd v
field_of (fin t m e) s n j v J h =
    positive_sum binary64 _ _ (down e * 1) (j * down e) _ (add_rounded binary64 (fin t m e) (fin false 1023 (pos 0)) tt tt) (mul-pos J (down_pos e)) (exact t s (m * up e) v.0 v.1 h)
    ∙ round_same binary64 false (j * down e) (down e * 1) j 1 (mul-pos (down_pos e) (lit< tt)) (lit< tt) (omega arith)
  where
    exact : (t s : Bool) (a : ℕ) → t ≡ s → a * 1 ≡ n * down e → P s n + 1023 ≡ j + N s n → j * down e + (N t a * 1 + 0 * down e) ≡ P t a * 1 + 1023 * 1 * down e
    exact true true a u v h = let w : 1023 * down e ≡ (j + n) * down e = ap (λ (x : ℕ). x * down e) (omega arith) in omega arith
    exact false false a u v h = let w : (n + 1023) * down e ≡ j * down e = ap (λ (x : ℕ). x * down e) (omega arith) in omega arith
    exact true false a u v h = let z : ◌≡◌ {A = ℕ} 0 1 = cc in omega arith
    exact false true a u v h = let z : ◌≡◌ {A = ℕ} 0 1 = cc in omega arith

-- ---- the bits of a field and no digits below it
no_leb : (a b : ℕ) → b < a → leb a b ≡ false
no_leb a b h = is_false (leb a b) (not_T (leb a b) (λ t. let x = leb→le a b t in lt_irrefl b (omega arith)))

no_eqb : (a b : ℕ) → b < a → eqb b a ≡ false
no_eqb a b h = is_false (eqb b a) (not_T (eqb b a) (λ t. let x = eqb→eq b a t in lt_irrefl b (omega arith)))

bits_of : (i : ℕ) → i < 2046 → of_bits binary64 (suc i * 4503599627370496) ≡ fin false 1 (minus (i + 52) 1074)
unfolding of_bits of_fields odd count_trailing_zeros
bits_of i h =
    let b : suc i * 4503599627370496 % 9223372036854775808 / 4503599627370496 ≡ suc i = omega arith in
    let d : suc i * 4503599627370496 % 4503599627370496 ≡ 0 = omega arith in
    rw (no_leb 9223372036854775808 (suc i * 4503599627370496) (omega arith), b, d, no_eqb 2047 (suc i) (omega arith)) refl

minus_up : (a n : ℕ) → a ≡ n + 1074 → minus a 1074 ≡ pos n
minus_up a n h = rw (is_true (leb 1074 a) (le→leb 1074 a (omega arith))) (ap pos (omega arith))

minus_down : (a n : ℕ) → a + suc n ≡ 1074 → minus a 1074 ≡ negsuc n
minus_down a n h = rw (no_leb 1074 a (omega arith)) (ap negsuc (omega arith))

-- ---- so for every field from 1 to 2046
field_two : (k : Float) (i : ℕ) → i < 2046 → k ⊕ fin false 1023 (pos 0) ≡ of_int binary64 (pos (suc i)) → two_to k ≡ fin false 1 (minus (i + 52) 1074)
unfolding two_to
field_two k i h e =
    rw (bias_is, e, is_true (le one (of_int binary64 (pos (suc i)))) low, is_true (le (of_int binary64 (pos (suc i))) field_most) high, (unsigned_back binary64 64 (suc i) small (omega arith)).1) (bits_of i h)
  where
    low : T (le one (of_int binary64 (pos (suc i))))
    low = rw one_is (unfold of_int in round_mono binary64 1 1 (suc i) 1 (lit< tt) (lit< tt) (omega arith))

    high : T (le (of_int binary64 (pos (suc i))) field_most)
    high = rw most_is (unfold of_int in round_mono binary64 (suc i) 1 2046 1 (lit< tt) (lit< tt) (omega arith))

    small : T (in_float binary64 (pos (suc i)))
    small = unfold in_float in le→leb (suc i) 9007199254740992 (omega arith)

-- ---- and for ±n as a float, -0 among them
abbrev pub signed : Bool → ℕ → ℤ
signed true n = neg_ℤ (pos n)
signed false n = pos n

at_field : (s : Bool) (n i : ℕ) → n ≤ 1023 → i < 2046 → P s n + 1022 ≡ i + N s n → two_to (round binary64 s n 1) ≡ fin false 1 (minus (i + 52) 1074)
at_field s n i small h e =
    field_two (round binary64 s n 1) i h (field_of (round binary64 s n 1) s n (suc i) (round_whole binary64 s n (le_trans small (lit≤ tt))) (omega arith) (omega arith))

pub two_to_whole : (s : Bool) (n : ℕ) → n ≤ cond s 1022 1023 → two_to (round binary64 s n 1) ≡ fin false 1 (signed s n)
two_to_whole false n h = at_field false n (n + 1022) h (omega arith) (omega arith) ∙ ap (λ (e : ℤ). fin false 1 e) (minus_up (n + 1022 + 52) n (omega arith))
two_to_whole true zero h = at_field true 0 1022 (omega arith) (omega arith) (omega arith)
two_to_whole true (suc n) h = at_field true (suc n) (1021 - n) (omega arith) (omega arith) (omega arith) ∙ ap (λ (e : ℤ). fin false 1 e) (minus_down (1021 - n + 52) n (omega arith))

pub power_of_two : PowerOfTwo
power_of_two (pos n) h = unfold of_int in two_to_whole false n h
power_of_two (negsuc n) h = unfold of_int in two_to_whole true (suc n) h
