-- A plain number above zero by its pattern, and what the sum makes of that: the pattern of the nearest f32. Assumes nothing.
use Rattle.std.proofs.Common.{◌≡◌, ℕ, zero, suc, ◌+◌, ◌-◌, ◌*◌, ◌/◌, ◌%◌, ◌^◌, ◌<◌, ◌≤◌, Bool, true, false, not, ◌&&◌, ◌||◌, T, eqb, leb, ◌⊎◌, sym, refl, ap, ◌∙◌, subst, inl, inr, le_trans, le_of_eq, lt_of_lt_of_le, le_of_suc-le-suc, lt_of_le_of_lt, mul-le-mul_right, mod-lt, lt_of_not-le, not-le_of_lt, le_of_mul-le-mul_right, arith, lit<, lit≤, eqb→eq, pow_pos, pow_mono, pow-add, shl_lt}
use lib.Dec.{nleb→lt}
use lib.Ieee.{Float, binary32, binary64, fits, le, of_bits, round, to_bits}
use lib.Ieee.Bits.{of_bits-to_bits}
use lib.Ieee.Exact.{HasValue, odd_sign}
use lib.Ieee.Nearest.{closest}
use lib.Ieee.Positive.{between, positive, positive-finite, values_of_le}
use Rattle.numbers.specs.Plain.{Plain, plain, normal_least, normal_most}
use Rattle.numbers_spec.specs.Arithmetic.{zero⁺}
use Rattle.numbers_spec.specs.Narrow.{by_sum}
use Rattle.numbers_spec.specs.Values.{Units}
use Rattle.numbers_spec.proofs.BySum.{sum_closest}
use Rattle.numbers_spec.proofs.Order.{positive_sign}
use Rattle.numbers_spec.proofs.Value.{value_low, value_high}
use Rattle.numbers.proofs.narrow.Drop.{normal}
use Rattle.numbers.proofs.narrow.Patterns.{under}

-- ---- the ends, as digits times a power of two
least_plus : T (positive normal_least)
unfolding of_bits
least_plus = tt

most_plus : T (positive normal_most)
unfolding of_bits
most_plus = tt

least_is : Units binary64 normal_least false (4503599627370496 * 2 ^ 896)
unfolding of_bits
least_is = odd_sign 53 false 4503599627370496 896 1074

most_is : Units binary64 normal_most false (9007198717870080 * 2 ^ 1149)
unfolding of_bits
most_is = odd_sign 53 false 9007198717870080 1149 1074

-- ---- the two kinds of plain numbers
abbrev pub Kind : Float → Type 0
Kind x = (x ≡ zero⁺) ⊎ (T (le normal_least x) × T (le x normal_most))

-- no pattern but that of +0 is 0
pub no_bits : (x : Float) → T (fits binary64 x) → to_bits binary64 x ≡ 0 → x ≡ zero⁺
unfolding of_bits
no_bits x F e = sym (of_bits-to_bits binary64 x F) ∙ ap (of_bits binary64) e

pub kind : (x : Float) → T (fits binary64 x) → Plain x → Kind x
unfolding plain
kind x F = go (le normal_least x) (le x normal_most) (eqb (to_bits binary64 x) 0) (eqb→eq (to_bits binary64 x) 0)
  where
    go : (a b d : Bool) → (T d → to_bits binary64 x ≡ 0) → T ((a && b) || d) → (x ≡ zero⁺) ⊎ (T a × T b)
    go true true d e h = inr (tt, tt)
    go true false d e h = inl (no_bits x F (e h))
    go false b d e h = inl (no_bits x F (e h))

-- ---- a number between them
-- x is sig * 2 ^ exp units, its f32 is normal, and its pattern is made of both
pub record Whole (x : Float) : Type 0 where
  pub sig : ℕ
  pub exp : ℕ
  pub value : HasValue x false (sig * 2 ^ exp) (2 ^ 1074)
  pub bits : to_bits binary64 x ≡ exp * 2 ^ 52 + sig
  pub sig_lt : sig < 2 ^ 53
  pub sig_ge : 2 ^ 52 ≤ sig
  pub exp_ge : 896 ≤ exp
  pub exp_le : exp ≤ 1149

module _ (x : Float) (F : T (fits binary64 x)) (low : T (le normal_least x)) (high : T (le x normal_most)) where
  pub plus : T (positive x)
  plus = between normal_least x normal_most least_plus most_plus low high

  abbrev B : ℕ
  B = to_bits binary64 x

  abbrev sign : Bool
  sign = leb 9223372036854775808 B

  -- its size, however it is found
  module _ (a : ℕ) (v : HasValue x sign a (2 ^ 1074)) where
    no_sign : sign ≡ false
    no_sign = positive_sign x sign a (2 ^ 1074) plus v

    own : HasValue x false a (2 ^ 1074)
    own = subst (λ (s : Bool). HasValue x s a (2 ^ 1074)) no_sign v

    small : B < 9223372036854775808
    small = nleb→lt 9223372036854775808 B (subst (λ (s : Bool). T (not s)) (sym no_sign) tt)

    from_least : 4503599627370496 * 2 ^ 896 ≤ a
    from_least = le_of_mul-le-mul_right (values_of_le normal_least x _ (2 ^ 1074) a (2 ^ 1074) least_plus plus least_is own low) (pow_pos 1074)

    to_most : a ≤ 9007198717870080 * 2 ^ 1149
    to_most = le_of_mul-le-mul_right (values_of_le x normal_most a (2 ^ 1074) _ (2 ^ 1074) plus most_plus own most_is high) (pow_pos 1074)

  -- a field of 0 is that of a number below 2 ^ 52 units
  subnormal : B / 4503599627370496 % 2048 ≡ 0 → ⊥
  subnormal e =
      let v = value_low x F (positive-finite x plus) e in
      let t = B % 4503599627370496 in
      not-le_of_lt (shl_lt 52 0 (mod-lt B (lit< tt))) (le_trans (lit≤ tt) (from_least (t * 2 ^ 0) v))

  placed : (j : ℕ) → B / 4503599627370496 % 2048 ≡ suc j → Whole x
  placed j e =
      let v = value_high x F (positive-finite x plus) j e in
      let t = B % 4503599627370496 in
      let sig = 4503599627370496 + t in
      let rest : t < 4503599627370496 = mod-lt B (lit< tt) in
      let lt : sig < 2 ^ 53 = omega arith in
      let lo = from_least (sig * 2 ^ j) v in
      let hi = to_most (sig * 2 ^ j) v in
      let under = small (sig * 2 ^ j) v in
      record {
        sig = sig;
        exp = j;
        value = own (sig * 2 ^ j) v;
        bits = omega arith;
        sig_lt = lt;
        sig_ge = omega arith;
        exp_ge = lt_of_not-le (λ (g : j ≤ 895). not-le_of_lt (lt_of_lt_of_le (shl_lt 53 j lt) (pow_mono (up j g))) (le_trans (lit≤ tt) lo));
        exp_le = le_of_suc-le-suc (lt_of_not-le (λ (g : 1150 ≤ j). not-le_of_lt (lt_of_le_of_lt hi (lit< tt)) (le_trans (pow_mono (down j g)) (le_trans (le_of_eq (pow-add 2 52 j)) (mul-le-mul_right (2 ^ j) (omega arith))))));
      }
    where
      up : (j : ℕ) → j ≤ 895 → 53 + j ≤ 948
      up j g = omega arith

      down : (j : ℕ) → 1150 ≤ j → 1202 ≤ 52 + j
      down j g = omega arith

  pub whole : Whole x
  whole = go (B / 4503599627370496 % 2048) refl
    where
      go : (k : ℕ) → B / 4503599627370496 % 2048 ≡ k → Whole x
      go zero e = absurd (subnormal e)
      go (suc j) e = placed j e

-- ---- the sum of the whole pattern
-- the exponent is a multiple of twice 2 ^ 29: it changes neither the rest nor the last digit kept
summed : (sig exp : ℕ) → closest (exp * 2 ^ 52 + sig) (2 ^ 29) ≡ exp * 2 ^ 23 + closest sig (2 ^ 29)
unfolding by_sum
summed sig exp =
    sym (sum_closest 29 (exp * 2 ^ 52 + sig) (lit≤ tt))
    ∙ carried
    ∙ ap (λ (k : ℕ). exp * 2 ^ 23 + k) (sum_closest 29 sig (lit≤ tt))
  where
    quotient : (e a : ℕ) → (e * 2 ^ 52 + a) / 536870912 ≡ e * 2 ^ 23 + a / 536870912
    quotient e a = omega arith

    last : (e q : ℕ) → (e * 2 ^ 23 + q) % 2 ≡ q % 2
    last e q = omega arith

    order : (e a h z : ℕ) → e * 2 ^ 52 + a + h + z ≡ e * 2 ^ 52 + (a + h + z)
    order e a h z = omega arith

    carried : by_sum 29 (exp * 2 ^ 52 + sig) ≡ exp * 2 ^ 23 + by_sum 29 sig
    carried =
        ap (λ (z : ℕ). (exp * 2 ^ 52 + sig + 268435455 + z) / 536870912) (ap (λ (q : ℕ). q % 2) (quotient exp sig) ∙ last exp (sig / 536870912))
        ∙ ap (λ (n : ℕ). n / 536870912) (order exp sig 268435455 (sig / 536870912 % 2))
        ∙ quotient exp (sig + 268435455 + sig / 536870912 % 2)

-- what it is, with the exponent brought to the f32's
pub plain_bits : (x : Float) (w : Whole x) → closest (to_bits binary64 x) (2 ^ 29) - 896 * 2 ^ 23 ≡ to_bits binary32 (round binary32 false (w.sig * 2 ^ w.exp) (2 ^ 1074))
plain_bits x w =
    let sig = w.sig in
    let exp = w.exp in
    let k = closest sig (2 ^ 29) in
    ap (λ (b : ℕ). closest b (2 ^ 29) - 896 * 2 ^ 23) w.bits
    ∙ ap (λ (b : ℕ). b - 896 * 2 ^ 23) (summed sig exp)
    ∙ less exp k w.exp_ge
    ∙ under false sig exp (exp - 896) 0 k (normal sig exp w.sig_lt w.sig_ge w.exp_ge (le_trans w.exp_le (lit≤ tt))) (most exp w.exp_le) refl (ap (λ (g : ℕ). closest sig (2 ^ g)) (gap exp w.exp_ge))
  where
    less : (e k : ℕ) → 896 ≤ e → e * 2 ^ 23 + k - 896 * 2 ^ 23 ≡ 0 + ((e - 896) * 8388608 + k)
    less e k h = omega arith

    most : (e : ℕ) → e ≤ 1149 → e - 896 ≤ 253
    most e h = omega arith

    gap : (e : ℕ) → 896 ≤ e → 29 ≡ 925 + (e - 896) - e
    gap e h = omega arith

pub sum_ge : (x : Float) (w : Whole x) → 896 * 2 ^ 23 ≤ closest (to_bits binary64 x) (2 ^ 29)
sum_ge x w = subst (λ (b : ℕ). 896 * 2 ^ 23 ≤ b) (sym (ap (λ (b : ℕ). closest b (2 ^ 29)) w.bits ∙ summed w.sig w.exp)) (at w.exp (closest w.sig (2 ^ 29)) w.exp_ge)
  where
    at : (e k : ℕ) → 896 ≤ e → 896 * 2 ^ 23 ≤ e * 2 ^ 23 + k
    at e k h = omega arith

pub pattern_lt : (x : Float) (w : Whole x) → to_bits binary64 x < 2 ^ 63
pattern_lt x w = subst (λ (b : ℕ). b < 2 ^ 63) (sym w.bits) (at w.sig w.exp w.sig_lt w.exp_le)
  where
    at : (s e : ℕ) → s < 2 ^ 53 → e ≤ 1149 → e * 2 ^ 52 + s < 2 ^ 63
    at s e g h = omega arith
