-- How many digits the nearest f32 drops, and what it keeps. Assumes nothing.
use Rattle.std.proofs.Common.{◌≡◌, ℕ, zero, suc, ◌+◌, ◌-◌, ◌*◌, ◌^◌, ◌<◌, ◌≤◌, sym, refl, ap, ◌∙◌, subst, inl, inr, ⊎_elim, zero-le, le_trans, le_of_eq, lt_of_lt_of_le, lt_of_le_of_lt, le_of_lt, mul-le-mul_right, mul_assoc, lt_of_not-le, not-le_of_lt, arith, lit≤, pow_pos, pow_mono, pow-add, shl_lt}
use native.Mathlib.Nat.{pow-succ'}
use lib.Count.{count_leading_zeros, leading_length}
use lib.Ieee.Nearest.{closest, closest_same}
use Rattle.numbers.specs.Parts.{Dropped}
use Rattle.numbers_spec.proofs.Encode.{closest_small}

pow_lt_back : (a b : ℕ) → 2 ^ a < 2 ^ b → a < b
pow_lt_back a b h = lt_of_not-le (λ (g : b ≤ a). not-le_of_lt h (pow_mono g))

shift_lt : (sig m e l : ℕ) → sig < 2 ^ m → sig * 2 ^ e * 2 ^ l < 2 ^ (m + e + l)
shift_lt sig m e l h = shl_lt (m + e) l (shl_lt m e h)

shift_ge : (sig j e l : ℕ) → 2 ^ j ≤ sig → 2 ^ (j + e + l) ≤ sig * 2 ^ e * 2 ^ l
shift_ge sig j e l h =
    le_trans (le_of_eq (pow-add 2 (j + e) l ∙ ap (λ (x : ℕ). x * 2 ^ l) (pow-add 2 j e))) (mul-le-mul_right (2 ^ l) (mul-le-mul_right (2 ^ e) h))

half_of : (p q s : ℕ) → p ≡ 2 * q → p ≤ 2 * s + 1 → q ≤ s
half_of p q s e h = omega arith

pred_pow : (m s : ℕ) → 0 < m → 2 ^ m ≤ 2 * s + 1 → 2 ^ (m - 1) ≤ s
pred_pow m s h l = half_of (2 ^ m) (2 ^ (m - 1)) s (ap (λ (x : ℕ). 2 ^ x) (up m h) ∙ pow-succ' 2 (m - 1)) l
  where
    up : (k : ℕ) → 0 < k → k ≡ suc (k - 1)
    up k g = omega arith

few : (p s : ℕ) → p ≤ 2 * s + 1 → s < 9007199254740992 → p < 18014398509481984
few p s h l = omega arith

module _ (sig exp : ℕ) (S : sig < 2 ^ 53) (E : exp ≤ 2045) (F : 0 < exp → 2 ^ 52 ≤ sig) where
  pub wide : sig < 2 ^ 64
  wide = lt_of_lt_of_le S (lit≤ tt)

  abbrev pub M : ℕ
  M = (leading_length 64 sig wide).0

  -- the digits as the code has them
  pub digits : 64 - count_leading_zeros 64 sig ≡ M
  digits = off (count_leading_zeros 64 sig) M (leading_length 64 sig wide).1
    where
      off : (z m : ℕ) → z + m ≡ 64 → 64 - z ≡ m
      off z m e = omega arith

  pub M-le : M ≤ 53
  M-le = cut M (pow_lt_back M 54 (few (2 ^ M) sig (leading_length 64 sig wide).3 S))
    where
      cut : (m : ℕ) → m < 54 → m ≤ 53
      cut m h = omega arith

  M-ge : 0 < exp → 52 < M
  M-ge h = pow_lt_back 52 M (lt_of_le_of_lt (F h) (leading_length 64 sig wide).2)

  over : 949 < exp + M → Dropped sig exp (exp + M - 949)
  over h =
      let r = exp + M - 949 in
      let ep : 0 < exp = pos exp M h M-le in
      record {
        below = lt_of_lt_of_le (shift_lt sig M exp 149 (leading_length 64 sig wide).2) (le_of_eq (ap (λ (x : ℕ). 2 ^ x) (top exp M h) ∙ pow-add 2 (24 + r) 1074));
        least = inr (le_trans (le_of_eq (sym (pow-add 2 (23 + r) 1074) ∙ ap (λ (x : ℕ). 2 ^ x) (bottom exp M h (M-ge ep)))) (shift_ge sig (M - 1) exp 149 (pred_pow M sig (some M (M-ge ep)) (leading_length 64 sig wide).3)));
        gap = gapped exp M h (M-ge ep);
        small = less exp M E M-le;
      }
    where
      pos : (e m : ℕ) → 949 < e + m → m ≤ 53 → 0 < e
      pos e m a b = omega arith

      top : (e m : ℕ) → 949 < e + m → m + e + 149 ≡ 24 + (e + m - 949) + 1074
      top e m a = omega arith

      bottom : (e m : ℕ) → 949 < e + m → 52 < m → 23 + (e + m - 949) + 1074 ≡ m - 1 + e + 149
      bottom e m a b = omega arith

      some : (m : ℕ) → 52 < m → 0 < m
      some m a = omega arith

      gapped : (e m : ℕ) → 949 < e + m → 52 < m → e + 29 ≤ 925 + (e + m - 949)
      gapped e m a b = omega arith

      less : (e m : ℕ) → e ≤ 2045 → m ≤ 53 → e + m - 949 ≤ 2045
      less e m a b = omega arith

  under : exp + M ≤ 949 → Dropped sig exp 0
  under h = record {
    below = lt_of_lt_of_le (shift_lt sig M exp 149 (leading_length 64 sig wide).2) (le_trans (pow_mono (top exp M h)) (le_of_eq (pow-add 2 24 1074)));
    least = inl refl;
    gap = gapped exp M h M-ge;
    small = zero-le;
  }
    where
      top : (e m : ℕ) → e + m ≤ 949 → m + e + 149 ≤ 1098
      top e m a = omega arith

      gapped : (e m : ℕ) → e + m ≤ 949 → (0 < e → 52 < m) → e + 29 ≤ 925
      gapped zero m a b = lit≤ tt
      gapped (suc e) m a b = go (suc e) a (b (native.Mathlib.Nat.zero-lt-suc e))
        where
          go : (k : ℕ) → k + m ≤ 949 → 52 < m → k + 29 ≤ 925
          go k x y = omega arith

  -- the digits dropped, as the code works them out
  pub dropped_is : Dropped sig exp (exp + (64 - count_leading_zeros 64 sig) - 949)
  dropped_is = subst (λ (m : ℕ). Dropped sig exp (exp + m - 949)) (sym digits) (⊎_elim none some (native.Mathlib.Nat.eq-zero-or-pos (exp + M - 949)))
    where
      none : exp + M - 949 ≡ 0 → Dropped sig exp (exp + M - 949)
      none h = subst (Dropped sig exp) (sym h) (under (omega arith))

      some : 0 < exp + M - 949 → Dropped sig exp (exp + M - 949)
      some h = over (omega arith)

-- a significand of 53 digits, and a normal result
pub normal : (sig exp : ℕ) → sig < 2 ^ 53 → 2 ^ 52 ≤ sig → 896 ≤ exp → exp ≤ 2045 → Dropped sig exp (exp - 896)
normal sig exp S F h E = record {
  below = lt_of_lt_of_le (shift_lt sig 53 exp 149 S) (le_of_eq (ap (λ (x : ℕ). 2 ^ x) (top exp h) ∙ pow-add 2 (24 + (exp - 896)) 1074));
  least = inr (le_trans (le_of_eq (sym (pow-add 2 (23 + (exp - 896)) 1074) ∙ ap (λ (x : ℕ). 2 ^ x) (bottom exp h))) (shift_ge sig 52 exp 149 F));
  gap = gapped exp h;
  small = less exp E;
}
  where
    top : (e : ℕ) → 896 ≤ e → 53 + e + 149 ≡ 24 + (e - 896) + 1074
    top e a = omega arith

    bottom : (e : ℕ) → 896 ≤ e → 23 + (e - 896) + 1074 ≡ 52 + e + 149
    bottom e a = omega arith

    gapped : (e : ℕ) → 896 ≤ e → e + 29 ≤ 925 + (e - 896)
    gapped e a = omega arith

    less : (e : ℕ) → e ≤ 2045 → e - 896 ≤ 2045
    less e a = omega arith

-- what is kept
line : (s a b g p r : ℕ) → a + b + g ≡ p + r → s * 2 ^ a * 2 ^ b * 2 ^ g ≡ s * (2 ^ p * 2 ^ r)
line s a b g p r e =
    ap (λ (x : ℕ). x * 2 ^ g) (mul_assoc s (2 ^ a) (2 ^ b) ∙ ap (λ (x : ℕ). s * x) (sym (pow-add 2 a b)))
    ∙ mul_assoc s (2 ^ (a + b)) (2 ^ g)
    ∙ ap (λ (x : ℕ). s * x) (sym (pow-add 2 (a + b) g) ∙ ap (λ (x : ℕ). 2 ^ x) e ∙ pow-add 2 p r)

meet : (e r : ℕ) → e + 29 ≤ 925 + r → e + 149 + (925 + r - e) ≡ 1074 + r
meet e r h = omega arith

pub kept : (sig exp r : ℕ) → exp + 29 ≤ 925 + r → closest (sig * 2 ^ exp * 2 ^ 149) (2 ^ 1074 * 2 ^ r) ≡ closest sig (2 ^ (925 + r - exp))
kept sig exp r h =
    closest_same (sig * 2 ^ exp * 2 ^ 149) (2 ^ 1074 * 2 ^ r) sig (2 ^ (925 + r - exp)) (native.Mathlib.Nat.mul-pos (pow_pos 1074) (pow_pos r)) (pow_pos (925 + r - exp))
    (line sig exp 149 (925 + r - exp) 1074 r (meet exp r h))

pub kept_none : (sig g : ℕ) → sig < 2 ^ 53 → 63 < g → closest sig (2 ^ g) ≡ 0
kept_none sig g h l = closest_small sig (2 ^ g) (lt_of_lt_of_le (twice sig h) (pow_mono (le_of_lt l)))
  where
    twice : (a : ℕ) → a < 9007199254740992 → a * 2 < 9223372036854775808
    twice a k = omega arith
