-- The whole number nearest to a value, from its parts. Assumes nothing.
use Rattle.std.proofs.Common.{◌≡◌, ℕ, suc, ◌+◌, ◌-◌, ◌*◌, ◌/◌, ◌%◌, ◌^◌, ◌<◌, ◌≤◌, Bool, false, T, sym, refl, ap, ◌∙◌, subst, le_of_eq, lt_of_lt_of_le, lt_of_le_of_lt, zero-lt-suc, mul_assoc, div-lt_iff_lt-mul, mul-pos, mul-one, mul_right_comm, arith, pow_pos, pow_mono, pow-add, shl_lt}
use native.Mathlib.Nat.{eq_of_mul-eq-mul_right, div-eq_of_lt, zero-mod, zero-div}
use lib.Ieee.{Float, nan, inf, fin, binary64, up, down, round, fits}
use lib.Ieee.Scale.{finite}
use lib.Ieee.Fits.{round-fits, down_pos}
use lib.Ieee.Exact.{HasValue, round_exact}
use lib.Ieee.Nearest.{div_same}
use Rattle.numbers.specs.declared.parts.Parts.{Parts}
use Rattle.numbers_spec.specs.Whole.{half_up, whole_nearest}
use Rattle.numbers_spec.proofs.Encode.{same_value}
use Rattle.numbers_spec.proofs.Value.{same_fraction}

-- ---- a value of the format rounds to itself
round_own : (x : Float) (p : Parts) (num den : ℕ) → T (fits binary64 x) → HasValue x p.minus (p.sig * 2 ^ p.exp) (2 ^ 1074) → 0 < den → num * 2 ^ 1074 ≡ p.sig * 2 ^ p.exp * den
    → round binary64 p.minus num den ≡ x
round_own x p num den F v D e =
    same_value binary64 (round binary64 p.minus num den) x p.minus (p.sig * 2 ^ p.exp) (round-fits binary64 p.minus num den) F
    (same_fraction (round binary64 p.minus num den) p.minus num den (p.sig * 2 ^ p.exp) (2 ^ 1074) D (sym e) (round_exact binary64 p.minus num den p.sig p.exp D p.sig_lt under e))
    v
  where
    under : p.sig * 2 ^ p.exp < 2 ^ 2098
    under = lt_of_lt_of_le (shl_lt 53 p.exp p.sig_lt) (pow_mono (top p.exp p.exp_le))
      where
        top : (k : ℕ) → k ≤ 2045 → 53 + k ≤ 2098
        top k h = omega arith

-- ---- equal fractions
half_up_same : (X D s c : ℕ) → 0 < D → 0 < c → X * c ≡ s * D → half_up X D ≡ half_up s c
half_up_same X D s c P Q e = div_same (2 * X + D) (2 * D) (2 * s + c) (2 * c) (mul-pos (zero-lt-suc 1) P) (mul-pos (zero-lt-suc 1) Q) (omega arith)

-- ---- a value below 2 ^ 53 in units, with a fraction of g digits
apart : (e : ℕ) → e < 1074 → 1074 - e + e ≡ 1074
apart e h = omega arith

cross : (X D sig exp : ℕ) → exp < 1074 → X * 2 ^ 1074 ≡ sig * 2 ^ exp * D → X * 2 ^ (1074 - exp) ≡ sig * D
cross X D sig exp h e =
    eq_of_mul-eq-mul_right (2 ^ exp) (pow_pos exp) (X * 2 ^ (1074 - exp)) (sig * D)
    (mul_assoc X (2 ^ (1074 - exp)) (2 ^ exp) ∙ ap (λ (z : ℕ). X * z) (sym (pow-add 2 (1074 - exp) exp) ∙ ap (λ (z : ℕ). 2 ^ z) (apart exp h)) ∙ e ∙ mul_right_comm sig (2 ^ exp) D)

-- ---- rounding to the nearest whole number
half_up_whole : (n : ℕ) → half_up n 1 ≡ n
half_up_whole n = omega arith

-- what is not finite is given back
pub other : (x : Float) → finite x ≡ false → x ≡ whole_nearest x
unfolding whole_nearest
other nan h = refl
other (inf s) h = refl
other (fin s m e) h = absurd (mathlib.Core.Bool.true≢false h)

whole_cross : (X D sig exp : ℕ) → 1074 ≤ exp → X * 2 ^ 1074 ≡ sig * 2 ^ exp * D → X ≡ sig * 2 ^ (exp - 1074) * D
whole_cross X D sig exp h e =
    eq_of_mul-eq-mul_right (2 ^ 1074) (pow_pos 1074) X (sig * 2 ^ (exp - 1074) * D)
    (e ∙ ap (λ (z : ℕ). sig * z * D) (ap (λ (z : ℕ). 2 ^ z) (sym (back exp h)) ∙ pow-add 2 (exp - 1074) 1074) ∙ ap (λ (z : ℕ). z * D) (sym (mul_assoc sig (2 ^ (exp - 1074)) (2 ^ 1074))) ∙ mul_right_comm (sig * 2 ^ (exp - 1074)) (2 ^ 1074) D)
  where
    back : (k : ℕ) → 1074 ≤ k → k - 1074 + 1074 ≡ k
    back k g = omega arith

module _ (x : Float) (p : Parts) (V : HasValue x p.minus (p.sig * 2 ^ p.exp) (2 ^ 1074)) where
  -- where x has a fraction, sig / 2 ^ (1074 - exp) is rounded
  pub rounds_small : p.exp < 1074 → {k : ℕ} {y : Float} → y ≡ round binary64 p.minus k 1 → k ≡ half_up p.sig (2 ^ (1074 - p.exp)) → y ≡ whole_nearest x
  unfolding whole_nearest
  rounds_small h {k} a e = a ∙ ap (λ (n : ℕ). round binary64 p.minus n 1) e ∙ go x V
    where
      c : ℕ
      c = 2 ^ (1074 - p.exp)

      go : (y : Float) → HasValue y p.minus (p.sig * 2 ^ p.exp) (2 ^ 1074) → round binary64 p.minus (half_up p.sig c) 1 ≡ whole_nearest y
      go nan v = absurd v
      go (inf t) v = absurd v
      go (fin t m e) v =
          ap (λ (b : Bool). round binary64 b (half_up p.sig c) 1) (sym v.0)
          ∙ ap (λ (n : ℕ). round binary64 t n 1) (sym (half_up_same (m * up e) (down e) p.sig c (down_pos e) (pow_pos (1074 - p.exp)) (cross (m * up e) (down e) p.sig p.exp h v.1)))

  -- where it has none, it is given back
  pub rounds_large : 1074 ≤ p.exp → T (fits binary64 x) → x ≡ whole_nearest x
  unfolding whole_nearest
  rounds_large h F = go x F V
    where
      W : ℕ
      W = p.sig * 2 ^ (p.exp - 1074)

      back : (k : ℕ) → 1074 ≤ k → k - 1074 + 1074 ≡ k
      back k j = omega arith

      scaled : W * 2 ^ 1074 ≡ p.sig * 2 ^ p.exp * 1
      scaled = mul_assoc p.sig (2 ^ (p.exp - 1074)) (2 ^ 1074) ∙ ap (λ (z : ℕ). p.sig * z) (sym (pow-add 2 (p.exp - 1074) 1074) ∙ ap (λ (z : ℕ). 2 ^ z) (back p.exp h)) ∙ sym (mul-one (p.sig * 2 ^ p.exp))

      go : (y : Float) → T (fits binary64 y) → HasValue y p.minus (p.sig * 2 ^ p.exp) (2 ^ 1074) → y ≡ whole_nearest y
      go nan F v = refl
      go (inf t) F v = refl
      go (fin t m e) F v =
          let n = m * up e in
          let w : n * 1 ≡ W * down e = mul-one n ∙ whole_cross n (down e) p.sig p.exp h v.1 in
          sym (round_own (fin t m e) p W 1 F v (zero-lt-suc 0) scaled)
          ∙ ap (λ (b : Bool). round binary64 b W 1) (sym v.0)
          ∙ ap (λ (n : ℕ). round binary64 t n 1) (sym (half_up_same n (down e) W 1 (down_pos e) (zero-lt-suc 0) w ∙ half_up_whole W))

more : (s c : ℕ) → 0 < c → 2 * s + c < (s + 2) * (2 * c)
more s c h =
    let g : s ≤ s * c = native.Mathlib.Nat.le-mul_of_pos_right s h in
    omega arith

pub half_up_le : (s c : ℕ) → 0 < c → s < 9007199254740992 → half_up s c ≤ 9007199254740992
half_up_le s c h l = cap (half_up s c) s ((div-lt_iff_lt-mul (mul-pos (zero-lt-suc 1) h)).1 (more s c h)) l
  where
    cap : (k n : ℕ) → k < n + 2 → n < 9007199254740992 → k ≤ 9007199254740992
    cap k n a b = omega arith

-- ---- as the code has them
pub half_none : (s g : ℕ) → s < 9007199254740992 → 63 < g → 0 ≡ half_up s (2 ^ g)
half_none s g h l = sym (div-eq_of_lt (small s (2 ^ g) h (pow_mono (native.Mathlib.Nat.le_of_lt l))))
  where
    small : (a c : ℕ) → a < 9007199254740992 → 9223372036854775808 ≤ c → 2 * a + c < 2 * c
    small a c x y = omega arith

half_shape : (s h : ℕ) → (s + h) * (2 * (2 * h)) ≡ (2 * s + 2 * h) * (2 * h)
half_shape s h = omega arith

pub half_shift : (s g : ℕ) → 0 < g → g ≤ 63 → (s + (1 * 2 ^ (g - 1)) % 2 ^ 64) / 2 ^ g ≡ half_up s (2 ^ g)
half_shift s g h l =
    let p = 2 ^ (g - 1) in
    let t : 2 ^ g ≡ 2 * p = ap (λ (x : ℕ). 2 ^ x) (back g h) ∙ native.Mathlib.Nat.pow-succ' 2 (g - 1) in
    let one : (1 * p) % 2 ^ 64 ≡ p = ap (λ (x : ℕ). x % 2 ^ 64) (native.Mathlib.Nat.one-mul p) ∙ native.Mathlib.Nat.mod-eq_of_lt (lib.Pow.pow-lt (less g l)) in
    ap (λ (x : ℕ). (s + x) / 2 ^ g) one
    ∙ div_same (s + p) (2 ^ g) (2 * s + 2 ^ g) (2 * 2 ^ g) (pow_pos g) (mul-pos (zero-lt-suc 1) (pow_pos g))
    (subst (λ (x : ℕ). (s + p) * (2 * x) ≡ (2 * s + x) * x) (sym t) (half_shape s p))
  where
    back : (k : ℕ) → 0 < k → k ≡ suc (k - 1)
    back k a = omega arith

    less : (k : ℕ) → k ≤ 63 → k - 1 < 64
    less k a = omega arith

pub half_fits : (s g : ℕ) → s < 9007199254740992 → g ≤ 63 → s + (1 * 2 ^ (g - 1)) % 2 ^ 64 < 18446744073709551616
half_fits s g h l = sum s ((1 * 2 ^ (g - 1)) % 2 ^ 64) h (lt_of_le_of_lt (native.Mathlib.Nat.mod-le (1 * 2 ^ (g - 1)) (2 ^ 64)) (lt_of_le_of_lt (le_of_eq (native.Mathlib.Nat.one-mul (2 ^ (g - 1)))) (lib.Pow.pow-lt (less g l))))
  where
    less : (k : ℕ) → k ≤ 63 → k - 1 < 63
    less k a = omega arith

    sum : (a b : ℕ) → a < 9007199254740992 → b < 9223372036854775808 → a + b < 18446744073709551616
    sum a b x y = omega arith
