-- c * 2 ^ k, with c the whole number nearest to √N, of 53 digits, is nearer to √(N * 4 ^ k) than any other number of no more than 53 digits, q * 2 ^ j:
-- the middle between the two lies beyond the root, said with both sides squared and multiplied by 4. Assumes nothing.
use mathlib.Core.Path.{◌≡◌, sym, subst}
use mathlib.Core.Logic.{◌⊎◌, inl, inr}
use Prim.Native.Nat.{ℕ, suc, ◌+◌, ◌-◌, ◌*◌, ◌^◌, ◌≤◌, ◌<◌}
use native.Mathlib.Nat.{le_trans, le_of_lt, lt_of_lt_of_le, not-le_of_lt, lt_of_mul-lt-mul_right, eq-or-lt_of_le, mul-pos, mul-le-mul, mul-le-mul_right}
use native.Mathlib.Omega.{arith}
use lib.Dec.{lit<}
use lib.Pow.{pow_pos}
use Rattle.numbers_spec.specs.Root.{NearRoot}
use Rattle.numbers_spec.proofs.Encode.{spaced}

over : (c p b n : ℕ) → 0 < p → (c + 1) * p ≤ b → n ≤ c * c + c → 4 * (n * (p * p)) < (c * p + b) * (c * p + b)
over c p b n P h g =
    let s : 0 < p * p = mul-pos P P in
    let m : n * (p * p) ≤ (c * c + c) * (p * p) = mul-le-mul_right (p * p) g in
    let l : (2 * c + 1) * p ≤ c * p + b = omega arith in
    let w : (2 * c + 1) * p * ((2 * c + 1) * p) ≤ (c * p + b) * (c * p + b) = mul-le-mul l l in
    omega arith

under : (d p b n : ℕ) → 0 < p → b ≤ d * p → d * d + d < n → (suc d * p + b) * (suc d * p + b) < 4 * (n * (p * p))
under d p b n P h g =
    let s : 0 < p * p = mul-pos P P in
    let m : (d * d + d + 1) * (p * p) ≤ n * (p * p) = mul-le-mul_right (p * p) (up d n g) in
    let l : suc d * p + b ≤ (2 * d + 1) * p = omega arith in
    let w : (suc d * p + b) * (suc d * p + b) ≤ (2 * d + 1) * p * ((2 * d + 1) * p) = mul-le-mul l l in
    omega arith
  where
    up : (x y : ℕ) → x * x + x < y → x * x + x + 1 ≤ y
    up x y k = omega arith

least : (c p b n : ℕ) → 0 < p → b < c * p → c * c ≤ n → (c * p + b) * (c * p + b) < 4 * (n * (p * p))
least c p b n P h g =
    let m : c * c * (p * p) ≤ n * (p * p) = mul-le-mul_right (p * p) g in
    let l : suc (c * p + b) ≤ 2 * (c * p) = omega arith in
    let w : suc (c * p + b) * suc (c * p + b) ≤ 2 * (c * p) * (2 * (c * p)) = mul-le-mul l l in
    omega arith

module _ (n c k : ℕ) (near : NearRoot n c) (C : 4503599627370496 ≤ c) (N : 2 ^ 104 ≤ n) where
  abbrev A : ℕ
  A = c * 2 ^ k

  pub next_above : (q j : ℕ) → q < 2 ^ 53 → A < q * 2 ^ j → 4 * (n * (2 ^ k * 2 ^ k)) < (A + q * 2 ^ j) * (A + q * 2 ^ j)
  next_above q j Q h = elim (spaced 53 q j k (lit< tt) Q) [
    | inl t ↦
        let l : c < t.0 = lt_of_mul-lt-mul_right (2 ^ k) (subst (λ (x : ℕ). A < x) t.1 h) in
        over c (2 ^ k) (q * 2 ^ j) n (pow_pos k) (subst (λ (x : ℕ). (c + 1) * 2 ^ k ≤ x) (sym t.1) (mul-le-mul_right (2 ^ k) (up c t.0 l))) near.below
    | inr l ↦ absurd (not-le_of_lt (lt_of_lt_of_le h (le_of_lt l)) (mul-le-mul_right (2 ^ k) C))
  ]
    where
      up : (x y : ℕ) → x < y → x + 1 ≤ y
      up x y g = omega arith

-- below: c = suc d
smaller : (n d k q j : ℕ) → suc d * suc d < n + suc d → 4503599627370496 ≤ d → q < 2 ^ 53 → q * 2 ^ j < suc d * 2 ^ k → (suc d * 2 ^ k + q * 2 ^ j) * (suc d * 2 ^ k + q * 2 ^ j) < 4 * (n * (2 ^ k * 2 ^ k))
smaller n d k q j a D Q h = under d (2 ^ k) (q * 2 ^ j) n (pow_pos k) (within (spaced 53 q j k (lit< tt) Q)) (shrink n d a)
  where
    shrink : (m x : ℕ) → suc x * suc x < m + suc x → x * x + x < m
    shrink m x g = omega arith

    within : ((t : ℕ) × (q * 2 ^ j ≡ t * 2 ^ k)) ⊎ (q * 2 ^ j < 2 ^ 52 * 2 ^ k) → q * 2 ^ j ≤ d * 2 ^ k
    within (inl t) = subst (λ (x : ℕ). x ≤ d * 2 ^ k) (sym t.1) (mul-le-mul_right (2 ^ k) (native.Mathlib.Nat.le_of_suc-le-suc (lt_of_mul-lt-mul_right (2 ^ k) (subst (λ (x : ℕ). x < suc d * 2 ^ k) t.1 h))))
    within (inr l) = le_trans (le_of_lt l) (mul-le-mul_right (2 ^ k) D)

pub next_below : (n c k : ℕ) → NearRoot n c → 4503599627370496 ≤ c → 2 ^ 104 ≤ n → (q j : ℕ) → q < 2 ^ 53 → q * 2 ^ j < c * 2 ^ k → (c * 2 ^ k + q * 2 ^ j) * (c * 2 ^ k + q * 2 ^ j) < 4 * (n * (2 ^ k * 2 ^ k))
next_below n c k near C N q j Q h = elim (eq-or-lt_of_le C) [
  | inl e ↦ least c (2 ^ k) (q * 2 ^ j) n (pow_pos k) h (subst (λ (x : ℕ). x * x ≤ n) e N)
  | inr g ↦
      let e : suc (c - 1) ≡ c = back c g in
      subst (λ (x : ℕ). (x * 2 ^ k + q * 2 ^ j) * (x * 2 ^ k + q * 2 ^ j) < 4 * (n * (2 ^ k * 2 ^ k))) e
      (smaller n (c - 1) k q j (subst (λ (x : ℕ). x * x < n + x) (sym e) near.above) (le c g) Q (subst (λ (x : ℕ). q * 2 ^ j < x * 2 ^ k) (sym e) h))
]
  where
    back : (x : ℕ) → 4503599627370496 < x → suc (x - 1) ≡ x
    back x g = omega arith

    le : (x : ℕ) → 4503599627370496 < x → 4503599627370496 ≤ x - 1
    le x g = omega arith
