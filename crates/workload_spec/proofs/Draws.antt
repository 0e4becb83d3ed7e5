-- No draw leaves 64 bits, and from a seed above 0 none is 0: each of a step's three parts gives 0 for 0 alone. Assumes nothing.
use mathlib.Core.Path.{◌≡◌, refl, sym, ap, subst, ◌∙◌}
use mathlib.Core.Logic.{inl, inr}
use Prim.Native.Nat.{ℕ, zero, suc, ◌+◌, ◌*◌, ◌/◌, ◌%◌, ◌^◌, ◌<◌}
use native.Mathlib.Nat.{mod-lt, mod-eq_of_lt, mul-mod_left, mul-add-mod_self_right, div-add-mod', div-le_self, lt_of_le_of_lt, eq-zero-or-pos, lt_irrefl}
use native.Mathlib.Omega.{arith}
use lib.Pow.{pow_pos}
use lib.Bits.{bit_xor, xor_lt, xor_add_and, and_le_l, and_le_r}
use Rattle.workload_spec.specs.Draws.{xor_left, xor_right, step, stepped}
use Rattle.workload_spec.specs.LoadLaws.{DrawnBelow, NoneZero}

-- ---- 64 bits
left_below : (k x : ℕ) → x < 2 ^ 64 → xor_left k x < 2 ^ 64
left_below k x h = xor_lt 64 x (x * 2 ^ k % 2 ^ 64) h (mod-lt (x * 2 ^ k) (pow_pos 64))

right_below : (k x : ℕ) → x < 2 ^ 64 → xor_right k x < 2 ^ 64
right_below k x h = xor_lt 64 x (x / 2 ^ k) h (lt_of_le_of_lt (div-le_self x (2 ^ k)) h)

stepped_below : (seed k : ℕ) → seed < 2 ^ 64 → stepped seed k < 2 ^ 64
unfolding step stepped
stepped_below seed zero h = h
stepped_below seed (suc k) h = left_below 17 _ (right_below 7 _ (left_below 13 (stepped seed k) (stepped_below seed k h)))

pub drawn_below : DrawnBelow
drawn_below seed k h = stepped_below seed (suc k) h

-- ---- no 0
-- where a xor b is 0, a is b
xor_zero : (a b : ℕ) → bit_xor a b ≡ 0 → a ≡ b
xor_zero a b h = omega (arith, xor_add_and a b, and_le_l a b, and_le_r a b)

-- A left shift moves all but 0: 2 ^ k - 1 has an inverse g modulo 2 ^ 64.
left_zero : (k g j x : ℕ) → 2 ^ k * g + 1 ≡ g + j * 2 ^ 64 → x < 2 ^ 64 → xor_left k x ≡ 0 → x ≡ 0
left_zero k g j x i h e = go (2 ^ k) (2 ^ 64) i h (xor_zero x (x * 2 ^ k % 2 ^ 64) e)
  where
    multiple : (a m q : ℕ) → a * g + 1 ≡ g + j * m → q * m + x ≡ x * a → q * g * m + x ≡ x * j * m
    multiple a m q i d =
        let y : (q * m + x) * g ≡ x * a * g = ap (λ (n : ℕ). n * g) d in
        let z : x * (a * g + 1) ≡ x * (g + j * m) = ap (λ (n : ℕ). x * n) i in
        omega arith

    go : (a m : ℕ) → a * g + 1 ≡ g + j * m → x < m → x ≡ x * a % m → x ≡ 0
    go a m i h e =
        sym (mod-eq_of_lt h)
        ∙ sym (mul-add-mod_self_right (x * a / m * g) m x)
        ∙ ap (λ (n : ℕ). n % m) (multiple a m (x * a / m) i (ap (λ (n : ℕ). x * a / m * m + n) e ∙ div-add-mod' (x * a) m))
        ∙ mul-mod_left (x * j) m

right_zero : (x : ℕ) → xor_right 7 x ≡ 0 → x ≡ 0
right_zero x e = omega (arith, xor_zero x (x / 2 ^ 7) e)

step_zero : (x : ℕ) → x < 2 ^ 64 → step x ≡ 0 → x ≡ 0
unfolding step
step_zero x h e =
    left_zero 13 (1 + 2 ^ 13 + 2 ^ 26 + 2 ^ 39 + 2 ^ 52) 2 x refl h
    (right_zero (xor_left 13 x)
    (left_zero 17 (1 + 2 ^ 17 + 2 ^ 34 + 2 ^ 51) 16 (xor_right 7 (xor_left 13 x)) refl (right_below 7 _ (left_below 13 x h)) e))

pub none_zero : NoneZero
unfolding stepped
none_zero seed k p h = elim (eq-zero-or-pos (stepped seed (suc k))) [
  | inl z ↦ absurd (lt_irrefl 0 (subst (λ (n : ℕ). 0 < n) (first (suc k) z) p))
  | inr q ↦ q
]
  where
    first : (k : ℕ) → stepped seed k ≡ 0 → seed ≡ 0
    first zero e = e
    first (suc k) e = first k (step_zero (stepped seed k) (stepped_below seed k h) e)
