-- Whole numbers behind the three differences of `is_root`: how far they reach, of what they are multiples, and what they say together. Nothing here is about floats. Assumes nothing.
use mathlib.Core.Path.{◌≡◌, refl, sym, ap, ◌∙◌, subst}
use Prim.Native.Nat.{ℕ, ◌+◌, ◌-◌, ◌*◌, ◌^◌, ◌≤◌, ◌<◌}
use native.Mathlib.Nat.{lt_irrefl, mul-le-mul_right, le_of_mul-le-mul_right, lt_of_mul-lt-mul_right, mul-pos, mul_assoc}
use native.Mathlib.Omega.{arith}
use mathlib.Core.Bool.{Bool, true, false}
use lib.Dec.{lit<}
use Rattle.numbers_spec.specs.Root.{NearRoot}
use Rattle.numbers_spec.proofs.Order.{P, N}
use Rattle.numbers_spec.proofs.Rounding.{Is}
use Rattle.numbers_rows.proofs.Differences.{Minus}

-- ---- signed differences
-- |a| ≤ |a - b| + |b|
pub reach : (s : Bool) (a : ℕ) (t : Bool) (b : ℕ) (r : Bool) (n : ℕ) → Minus s a t b r n → a ≤ n + b
reach false a false b false n h = omega arith
reach false a false b true n h = omega arith
reach false a true b false n h = omega arith
reach false a true b true n h = omega arith
reach true a false b false n h = omega arith
reach true a false b true n h = omega arith
reach true a true b false n h = omega arith
reach true a true b true n h = omega arith

-- p - q by its sign and size
pub parts_of : (r : Bool) (n p q : ℕ) → Is r n p q → P r n + q ≡ N r n + p
parts_of false n p q h = omega arith
parts_of true n p q h = omega arith

-- the difference of two multiples of u is one
less : (n m p q u : ℕ) → n + q * u ≡ p * u → m + q ≡ p → n ≡ m * u
less n m p q u h e = let f : (m + q) * u ≡ p * u = ap (λ (z : ℕ). z * u) e in omega arith

multiple : (r : Bool) (n p q u : ℕ) → 0 < u → Is r n (p * u) (q * u) → (m : ℕ) × (n ≡ m * u)
multiple false n p q u U h = let le : q ≤ p = le_of_mul-le-mul_right {k = u} (omega arith) U in (p - q, less n (p - q) p q u h (omega arith))
multiple true n p q u U h = let le : p ≤ q = le_of_mul-le-mul_right {k = u} (omega arith) U in (q - p, less n (q - p) q p u h (omega arith))

-- ---- c in two halves, h * 2 ^ 27 ± l: c * c by the products of them
pub square : (c h l : ℕ) (σ : Bool) → Minus false c false (h * 134217728) σ l → h * h * 18014398509481984 + P σ (h * l * 268435456) + l * l ≡ c * c + N σ (h * l * 268435456)
square c h l false e =
    let f : l + h * 134217728 ≡ c = omega arith in
    let g : (l + h * 134217728) * (l + h * 134217728) ≡ c * c = ap (λ (z : ℕ). z * z) f in
    omega arith
square c h l true e =
    let f : l + c ≡ h * 134217728 = omega arith in
    let g : (l + c) * (l + c) ≡ h * 134217728 * (h * 134217728) = ap (λ (z : ℕ). z * z) f in
    let k : (l + c) * l ≡ h * 134217728 * l = ap (λ (z : ℕ). z * l) f in
    omega arith

-- ---- how far the values reach, from the last difference back to x: w is the weight of a unit of s squared
pub second_lt : (a n c d w : ℕ) → a ≤ n + d * w → n < c * w → c ≤ 9007199254740992 → d ≤ 4503599627370496 → 0 < w → a < 18014398509481984 * w
second_lt a n c d w h k e f W =
    let x : c * w ≤ 9007199254740992 * w = mul-le-mul_right w e in
    let y : d * w ≤ 4503599627370496 * w = mul-le-mul_right w f in
    omega arith

pub first_lt : (a n b w : ℕ) → a ≤ n + b * w → n < 18014398509481984 * w → b ≤ 2 ^ 80 → 0 < w → a < 2 ^ 81 * w
first_lt a n b w h k e W = let x : b * w ≤ 2 ^ 80 * w = mul-le-mul_right w e in omega arith

-- so x is not negative, and large
pub sign_plus : (s : Bool) (a A : ℕ) (r : Bool) (n w : ℕ) → Minus s a false (A * w) r n → n < 2 ^ 81 * w → 2 ^ 104 ≤ A → 0 < w → (s ≡ false) × (2 ^ 103 * w ≤ a)
sign_plus false a A false n w h k e W = let x : 2 ^ 104 * w ≤ A * w = mul-le-mul_right w e in (refl, omega arith)
sign_plus false a A true n w h k e W = let x : 2 ^ 104 * w ≤ A * w = mul-le-mul_right w e in (refl, omega arith)
sign_plus true a A false n w h k e W = let x : 2 ^ 104 * w ≤ A * w = mul-le-mul_right w e in absurd (lt_irrefl 0 (omega arith))
sign_plus true a A true n w h k e W = let x : 2 ^ 104 * w ≤ A * w = mul-le-mul_right w e in absurd (lt_irrefl 0 (omega arith))

-- ---- the first two differences are multiples of 2 ^ 51 and of 2 ^ 28 units of s squared, so few digits are left
same : (r : Bool) (n : ℕ) {p q p' q' : ℕ} → p ≡ p' → q ≡ q' → Is r n p q → Is r n p' q'
same r n {p} {q} {p'} {q'} a b h = subst (λ (k : ℕ). Is r n k q') a (subst (λ (k : ℕ). Is r n p k) b h)

pub first_multiple : (r : Bool) (n t h w : ℕ) → Minus false (t * 2251799813685248 * w) false (h * h * 18014398509481984 * w) r n → 0 < w → (m : ℕ) × (n ≡ m * 2251799813685248 * w)
first_multiple r n t h w d W =
    let m = multiple r n t (h * h * 8) (2251799813685248 * w) (mul-pos (lit< tt) W) (same r n (omega arith) (omega arith) d) in
    (m.0, m.1 ∙ sym (mul_assoc m.0 2251799813685248 w))

pub second_multiple : (s : Bool) (a : ℕ) (t : Bool) (b : ℕ) (r : Bool) (n w : ℕ) → Minus s (a * 2251799813685248 * w) t (b * 268435456 * w) r n → 0 < w → (m : ℕ) × (n ≡ m * 268435456 * w)
second_multiple s a t b r n w d W = let m = go s t d in (m.0, m.1 ∙ sym (mul_assoc m.0 268435456 w))
  where
    by : (p q : ℕ) → Is r n (p * (268435456 * w)) (q * (268435456 * w)) → (m : ℕ) × (n ≡ m * (268435456 * w))
    by p q = multiple r n p q (268435456 * w) (mul-pos (lit< tt) W)

    go : (s t : Bool) → Minus s (a * 2251799813685248 * w) t (b * 268435456 * w) r n → (m : ℕ) × (n ≡ m * (268435456 * w))
    go false false e = by (a * 8388608) b (same r n (omega arith) (omega arith) e)
    go false true e = by (a * 8388608 + b) 0 (same r n (omega arith) (omega arith) e)
    go true false e = by 0 (a * 8388608 + b) (same r n (omega arith) (omega arith) e)
    go true true e = by b (a * 8388608) (same r n (omega arith) (omega arith) e)

pub kept : (m k l w : ℕ) → m * k * w < l * k * w → l ≤ 9007199254740992 → m ≤ 9007199254740992
kept m k l w h e = let x : m < l = lt_of_mul-lt-mul_right k (lt_of_mul-lt-mul_right w h) in omega arith

-- ---- the three joined
pub P-lt : (r : Bool) (n k : ℕ) → n < k → P r n < k
P-lt false n k h = h
P-lt true n k h = omega arith

pub N-lt : (r : Bool) (n k : ℕ) → n < k → N r n < k
N-lt false n k h = omega arith
N-lt true n k h = h

pub joined : (A C c t w n₁ m₁ n₂ m₂ n₃ m₃ pw nw pb nb : ℕ) → pw ≡ pb * w → nw ≡ nb * w
    → n₁ + (0 + A * w) ≡ m₁ + (t * w + 0) → n₂ + (m₁ + pw) ≡ m₂ + (n₁ + nw) → n₃ + (m₂ + C * w) ≡ m₃ + (n₂ + 0) → n₃ < c * w → m₃ < c * w
    → ((A + pb + C) * w < (t + nb + c) * w) × ((t + nb) * w < (A + pb + C + c) * w)
joined A C c t w n₁ m₁ n₂ m₂ n₃ m₃ pw nw pb nb a b e f g h k = (omega arith, omega arith)

-- and so c is the nearest to the root
pub nearest : (t c b q : ℕ) → q ≡ c * c + b → q < t + b + c → t + b < q + c → NearRoot t c
nearest t c b q e f g = record { above = omega arith; below = omega arith }
