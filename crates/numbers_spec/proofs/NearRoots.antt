-- The whole number nearest to a root. Assumes nothing.
use mathlib.Core.Path.{◌≡◌, ap, ◌∙◌, subst}
use Prim.Native.Nat.{ℕ, zero, suc, ◌+◌, ◌*◌, ◌^◌, ◌≤◌, ◌<◌}
use native.Mathlib.Nat.{le_trans, le_antisymm, lt_of_not-le, not-le_of_lt, mul-le-mul, add-le-add, pow-succ', le_of_suc-le-suc}
use native.Mathlib.Omega.{arith}
use mathlib.Core.Bool.{Bool, true, false, not, cond}
use lib.Dec.{T, leb, ltb, leb→le, nleb→lt, ltb→lt, nltb→le}
use Rattle.numbers_spec.specs.Root.{NearRoot, root_from, near_root}

-- ---- the root without its fraction
twice : (s p : ℕ) → (s + 2 * p) * (s + 2 * p) ≡ (s + p + p) * (s + p + p)
twice s p = omega arith

pub root_from_is : (k s n : ℕ) → s * s ≤ n → n < (s + 2 ^ k) * (s + 2 ^ k) → (root_from k s n * root_from k s n ≤ n) × (n < (root_from k s n + 1) * (root_from k s n + 1))
unfolding root_from
root_from_is zero s n a b = (a, b)
root_from_is (suc k) s n a b = go (λ u. root_from_is k u n) (leb ((s + 2 ^ k) * (s + 2 ^ k)) n) (leb→le ((s + 2 ^ k) * (s + 2 ^ k)) n) (nleb→lt ((s + 2 ^ k) * (s + 2 ^ k)) n)
  where
    go : ((u : ℕ) → u * u ≤ n → n < (u + 2 ^ k) * (u + 2 ^ k) → (root_from k u n * root_from k u n ≤ n) × (n < (root_from k u n + 1) * (root_from k u n + 1)))
        → (t : Bool) → (T t → (s + 2 ^ k) * (s + 2 ^ k) ≤ n) → (T (not t) → n < (s + 2 ^ k) * (s + 2 ^ k))
        → (root_from k (cond t (s + 2 ^ k) s) n * root_from k (cond t (s + 2 ^ k) s) n ≤ n) × (n < (root_from k (cond t (s + 2 ^ k) s) n + 1) * (root_from k (cond t (s + 2 ^ k) s) n + 1))
    go ih true h g = ih (s + 2 ^ k) (h tt) (subst (λ (z : ℕ). n < z) (ap (λ (z : ℕ). (s + z) * (s + z)) (pow-succ' 2 k) ∙ twice s (2 ^ k)) b)
    go ih false h g = ih s a (g tt)

-- ---- the nearest whole number is one
grow : (a b : ℕ) → a ≤ b → a * a + a ≤ b * b + b
grow a b h = add-le-add (mul-le-mul h h) h

-- c ≤ s and s * s + s < n
no_less : (n c s : ℕ) → n ≤ c * c + c → s * s + s < n → c ≤ s → ⊥
no_less n c s a b h = not-le_of_lt b (le_trans a (grow c s h))

-- s < c: the c - 1 that it reaches
pub no_more : (n c s : ℕ) → c * c < n + c → n ≤ s * s + s → s < c → ⊥
no_more n zero s a b h = absurd (no s h)
  where
    no : (x : ℕ) → x < 0 → ⊥
    no x k = omega arith
no_more n (suc c) s a b h = not-le_of_lt (shrink n c a) (le_trans b (grow s c (le_of_suc-le-suc h)))
  where
    shrink : (m d : ℕ) → suc d * suc d < m + suc d → d * d + d < m
    shrink m d k = omega arith

one_of : (n c d : ℕ) → NearRoot n c → NearRoot n d → c ≤ d
one_of n c d p q = le_of_suc-le-suc (lt_of_not-le (λ (h : suc d ≤ c). no_more n c d p.above q.below h))

pub near_unique : (n c d : ℕ) → NearRoot n c → NearRoot n d → c ≡ d
near_unique n c d p q = le_antisymm (one_of n c d p q) (one_of n d c q p)

pub near_root_is : (n : ℕ) → 0 < n → n < 2 ^ 106 → NearRoot n (near_root n)
unfolding near_root
near_root_is n N h = go (ltb (s * s + s) n) (ltb→lt (s * s + s) n) (nltb→le (s * s + s) n)
  where
    s : ℕ
    s = root_from 53 0 n

    is : (s * s ≤ n) × (n < (s + 1) * (s + 1))
    is = root_from_is 53 0 n Prim.Native.Nat.zero-le h

    up : (m t : ℕ) → t * t + t < m → m < (t + 1) * (t + 1) → NearRoot m (suc t)
    up m t a b = record { above = omega arith; below = omega arith }

    down : (m t : ℕ) → 0 < m → m ≤ t * t + t → t * t ≤ m → NearRoot m t
    down m zero p a b = record { above = p'; below = a }
      where
        p' : 0 * 0 < m + 0
        p' = omega arith
    down m (suc t) p a b = record { above = omega arith; below = a }

    go : (b : Bool) → (T b → s * s + s < n) → (T (not b) → n ≤ s * s + s) → NearRoot n (cond b (suc s) s)
    go true a b = up n s (a tt) is.1
    go false a b = down n s N (b tt) is.0
