-- Of the multiples of u, `closest n u` times u is nearest to n, and at a tie its factor is even. Nothing here is about floats. Assumes nothing.
use mathlib.Core.Path.{◌≡◌, refl, sym, ap, subst}
use mathlib.Core.Logic.{◌⊎◌, inl, inr}
use Prim.Native.Nat.{ℕ, zero, suc, ◌+◌, ◌-◌, ◌*◌, ◌/◌, ◌%◌, ◌≤◌, ◌<◌}
use native.Mathlib.Nat.{le_antisymm, le_of_eq, le_of_suc-le-suc, lt_of_not-le, lt_of_mul-lt-mul_right, eq-or-lt_of_le, mul-le-mul_right, eq_of_mul-eq-mul_right, div-add-mod', mod-lt}
use native.Mathlib.Omega.{arith}
use mathlib.Core.Bool.{Bool, true, false, not}
use lib.Dec.{T, ltb, ltb→lt, nltb→le}
use lib.Ieee.Nearest.{closest}
use Rattle.numbers_spec.proofs.Encode.{nearest_lt, nearest_eq, nearest_gt}
use Rattle.numbers_spec.specs.Values.{distance}

-- ---- `closest n u` times u is within half of u of n, and at just a half it is even
pub record Halves (n u k : ℕ) : Type 0 where
  pub low : 2 * n ≤ 2 * (k * u) + u
  pub high : 2 * (k * u) ≤ 2 * n + u
  pub even_low : 2 * n ≡ 2 * (k * u) + u → k % 2 ≡ 0
  pub even_high : 2 * (k * u) ≡ 2 * n + u → k % 2 ≡ 0

halves_lt : (q r u n : ℕ) → q * u + r ≡ n → r * 2 < u → Halves n u q
halves_lt q r u n e h = record { low = omega arith; high = omega arith; even_low = λ z. omega arith; even_high = λ z. omega arith }

halves_gt : (q r u n : ℕ) → q * u + r ≡ n → r < u → u < r * 2 → Halves n u (suc q)
halves_gt q r u n e l h = record { low = omega arith; high = omega arith; even_low = λ z. omega arith; even_high = λ z. omega arith }

halves_eq : (q r u n : ℕ) → q * u + r ≡ n → u ≡ r * 2 → Halves n u (q + q % 2)
halves_eq q r u n e h = go (q % 2) refl
  where
    go : (b : ℕ) → q % 2 ≡ b → Halves n u (q + b)
    go zero g = record { low = omega arith; high = omega arith; even_low = λ z. omega arith; even_high = λ z. omega arith }
    go (suc zero) g = record { low = omega arith; high = omega arith; even_low = λ z. omega arith; even_high = λ z. omega arith }
    go (suc (suc b)) g = absurd (omega arith)

pub closest_halves : (n u : ℕ) → 0 < u → Halves n u (closest n u)
closest_halves n u U = go (ltb (r * 2) u) (ltb→lt (r * 2) u) (nltb→le (r * 2) u)
  where
    q : ℕ
    q = n / u

    r : ℕ
    r = n % u

    is : q * u + r ≡ n
    is = div-add-mod' n u

    go : (b : Bool) → (T b → r * 2 < u) → (T (not b) → u ≤ r * 2) → Halves n u (closest n u)
    go true h g = subst (λ (k : ℕ). Halves n u k) (sym (nearest_lt q (r * 2) u (h tt))) (halves_lt q r u n is (h tt))
    go false h g = elim (eq-or-lt_of_le (g tt)) [
      | inl e ↦ subst (λ (k : ℕ). Halves n u k) (sym (nearest_eq q (r * 2) u (sym e))) (halves_eq q r u n is e)
      | inr l ↦ subst (λ (k : ℕ). Halves n u k) (sym (nearest_gt q (r * 2) u l)) (halves_gt q r u n is (mod-lt n U) l)
    ]

-- ---- so no other multiple of u is nearer to n
abbrev pub apart : ℕ → ℕ → ℕ
apart a b = a - b + (b - a)

-- A is k * u, and B another multiple
below_near : (n u A B : ℕ) → 2 * A ≤ 2 * n + u → B + u ≤ A → apart n A ≤ apart n B
below_near n u A B h l = omega arith

below_tie : (n u A B : ℕ) → 0 < u → 2 * A ≤ 2 * n + u → B + u ≤ A → apart n A ≡ apart n B → 2 * A ≡ 2 * n + u
below_tie n u A B U h l e = omega arith

above_near : (n u A B : ℕ) → 2 * n ≤ 2 * A + u → A + u ≤ B → apart n A ≤ apart n B
above_near n u A B h l = omega arith

above_tie : (n u A B : ℕ) → 0 < u → 2 * n ≤ 2 * A + u → A + u ≤ B → apart n A ≡ apart n B → 2 * n ≡ 2 * A + u
above_tie n u A B U h l e = omega arith

-- a is at least as near to n as b is, and where b is as near, the two are the same or k is even
pub record Nearer (n a k b : ℕ) : Type 0 where
  pub near : apart n a ≤ apart n b
  pub tied : apart n a ≡ apart n b → (b ≡ a) ⊎ (k % 2 ≡ 0)

pub multiple_nearer : (n u k t : ℕ) → 0 < u → Halves n u k → Nearer n (k * u) k (t * u)
multiple_nearer n u k t U h = go (ltb t k) (ltb k t) (ltb→lt t k) (ltb→lt k t) (nltb→le t k) (nltb→le k t)
  where
    step : (a b : ℕ) → a < b → a * u + u ≤ b * u
    step a b l = let g : suc a * u ≤ b * u = mul-le-mul_right u l in omega arith

    go : (x y : Bool) → (T x → t < k) → (T y → k < t) → (T (not x) → k ≤ t) → (T (not y) → t ≤ k) → Nearer n (k * u) k (t * u)
    go true y l g i j = record {
      near = below_near n u (k * u) (t * u) h.high (step t k (l tt));
      tied = λ e. inr (h.even_high (below_tie n u (k * u) (t * u) U h.high (step t k (l tt)) e));
    }
    go false true l g i j = record {
      near = above_near n u (k * u) (t * u) h.low (step k t (g tt));
      tied = λ e. inr (h.even_low (above_tie n u (k * u) (t * u) U h.low (step k t (g tt)) e));
    }
    go false false l g i j =
        let e : t * u ≡ k * u = ap (λ (z : ℕ). z * u) (le_antisymm (j tt) (i tt)) in
        record { near = le_of_eq (ap (λ (z : ℕ). apart n z) (sym e)); tied = λ g. inl e }

-- what lies below a multiple that lies below n is farther off than that multiple
pub lower_nearer : (n u k t b : ℕ) → 0 < u → Halves n u k → t * u ≤ n → b < t * u → Nearer n (k * u) k b
lower_nearer n u k t b U h l g =
    let m : apart n (k * u) ≤ apart n (t * u) = (multiple_nearer n u k t U h).near in
    record { near = omega arith; tied = λ e. inl (omega arith) }

-- ---- where n lies more than half of u below q * u, k is below q, and elsewhere it is not, for an even q
pub few_kept : (n u k q : ℕ) → Halves n u k → 2 * n + u < 2 * (q * u) → k < q
few_kept n u k q h l = lt_of_mul-lt-mul_right u (under (k * u) (q * u) h.high l)
  where
    under : (x y : ℕ) → 2 * x ≤ 2 * n + u → 2 * n + u < 2 * y → x < y
    under x y g i = omega arith

pub all_kept : (n u k q h : ℕ) → 0 < u → q ≡ 2 * h → Halves n u k → 2 * (q * u) ≤ 2 * n + u → q ≤ k
all_kept n u k q h U e g l = le_of_suc-le-suc (lt_of_not-le one_less)
  where
    one_less : suc k ≤ q → ⊥
    one_less i =
        let m : suc k * u ≤ q * u = mul-le-mul_right u i in
        let w : 2 * n ≤ 2 * (k * u) + u = g.low in
        let o : k % 2 ≡ 0 = g.even_low (omega arith) in
        let z : q ≡ suc k = eq_of_mul-eq-mul_right u U q (suc k) (omega arith) in
        omega arith

-- ---- with signs: ±n and ±r * c against ±m * c
module _ (n c r k m : ℕ) (C : 0 < c) (other : Nearer n (r * c) k (m * c)) (none : Nearer n (r * c) k (0 * c)) where
  pub near_signed : (s t : Bool) → distance s n s (r * c) ≤ distance s n t (m * c)
  near_signed true true = other.near
  near_signed true false = let h = none.near in omega arith
  near_signed false true = let h = none.near in omega arith
  near_signed false false = other.near

  same : apart n (r * c) ≡ apart n (m * c) → (apart r m ≡ 0) ⊎ (k % 2 ≡ 0)
  same e = elim (other.tied e) [
    | inl g ↦ inl (let z : m ≡ r = eq_of_mul-eq-mul_right c C m r g in omega arith)
    | inr g ↦ inr g
  ]

  opposite : apart n (r * c) ≡ n + m * c → (r + m ≡ 0) ⊎ (k % 2 ≡ 0)
  opposite e =
      let h : apart n (r * c) ≤ apart n (0 * c) = none.near in
      elim (none.tied (omega arith)) [
        | inl g ↦ inl (let z : 0 ≡ r = eq_of_mul-eq-mul_right c C 0 r g in let w : m ≡ 0 = eq_of_mul-eq-mul_right c C m 0 (omega arith) in omega arith)
        | inr g ↦ inr g
      ]

  pub tie_signed : (s t : Bool) → distance s n s (r * c) ≡ distance s n t (m * c) → (distance s r t m ≡ 0) ⊎ (k % 2 ≡ 0)
  tie_signed true true e = same e
  tie_signed true false e = opposite e
  tie_signed false true e = opposite e
  tie_signed false false e = same e
