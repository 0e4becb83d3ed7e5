-- Rounding by a sum gives the nearest whole number, a tie to the even one. Assumes nothing.
use mathlib.Core.Path.{◌≡◌, refl, sym, ap, ◌∙◌, subst}
use mathlib.Core.Bool.{Bool, true, false, not}
use Prim.Native.Nat.{ℕ, suc, ◌+◌, ◌-◌, ◌*◌, ◌/◌, ◌%◌, ◌^◌, ◌≤◌, ◌<◌, compare}
use native.Mathlib.Nat.{div-add-mod', div-eq_of_lt-le, mod-lt, pow-succ'}
use native.Mathlib.Omega.{arith}
use lib.Dec.{T, leb, ltb, leb→le, nleb→lt, ltb→lt, nltb→le}
use lib.Pow.{pow_pos}
use lib.Ieee.{nearest}
use lib.Ieee.Nearest.{closest}
use Rattle.numbers_spec.specs.Narrow.{by_sum, SumNearest, SumClosest}
use Rattle.numbers_spec.proofs.Encode.{nearest_lt, nearest_gt, nearest_eq}

twice : (k : ℕ) → 1 ≤ k → 2 ^ k ≡ 2 * 2 ^ (k - 1)
twice k K = ap (λ (x : ℕ). 2 ^ x) (back k K) ∙ pow-succ' 2 (k - 1)
  where
    back : (j : ℕ) → 1 ≤ j → j ≡ suc (j - 1)
    back j l = omega arith

-- s is a / p to the nearest whole number, as `NearestWhole` has it
abbrev Near : ℕ → ℕ → ℕ → Type 0
Near a p s = (2 * ((a - s * p) + (s * p - a)) ≤ p) × (2 * ((a - s * p) + (s * p - a)) ≡ p → s % 2 ≡ 0)

-- a / p, with p twice h: the quotient is q, r is left, and z, the last digit of q, is added with half less one
module _ (a h p q r z n : ℕ) (double : p ≡ 2 * h) (H : 0 < h) (whole : q * p + r ≡ a) (rest : r < p) (last : z ≡ q % 2) (sum : n ≡ a + (h - 1) + z) where
  -- the sum stays below the next multiple of p, or reaches it
  stays : r + z ≤ h → n / p ≡ q
  stays g = div-eq_of_lt-le p (omega arith) (omega arith)

  grows : h < r + z → n / p ≡ suc q
  grows g = div-eq_of_lt-le p (omega arith) (omega arith)

  near_down : r + z ≤ h → Near a p q
  near_down g = (omega arith, λ e. omega arith)

  near_up : h < r + z → Near a p (suc q)
  near_up g = (omega arith, λ e. omega arith)

  close_down : r + z ≤ h → q ≡ nearest q (compare (r * 2) p)
  close_down g = go (ltb r h) (ltb→lt r h) (nltb→le r h)
    where
      go : (b : Bool) → (T b → r < h) → (T (not b) → h ≤ r) → q ≡ nearest q (compare (r * 2) p)
      go true l m = let w = l tt in sym (nearest_lt q (r * 2) p (omega arith))
      go false l m = let w = m tt in sym (nearest_eq q (r * 2) p (omega arith) ∙ omega arith)

  close_up : h < r + z → suc q ≡ nearest q (compare (r * 2) p)
  close_up g = go (ltb h r) (ltb→lt h r) (nltb→le h r)
    where
      go : (b : Bool) → (T b → h < r) → (T (not b) → r ≤ h) → suc q ≡ nearest q (compare (r * 2) p)
      go true l m = let w = l tt in sym (nearest_gt q (r * 2) p (omega arith))
      go false l m = let w = m tt in sym (nearest_eq q (r * 2) p (omega arith) ∙ omega arith)

  both : Near a p (n / p) × (n / p ≡ nearest q (compare (r * 2) p))
  both = go (leb (r + z) h) (leb→le (r + z) h) (nleb→lt (r + z) h)
    where
      go : (b : Bool) → (T b → r + z ≤ h) → (T (not b) → h < r + z) → Near a p (n / p) × (n / p ≡ nearest q (compare (r * 2) p))
      go true l m = (subst (Near a p) (sym (stays (l tt))) (near_down (l tt)), stays (l tt) ∙ close_down (l tt))
      go false l m = (subst (Near a p) (sym (grows (m tt))) (near_up (m tt)), grows (m tt) ∙ close_up (m tt))

by_rest : (k a : ℕ) → 1 ≤ k → Near a (2 ^ k) (by_sum k a) × (by_sum k a ≡ closest a (2 ^ k))
unfolding by_sum
by_rest k a K = both a (2 ^ (k - 1)) (2 ^ k) (a / 2 ^ k) (a % 2 ^ k) (a / 2 ^ k % 2) _ (twice k K) (pow_pos (k - 1)) (div-add-mod' a (2 ^ k)) (mod-lt a (pow_pos k)) refl (omega arith)

pub sum_nearest : SumNearest
sum_nearest k a K = let e = by_rest k a (omega arith) in record { near = e.0.0; tie = e.0.1 }

pub sum_closest : SumClosest
sum_closest k a K = (by_rest k a (omega arith)).1
