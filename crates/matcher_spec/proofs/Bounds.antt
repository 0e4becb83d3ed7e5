-- Bounds n * 2 ^ p, in the forms that scores need: wider ones, and sums. Assumes nothing.
use mathlib.Core.Path.{◌≡◌}
use Prim.Native.Nat.{ℕ, zero, suc, ◌+◌, ◌*◌, ◌^◌, ◌≤◌, ◌<◌}
use native.Mathlib.Nat.{le_trans, mul-le-mul_right, lt_of_le_of_lt}
use native.Mathlib.Omega.{arith}
use lib.Dec.{T, ltb, leb, ltb→lt, leb→le}
use lib.Ieee.{Float, Format, binary64, prec, emax}
use Rattle.numbers_spec.specs.Arithmetic.{zero⁺}
use Rattle.numbers_spec.specs.Values.{Den, Within, Holds}
use Rattle.numbers_spec.proofs.Within.{add_within}
use Rattle.numbers_spec.specs.Rows.{sum_to}

-- ---- bounds
-- n * 2 ^ p is a value of the format where a larger one is; for literals, both tests compute.
pub holds : (f : Format) (n most p : ℕ) → n ≤ most → T (ltb most (2 ^ prec f)) → T (ltb (most * 2 ^ p) (2 ^ suc (emax f))) → Holds f n p
holds f n most p h few room = record {
  few = lt_of_le_of_lt h (ltb→lt most (2 ^ prec f) few);
  room = lt_of_le_of_lt (mul-le-mul_right (2 ^ p) h) (ltb→lt (most * 2 ^ p) (2 ^ suc (emax f)) room);
}

-- A wider bound.
pub widened : (n p n' p' : ℕ) (x : Float) → n * 2 ^ p ≤ n' * 2 ^ p' → Within n p x → Within n' p' x
widened n p n' p' x h X = record { finite_is = X.finite_is; small = le_trans X.small (mul-le-mul_right (Den x) h) }

-- A wider bound, from n ≤ most and a bound of literals.
pub widened_to : (n most p n' p' : ℕ) (x : Float) → n ≤ most → T (leb (most * 2 ^ p) (n' * 2 ^ p')) → Within n p x → Within n' p' x
widened_to n most p n' p' x h k X = widened n p n' p' x (le_trans (mul-le-mul_right (2 ^ p) h) (leb→le (most * 2 ^ p) (n' * 2 ^ p') k)) X

pub zero_within : (p : ℕ) → Within 0 p zero⁺
zero_within p = record { finite_is = tt; small = omega arith }

-- A sum of n values within 2 ^ p.
pub sum_to_within : (t : ℕ → Float) (n p : ℕ) → Holds binary64 n p → ((i : ℕ) → i < n → Within 1 p (t i)) → Within n p (sum_to t n)
unfolding sum_to
sum_to_within t zero p H h = zero_within p
sum_to_within t (suc n) p H h =
    rw one_more
    (add_within binary64 n 1 p (sum_to t n) (t n) (rw (← one_more) H) (sum_to_within t n p less (λ i w. h i (omega arith))) (h n (omega arith)))
  where
    one_more : suc n ≡ n + 1
    one_more = omega arith

    less : Holds binary64 n p
    less = record { few = lt_of_le_of_lt (omega arith) H.few; room = lt_of_le_of_lt (mul-le-mul_right (2 ^ p) (omega arith)) H.room }
