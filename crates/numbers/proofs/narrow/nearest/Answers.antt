-- `numbers::narrow::nearest` meets its contract. Assumes nothing.
use Rattle.std.proofs.Common.{◌≡◌, ℕ, ◌-◌, ◌*◌, ◌/◌, ◌%◌, ◌^◌, ◌<◌, ap, ◌∙◌, mod-eq_of_lt, one-mul, arith}
use lib.Pow.{pow-lt}
use Rattle.numbers_spec.specs.Narrow.{by_sum}
use Rattle.numbers_spec.proofs.BySum.{sum_closest}
use Rattle.numbers.proofs.narrow.nearest.Goals as goal

-- the code's half is 2 ^ (shift - 1)
half_is : (k : ℕ) → k < 64 → (1 * 2 ^ (k - 1)) % 2 ^ 64 ≡ 2 ^ (k - 1)
half_is k l = ap (λ (x : ℕ). x % 2 ^ 64) (one-mul (2 ^ (k - 1))) ∙ mod-eq_of_lt (pow-lt (less k l))
  where
    less : (j : ℕ) → j < 64 → j - 1 < 64
    less j h = omega arith

pub returns : goal.returns
unfolding by_sum
returns c =
    let a = c.args.sig in
    let k = c.args.shift in
    ap (λ (n : ℕ). n / 2 ^ k) (omega (arith, half_is k c.requires.shift_lt)) ∙ sum_closest k a c.requires.shift_some
