use Rattle.std.proofs.Common.{◌≡◌, ℕ, zero, suc, ◌-◌, ◌≤◌, pos, refl, ◌∙◌, arith, sub-one}
use lib.Ieee.{Float, binary64, of_int, of_bits}
use Rattle.numbers_spec.specs.Arithmetic.{◌⊕◌, ◌⊗◌, ◌⊘◌, one}
use Rattle.numbers_spec.specs.Exponential.{exp_series}
use Rattle.numbers.proofs.exponential.exp_series.Goals as goal

-- one more term
step : (n : ℕ) (r p : Float) → 1 ≤ n → exp_series (n - 1) r (one ⊕ (r ⊗ p) ⊘ of_int binary64 (pos n)) ≡ exp_series n r p
unfolding exp_series
step zero r p h = absurd (omega arith)
step (suc k) r p h = rw (sub-one (suc k)) refl

pub loop-n-preserved : goal.loop-n-preserved
unfolding of_bits
loop-n-preserved c = step c.loop-n.n c.args.r c.loop-n.p c.loop-n-test.true ∙ c.loop-n.invariant

pub returns : goal.returns
unfolding exp_series
returns c = let e : c.loop-n.n ≡ 0 = omega arith in rw e at c.loop-n.invariant
