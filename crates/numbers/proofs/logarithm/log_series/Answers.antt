use Rattle.std.proofs.Common.{◌≡◌, ℕ, zero, suc, ◌+◌, ◌-◌, ◌*◌, ◌<◌, pos, refl, ◌∙◌, arith, sub-one}
use lib.Ieee.{Float, binary64, of_int, of_bits}
use Rattle.numbers_spec.specs.Arithmetic.{◌⊕◌, ◌⊗◌, ◌⊘◌, one}
use Rattle.numbers_spec.specs.Logarithm.{log_series}
use Rattle.numbers.proofs.logarithm.log_series.Goals as goal

-- one more term
step : (i : ℕ) (z q : Float) → 0 < i → log_series (i - 1) z (q ⊗ z ⊕ one ⊘ of_int binary64 (pos (2 * (i - 1) + 1))) ≡ log_series i z q
unfolding log_series
step zero z q h = absurd (omega arith)
step (suc k) z q h = rw (sub-one (suc k)) refl

pub loop-i-preserved : goal.loop-i-preserved
unfolding of_bits
loop-i-preserved c = step c.loop-i.i c.args.z c.loop-i.q c.loop-i-test.true ∙ c.loop-i.invariant

pub returns : goal.returns
unfolding log_series
returns c = let e : c.loop-i.i ≡ 0 = omega arith in rw e at c.loop-i.invariant
