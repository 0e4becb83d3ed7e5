use Rattle.std.proofs.Common.{◌≡◌, suc, ap, ◌∙◌, add-one, arith}
use Rattle.numbers_spec.proofs.RowLaws.{filling_more}
use Rattle.workload_spec.specs.Draws.{step, stepped}
use Rattle.workload_spec.specs.Load.{load_value}
use Rattle.workload.proofs.load.fill_values.Goals as goal

pub loop-value-preserved : goal.loop-value-preserved
unfolding stepped
loop-value-preserved c =
    let now = c.loop-value in
    let next : c.step-drawn.result ≡ stepped c.args.seed (suc now.value-index) = c.step-drawn.ensures ∙ ap step now.invariant.0 in
    (rw add-one next, filling_more now.invariant.1 (c.value_of.ensures ∙ ap load_value next) (omega arith))
