use Rattle.std.proofs.Common.{◌≡◌, length, set, refl, ap, ◌∙◌, arith}
use Rattle.numbers_spec.specs.Rows.{sum_to}
use Rattle.numbers_spec.proofs.RowLaws.{filling_none, filling_more, sum_more}
use Rattle.numbers_spec.proofs.PartLaws.{filling_of_lem}
use Rattle.matcher_bands.proofs.rows.fill_sums.Goals as goal

pub loop-i-init : goal.loop-i-init
unfolding sum_to lib.Ieee.of_bits
loop-i-init g c t says = (refl, filling_none _ _)

pub loop-i-preserved : goal.loop-i-preserved
loop-i-preserved g c t says =
    let inv = c.loop-i.invariant t says in
    let i = c.loop-i.i in
    let term = says i _ (omega arith) (rw c.widen.ensures at c.term-sum.ensures) in
    (sum_more t i inv.0 term, filling_more inv.1 inv.0 (omega arith))

pub returns : goal.returns
returns g c t says =
    let inv = c.loop-i.invariant t says in
    let all : c.loop-i.i ≡ length c.args.values.now = omega arith in
    filling_of_lem {row = set c.loop-i.sums (length c.args.values.now) c.loop-i.sum} (filling_more (rw all at inv.1) (inv.0 ∙ ap (sum_to t) all) (omega arith)) c.requires.size (omega arith)
