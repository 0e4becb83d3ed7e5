use native.Mathlib.Omega.{arith}
use lib.Ieee.{nan}
use Rattle.numbers_spec.proofs.RowLaws.{filling_more, filling_next}
use Rattle.matcher_scores.proofs.blocks.add_quotients.Goals as goal

pub loop-i-preserved : goal.loop-i-preserved
loop-i-preserved c =
    let inv = c.loop-i.invariant in
    filling_more inv (rw (filling_next nan inv (omega arith), c.widen.ensures)) (omega arith)
