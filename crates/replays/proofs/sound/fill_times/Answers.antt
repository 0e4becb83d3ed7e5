use Rattle.std.proofs.Common.{ap, arith}
use Rattle.std.specs.Float.Ieee.{Float}
use Rattle.numbers_spec.specs.Arithmetic.{◌⊕◌, ◌⊗◌}
use Rattle.numbers_spec.proofs.RowLaws.{filling_none, filling_more, filling_all}
use Rattle.replays.proofs.sound.fill_times.Goals as goal

pub loop-i-init : goal.loop-i-init
loop-i-init c = filling_none _ _

pub loop-i-preserved : goal.loop-i-preserved
loop-i-preserved c =
    let a = c.args in
    filling_more c.loop-i.invariant (ap (λ (x : Float). a.start ⊕ x ⊗ a.hop) c.real.ensures) (omega arith)

pub returns : goal.returns
returns c = filling_all c.loop-i.invariant (omega arith)
