use Rattle.std.proofs.Common.{◌+◌, ◌-◌, ◌*◌, ◌≤◌, length, refl, ◌∙◌, arith}
use borrow.Rule.Slice.PartMut.{mid_len}
use Rattle.numbers_spec.proofs.RowLaws.{row_within}
use Rattle.matcher_bands.proofs.CentringLaws.{centred_none, centred_more}
use Rattle.matcher_bands.proofs.centring.centre_bands.Goals as goal

pub loop-b-init : goal.loop-b-init
loop-b-init c =
    let a = c.args in
    let how = a.centring in
    centred_none how.frames how.radius how.from how.count a.values.now a.out.now a.sums.now

pub loop-b-preserved : goal.loop-b-preserved
loop-b-preserved c =
    let a = c.args in
    let how = a.centring in
    let b = c.loop-b.b in
    let within : (b * how.frames + how.frames ≤ length a.values.now) × (b * how.count + how.frames ≤ length a.out.now) =
    omega (arith, row_within b a.bands how.frames c.loop-b-test.true, row_within b a.bands how.count c.loop-b-test.true) in
    let done = c.centre_band in
    centred_more how.frames how.radius how.from how.count a.values.now a.out.now a.sums.now b (b * how.count + how.frames - b * how.count) how.within within.0 within.1 refl
    c.loop-b.invariant c.ln_1p_row.ensures done.ensures.row_after done.ensures.sums_after (done.auto.row ∙ c.ln_1p_row.auto.logs ∙ mid_len (b * how.count) (b * how.count + how.frames) c.loop-b.out (omega (arith, within)))
