use Rattle.std.proofs.Common.{◌*◌, ◌∙◌, arith}
use Rattle.matcher_bands.proofs.BandLaws.{part_length, banded_none, band_within, banded_more, banded_all}
use Rattle.matcher_bands.proofs.rows.fill_bands.Goals as goal

pub loop-b-init : goal.loop-b-init
loop-b-init g c f says = banded_none f c.args.n c.args.size c.args.bands c.args.values.now c.args.out.now

pub loop-b-preserved : goal.loop-b-preserved
loop-b-preserved g c f says =
    let a = c.args in
    let b = c.loop-b.b in
    let r = c.requires in
    let w = band_within f a.n a.size a.bands a.values.now a.out.now r.values_room r.out_room b c.loop-b-test.true in
    let room = part_length (b * a.size) a.size c.loop-b.out (omega (arith, w)) in
    let band = part_length (b * a.n) a.n a.values.now w.0 in
    banded_more f a.n a.size a.bands a.values.now a.out.now r.values_room r.out_room b c.loop-b-test.true (c.fill.auto.arg2 ∙ room) (c.loop-b.invariant f says)
    (says _ _ _ room band c.fill.ensures)

pub returns : goal.returns
returns g c f says = banded_all f c.args.n c.args.size c.args.bands c.args.values.now c.args.out.now c.loop-b.b (omega arith) (c.loop-b.invariant f says)
