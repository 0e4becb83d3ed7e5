use Rattle.std.proofs.Common.{◌≡◌, ◌+◌, ◌-◌, length, ◌∙◌, arith}
use Rattle.numbers_spec.proofs.RowLaws.{filling_more}
use Rattle.matcher_dots.proofs.TileLaws.{tile_more}
use Rattle.matcher_dots.proofs.tiles.dots.Goals as goal

pub loop-t-preserved : goal.loop-t-preserved
loop-t-preserved c = tile_more c.args.row.now c.args.query.now c.loop-t.t c.args.out.now c.loop-t.invariant c.fill_tile.ensures (omega arith)

pub loop-at-preserved : goal.loop-at-preserved
loop-at-preserved c =
    let n = length c.args.query.now in
    let same : c.loop-at.at + n - c.loop-at.at ≡ n = omega arith in
    filling_more c.loop-at.invariant (c.dot_product.ensures ∙ rw same) (omega arith)
