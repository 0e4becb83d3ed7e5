use Rattle.std.proofs.Common.{ℕ, ◌+◌, ◌*◌, ◌<◌, min, refl, ◌∙◌, arith}
use borrow.Table.Elements.{same_len}
use lib.Seq.{length-take-le}
use Rattle.numbers_spec.proofs.RowLaws.{filling_none}
use Rattle.matcher_bands.specs.Smoothed.{mean_at}
use Rattle.matcher_bands.proofs.CentringLaws.{filling_at, smoothed_block}
use Rattle.matcher_bands.proofs.centring.Smoothing.centre.Goals as goal

pub loop-block-init : goal.loop-block-init
loop-block-init c = record { wide_size = refl; means_size = refl; filled = filling_at (filling_none _ _) (omega arith) }

pub loop-block-preserved : goal.loop-block-preserved
loop-block-preserved c =
    let block = c.centre_block in
    let a = c.args in
    let l = c.loop-block in
    let n = c.min-n.result in
    let at : ℕ = l.block * 120 in
    let within : at < a.count = omega arith in
    record {
      wide_size = same_len n l.wide block.new.wide block.auto.wide ∙ l.invariant.wide_size;
      means_size = same_len n l.means block.new.means block.auto.means ∙ l.invariant.means_size;
      filled =
          smoothed_block (mean_at a.self.now) a.from a.row.now at n (min a.count ((l.block + 1) * 120)) (filling_at l.invariant.filled (omega arith))
          (length-take-le n l.wide (omega arith)) (omega arith) (omega arith) block.ensures;
    }
