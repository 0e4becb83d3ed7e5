use Rattle.std.proofs.Common.{◌≡◌, ◌+◌, Float, get_or, length, ap, add_comm, arith}
use Rattle.std.specs.Float.{nan, binary32}
use Rattle.std.specs.Float.Ieee.{sub}
use Rattle.numbers_spec.proofs.RowLaws.{filling_none, filling_more}
use Rattle.matcher_bands.proofs.CentringLaws.{filled_ahead}
use Rattle.matcher_bands.proofs.centring.take_off.Goals as goal

pub loop-k-init : goal.loop-k-init
loop-k-init c = filling_none _ _

pub loop-k-preserved : goal.loop-k-preserved
loop-k-preserved c =
    let a = c.args in
    let k = c.loop-k.k in
    let ahead : get_or c.loop-k.row (a.from + k) nan ≡ get_or a.row.now (a.from + k) nan = rw (add_comm a.from k) (filled_ahead _ a.row.now k a.from nan c.loop-k.invariant.front) in
    filling_more c.loop-k.invariant (ap (λ (x : Float). sub binary32 x (get_or a.means.now k nan)) ahead) (omega arith)

pub returns : goal.returns
returns c =
    let e : c.loop-k.k ≡ length c.args.means.now = omega arith in
    rw e at c.loop-k.invariant.front
