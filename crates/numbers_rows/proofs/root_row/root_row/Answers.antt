-- `numbers_rows::root_row::root_row` meets its contract. Assumes nothing.
use Rattle.std.proofs.Common.{rules, arith}
use lib.Ieee.{nan}
use Rattle.numbers_rows.proofs.Rows.{all_rooted}
use Rattle.numbers_rows.proofs.root_row.root_row.Goals as goal

pub returns-then-all_by : goal.returns-then-all_by
returns-then-all_by c =
    all_rooted c.args.x.now _ (omega arith) (λ k h. let e = c.all_by.ensures.all c.if-all_by.true k h in search rules)

pub returns : goal.returns
returns c =
    all_rooted c.args.x.now _ (omega arith) (λ k h. let e = c.fill_by-2.ensures.each nan k (omega arith) in search rules)
