-- `numbers_rows::narrow_row::narrow_row` meets its contract. Assumes nothing.
use Rattle.std.proofs.Common.{rules, arith}
use lib.Ieee.{nan}
use Rattle.numbers_rows.proofs.Rows.{all_narrowed}
use Rattle.numbers_rows.proofs.narrow_row.narrow_row.Goals as goal

pub fill_by-requires : goal.fill_by-requires
fill_by-requires c = λ k h. let p = c.all_by.ensures.all c.if-all_by.true k (omega arith) in search rules

pub returns-then-all_by : goal.returns-then-all_by
returns-then-all_by c =
    all_narrowed c.args.x.now _ (omega arith) (λ k h. let e = c.fill_by.ensures.each nan k (omega arith) in search rules)

pub returns : goal.returns
returns c =
    all_narrowed c.args.x.now _ (omega arith) (λ k h. let e = c.fill_by-2.ensures.each nan k (omega arith) in search rules)
