-- `numbers_rows::ln_1p_row::log_block` meets its contract. Assumes nothing.
use Rattle.std.proofs.Common.{◌≡◌, get_or, ap, ◌∙◌, rules, arith}
use lib.Ieee.{nan}
use Rattle.numbers_spec.proofs.RowLaws.{narrowed_at}
use Rattle.numbers_rows.specs.Logs.{joined, ratio}
use Rattle.numbers_rows.proofs.LogPasses.{logged_at}
use Rattle.numbers_rows.proofs.Rows.{all_logged}
use Rattle.numbers_rows.proofs.ln_1p_row.log_block.Goals as goal

pub returns : goal.returns
returns c =
    let w = c.args.w.now in
    let powers = c.split_row.new.powers in
    let ratios = c.fill_by.new.out in
    let sums = c.series_row.new.sums in
    all_logged w _ (omega arith)
    (λ k h.
    let s : get_or ratios k nan ≡ ratio (get_or w k nan) (get_or c.split_row.new.near k nan) = let e = c.fill_by.ensures.each nan k (omega arith) in search rules in
    let x : get_or c.fill_by-2.new.out k nan ≡ joined (get_or powers k nan) (get_or ratios k nan) (get_or sums k nan) =
    let e = c.fill_by-2.ensures.each nan k (omega arith) in search rules in
    logged_at (get_or w k nan) (c.type_inv.w k) (c.requires.below k h)
    (c.split_row.ensures.powers_are k h) (c.split_row.ensures.near_are k h) s (c.series_row.ensures k (omega arith)) x
    (ap (λ l. get_or l k nan) c.narrow_row.ensures ∙ narrowed_at _ k))
