-- `numbers_rows::ln_1p_row::series_row` meets its contract. Assumes nothing.
use Rattle.std.proofs.Common.{◌≡◌, get_or, length, ap, ◌∙◌, arith}
use lib.Ieee.{nan, of_bits}
use lib.ListN.{get_or-replicate}
use Rattle.numbers_spec.specs.Arithmetic.{◌⊗◌, zero⁺}
use Rattle.numbers_rows.specs.Logs.{terms}
use Rattle.numbers_rows.proofs.LogPasses.{terms_are}
use Rattle.numbers_rows.proofs.ln_1p_row.series_row.Goals as goal

-- the terms by fours are all twelve
pub returns : goal.returns
unfolding of_bits
returns c k b =
    let r = get_or c.args.ratios.now k nan in
    let z = r ⊗ r in
    let none : get_or c.fill.new.self k nan ≡ zero⁺ = ap (λ l. get_or l k nan) (c.fill.ensures.after (λ y e. e)) ∙ get_or-replicate (length c.args.sums.now) k zero⁺ nan (omega arith) in
    c.terms_row-3.ensures k b
    ∙ ap (terms 4 0 z) (c.terms_row-2.ensures k b ∙ ap (terms 4 4 z) (c.terms_row.ensures k b ∙ ap (terms 4 8 z) none))
    ∙ terms_are z
