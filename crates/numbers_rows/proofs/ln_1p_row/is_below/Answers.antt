-- `numbers_rows::ln_1p_row::is_below` meets its contract. Assumes nothing.
use lib.Ieee.{div, lt, of_bits}
use borrow.Author.Rules.{rules}
use Rattle.numbers_rows.proofs.ln_1p_row.is_below.Goals as goal

pub returns : goal.returns
unfolding lt div of_bits
returns c = search rules
