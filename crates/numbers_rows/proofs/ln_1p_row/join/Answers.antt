-- `numbers_rows::ln_1p_row::join` meets its contract. Assumes nothing.
use mathlib.Core.Path.{refl}
use lib.Ieee.{of_bits}
use Rattle.numbers_rows.specs.Logs.{joined}
use Rattle.numbers_rows.proofs.ln_1p_row.join.Goals as goal

pub returns : goal.returns
unfolding joined of_bits
returns c = refl
