-- `numbers_rows::ln_1p_row::ratio` meets its contract. Assumes nothing.
use Rattle.numbers_rows.specs.Logs.{ratio}
use Rattle.numbers_spec.specs.Arithmetic.{◌⊘◌}
use Rattle.numbers_rows.proofs.ln_1p_row.ratio.Goals as goal

pub returns : goal.returns
unfolding ratio lib.Ieee.of_bits
returns c = λ i. c.by_size.ensures i ⊘ c.by_size-2.ensures i
