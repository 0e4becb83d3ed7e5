-- `numbers::logarithm::number_or` meets its contract. Assumes nothing.
use lib.Ieee.{of_bits, div}
use Rattle.numbers.proofs.logarithm.number_or.Goals as goal

pub returns-then-v : goal.returns-then-v
unfolding of_bits div
returns-then-v c = simp c.if-v.true

pub returns-else-v : goal.returns-else-v
unfolding of_bits div
returns-else-v c = simp c.if-v.false
