-- `numbers::exponential::ten_to` meets its contract. Assumes nothing.
use lib.Ieee.{of_bits}
use Rattle.numbers_spec.specs.Exponential.{ten_to}
use Rattle.numbers.proofs.exponential.ten_to.Goals as goal

pub returns : goal.returns
unfolding of_bits ten_to
returns c = c.exp.ensures
