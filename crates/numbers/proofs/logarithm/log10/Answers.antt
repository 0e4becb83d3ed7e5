-- `numbers::logarithm::log10` meets its contract. Assumes nothing.
use lib.Ieee.{of_bits}
use Rattle.numbers_spec.specs.Logarithm.{log10_of}
use Rattle.numbers.proofs.logarithm.log10.Goals as goal

pub returns : goal.returns
unfolding of_bits log10_of
returns c = simp c.ln.ensures
