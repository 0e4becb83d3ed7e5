-- `numbers::logarithm::ln_1p` meets its contract. Assumes nothing.
use lib.Ieee.{of_bits}
use Rattle.numbers_spec.specs.Logarithm.{log1p_of}
use Rattle.numbers.proofs.logarithm.ln_1p.Goals as goal

pub returns-then-x : goal.returns-then-x
unfolding of_bits log1p_of
returns-then-x c = simp (← c.widen-x.ensures, c.if-x.true, c.log_twice.ensures, c.narrow.ensures)

pub returns : goal.returns
unfolding of_bits log1p_of
returns c = simp (← c.widen-x.ensures, c.if-x.false, c.ln.ensures, c.narrow-2.ensures)
