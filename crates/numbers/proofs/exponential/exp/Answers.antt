-- `numbers::exponential::exp` meets its contract. Assumes nothing.
use lib.Ieee.{of_bits, neg, div}
use Rattle.numbers_spec.specs.Exponential.{exp_of}
use Rattle.numbers.proofs.exponential.exp.Goals as goal

pub returns-then-x : goal.returns-then-x
unfolding of_bits neg exp_of
returns-then-x c = simp c.if-x.true

pub returns-then-x-2 : goal.returns-then-x-2
unfolding of_bits neg div exp_of
returns-then-x-2 c = simp (c.if-x.false, c.if-x-2.true)

pub returns : goal.returns
unfolding of_bits neg exp_of
returns c =
    simp (c.if-x.false, c.if-x-2.false, c.round-k.ensures, c.exp_series.ensures, c.two_to.ensures)
