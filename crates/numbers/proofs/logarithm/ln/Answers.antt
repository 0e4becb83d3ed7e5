-- `numbers::logarithm::ln` meets its contract. Assumes nothing.
use lib.Ieee.{lt, of_bits, div}
use Rattle.numbers_spec.specs.Logarithm.{sqrt2, mantissa, exponent, log_of}
use Rattle.numbers_spec.proofs.Chosen.{chosen}
use Rattle.numbers.proofs.logarithm.ln.Goals as goal

pub returns-then-v-2 : goal.returns-then-v-2
unfolding of_bits div log_of
returns-then-v-2 c =
    let v = c.args.v in
    simp (c.if-v.true, c.if-v-2.true, c.mantissa-m.ensures, c.halved.ensures, c.exponent.ensures, c.raised.ensures, c.log_at.ensures, chosen (lt sqrt2 (mantissa v)) (mantissa v) (exponent v))

pub returns-then-v : goal.returns-then-v
unfolding of_bits div log_of
returns-then-v c = simp (c.if-v.true, c.if-v-2.false)

pub returns : goal.returns
unfolding of_bits div log_of
returns c = simp c.if-v.false
