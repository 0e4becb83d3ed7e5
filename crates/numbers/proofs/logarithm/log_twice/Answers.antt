-- `numbers::logarithm::log_twice` meets its contract. Assumes nothing.
use Rattle.std.proofs.Common.{ap}
use lib.Ieee.{Float, binary64, mul, of_bits}
use Rattle.numbers_spec.specs.Arithmetic.{two}
use Rattle.numbers.proofs.logarithm.log_twice.Goals as goal

pub returns : goal.returns
unfolding of_bits
returns c = ap (λ (q : Float). mul binary64 two (mul binary64 c.args.s q)) c.log_series.ensures
