-- `numbers::logarithm::log_series` meets its contract: what is left of the series, from q, is the whole series from 0. Assumes nothing.
use Rattle.std.proofs.Common.{◌≡◌}
use Rattle.numbers_spec.specs.Arithmetic.{zero⁺}
use Rattle.numbers_spec.specs.Logarithm.{log_series}
use Rattle.numbers.proofs.logarithm.log_series.Given as goal

abbrev pub invariant-loop-i : goal.invariant-loop-i
invariant-loop-i l = log_series l.i l.z l.q ≡ log_series 12 l.z zero⁺
