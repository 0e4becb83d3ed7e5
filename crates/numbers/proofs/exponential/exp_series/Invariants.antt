-- `numbers::exponential::exp_series` meets its contract: what is left of the series, from p, is the whole series from 1. Assumes nothing.
use Rattle.std.proofs.Common.{◌≡◌}
use Rattle.numbers_spec.specs.Arithmetic.{one}
use Rattle.numbers_spec.specs.Exponential.{exp_series}
use Rattle.numbers.proofs.exponential.exp_series.Given as goal

abbrev pub invariant-loop-n : goal.invariant-loop-n
invariant-loop-n l = exp_series l.n l.r l.p ≡ exp_series 13 l.r one
