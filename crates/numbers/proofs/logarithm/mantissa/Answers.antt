-- `numbers::logarithm::mantissa` meets its contract. Assumes nothing.
use Rattle.std.proofs.Common.{ℕ, ◌+◌, ◌%◌, ◌≤◌, arith}
use lib.Ieee.{binary64, to_bits}
use Rattle.numbers_spec.proofs.Rooted.{no_nan_bits}
use Rattle.numbers.proofs.logarithm.Patterns.{mantissa_is}
use Rattle.numbers.proofs.logarithm.mantissa.Goals as goal

digits_small : (b : ℕ) → b % 4503599627370496 + 4607182418800017408 ≤ 9218868437227405312
digits_small b = omega arith

pub float_from_bits-result : goal.float_from_bits-result
float_from_bits-result c = no_nan_bits _ (digits_small (to_bits binary64 c.number_or.result))

pub returns : goal.returns
returns c = mantissa_is c.args.v c.number_or.ensures
