-- `numbers::logarithm::exponent` meets its contract. Assumes nothing.
use Rattle.std.proofs.Common.{ℕ, ◌/◌, ◌<◌, ◌≤◌, T, pos, sym, ap, subst, arith, le→leb}
use lib.Ieee.{Float, binary64, fits, in_float, of_int, sub, to_bits, of_bits}
use lib.Ieee.Bits.{to_bits-lt}
use Rattle.numbers_spec.specs.Exponential.{bias}
use Rattle.numbers.proofs.logarithm.Patterns.{infinite_or_number, same_field}
use Rattle.numbers.proofs.logarithm.exponent.Goals as goal

field_small : (v : Float) → T (fits binary64 v) → to_bits binary64 v / 4503599627370496 ≤ 9007199254740992
field_small v F = cut (to_bits binary64 v) (to_bits-lt binary64 v F)
  where
    cut : (b : ℕ) → b < 18446744073709551616 → b / 4503599627370496 ≤ 9007199254740992
    cut b h = omega arith

pub float_to_bits-result : goal.float_to_bits-result
float_to_bits-result c = infinite_or_number c.args.v c.number_or.ensures

pub int_to_float-result : goal.int_to_float-result
unfolding in_float
int_to_float-result c =
    let e = same_field c.args.v c.number_or.ensures in
    le→leb (to_bits binary64 c.number_or.result / 4503599627370496) 9007199254740992 (subst (λ (k : ℕ). k ≤ 9007199254740992) (sym e) (field_small c.args.v (subst T (sym c.well_formed.0.1) tt)))

pub returns : goal.returns
unfolding of_bits
returns c =
    ap (λ (k : ℕ). sub binary64 (of_int binary64 (pos k)) bias) (same_field c.args.v c.number_or.ensures)
