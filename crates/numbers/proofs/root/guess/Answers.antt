-- `numbers::root::guess` meets its contract: its conversions are defined, and its result is in range. Assumes nothing.
use Rattle.std.proofs.Common.{◌-◌, ◌/◌, arith}
use Rattle.numbers_spec.proofs.Rooted.{no_nan_bits}
use Rattle.numbers.proofs.root.guess.Goals as goal

pub float_from_bits-v : goal.float_from_bits-v
float_from_bits-v c = no_nan_bits c.args.bits (omega arith)

pub float_from_bits-y0 : goal.float_from_bits-y0
float_from_bits-y0 c = no_nan_bits (0x5fec_0000_0000_0000 - c.args.bits / 2) (omega arith)
