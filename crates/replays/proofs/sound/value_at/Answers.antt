-- `replays::sound::value_at` meets its contract: no product overflows, and the step is a whole number that an f32 has. Assumes nothing.
use Rattle.std.proofs.Common.{ℕ, ◌%◌, T, pos, arith, le→leb, rules}
use lib.Ieee.{binary32, div, in_float}
use Rattle.replays.specs.Sounds.{value_at}
use Rattle.replays.proofs.sound.value_at.Goals as goal

whole : (n : ℕ) → T (in_float binary32 (pos (n % 4096)))
unfolding in_float
whole n = le→leb (n % 4096) 16777216 (omega arith)

pub int_to_float-step : goal.int_to_float-step
int_to_float-step c = whole _

pub returns : goal.returns
unfolding div value_at
returns c = search rules
