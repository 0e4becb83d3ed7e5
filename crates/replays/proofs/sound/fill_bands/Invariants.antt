-- `replays::sound::fill_bands` meets its contract: each element so far is what the closure gave for its band and frame. Assumes nothing.
use Rattle.std.proofs.Common.{ℕ, ◌/◌, ◌%◌, ◌<◌, get_or}
use Rattle.std.specs.Float.Ieee.{Float}
use Rattle.replays.proofs.sound.fill_bands.Given as goal

abbrev pub invariant-loop-i : goal.invariant-loop-i
invariant-loop-i g l = (d : Float) (k : ℕ) → k < l.i → goal.F-post g l.at (k / l.n) (k % l.n) (get_or l.values k d)
