-- `engine_lock::track::gain` meets its contract. Assumes nothing.
use lib.Ieee.{of_bits}
use Rattle.engine_spec.specs.Tracking.{gain}
use Rattle.engine_lock.proofs.track.gain.Goals as goal

pub returns : goal.returns
unfolding gain of_bits
returns c = cc
