-- `engine_lock::track::moved_offset` meets its contract. Assumes nothing.
use Rattle.engine_spec.specs.Tracking.{moved_offset}
use Rattle.engine_lock.proofs.track.moved_offset.Goals as goal

pub returns : goal.returns
unfolding moved_offset
returns c = simp (← c.gain.ensures)
