-- `engine_lock::track::supports` meets its contract. Assumes nothing.
use Rattle.engine_spec.specs.Tracking.{supports}
use Rattle.engine_lock.proofs.track.supports.Goals as goal

pub returns : goal.returns
unfolding supports
returns c = simp (← c.is_same_place.ensures)
