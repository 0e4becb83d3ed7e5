-- `engine_lock::track::is_same_place` meets its contract. Assumes nothing.
use Rattle.engine_lock.proofs.track.is_same_place.Goals as goal

pub returns : goal.returns
returns c = simp (← c.abs.ensures)
