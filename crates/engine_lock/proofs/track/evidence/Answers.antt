-- `engine_lock::track::evidence` meets its contract. Assumes nothing.
use Rattle.engine_spec.specs.Windows.{evidence_at}
use Rattle.engine_lock.proofs.track.evidence.Goals as goal

pub returns : goal.returns
unfolding evidence_at
returns c = simp (← c.context_frames.ensures)
