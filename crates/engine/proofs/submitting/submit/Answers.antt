use mathlib.Core.Path.{sym}
use Rattle.engine_opening.proofs.RoomLaws.{room}
use Rattle.engine.proofs.submitting.submit.Goals as goal

pub answered-requires : goal.answered-requires
answered-requires c = room _ _ (sym c.in_ok-check_submission.ensures)
