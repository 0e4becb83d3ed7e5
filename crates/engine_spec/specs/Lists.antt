-- A list of submissions, and what is answered to it. Definitions only.
use Rattle.std.specs.Prelude.{cond, List, [], ◌∷◌}
use Rattle.numbers_spec.specs.Arithmetic.{zero⁺}
use Rattle.engine_spec.specs.Cases.{is_computed}
use Rattle.engine_spec.specs.Windows.{Submission}
use Rattle.engine_spec.specs.Opening.{blank_snapshot}
use Rattle.engine_spec.specs.Submitting.{submit}
use Rattle.engine_spec.specs.declared.types.Snapshot.{Snapshot}
use Rattle.engine_spec.specs.declared.types.Engine.{Engine}
use Rattle.engine_spec.specs.Results.{Answer}
use Rattle.engine_spec.specs.Results as answer

-- A submission as it was handed in, and what was answered.
pub record Answered : Type 0 where
  pub submission : Submission
  pub answer : Answer
  pub snapshot : Snapshot

-- Each gets the state that the one before it gave back or left in place.
unfoldable pub answers_to : Engine → List Submission → List Answered
answers_to e [] = []
answers_to e (i ∷ l) = record { submission = i; answer = (submit e i).answer; snapshot = (submit e i).snapshot } ∷ answers_to (submit e i).engine l

unfoldable pub engine_after : Engine → List Submission → Engine
engine_after e [] = e
engine_after e (i ∷ l) = engine_after (submit e i).engine l

-- The remaining answers: the refused ones and the re-readings struck out.
unfoldable pub remaining : List Answered → List Answered
remaining [] = []
remaining (a ∷ l) = cond (is_computed a.answer) (a ∷ remaining l) (remaining l)

-- What stands behind the end of a list; no clause reads it.
abbrev pub unanswered : Answered
unanswered = record {
  submission = record {
    index = record { fine = []; coarse = []; fine_energy = []; coarse_energy = [] };
    window = record { bands = 0; times = []; energies = []; values = [] };
    clock = record { 0 = zero⁺ };
    room32 = 0;
    room64 = 0;
  };
  answer = answer.Opened;
  snapshot = blank_snapshot;
}
