-- A recorded session's answers are the recorded ones. Assumes nothing.
use mathlib.Core.List.{List, [], ◌∷◌}
use mathlib.Core.Path.{◌≡◌, refl, ap, ap₂, ◌∙◌}
use Rattle.engine_spec.specs.Lists.{Answered, answers_to}
use Rattle.engine_spec.specs.Windows.{Submission}
use Rattle.engine_spec.specs.declared.types.Engine.{Engine}
use Rattle.engine_spec.specs.Results.{SubmitResult}
use Rattle.engine_sessions.specs.Session.{Reply, refusal, again, answered, outcome, Turn, after, AllWork, end, turn, submissions, replied, all_replied, AnswersRecorded}

-- what is seen of a submission
abbrev pub seen : Submission → SubmitResult → Answered
seen i x = record { submission = i; answer = x.answer; snapshot = x.snapshot }

pub seen_is : (e : Engine) (i : Submission) (r : Reply) → seen i (outcome e i r) ≡ replied (record { submission = i; reply = r })
unfolding replied
seen_is e i (refusal r) = refl
seen_is e i (again n) = refl
seen_is e i (answered n l) = refl

along : (e : Engine) (l : List Turn) → AllWork e l → answers_to e (submissions l) ≡ all_replied l
unfolding answers_to submissions all_replied
along e [] end = refl
along e (t ∷ l) (turn w rest) =
    ap (λ (x : SubmitResult). seen t.submission x ∷ answers_to x.engine (submissions l)) w
    ∙ ap₂ ◌∷◌ (seen_is e t.submission t.reply) (along (after e t) l rest)

pub answers_recorded : AnswersRecorded
answers_recorded s w = along _ s.turns w
