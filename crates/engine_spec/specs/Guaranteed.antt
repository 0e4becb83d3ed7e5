-- What is proved of every state that a fresh engine reaches, besides the guarantee. Definitions only.
use Rattle.std.specs.Prelude.{ℕ, ◌-◌, ◌≤◌, ◌<◌, true, false, cond, List, [], ◌∷◌, ◌≡◌, T, length, get_or, Float, Option, None, Some, Result, IfOk}
use Rattle.numbers_spec.specs.Rows.{Every, F32}
use Rattle.matcher_spec.specs.Limits.{candidates_most}
use Rattle.matcher_spec.specs.Index.{Index}
use Rattle.engine_spec.specs.Cases.{is_refused, is_locked, unreachable}
use Rattle.engine_spec.specs.Windows.{Submission, indexed, endpoint_of}
use Rattle.matcher_spec.specs.Features.{Features}
use Rattle.engine_spec.specs.Refusals.{handed_refusal, submission_refusal}
use Rattle.engine_spec.specs.Opening.{opening, opened_index, opened_settings, matcher_of_reference}
use Rattle.engine_spec.specs.Submitting.{shown_again, submit}
use Rattle.engine_spec.specs.SupportAge.{support_age}
use Rattle.engine_spec.specs.Lists.{Answered, answers_to, engine_after, remaining, unanswered}
use Rattle.engine_spec.specs.Guarantee.{AllHanded, FilledWith, Promised}
use Rattle.engine_spec.specs.declared.types.Configuration.{Configuration}
use Rattle.engine_spec.specs.declared.types.Engine.{Engine}
use Rattle.engine_spec.specs.Results.{OpenResult}
use Rattle.engine_spec.specs.declared.types.State.TheVariants as state
use Rattle.engine_spec.specs.declared.types.Refusal.{Refusal}
use Rattle.engine_spec.specs.declared.types.Refusal.TheVariants as refusal
use Rattle.engine_spec.specs.Results as answer

-- P holds of the state after every list of submissions to an engine that opening gave.
abbrev pub OfReached : (Engine → List Submission → Type 0) → Type 0
OfReached P =
    (c : Configuration) (hop : Float) (reference : Features) (x : Index) → Every F32 reference.values → (opening c hop reference x).answer ≡ answer.Opened
    → (l : List Submission) → AllHanded (opened_settings hop reference) (matcher_of_reference hop reference) l → P (opening c hop reference x).engine l

-- No state reached is refused with 7, and a submission to it is refused for nothing but its own index, clock, window and buffers.
abbrev pub NeverSeven : Type 0
NeverSeven = OfReached (λ (e : Engine) (l : List Submission). (i : Submission) → submission_refusal (engine_after e l) i ≡ handed_refusal e.settings i)

-- From a fresh engine Confirmed never occurs, nor Ready or Drifting, in a computed answer or in a re-reading.
abbrev pub NeverConfirmed : Type 0
NeverConfirmed =
    OfReached
    (λ (e : Engine) (l : List Submission).
    (k : ℕ) → k < length (answers_to e l) → is_refused (get_or (answers_to e l) k unanswered).answer ≡ false
    → unreachable (get_or (answers_to e l) k unanswered).snapshot.state ≡ false)

-- What opening leaves in the four buffers is what the guarantee asks of a lent index.
abbrev pub OpenedFilled : Type 0
OpenedFilled =
    (c : Configuration) (hop : Float) (reference : Features) (x : Index) → (opening c hop reference x).answer ≡ answer.Opened → T (indexed (opened_settings hop reference))
    → FilledWith (matcher_of_reference hop reference) (opened_index c hop reference x)

-- The value that a refused opening gives is refused with 7 by every submission.
abbrev pub RefusedOpening : Type 0
RefusedOpening =
    (c : Configuration) (hop : Float) (reference : Features) (x : Index) → is_refused (opening c hop reference x).answer ≡ true
    → (i : Submission) → (submit (opening c hop reference x).engine i).answer ≡ answer.Refused refusal.StateOutOfRange

-- No answer lists more than 8 candidates: whatever the state, the index and the window.
abbrev pub FewCandidates : Type 0
FewCandidates = (e : Engine) (i : Submission) → (submit e i).snapshot.diagnostics.candidate_count ≤ candidates_most

-- No state, made by a caller or not, has an age unless its last snapshot is Locked.
abbrev pub AgeOfLocked : Type 0
AgeOfLocked = (e : Engine) (x : Float) → (support_age e).coast_ms ≡ Some x → e.last.snapshot.state ≡ state.Locked

-- ---- what the last computed answer of a list leaves
abbrev pub last_of : List Answered → Answered
last_of l = get_or l (length l - 1) unanswered

-- A re-reading after the list l is its last computed answer once more: the estimate moved to this window's endpoint, the milestones those of the state.
pub record ReadAgain (e : Engine) (l : List Submission) (i : Submission) : Type 0 where
  pub some : 0 < length (remaining (answers_to e l))
  pub is : (submit (engine_after e l) i).snapshot ≡ shown_again (endpoint_of i.window) (engine_after e l).milestones (last_of (remaining (answers_to e l))).snapshot

abbrev pub Rereadings : Type 0
Rereadings = OfReached (λ (e : Engine) (l : List Submission). (i : Submission) → (submit (engine_after e l) i).answer ≡ answer.Reread → ReadAgain e l i)

-- The support age of the state after the list l: the coast of the last computed answer where that is Locked, else nothing.
abbrev pub age_left : List Answered → Option Float
age_left [] = None
age_left (a ∷ l) =
    let s = (last_of (a ∷ l)).snapshot in
    cond (is_locked s.state) (Some s.diagnostics.spectral.coast_ms) None

abbrev pub SupportAges : Type 0
SupportAges = OfReached (λ (e : Engine) (l : List Submission). support_age (engine_after e l) ≡ record { refusal = None; coast_ms = age_left (remaining (answers_to e l)) })

-- ---- what opening's contract says of all that is submitted to what it opened
-- The guarantee, that none of it is refused with 7, and that the buffers as opening leaves them are the index that the guarantee asks for. `r` is what opening gave, `filled` what the four buffers hold then.
pub record Guaranteed (c : Configuration) (hop : Float) (reference : Features) (filled : Index) (r : OpenResult) : Type 0 where
  pub promised : r.answer ≡ answer.Opened → (l : List Submission) → AllHanded (opened_settings hop reference) (matcher_of_reference hop reference) l → Promised hop r.engine (matcher_of_reference hop reference) l
  pub never_seven : r.answer ≡ answer.Opened → (l : List Submission) → AllHanded (opened_settings hop reference) (matcher_of_reference hop reference) l
      → (i : Submission) → submission_refusal (engine_after r.engine l) i ≡ handed_refusal r.engine.settings i
  pub index : r.answer ≡ answer.Opened → T (indexed (opened_settings hop reference)) → FilledWith (matcher_of_reference hop reference) filled

-- The same of the `Result` that code gives: of the engine, where there is one.
abbrev pub GuaranteedOf : Configuration → Float → Features → Index → Result Engine Refusal → Type 0
GuaranteedOf c hop reference filled r = IfOk r (λ (e : Engine). Guaranteed c hop reference filled (record { answer = answer.Opened; engine = e }))
