-- A session over one store that begins with zeros and that nobody else writes: each restore is refused or gives a state that the session kept. So it is a session such as the guarantee speaks of (engine_spec, Sessions). Definitions only.
use Rattle.std.specs.Prelude.{ℕ, false, cond, List, [], ◌∷◌, ◌++◌, ◌≡◌, eqb, length, replicate, Option, None, Some}
use Rattle.matcher_spec.specs.Index.{Matcher}
use Rattle.engine_spec.specs.Windows.{Submission}
use Rattle.engine_spec.specs.Refusals.{refuses}
use Rattle.engine_spec.specs.Submitting.{submit}
use Rattle.engine_spec.specs.Lists.{Answered}
use Rattle.engine_spec.specs.Guarantee.{Handed}
use Rattle.engine_spec.specs.Sessions.{Past, settings_of, matcher_of, state_of, further, Proper, Turn, submits, returns, answers_of, AllProper, PromisedOf}
use Rattle.engine_spec.specs.declared.types.Settings.{Settings}
use Rattle.engine_spec.specs.declared.types.Engine.{Engine}
use Rattle.engine_layout.specs.Written.{ReadsBack}
use Rattle.places_spec.specs.Places.{keep_refusal, kept, restored}

-- ---- what a unit is asked to do
pub data Call : Type 0 where
  submit_it : Submission → Call
  keep_as : ℕ → Call
  restore_from : ℕ → Call

-- What is answered to its submissions, from a state and a store on.
unfoldable pub answers_asked : Engine → List ℕ → List Call → List Answered
answers_asked e store [] = []
answers_asked e store (submit_it i ∷ l) = record { submission = i; answer = (submit e i).answer; snapshot = (submit e i).snapshot } ∷ answers_asked (submit e i).engine store l
answers_asked e store (keep_as name ∷ l) = answers_asked e (kept e name store) l
answers_asked e store (restore_from name ∷ l) = answers_asked (restored e name store).engine store l

-- Each submission is handed with the index that opening filled; each state that is kept reads back, which `keep` ensures.
pub data AllAsked (s : Settings) (m : Matcher) : Engine → List ℕ → List Call → Type 0 where
  nothing : {e : Engine} {store : List ℕ} → AllAsked s m e store []
  submitted : {e : Engine} {store : List ℕ} {i : Submission} {l : List Call} → Handed s m i → AllAsked s m (submit e i).engine store l → AllAsked s m e store (submit_it i ∷ l)
  kept_as : {e : Engine} {store : List ℕ} {name : ℕ} {l : List Call} → (refuses (keep_refusal name (length store)) ≡ false → ReadsBack e) → AllAsked s m e (kept e name store) l → AllAsked s m e store (keep_as name ∷ l)
  restored_from : {e : Engine} {store : List ℕ} {name : ℕ} {l : List Call} → AllAsked s m (restored e name store).engine store l → AllAsked s m e store (restore_from name ∷ l)

-- ---- the session that it is
-- Under a name what led to the state kept there, if one is.
abbrev pub Mark : Type 0
Mark = Option (List Submission)

abbrev pub no_marks : ℕ → Mark
no_marks name = None

abbrev pub marked : ℕ → List Submission → (ℕ → Mark) → ℕ → Mark
marked name l marks other = cond (eqb other name) (Some l) (marks other)

-- A restore of a mark is a turn; of none it is refused, and no turn.
abbrev pub turn_to : Past → Mark → List Turn
turn_to p None = []
turn_to p (Some k) = returns (state_of (record { start = p.start; submissions = k })) (record { start = p.start; submissions = k }) ∷ []

abbrev pub past_at : Past → Mark → Past
past_at p None = p
past_at p (Some k) = record { start = p.start; submissions = k }

-- Over a store of so many words.
unfoldable pub turns_asked : ℕ → Past → (ℕ → Mark) → List Call → List Turn
turns_asked words p marks [] = []
turns_asked words p marks (submit_it i ∷ l) = submits i ∷ turns_asked words (further p i) marks l
turns_asked words p marks (keep_as name ∷ l) = turns_asked words p (cond (refuses (keep_refusal name words)) marks (marked name p.submissions marks)) l
turns_asked words p marks (restore_from name ∷ l) =
    let mark = cond (refuses (keep_refusal name words)) None (marks name) in
    turn_to p mark ++ turns_asked words (past_at p mark) marks l

-- Its answers are those of a session whose restores each give a state that the session reached, and so all is promised of it.
pub record IsSession (words : ℕ) (p : Past) (l : List Call) : Type 0 where
  pub proper : AllProper p (turns_asked words p no_marks l)
  pub is : answers_asked (state_of p) (replicate words 0) l ≡ answers_of (state_of p) (turns_asked words p no_marks l)
  pub promised : PromisedOf p (turns_asked words p no_marks l)

abbrev pub OwnStore : Type 0
OwnStore = (words : ℕ) (p : Past) (l : List Call) → Proper p → AllAsked (settings_of p.start) (matcher_of p.start) (state_of p) (replicate words 0) l → IsSession words p l
