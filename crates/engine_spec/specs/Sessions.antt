-- The lock guarantee of sessions with restores (document 02, "Named places"): chains, interruptions, re-readings, coasts and milestones are counted over the submissions that led to the restored state, then those after it. Definitions only.
use Rattle.std.specs.Prelude.{ℕ, ◌<◌, cond, List, [], ◌∷◌, ◌++◌, ◌≡◌, T, length, get_or, Float}
use Rattle.std.specs.Float.Ieee.Scale.{finite}
use Rattle.numbers_spec.specs.Rows.{Every, F32}
use Rattle.matcher_spec.specs.Features.{Features}
use Rattle.matcher_spec.specs.Index.{Index, Matcher}
use Rattle.engine_spec.specs.Cases.{is_computed}
use Rattle.engine_spec.specs.Windows.{Submission}
use Rattle.engine_spec.specs.Refusals.{handed_refusal, submission_refusal}
use Rattle.engine_spec.specs.Opening.{opening, opened_settings, matcher_of_reference}
use Rattle.engine_spec.specs.Submitting.{submit}
use Rattle.engine_spec.specs.Lists.{Answered, answers_to, engine_after, remaining}
use Rattle.engine_spec.specs.Guarantee.{Handed, AllHanded, submissions_of, at_clock, Reclocked, bares, Promised}
use Rattle.engine_spec.specs.Guaranteed.{last_of}
use Rattle.engine_spec.specs.Leap.{Gently}
use Rattle.engine_spec.specs.declared.types.ClockMs.{ClockMs}
use Rattle.engine_spec.specs.declared.types.Configuration.{Configuration}
use Rattle.engine_spec.specs.declared.types.Settings.{Settings}
use Rattle.engine_spec.specs.declared.types.Engine.{Engine}
use Rattle.engine_spec.specs.Results as answer

-- ---- what led to a state
-- What was opened, and the buffers that were lent for its index.
pub record Start : Type 0 where
  pub configuration : Configuration
  pub hop : Float
  pub reference : Features
  pub index : Index

-- An opening, and the submissions that its engine then got.
pub record Past : Type 0 where
  pub start : Start
  pub submissions : List Submission

abbrev pub fresh_of : Start → Engine
fresh_of b = (opening b.configuration b.hop b.reference b.index).engine

abbrev pub settings_of : Start → Settings
settings_of b = opened_settings b.hop b.reference

abbrev pub matcher_of : Start → Matcher
matcher_of b = matcher_of_reference b.hop b.reference

-- The state that it leads to, and all its answers.
abbrev pub state_of : Past → Engine
state_of p = engine_after (fresh_of p.start) p.submissions

abbrev pub answers_in : Past → List Answered
answers_in p = answers_to (fresh_of p.start) p.submissions

-- One submission more.
abbrev pub further : Past → Submission → Past
further p i = record { start = p.start; submissions = p.submissions ++ i ∷ [] }

-- Such as the guarantee speaks of: opening is answered, and every submission is handed with the index that it filled.
pub record Proper (p : Past) : Type 0 where
  pub held : Every F32 p.start.reference.values
  pub opened : (opening p.start.configuration p.start.hop p.start.reference p.start.index).answer ≡ answer.Opened
  pub handed : AllHanded (settings_of p.start) (matcher_of p.start) p.submissions

-- ---- a session
-- A submission, or a restore: the state that it gave, and a past of that state.
pub data Turn : Type 0 where
  submits : Submission → Turn
  returns : Engine → Past → Turn

unfoldable pub answers_of : Engine → List Turn → List Answered
answers_of e [] = []
answers_of e (submits i ∷ l) = record { submission = i; answer = (submit e i).answer; snapshot = (submit e i).snapshot } ∷ answers_of (submit e i).engine l
answers_of e (returns given q ∷ l) = answers_of given l

unfoldable pub state_after : Engine → List Turn → Engine
state_after e [] = e
state_after e (submits i ∷ l) = state_after (submit e i).engine l
state_after e (returns given q ∷ l) = state_after given l

-- Of each submission the past that ends with it: after a restore that of the restored state goes on.
unfoldable pub pasts : Past → List Turn → List Past
pasts p [] = []
pasts p (submits i ∷ l) = further p i ∷ pasts (further p i) l
pasts p (returns given q ∷ l) = pasts q l

-- The past of the state after the session.
unfoldable pub past_after : Past → List Turn → Past
past_after p [] = p
past_after p (submits i ∷ l) = past_after (further p i) l
past_after p (returns given q ∷ l) = past_after q l

-- Each submission is handed with the index of the past that it goes on; each restore gives a state reached from a fresh engine.
pub data AllProper : Past → List Turn → Type 0 where
  nothing : {p : Past} → AllProper p []
  submission : {p : Past} {i : Submission} {l : List Turn} → Handed (settings_of p.start) (matcher_of p.start) i → AllProper (further p i) l → AllProper p (submits i ∷ l)
  return : {p q : Past} {given : Engine} {l : List Turn} → Proper q → given ≡ state_of q → AllProper q l → AllProper p (returns given q ∷ l)

-- ---- led: each answer is the last one of its own past
unfoldable pub lasts : List Past → List Answered
lasts [] = []
lasts (q ∷ l) = last_of (answers_in q) ∷ lasts l

-- ---- struck: what remains of a session, its restores in their places
unfoldable pub remaining_of : Engine → List Turn → List Turn
remaining_of e [] = []
remaining_of e (submits i ∷ l) = cond (is_computed (submit e i).answer) (submits i ∷ remaining_of (submit e i).engine l) (remaining_of (submit e i).engine l)
remaining_of e (returns given q ∷ l) = returns given q ∷ remaining_of given l

-- Two pasts of which the same remains, but for clocks.
pub record SameSound (p q : Past) : Type 0 where
  pub start : q.start ≡ p.start
  pub remains : Reclocked (submissions_of (remaining (answers_in p))) (submissions_of (remaining (answers_in q)))

-- Once more at other finite clocks; a restore then gives a state that the same sound led to.
pub data Retold : List Turn → List Turn → Type 0 where
  nothing : Retold [] []
  submission : {i : Submission} {c : ClockMs} {l k : List Turn} → T (finite c.0) → Retold l k → Retold (submits i ∷ l) (submits (at_clock c i) ∷ k)
  return : {p q : Past} {given other : Engine} {l k : List Turn} → SameSound p q → Proper q → other ≡ state_of q → Retold l k → Retold (returns given p ∷ l) (returns other q ∷ k)

-- ---- the guarantee of sessions
-- All that is promised of the list of submissions of a past (Guarantee.antt), and how far its place moves (Leap.antt).
pub record PromisedPast (q : Past) : Type 0 where
  pub promised : Promised q.start.hop (fresh_of q.start) (matcher_of q.start) q.submissions
  pub gently : Gently q.start.hop (fresh_of q.start) q.submissions

-- What is promised of a session that goes on from the past p, as a whole.
pub record PromisedOf (p : Past) (l : List Turn) : Type 0 where
  -- each answer is the last that its own past gets from its own fresh engine,
  pub led : answers_of (state_of p) l ≡ lasts (pasts p l)
  -- and of each of these pasts all is promised: told, struck and trusted;
  pub promised : (k : ℕ) → k < length (pasts p l) → PromisedPast (get_or (pasts p l) k p)
  -- what remains, restores in their places, is at any finite clocks again all computed, with equal snapshots in all but the readings;
  pub struck : (k : List Turn) → Retold (remaining_of (state_of p) l) k → bares (answers_of (state_of p) k) ≡ bares (remaining (answers_of (state_of p) l))
  -- and the next submission is not refused with 7, only for its own index, clock, window and buffers
  pub never_seven : (i : Submission) → submission_refusal (state_after (state_of p) l) i ≡ handed_refusal (settings_of (past_after p l).start) i

-- For every past and every session that goes on from it. A session from a fresh engine is one whose past has no submissions.
abbrev pub GuaranteeOfSessions : Type 0
GuaranteeOfSessions = (p : Past) (l : List Turn) → Proper p → AllProper p l → PromisedOf p l

-- A past struck, at any finite clocks, is one of which the same remains: so every session can be told again with its restores struck likewise.
abbrev pub StruckPast : Type 0
StruckPast =
    (p : Past) → Proper p → (k : List Submission) → Reclocked (submissions_of (remaining (answers_in p))) k
    → let q : Past = record { start = p.start; submissions = k } in Proper q × SameSound p q
