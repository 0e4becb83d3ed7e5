-- What one computed answer does and shows, in the few facts that the chain's proof rests on. The facts themselves; proofs/Answers.antt shows them of every answer.
use mathlib.Core.Bool.{Bool, true, false, cond, not}
use mathlib.Core.List.{List, [], ◌∷◌}
use mathlib.Core.Logic.{◌⊎◌}
use mathlib.Core.Path.{◌≡◌}
use lib.Dec.{T}
use lib.Ieee.{Float}
use lib.Ieee.Scale.{finite}
use Rattle.std.specs.Prelude.{Option, None, Some, is_some, is_none}
use Rattle.numbers_spec.specs.Arithmetic.{◌⊗◌, zero⁺, at_least}
use Rattle.numbers_spec.specs.Values.{Number}
use Rattle.matcher_spec.specs.Centring.{context_frames}
use Rattle.matcher_spec.specs.Candidates.{margin_of}
use Rattle.matcher_spec.specs.declared.types.Candidate.{Candidate}
use Rattle.matcher_spec.specs.Features.{Features}
use Rattle.matcher_spec.specs.Index.{Matcher}
use Rattle.matcher_spec.specs.Search.{whole_search, local_search}
use Rattle.matcher_spec.specs.SoundSearch.{SoundResult}
use Rattle.engine_spec.specs.Windows.{Window, indexed, query, endpoint_of, evidence, ◌after◌, same_place}
use Rattle.engine_spec.specs.Tracking.{Tracked, may_coast, tracked}
use Rattle.engine_spec.specs.Locking.{Searched, passing, first_evidence, started_or_carried, held_or_dropped, confirms}
use Rattle.engine_spec.specs.Publishing.{of_best, offset_of}
use Rattle.engine_spec.specs.Chain.{best_offset, offset_shown}
use Rattle.engine_spec.specs.Cases.{interrupting, unreachable}
use Rattle.engine_spec.specs.declared.types.Reached.{Reached}
use Rattle.engine_spec.specs.Milestones.{after_passing, after_chain}
use Rattle.engine_spec.specs.declared.types.RecordedMs.{RecordedMs}
use Rattle.engine_spec.specs.declared.types.Settings.{Settings}
use Rattle.engine_spec.specs.declared.types.Lock.{Lock}
use Rattle.engine_spec.specs.declared.types.Snapshot.{Snapshot}
use Rattle.engine_spec.specs.declared.types.Hypothesis.{Hypothesis}
use Rattle.engine_spec.specs.declared.types.State.TheVariants as state
use Rattle.engine_spec.proofs.MovedBound.{Step}

-- ---- what is asked of a window that was not refused
pub record Fair (s : Settings) (m : Matcher) (w : Window) : Type 0 where
  pub endpoint : T (finite (endpoint_of w).0)
  pub evidence : T (finite (evidence s.hop_ms w).0)
  pub halves : T (indexed s) → (c : Candidate) (l : List Candidate) → c ∷ l ≡ whole_search m (query w) → Number c.first_half_score × Number c.second_half_score

-- and what its searches give
pub record Sound (s : Settings) (m : Matcher) (w : Window) : Type 0 where
  pub whole : T (indexed s) → SoundResult (whole_search m (query w))
  pub near : T (indexed s) → (lower upper : Float) → SoundResult (local_search m.reference m.fine (query w) lower upper)

-- what evidence time is less than the endpoint by
abbrev pub trim : Settings → Float
trim s = context_frames s.hop_ms ⊗ s.hop_ms

-- ---- what is asked of the track that a window finds
abbrev pub FiniteTrack : Option Hypothesis → Type 0
FiniteTrack None = Unit
FiniteTrack (Some h) = T (finite h.offset_ms)

-- A track before and after it went toward the best of what was found.
pub data Moved : Option Hypothesis → Option Hypothesis → List Candidate → Type 0 where
  moved : {h h' : Hypothesis} {b : Candidate} {rest : List Candidate} → Step h.offset_ms b.offset_ms h'.offset_ms → Moved (Some h) (Some h') (b ∷ rest)

abbrev pub Moving : Option Hypothesis → Tracked → Type 0
Moving h t = T t.supported → Moved h t.accepted t.found

-- The offsets that the end of a chain compares are finite: of the track after its local search, and of the best of a whole search. A track that a local search supports moves.
pub record Offsets (m : Matcher) (query : Features) (now : RecordedMs) (track : Option Hypothesis) : Type 0 where
  pub track_finite : FiniteTrack (tracked m query now track).accepted
  pub best_finite : (c : Candidate) (l : List Candidate) → c ∷ l ≡ whole_search m query → T (finite c.offset_ms)
  pub moving : Moving track (tracked m query now track)

-- ---- what the searches do
abbrev pub is_held : Option Hypothesis → Bool
is_held None = false
is_held (Some h) = true

-- The accepted track before and after, and whether the window supports it: gone, set to this evidence at the end of a chain or from a track that was there, or as it was, where it may coast.
pub data Track (now : RecordedMs) (lock : Bool) : Option Hypothesis → Option Hypothesis → Bool → Type 0 where
  gone : {h : Option Hypothesis} → Track now lock h None false
  set : {h : Option Hypothesis} {t : Hypothesis} → t.last_evidence_ms ≡ now → T lock ⊎ T (is_held h) → Track now lock h (Some t) true
  kept : {t : Hypothesis} → T (may_coast now t.last_evidence_ms) → Track now lock (Some t) (Some t) false

-- The end of a chain: a supported track with this evidence, the same place as the best of what was found.
pub data Ended (now : RecordedMs) : Option Hypothesis → Bool → List Candidate → Type 0 where
  ended : {t : Hypothesis} {b : Candidate} {rest : List Candidate} → t.last_evidence_ms ≡ now → T (same_place t.offset_ms b.offset_ms) → Ended now (Some t) true (b ∷ rest)

-- Pending p and the milestones k before, s after, with a whole search or none, what it found, and whether a chain ends: nothing, a whole search that doesn't pass, or one that does.
pub data Pend (m : Matcher) (hop : Float) (w : Window) (k : Reached) (p : Option Hypothesis) (s : Searched) : Bool → List Candidate → Bool → Type 0 where
  same : {l : List Candidate} → s.lock.pending ≡ p → s.reached ≡ k → Pend m hop w k p s false l false
  weak : {l : List Candidate} → l ≡ whole_search m (query w) → T (not (passing l)) → s.lock.pending ≡ held_or_dropped p l (evidence hop w) → s.reached ≡ k → Pend m hop w k p s true l false
  pass : {b : Candidate} {l : List Candidate} {lock : Bool} → b ∷ l ≡ whole_search m (query w) → T (passing (b ∷ l))
      → s.lock.pending ≡ started_or_carried p b (evidence hop w)
      → lock ≡ confirms hop (first_evidence p b.offset_ms (evidence hop w)) (evidence hop w) b
      → s.reached ≡ cond lock (after_chain k) (after_passing k) → Pend m hop w k p s true (b ∷ l) lock

pub record Effects (m : Matcher) (hop : Float) (w : Window) (k : Reached) (l : Lock) (s : Searched) : Type 0 where
  pub lock : Bool
  pub track : Track (evidence hop w) lock l.accepted s.lock.accepted s.supported
  pub ended : T lock → Ended (evidence hop w) s.lock.accepted s.supported s.found
  -- what the local search found, which is shown without a whole search; but for the end of a chain a supported track moved toward it
  pub near : List Candidate
  pub local : T (not s.global) → s.found ≡ near
  pub moved : T (not lock) → T s.supported → Moved l.accepted s.lock.accepted near
  pub pend : Pend m hop w k l.pending s s.global s.found lock

-- ---- what a snapshot shows
abbrev pub best_offset_of : List Candidate → Option Float
best_offset_of [] = None
best_offset_of (c ∷ l) = Some c.offset_ms

-- Of a search that found these, whole or not.
pub record Shown (n : Snapshot) (global : Bool) (found : List Candidate) : Type 0 where
  pub whole : n.diagnostics.spectral.global_search ≡ global
  pub correlation : n.diagnostics.spectral.correlation ≡ of_best (λ (c : Candidate). c.score) found
  pub margin : n.diagnostics.spectral.competing_peak_margin ≡ cond global (Some (margin_of found)) None
  pub first_half : n.diagnostics.spectral.first_half_correlation ≡ of_best (λ (c : Candidate). c.first_half_score) found
  pub second_half : n.diagnostics.spectral.second_half_correlation ≡ of_best (λ (c : Candidate). c.second_half_score) found
  pub recent : n.diagnostics.spectral.recent_correlation ≡ of_best (λ (c : Candidate). c.recent_score) found
  pub best : best_offset n.diagnostics ≡ best_offset_of found

-- On a track at this offset whose evidence ended at `last`; `final` says whether that milestone is there.
pub record OnTrack (n : Snapshot) (now : RecordedMs) (final : Bool) (offset : Float) (last : RecordedMs) : Type 0 where
  pub state : n.state ≡ cond final state.Locked state.Confirmed
  pub place : offset_shown n.estimate ≡ Some offset
  pub coast : n.diagnostics.spectral.coast_ms ≡ at_least zero⁺ (now after last)
  pub within : T (may_coast now last)

-- On none, after the searches s.
pub record OffTrack (n : Snapshot) (s : Searched) : Type 0 where
  pub state : n.state ≡ cond s.reached.confirmed state.Relocking state.Locking
  pub place : offset_shown n.estimate ≡ cond s.reached.confirmed None (offset_of s.lock.pending)

-- A snapshot is on the accepted track, where there is one.
pub data TrackShown (n : Snapshot) (now : RecordedMs) (s : Searched) : Option Hypothesis → Type 0 where
  off : OffTrack n s → TrackShown n now s None
  on : {t : Hypothesis} → OnTrack n now s.reached.final_lock t.offset_ms t.last_evidence_ms → TrackShown n now s (Some t)

-- All of a snapshot after the searches s.
pub record View (hop : Float) (w : Window) (s : Searched) (n : Snapshot) : Type 0 where
  pub shown : Shown n s.global s.found
  pub loud : T (not (interrupting n.state))
  pub reason : is_none n.withhold_reason ≡ s.supported
  pub track : TrackShown n (evidence hop w) s s.lock.accepted
  pub usual : (T (is_held s.lock.accepted) → T s.reached.final_lock) → unreachable n.state ≡ false

-- All of a snapshot of a window that could not be searched.
pub record Silence (n : Snapshot) : Type 0 where
  pub shown : Shown n false []
  pub quiet : T (interrupting n.state)
  pub withheld : T (not (is_none n.withhold_reason))
  pub placeless : T (is_some n.estimate) → ⊥
  pub usual : unreachable n.state ≡ false
