-- The lock guarantee (docs/GUARANTEE.md), of every list of submissions to a fresh engine. Its terms stand in specs/Chain.antt. Definitions only.
use Rattle.std.specs.Prelude.{ℕ, ◌≤◌, ◌<◌, false, cond, not, List, [], ◌∷◌, ◌++◌, ◌≡◌, T, length, get_or, Float, Option, None, Some, is_some, is_none}
use Rattle.std.specs.Option.{option_map_or}
use Rattle.std.specs.Float.Ieee.{lt}
use Rattle.std.specs.Float.Ieee.Scale.{finite}
use Rattle.numbers_spec.specs.Arithmetic.{◌⊖◌, zero⁺, absolute}
use Rattle.matcher_spec.specs.Candidates.{apart_ms, margin_of}
use Rattle.matcher_spec.specs.declared.types.Candidate.{Candidate}
use Rattle.matcher_spec.specs.Index.{Index, Matcher}
use Rattle.matcher_spec.specs.Search.{whole_search}
use Rattle.numbers_spec.specs.Rows.{Every, F32}
use Rattle.engine_spec.specs.Cases.{is_computed}
use Rattle.engine_spec.specs.Windows.{Window, Submission, indexed, query, endpoint_of, rereads}
use Rattle.matcher_spec.specs.Features.{Features}
use Rattle.engine_spec.specs.Refusals.{index_fits, handed_refusal}
use Rattle.engine_spec.specs.Opening.{blank_candidate, opening, opened_settings, matcher_of_reference}
use Rattle.engine_spec.specs.Publishing.{of_best, ambiguous, comparable_frames, coverage, candidate_array}
use Rattle.engine_spec.specs.Lists.{Answered, answers_to, remaining, unanswered}
use Rattle.engine_spec.specs.Chain.{shown_at, window_at, whole_at, EndsChain, OnChain, Coasts, Ending, Coasting, Placed}
use Rattle.engine_spec.specs.declared.types.Refusal.{Refusal}
use Rattle.engine_spec.specs.declared.types.RecordedMs.{RecordedMs}
use Rattle.engine_spec.specs.declared.types.ClockMs.{ClockMs}
use Rattle.engine_spec.specs.declared.types.Configuration.{Configuration}
use Rattle.engine_spec.specs.declared.types.Settings.{Settings}
use Rattle.engine_spec.specs.declared.types.Snapshot.{Snapshot}
use Rattle.engine_spec.specs.declared.types.Engine.{Engine}
use Rattle.engine_spec.specs.declared.types.State.TheVariants as state
use Rattle.engine_spec.specs.Results.{Answer}
use Rattle.engine_spec.specs.Results as answer

-- ---- what is asked of the list: index untouched
-- The four buffers begin with what opening filled in; their tails may be any.
pub record Begins (front whole : List Float) : Type 0 where
  pub tail : List Float
  pub is : whole ≡ front ++ tail

pub record FilledWith (m : Matcher) (x : Index) : Type 0 where
  pub fine : Begins m.fine.values x.fine
  pub coarse : Begins m.coarse.values x.coarse
  pub fine_energy : Begins m.fine.energy x.fine_energy
  pub coarse_energy : Begins m.coarse.energy x.coarse_energy

-- A submission to an engine with these settings, of a reference with this matcher. An index that is long enough is the one that opening filled (without index none is read); values are f32, as a slice of f32 is. All else may be anything.
pub record Handed (s : Settings) (m : Matcher) (i : Submission) : Type 0 where
  pub index : T (indexed s) → T (index_fits s.reference_frames s.reference_bands i.index) → FilledWith m i.index
  pub held : Every F32 i.window.values

pub data AllHanded (s : Settings) (m : Matcher) : List Submission → Type 0 where
  nothing : AllHanded s m []
  next : {i : Submission} {l : List Submission} → Handed s m i → AllHanded s m l → AllHanded s m (i ∷ l)

-- ---- told: which submissions are refused, re-read or computed follows from windows, clocks and buffers alone
unfoldable pub answers : List Answered → List Answer
answers [] = []
answers (a ∷ l) = a.answer ∷ answers l

-- What is answered after a last computed window with this endpoint.
unfoldable pub answer_to : Settings → Option RecordedMs → Submission → Answer
answer_to s last i = option_map_or (λ (r : Refusal). answer.Refused r) (handed_refusal s i) (cond (rereads s last i.window) answer.Reread answer.Computed)

unfoldable pub told_by : Settings → Option RecordedMs → List Submission → List Answer
told_by s last [] = []
told_by s last (i ∷ l) =
    answer_to s last i ∷ told_by s (cond (is_computed (answer_to s last i)) (Some (endpoint_of i.window)) last) l

-- ---- struck: the remaining submissions once more, under other clocks
unfoldable pub under : List ClockMs → List Answered → List Submission
under cs [] = []
under [] (a ∷ l) = []
under (c ∷ cs) (a ∷ l) =
    let i = a.submission in
    record { index = i.index; window = i.window; clock = c; room32 = i.room32; room64 = i.room64 } ∷ under cs l

pub data AllFinite : List ClockMs → Type 0 where
  nothing : AllFinite []
  next : {c : ClockMs} {cs : List ClockMs} → T (finite c.0) → AllFinite cs → AllFinite (c ∷ cs)

-- ---- the same, said of the submissions themselves
unfoldable pub submissions_of : List Answered → List Submission
submissions_of [] = []
submissions_of (a ∷ l) = a.submission ∷ submissions_of l

-- The same submission, at this clock.
abbrev pub at_clock : ClockMs → Submission → Submission
at_clock c i = record { index = i.index; window = i.window; clock = c; room32 = i.room32; room64 = i.room64 }

-- The same submissions, each at any finite clock.
pub data Reclocked : List Submission → List Submission → Type 0 where
  nothing : Reclocked [] []
  next : {i : Submission} {c : ClockMs} {l k : List Submission} → T (finite c.0) → Reclocked l k → Reclocked (i ∷ l) (at_clock c i ∷ k)

-- A milestone without its reading: whether it is there.
abbrev pub unread : Option ClockMs → Option ClockMs
unread None = None
unread (Some t) = Some (record { 0 = zero⁺ })

-- A snapshot in every field but the readings that milestones carry.
abbrev pub without_readings : Snapshot → Snapshot
without_readings s = record {
  state = s.state;
  phase = s.phase;
  stage = s.stage;
  estimate = s.estimate;
  withhold_reason = s.withhold_reason;
  confidence = s.confidence;
  diagnostics = s.diagnostics;
  first_provisional_lock_elapsed_ms = unread s.first_provisional_lock_elapsed_ms;
  confirmed_lock_elapsed_ms = unread s.confirmed_lock_elapsed_ms;
  final_lock_elapsed_ms = unread s.final_lock_elapsed_ms;
}

pub record Bare : Type 0 where
  pub answer : Answer
  pub snapshot : Snapshot

unfoldable pub bares : List Answered → List Bare
bares [] = []
bares (a ∷ l) = record { answer = a.answer; snapshot = without_readings a.snapshot } ∷ bares l

-- ---- what is promised of the remaining answer i
pub record ◌⇔◌ (A B : Type 0) : Type 0 where
  pub to : A → B
  pub from : B → A

infix 4 ◌⇔◌
-- All that a snapshot shows of its search is of the candidates found.
pub record Shows (hop : Float) (w : Window) (found : List Candidate) (s : Snapshot) : Type 0 where
  pub count : s.diagnostics.candidate_count ≡ length found
  pub candidates : s.diagnostics.candidates ≡ candidate_array (comparable_frames hop w) (coverage w) found
  pub correlation : s.diagnostics.spectral.correlation ≡ of_best (λ (c : Candidate). c.score) found
  pub margin : s.diagnostics.spectral.competing_peak_margin ≡ Some (margin_of found)
  pub first_half : s.diagnostics.spectral.first_half_correlation ≡ of_best (λ (c : Candidate). c.first_half_score) found
  pub second_half : s.diagnostics.spectral.second_half_correlation ≡ of_best (λ (c : Candidate). c.second_half_score) found
  pub recent : s.diagnostics.spectral.recent_correlation ≡ of_best (λ (c : Candidate). c.recent_score) found
  pub dense_margin : s.diagnostics.dense_margin ≡ margin_of found
  pub coarse_ambiguous : s.diagnostics.coarse_ambiguous ≡ ambiguous found

-- No two of the candidates shown lie under 750 apart, as f64 subtracts, either way round.
pub record Apart (s : Snapshot) (j k : ℕ) : Type 0 where
  pub ahead : lt (absolute ((get_or s.diagnostics.candidates j blank_candidate).offset_ms ⊖ (get_or s.diagnostics.candidates k blank_candidate).offset_ms)) apart_ms ≡ false
  pub back : lt (absolute ((get_or s.diagnostics.candidates k blank_candidate).offset_ms ⊖ (get_or s.diagnostics.candidates j blank_candidate).offset_ms)) apart_ms ≡ false

module _ (hop : Float) (m : Matcher) (a : ℕ → Answered) where
  abbrev pub final_at : ℕ → Option ClockMs
  final_at i = (shown_at hop a i).final_lock_elapsed_ms

  pub record Trusted (i : ℕ) : Type 0 where
    -- confirmed equals final
    pub same : (shown_at hop a i).confirmed_lock_elapsed_ms ≡ final_at i
    -- final is there exactly when this answer or an earlier one ends a chain
    pub there : T (is_some (final_at i)) ⇔ ((j : ℕ) × (j ≤ i) × EndsChain hop a j)
    -- once there it never changes
    pub lasting : (j : ℕ) → j ≤ i → T (is_some (final_at j)) → final_at i ≡ final_at j
    -- a Locked answer has an estimate, and ends a chain or follows one without interruption
    pub estimate : (shown_at hop a i).state ≡ state.Locked → T (is_some (shown_at hop a i).estimate)
    pub locked : (shown_at hop a i).state ≡ state.Locked → OnChain hop a i
    -- its coast is its evidence time less that of the last answer, itself counted, without a withhold reason; from 0 to 1,500
    pub coast : (shown_at hop a i).state ≡ state.Locked → Coasts hop a i
    -- an answer that ends a chain is Locked, with no withhold reason and coast 0, at most 80 from the best offset that it shows
    pub ending : EndsChain hop a i → Ending hop a i
    -- a Locked answer with a withhold reason shows the place of the answer before it, which is Locked too
    pub coasting : (shown_at hop a i).state ≡ state.Locked → T (not (is_none (shown_at hop a i).withhold_reason)) → Coasting hop a i
    -- a place is shown only where Locked, or Locking: there it is the best offset of the last passing answer up to it, itself counted
    pub placed : T (is_some (shown_at hop a i).estimate) → Placed hop a i
    -- a whole search shown is the matcher's, of reference, hop and window alone, in all fields
    pub searched : T (whole_at hop a i) → Shows hop (window_at hop a i) (whole_search m (query (window_at hop a i))) (shown_at hop a i)
    -- no two of its candidates lie under 750 apart
    pub apart : T (whole_at hop a i) → (j k : ℕ) → j < k → k < (shown_at hop a i).diagnostics.candidate_count → Apart (shown_at hop a i) j k

-- ---- the guarantee
-- What is promised of the list as a whole, by the hop that opening was given.
pub record Promised (hop : Float) (e : Engine) (m : Matcher) (l : List Submission) : Type 0 where
  -- which are refused, re-read or computed follows from windows, clocks and buffers alone; none is refused with 7
  pub told : answers (answers_to e l) ≡ told_by e.settings None l
  -- the remaining submissions, under any finite clocks, are again all computed, with equal snapshots in all but the readings
  pub struck : (cs : List ClockMs) → length cs ≡ length (remaining (answers_to e l)) → AllFinite cs →
      bares (answers_to e (under cs (remaining (answers_to e l)))) ≡ bares (remaining (answers_to e l))
  -- and each remaining answer can be trusted
  pub trusted : (i : ℕ) → i < length (remaining (answers_to e l)) → Trusted hop m (λ (k : ℕ). get_or (remaining (answers_to e l)) k unanswered) i

-- For every opening that is answered, with or without index, and every list of submissions.
abbrev pub Guarantee : Type 0
Guarantee =
    (c : Configuration) (hop : Float) (reference : Features) (x : Index) → Every F32 reference.values → (opening c hop reference x).answer ≡ answer.Opened
    → (l : List Submission) → AllHanded (opened_settings hop reference) (matcher_of_reference hop reference) l
    → Promised hop (opening c hop reference x).engine (matcher_of_reference hop reference) l
