-- A state and a snapshot as words: what is written. Numbers that are absent are written as zeros. Definitions only.
use Rattle.std.specs.Prelude.{ℕ, zero, suc, Bool, cond, List, [], ◌∷◌, ◌++◌, ◌≡◌, length, take, drop, get_or, Option, None, Some, is_some}
use Rattle.std.specs.Option.{option_map_or}
use Rattle.std.specs.Float.{nan}
use Rattle.matcher_spec.specs.Limits.{candidates_most}
use Rattle.engine_layout.specs.Layout.{layout, word, state_in}
use Rattle.engine_spec.specs.Milestones.{milestones_shown}
use Rattle.engine_spec.specs.declared.types.RecordedMs.{RecordedMs}
use Rattle.engine_spec.specs.declared.types.ReferenceMs.{ReferenceMs}
use Rattle.engine_spec.specs.declared.types.ClockMs.{ClockMs}
use Rattle.engine_spec.specs.declared.types.Configuration.{Configuration}
use Rattle.engine_spec.specs.declared.types.Settings.{Settings}
use Rattle.engine_spec.specs.declared.types.Lock.{Lock}
use Rattle.engine_spec.specs.declared.types.Milestones.{Milestones}
use Rattle.engine_spec.specs.declared.types.Last.{Last}
use Rattle.engine_spec.specs.declared.types.Engine.{Engine}
use Rattle.engine_spec.specs.declared.types.CandidateDiagnostics.{CandidateDiagnostics}
use Rattle.engine_spec.specs.declared.types.SpectralDiagnostics.{SpectralDiagnostics}
use Rattle.engine_spec.specs.declared.types.Diagnostics.{Diagnostics}
use Rattle.engine_spec.specs.declared.types.Snapshot.{Snapshot}
use Rattle.engine_spec.specs.declared.types.Hypothesis.{Hypothesis}
use Rattle.engine_spec.specs.declared.types.Estimate.{Estimate}
use Rattle.engine_spec.specs.declared.types.LockPhase.{LockPhase}
use Rattle.engine_spec.specs.declared.types.LockPhase.TheVariants as phase
use Rattle.engine_spec.specs.declared.types.Stage.{Stage}
use Rattle.engine_spec.specs.declared.types.Stage.TheVariants as stage
use Rattle.engine_spec.specs.declared.types.WithholdReason.{WithholdReason}
use Rattle.engine_spec.specs.declared.types.WithholdReason.TheVariants as reason
use Rattle.engine_spec.specs.declared.types.State.{State}
use Rattle.engine_spec.specs.declared.types.State.TheVariants as state

-- ---- one word
abbrev pub bool_word : Bool → ℕ
bool_word b = cond b 1 0

abbrev pub recorded_word : RecordedMs → ℕ
recorded_word t = word t.0

abbrev pub reference_word : ReferenceMs → ℕ
reference_word t = word t.0

abbrev pub clock_word : ClockMs → ℕ
clock_word t = word t.0

unfoldable pub state_word : State → ℕ
state_word state.Ready = 0
state_word state.Listening = 1
state_word state.Locking = 2
state_word state.Confirmed = 3
state_word state.Locked = 4
state_word state.Drifting = 5
state_word state.Relocking = 6
state_word state.Lost = 7
state_word state.Failed = 8

unfoldable pub phase_word : LockPhase → ℕ
phase_word phase.None = 0
phase_word phase.Provisional = 1
phase_word phase.Confirmed = 2
phase_word phase.Final = 3

unfoldable pub stage_word : Stage → ℕ
stage_word stage.Readiness = 0
stage_word stage.LandmarkCoarse = 1
stage_word stage.FastTimingVerify = 2
stage_word stage.RobustVerify = 3
stage_word stage.Tracking = 4
stage_word stage.Relock = 5

unfoldable pub reason_word : Option WithholdReason → ℕ
reason_word None = 0
reason_word (Some reason.InsufficientDuration) = 1
reason_word (Some reason.InsufficientEnergy) = 2
reason_word (Some reason.InsufficientActiveFrames) = 3
reason_word (Some reason.InsufficientLandmarkEvidence) = 4
reason_word (Some reason.WeakAlignmentPeak) = 5
reason_word (Some reason.AmbiguousOffset) = 6
reason_word (Some reason.UnstableTrackingResidual) = 7
reason_word (Some reason.LostSignal) = 8
reason_word (Some reason.DecodeFailed) = 9
reason_word (Some reason.IndexUnavailable) = 10

-- ---- a value that may be missing: a tag, and the value
abbrev pub tag : {A : Type 0} → Option A → ℕ
tag x = bool_word (is_some x)

abbrev pub word_or_zero : {A : Type 0} → (A → ℕ) → Option A → ℕ
word_or_zero word_of x = option_map_or word_of x 0

unfoldable pub estimate_words : Option Estimate → List ℕ
estimate_words None = 0 ∷ 0 ∷ 0 ∷ 0 ∷ []
estimate_words (Some e) =
    1 ∷ recorded_word e.query_endpoint_recorded_time_ms ∷ reference_word e.reference_time_ms ∷ word e.offset_ms ∷ []

unfoldable pub hypothesis_words : Option Hypothesis → List ℕ
hypothesis_words None = 0 ∷ 0 ∷ 0 ∷ 0 ∷ 0 ∷ []
hypothesis_words (Some h) =
    1 ∷ word h.offset_ms ∷ recorded_word h.first_evidence_ms ∷ recorded_word h.last_evidence_ms ∷ word h.correlation ∷ []

-- ---- a snapshot
unfoldable pub milestones_words : Milestones → List ℕ
milestones_words m =
    tag m.first_provisional_ms
    ∷ word_or_zero clock_word m.first_provisional_ms
    ∷ tag m.confirmed_ms
    ∷ word_or_zero clock_word m.confirmed_ms
    ∷ tag m.final_ms
    ∷ word_or_zero clock_word m.final_ms
    ∷ []

unfoldable pub spectral_words : SpectralDiagnostics → List ℕ
spectral_words s =
    bool_word s.global_search
    ∷ word s.correlation
    ∷ tag s.competing_peak_margin
    ∷ word_or_zero word s.competing_peak_margin
    ∷ word s.first_half_correlation
    ∷ word s.second_half_correlation
    ∷ word s.recent_correlation
    ∷ word s.fresh_evidence_ms
    ∷ word s.coast_ms
    ∷ []

unfoldable pub candidate_words : CandidateDiagnostics → List ℕ
candidate_words c =
    word c.offset_ms
    ∷ word c.coarse_offset_ms
    ∷ c.comparable_frame_count
    ∷ word c.coverage_ratio
    ∷ word c.combined_dense_score
    ∷ []

-- The first n candidates; `no_candidate` stands past the last, and is not written.
abbrev pub no_candidate : CandidateDiagnostics
no_candidate = record { offset_ms = nan; coarse_offset_ms = nan; comparable_frame_count = 0; coverage_ratio = nan; combined_dense_score = nan }

unfoldable pub candidates_to : ℕ → List CandidateDiagnostics → List ℕ
candidates_to zero l = []
candidates_to (suc n) l = candidates_to n l ++ candidate_words (get_or l n no_candidate)

unfoldable pub diagnostics_numbers : Diagnostics → List ℕ
diagnostics_numbers d =
    word d.query_duration_ms
    ∷ word d.active_frame_fraction
    ∷ bool_word d.coarse_ambiguous
    ∷ word d.dense_margin
    ∷ tag d.offset_stability_ms
    ∷ word_or_zero word d.offset_stability_ms
    ∷ tag d.track_innovation_ms
    ∷ word_or_zero word d.track_innovation_ms
    ∷ d.track_count
    ∷ bool_word d.offset_tracker_confirmed
    ∷ bool_word d.offset_tracker_stable
    ∷ d.candidate_count
    ∷ []

unfoldable pub diagnostics_words : Diagnostics → List ℕ
diagnostics_words d = diagnostics_numbers d ++ candidates_to candidates_most d.candidates ++ spectral_words d.spectral

unfoldable pub shown_words : Snapshot → List ℕ
shown_words s =
    (state_word s.state ∷ phase_word s.phase ∷ stage_word s.stage ∷ [])
    ++ estimate_words s.estimate
    ++ (reason_word s.withhold_reason ∷ word s.confidence ∷ [])
    ++ diagnostics_words s.diagnostics
    ++ milestones_words (milestones_shown s)

-- ---- a state
unfoldable pub configuration_words : Configuration → List ℕ
configuration_words c =
    word c.minimum_readiness_duration_ms
    ∷ word c.tracking_query_duration_ms
    ∷ word c.minimum_active_frame_energy_dbfs
    ∷ word c.minimum_average_energy_dbfs
    ∷ word c.minimum_active_frame_fraction
    ∷ []

unfoldable pub settings_words : Settings → List ℕ
settings_words s = word s.hop_ms ∷ s.reference_frames ∷ s.reference_bands ∷ reference_word s.reference_start_ms ∷ []

unfoldable pub lock_words : Lock → List ℕ
lock_words l = hypothesis_words l.pending ++ hypothesis_words l.accepted ++ (recorded_word l.last_global_search_ms ∷ [])

unfoldable pub last_words : Last → List ℕ
last_words l = (tag l.endpoint_ms ∷ word_or_zero recorded_word l.endpoint_ms ∷ bool_word l.has_snapshot ∷ []) ++ shown_words l.snapshot

unfoldable pub engine_words : Engine → List ℕ
engine_words e = configuration_words e.configuration ++ settings_words e.settings ++ lock_words e.lock ++ milestones_words e.milestones ++ last_words e.last

-- ---- in a slice
-- The words of a state in a slice of its own: the layout number first.
unfoldable pub state_as_words : Engine → List ℕ
state_as_words e = layout ∷ engine_words e

-- What is written of this state is read as this state. It holds of every engine of the code, where each count has its width; of the definitions' records, whose counts could be any, only where it is said.
abbrev pub ReadsBack : Engine → Type 0
ReadsBack e = state_in (state_as_words e) ≡ e

-- The row with ys in the place of as many elements from `at` on.
abbrev pub placed : {A : Type 0} → ℕ → List A → List A → List A
placed at ys xs = take at xs ++ (ys ++ drop (length ys) (drop at xs))
