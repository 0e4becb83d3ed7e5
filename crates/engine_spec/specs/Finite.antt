-- Every number of a computed snapshot is finite, so that none is a NaN. The records have a field for each field of a snapshot's structs (src/types.rt) that is an f64 or holds one, under its own words. Definitions only.
use Rattle.std.specs.Prelude.{ℕ, ◌<◌, List, T, length, get_or, Option, None, Some, Float}
use Rattle.std.specs.Float.Ieee.Scale.{finite}
use Rattle.matcher_spec.specs.Limits.{candidates_most}
use Rattle.engine_spec.specs.Windows.{Submission}
use Rattle.engine_spec.specs.Opening.{blank_candidate}
use Rattle.engine_spec.specs.Lists.{answers_to, remaining, unanswered}
use Rattle.engine_spec.specs.Guaranteed.{OfReached}
use Rattle.engine_spec.specs.declared.types.ClockMs.{ClockMs}
use Rattle.engine_spec.specs.declared.types.CandidateDiagnostics.{CandidateDiagnostics}
use Rattle.engine_spec.specs.declared.types.SpectralDiagnostics.{SpectralDiagnostics}
use Rattle.engine_spec.specs.declared.types.Snapshot.{Snapshot}
use Rattle.engine_spec.specs.declared.types.Engine.{Engine}
use Rattle.engine_spec.specs.declared.types.Estimate.{Estimate}

-- ---- a snapshot's parts
-- A number that may be missing, a milestone and an estimate: finite where they are there.
abbrev pub FiniteNumber : Option Float → Type 0
FiniteNumber None = Unit
FiniteNumber (Some x) = T (finite x)

abbrev pub FiniteMilestone : Option ClockMs → Type 0
FiniteMilestone None = Unit
FiniteMilestone (Some t) = T (finite t.0)

abbrev pub FiniteEstimate : Option Estimate → Type 0
FiniteEstimate None = Unit
FiniteEstimate (Some e) = T (finite e.query_endpoint_recorded_time_ms.0) × T (finite e.reference_time_ms.0) × T (finite e.offset_ms)

pub record FiniteCandidate (c : CandidateDiagnostics) : Type 0 where
  pub offset_ms : T (finite c.offset_ms)
  pub coarse_offset_ms : T (finite c.coarse_offset_ms)
  pub coverage_ratio : T (finite c.coverage_ratio)
  pub combined_dense_score : T (finite c.combined_dense_score)

pub record FiniteSpectral (x : SpectralDiagnostics) : Type 0 where
  pub correlation : T (finite x.correlation)
  pub competing_peak_margin : FiniteNumber x.competing_peak_margin
  pub first_half_correlation : T (finite x.first_half_correlation)
  pub second_half_correlation : T (finite x.second_half_correlation)
  pub recent_correlation : T (finite x.recent_correlation)
  pub fresh_evidence_ms : T (finite x.fresh_evidence_ms)
  pub coast_ms : T (finite x.coast_ms)

-- ---- a snapshot
-- Of the array of candidates all 8 places, those behind the last candidate too.
pub record FiniteSnapshot (s : Snapshot) : Type 0 where
  pub estimate : FiniteEstimate s.estimate
  pub confidence : T (finite s.confidence)
  pub query_duration_ms : T (finite s.diagnostics.query_duration_ms)
  pub active_frame_fraction : T (finite s.diagnostics.active_frame_fraction)
  pub dense_margin : T (finite s.diagnostics.dense_margin)
  pub offset_stability_ms : FiniteNumber s.diagnostics.offset_stability_ms
  pub track_innovation_ms : FiniteNumber s.diagnostics.track_innovation_ms
  pub candidates : (k : ℕ) → k < candidates_most → FiniteCandidate (get_or s.diagnostics.candidates k blank_candidate)
  pub spectral : FiniteSpectral s.diagnostics.spectral
  pub first_provisional_lock_elapsed_ms : FiniteMilestone s.first_provisional_lock_elapsed_ms
  pub confirmed_lock_elapsed_ms : FiniteMilestone s.confirmed_lock_elapsed_ms
  pub final_lock_elapsed_ms : FiniteMilestone s.final_lock_elapsed_ms

-- Each computed snapshot of every list of submissions to an engine that opening gave. A re-reading shows the last of them again, moved to another endpoint, and a refusal a blank one: of those nothing is said here.
abbrev pub FiniteSnapshots : Type 0
FiniteSnapshots =
    OfReached
    (λ (e : Engine) (l : List Submission).
    (k : ℕ) → k < length (remaining (answers_to e l)) → FiniteSnapshot (get_or (remaining (answers_to e l)) k unanswered).snapshot)
