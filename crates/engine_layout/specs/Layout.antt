-- A state and a snapshot as words of a lent slice: what given words hold. Every list of words is read, whatever stands in it. Definitions only.
--
--   words of a state (106)    what
--   0                         the layout number, 1
--   1 .. 5                    configuration
--   6 .. 9                    settings: hop, reference's frames, bands, start
--   10 .. 20                  lock: pending 5, accepted 5, time of the last whole search
--   21 .. 26                  milestones: first provisional 2, confirmed 2, final 2
--   27 .. 29                  last: endpoint 2, whether there is a snapshot
--   30 .. 105                 the last snapshot's 76 words
--
--   words of a snapshot (76)  what
--   0 .. 2                    state, phase, stage
--   3 .. 6                    estimate: tag, recorded endpoint, reference time, offset
--   7, 8                      why none is shown, confidence
--   9 .. 20                   diagnostics: 12 numbers, two of them with a tag before
--   21 .. 60                  8 candidates of 5
--   61 .. 69                  what the spectral search found
--   70 .. 75                  milestones: as a state's
--
-- As words of a slice of its own a snapshot is 77: the layout number first.
use Rattle.std.specs.Prelude.{ℕ, ◌%◌, ◌^◌, Bool, cond, List, [], ◌∷◌, eqb, take, drop, get_or, Float, Option, None, Some}
use Rattle.std.specs.Float.{binary64}
use Rattle.std.specs.Float.Ieee.{to_bits, of_bits}
use Rattle.engine_spec.specs.Opening.{no_engine}
use Rattle.engine_spec.specs.declared.types.RecordedMs.{RecordedMs}
use Rattle.engine_spec.specs.declared.types.ReferenceMs.{ReferenceMs}
use Rattle.engine_spec.specs.declared.types.ClockMs.{ClockMs}
use Rattle.engine_spec.specs.declared.types.Configuration.{Configuration}
use Rattle.engine_spec.specs.declared.types.Settings.{Settings}
use Rattle.engine_spec.specs.declared.types.Lock.{Lock}
use Rattle.engine_spec.specs.declared.types.Milestones.{Milestones}
use Rattle.engine_spec.specs.declared.types.Last.{Last}
use Rattle.engine_spec.specs.declared.types.Engine.{Engine}
use Rattle.engine_spec.specs.declared.types.CandidateDiagnostics.{CandidateDiagnostics}
use Rattle.engine_spec.specs.declared.types.SpectralDiagnostics.{SpectralDiagnostics}
use Rattle.engine_spec.specs.declared.types.Diagnostics.{Diagnostics}
use Rattle.engine_spec.specs.declared.types.Snapshot.{Snapshot}
use Rattle.engine_spec.specs.declared.types.Hypothesis.{Hypothesis}
use Rattle.engine_spec.specs.declared.types.Estimate.{Estimate}
use Rattle.engine_spec.specs.declared.types.LockPhase.{LockPhase}
use Rattle.engine_spec.specs.declared.types.LockPhase.TheVariants as phase
use Rattle.engine_spec.specs.declared.types.Stage.{Stage}
use Rattle.engine_spec.specs.declared.types.Stage.TheVariants as stage
use Rattle.engine_spec.specs.declared.types.WithholdReason.{WithholdReason}
use Rattle.engine_spec.specs.declared.types.WithholdReason.TheVariants as reason
use Rattle.engine_spec.specs.declared.types.State.{State}
use Rattle.engine_spec.specs.declared.types.State.TheVariants as state

-- ---- the layout
abbrev pub layout : ℕ
layout = 1

abbrev pub state_words : ℕ
state_words = 106

abbrev pub snapshot_words : ℕ
snapshot_words = 77

-- ---- one word
-- The word of a float is its bit pattern; a NaN's is 0x7ff8000000000000.
abbrev pub word : Float → ℕ
word x = to_bits binary64 x

-- Any pattern of a NaN is read as the NaN.
abbrev pub float : ℕ → Float
float n = of_bits binary64 n

-- A time is read as its number.
abbrev pub recorded_of : ℕ → RecordedMs
recorded_of n = record { 0 = float n }

abbrev pub reference_of : ℕ → ReferenceMs
reference_of n = record { 0 = float n }

abbrev pub clock_of : ℕ → ClockMs
clock_of n = record { 0 = float n }

abbrev pub bool_of : ℕ → Bool
bool_of n = eqb n 1

-- A u16's count.
abbrev pub count_of : ℕ → ℕ
count_of n = n % 2 ^ 16

-- The k words from a on.
abbrev pub part : ℕ → ℕ → List ℕ → List ℕ
part a k w = take k (drop a w)

-- ---- an enum: its place in the declaration; a number out of range is the last
unfoldable pub state_of : ℕ → State
state_of n =
    cond (eqb n 0) state.Ready
    (cond (eqb n 1) state.Listening
    (cond (eqb n 2) state.Locking
    (cond (eqb n 3) state.Confirmed
    (cond (eqb n 4) state.Locked
    (cond (eqb n 5) state.Drifting
    (cond (eqb n 6) state.Relocking
    (cond (eqb n 7) state.Lost state.Failed)))))))

unfoldable pub phase_of : ℕ → LockPhase
phase_of n =
    cond (eqb n 0) phase.None
    (cond (eqb n 1) phase.Provisional
    (cond (eqb n 2) phase.Confirmed phase.Final))

unfoldable pub stage_of : ℕ → Stage
stage_of n =
    cond (eqb n 0) stage.Readiness
    (cond (eqb n 1) stage.LandmarkCoarse
    (cond (eqb n 2) stage.FastTimingVerify
    (cond (eqb n 3) stage.RobustVerify
    (cond (eqb n 4) stage.Tracking stage.Relock))))

-- Why nothing is shown: 0 where there is no reason, else a reason's place, from 1.
unfoldable pub reason_of : ℕ → Option WithholdReason
reason_of n =
    cond (eqb n 0) None
    (cond (eqb n 1) (Some reason.InsufficientDuration)
    (cond (eqb n 2) (Some reason.InsufficientEnergy)
    (cond (eqb n 3) (Some reason.InsufficientActiveFrames)
    (cond (eqb n 4) (Some reason.InsufficientLandmarkEvidence)
    (cond (eqb n 5) (Some reason.WeakAlignmentPeak)
    (cond (eqb n 6) (Some reason.AmbiguousOffset)
    (cond (eqb n 7) (Some reason.UnstableTrackingResidual)
    (cond (eqb n 8) (Some reason.LostSignal)
    (cond (eqb n 9) (Some reason.DecodeFailed) (Some reason.IndexUnavailable))))))))))

-- ---- a value that may be missing: a tag, and the value; any tag but 1 is none
unfoldable pub option_of : {A : Type 0} → (ℕ → A) → ℕ → ℕ → Option A
option_of of_word tag n = cond (eqb tag 1) (Some (of_word n)) None

unfoldable pub estimate_of : List ℕ → Option Estimate
estimate_of w =
    cond (eqb (get_or w 0 0) 1)
    (Some (record {
      query_endpoint_recorded_time_ms = recorded_of (get_or w 1 0);
      reference_time_ms = reference_of (get_or w 2 0);
      offset_ms = float (get_or w 3 0);
    }))
    None

unfoldable pub hypothesis_of : List ℕ → Option Hypothesis
hypothesis_of w =
    cond (eqb (get_or w 0 0) 1)
    (Some (record {
      offset_ms = float (get_or w 1 0);
      first_evidence_ms = recorded_of (get_or w 2 0);
      last_evidence_ms = recorded_of (get_or w 3 0);
      correlation = float (get_or w 4 0);
    }))
    None

-- ---- a snapshot
unfoldable pub milestones_of : List ℕ → Milestones
milestones_of w = record {
  first_provisional_ms = option_of clock_of (get_or w 0 0) (get_or w 1 0);
  confirmed_ms = option_of clock_of (get_or w 2 0) (get_or w 3 0);
  final_ms = option_of clock_of (get_or w 4 0) (get_or w 5 0);
}

unfoldable pub spectral_of : List ℕ → SpectralDiagnostics
spectral_of w = record {
  global_search = bool_of (get_or w 0 0);
  correlation = float (get_or w 1 0);
  competing_peak_margin = option_of float (get_or w 2 0) (get_or w 3 0);
  first_half_correlation = float (get_or w 4 0);
  second_half_correlation = float (get_or w 5 0);
  recent_correlation = float (get_or w 6 0);
  fresh_evidence_ms = float (get_or w 7 0);
  coast_ms = float (get_or w 8 0);
}

unfoldable pub candidate_of : List ℕ → CandidateDiagnostics
candidate_of w = record {
  offset_ms = float (get_or w 0 0);
  coarse_offset_ms = float (get_or w 1 0);
  comparable_frame_count = get_or w 2 0;
  coverage_ratio = float (get_or w 3 0);
  combined_dense_score = float (get_or w 4 0);
}

-- All eight, whatever their count says.
unfoldable pub candidates_of : List ℕ → List CandidateDiagnostics
candidates_of w =
    candidate_of (part 0 5 w)
    ∷ candidate_of (part 5 5 w)
    ∷ candidate_of (part 10 5 w)
    ∷ candidate_of (part 15 5 w)
    ∷ candidate_of (part 20 5 w)
    ∷ candidate_of (part 25 5 w)
    ∷ candidate_of (part 30 5 w)
    ∷ candidate_of (part 35 5 w)
    ∷ []

-- By the twelve numbers, and the rest.
unfoldable pub diagnostics_with : List ℕ → List CandidateDiagnostics → SpectralDiagnostics → Diagnostics
diagnostics_with w candidates spectral = record {
  query_duration_ms = float (get_or w 0 0);
  active_frame_fraction = float (get_or w 1 0);
  coarse_ambiguous = bool_of (get_or w 2 0);
  dense_margin = float (get_or w 3 0);
  offset_stability_ms = option_of float (get_or w 4 0) (get_or w 5 0);
  track_innovation_ms = option_of float (get_or w 6 0) (get_or w 7 0);
  track_count = get_or w 8 0;
  offset_tracker_confirmed = bool_of (get_or w 9 0);
  offset_tracker_stable = bool_of (get_or w 10 0);
  candidate_count = get_or w 11 0;
  candidates = candidates;
  spectral = spectral;
}

unfoldable pub diagnostics_of : List ℕ → Diagnostics
diagnostics_of w = diagnostics_with (part 0 12 w) (candidates_of (part 12 40 w)) (spectral_of (part 52 9 w))

unfoldable pub snapshot_of : List ℕ → Snapshot
snapshot_of w =
    let m = milestones_of (part 70 6 w) in
    record {
      state = state_of (get_or w 0 0);
      phase = phase_of (get_or w 1 0);
      stage = stage_of (get_or w 2 0);
      estimate = estimate_of (part 3 4 w);
      withhold_reason = reason_of (get_or w 7 0);
      confidence = float (get_or w 8 0);
      diagnostics = diagnostics_of (part 9 61 w);
      first_provisional_lock_elapsed_ms = m.first_provisional_ms;
      confirmed_lock_elapsed_ms = m.confirmed_ms;
      final_lock_elapsed_ms = m.final_ms;
    }

-- The snapshot in a slice of its own.
abbrev pub snapshot_in : List ℕ → Snapshot
snapshot_in w = snapshot_of (part 1 76 w)

-- ---- a state
unfoldable pub configuration_of : List ℕ → Configuration
configuration_of w = record {
  minimum_readiness_duration_ms = float (get_or w 0 0);
  tracking_query_duration_ms = float (get_or w 1 0);
  minimum_active_frame_energy_dbfs = float (get_or w 2 0);
  minimum_average_energy_dbfs = float (get_or w 3 0);
  minimum_active_frame_fraction = float (get_or w 4 0);
}

unfoldable pub settings_of : List ℕ → Settings
settings_of w = record {
  hop_ms = float (get_or w 0 0);
  reference_frames = count_of (get_or w 1 0);
  reference_bands = count_of (get_or w 2 0);
  reference_start_ms = reference_of (get_or w 3 0);
}

unfoldable pub lock_of : List ℕ → Lock
lock_of w = record {
  pending = hypothesis_of (part 0 5 w);
  accepted = hypothesis_of (part 5 5 w);
  last_global_search_ms = recorded_of (get_or w 10 0);
}

unfoldable pub last_of : List ℕ → Last
last_of w = record {
  endpoint_ms = option_of recorded_of (get_or w 0 0) (get_or w 1 0);
  has_snapshot = bool_of (get_or w 2 0);
  snapshot = snapshot_of (part 3 76 w);
}

unfoldable pub engine_of : List ℕ → Engine
engine_of w = record {
  configuration = configuration_of (part 0 5 w);
  settings = settings_of (part 5 4 w);
  lock = lock_of (part 9 11 w);
  milestones = milestones_of (part 20 6 w);
  last = last_of (part 26 79 w);
}

-- The engine in a slice. Words of another layout hold none: every submission refuses `no_engine` with 7.
unfoldable pub state_in : List ℕ → Engine
state_in w = cond (eqb (get_or w 0 0) layout) (engine_of (part 1 105 w)) no_engine
