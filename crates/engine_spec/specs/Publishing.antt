-- The decision on a window, and the snapshot that shows it (engine.rs, `process` and `publish`). Definitions only.
use Rattle.std.specs.Prelude.{ℕ, ◌-◌, ◌*◌, Bool, false, cond, ◌&&◌, List, [], ◌∷◌, ◌++◌, length, replicate, Float, Option, None, Some}
use Rattle.std.specs.Option.{option_map_or}
use Rattle.std.specs.Float.Ieee.{lt, eq}
use Rattle.numbers_spec.specs.Arithmetic.{◌⊕◌, ◌⊖◌, ◌⊗◌, ◌⊘◌, zero⁺, one, at_least, count_of, magnitude}
use Rattle.matcher_spec.specs.Centring.{context_frames}
use Rattle.matcher_spec.specs.Candidates.{margin_of}
use Rattle.matcher_spec.specs.declared.types.Candidate.{Candidate}
use Rattle.matcher_spec.specs.Index.{Matcher}
use Rattle.engine_spec.specs.Thresholds.{coast_most_ms, passing_margin, trimmed_ms}
use Rattle.engine_spec.specs.Windows.{Window, indexed, endpoint_of, duration, evidence, ◌after◌}
use Rattle.engine_spec.specs.Opening.{blank_candidate}
use Rattle.engine_spec.specs.Cases.{is_publishing}
use Rattle.engine_spec.specs.Readiness.{readiness, active_fraction}
use Rattle.engine_spec.specs.Tracking.{may_coast}
use Rattle.engine_spec.specs.Locking.{Searched, searched, lock_of}
use Rattle.engine_spec.specs.declared.types.RecordedMs.{RecordedMs}
use Rattle.engine_spec.specs.declared.types.Configuration.{Configuration}
use Rattle.engine_spec.specs.declared.types.Reached.{Reached}
use Rattle.engine_spec.specs.declared.types.Verdict.{Verdict}
use Rattle.engine_spec.specs.declared.types.Settings.{Settings}
use Rattle.engine_spec.specs.declared.types.Lock.{Lock}
use Rattle.engine_spec.specs.declared.types.Milestones.{Milestones}
use Rattle.engine_spec.specs.declared.types.SpectralDiagnostics.{SpectralDiagnostics}
use Rattle.engine_spec.specs.declared.types.CandidateDiagnostics.{CandidateDiagnostics}
use Rattle.engine_spec.specs.declared.types.Diagnostics.{Diagnostics}
use Rattle.engine_spec.specs.declared.types.Snapshot.{Snapshot}
use Rattle.engine_spec.specs.declared.types.Hypothesis.{Hypothesis}
use Rattle.engine_spec.specs.declared.types.Estimate.{Estimate}
use Rattle.engine_spec.specs.declared.types.State.{State}
use Rattle.engine_spec.specs.declared.types.State.TheVariants as state
use Rattle.engine_spec.specs.declared.types.LockPhase.{LockPhase}
use Rattle.engine_spec.specs.declared.types.LockPhase.TheVariants as phase
use Rattle.engine_spec.specs.declared.types.Stage.{Stage}
use Rattle.engine_spec.specs.declared.types.Stage.TheVariants as stage
use Rattle.engine_spec.specs.declared.types.WithholdReason.{WithholdReason}
use Rattle.engine_spec.specs.declared.types.WithholdReason.TheVariants as reason
use Rattle.matcher_spec.specs.Limits.{candidates_most}

-- ---- the decision
-- All that a window decides: the lock and the milestones that are there after it, its search, and what is said of the place.
pub record Decision : Type 0 where
  pub lock : Lock
  pub reached : Reached
  pub global : Bool
  pub found : List Candidate
  pub verdict : Verdict

-- Something was found, but its margin is below 0.06.
abbrev pub ambiguous : List Candidate → Bool
ambiguous [] = false
ambiguous (best ∷ rest) = lt (margin_of (best ∷ rest)) passing_margin

abbrev pub offset_of : Option Hypothesis → Option Float
offset_of None = None
offset_of (Some h) = Some h.offset_ms

-- On no track: Locking with the pending place, or Relocking with none.
abbrev pub off_track : Searched → Verdict
off_track s = record {
  state = cond s.reached.confirmed state.Relocking state.Locking;
  reason = Some (cond (ambiguous s.found) reason.AmbiguousOffset reason.WeakAlignmentPeak);
  offset = cond s.reached.confirmed None (offset_of s.lock.pending);
  innovation = None;
  coast = zero⁺;
}

-- On a track at this offset, whose evidence ended so long ago. From a fresh engine it is never Confirmed.
abbrev pub on_track : Searched → Float → Float → Verdict
on_track s offset since = record {
  state = cond s.reached.final_lock state.Locked state.Confirmed;
  reason = cond s.supported None (Some reason.WeakAlignmentPeak);
  offset = Some offset;
  innovation = s.innovation;
  coast = at_least zero⁺ since;
}

-- A track is shown as long as it may coast.
unfoldable pub verdict_of : Option Hypothesis → RecordedMs → Searched → Verdict
verdict_of None now s = off_track s
verdict_of (Some track) now s = cond (may_coast now track.last_evidence_ms) (on_track s track.offset_ms (now after track.last_evidence_ms)) (off_track s)

-- A window that cannot be searched: the observed loss of sound is no support for the old place.
abbrev pub unready : Settings → Reached → Lock → WithholdReason → Decision
unready s k l r = record {
  lock = lock_of None None l.last_global_search_ms;
  reached = k;
  global = false;
  found = [];
  verdict = record {
    state = cond (indexed s) (cond k.confirmed state.Lost state.Listening) state.Failed;
    reason = Some r;
    offset = None;
    innovation = None;
    coast = zero⁺;
  };
}

-- One with this evidence time that was searched.
abbrev pub ready : RecordedMs → Searched → Decision
ready now s = record { lock = s.lock; reached = s.reached; global = s.global; found = s.found; verdict = verdict_of s.lock.accepted now s }

-- The decision. It sees which milestones are there, and no clock. A whole search that is due is made where it is granted.
unfoldable pub decide : Bool → Configuration → Settings → Matcher → Window → Reached → Lock → Decision
decide granted c s m w k l =
    let hop = s.hop_ms in
    option_map_or (unready s k l) (readiness c s k.confirmed w) (ready (evidence hop w) (searched granted m hop w k l))

-- ---- the snapshot
-- The best candidate's number, or 0.
abbrev pub of_best : (Candidate → Float) → List Candidate → Float
of_best f [] = zero⁺
of_best f (best ∷ rest) = f best

unfoldable pub fresh_evidence : Option Hypothesis → Float
fresh_evidence None = zero⁺
fresh_evidence (Some h) = at_least zero⁺ (h.last_evidence_ms after h.first_evidence_ms)

abbrev pub spectral_of : Decision → SpectralDiagnostics
spectral_of d = record {
  global_search = d.global;
  correlation = of_best (λ (c : Candidate). c.score) d.found;
  competing_peak_margin = cond d.global (Some (margin_of d.found)) None;
  first_half_correlation = of_best (λ (c : Candidate). c.first_half_score) d.found;
  second_half_correlation = of_best (λ (c : Candidate). c.second_half_score) d.found;
  recent_correlation = of_best (λ (c : Candidate). c.recent_score) d.found;
  fresh_evidence_ms = fresh_evidence d.lock.pending;
  coast_ms = d.verdict.coast;
}

-- The window's frames less those that centring trims; here too without the floor of 1.
abbrev pub comparable_frames : Float → Window → ℕ
comparable_frames hop w = length w.times - 2 * count_of (context_frames hop)

abbrev pub coverage : Window → Float
coverage w = at_least zero⁺ ((duration w ⊖ trimmed_ms) ⊘ at_least one (duration w))

-- A candidate, with the comparable frames and the coverage that all of a snapshot share.
abbrev pub candidate_shown : ℕ → Float → Candidate → CandidateDiagnostics
candidate_shown comparable covered c = record {
  offset_ms = c.offset_ms;
  coarse_offset_ms = c.offset_ms;
  comparable_frame_count = comparable;
  coverage_ratio = covered;
  combined_dense_score = c.score;
}

unfoldable pub candidates_shown : ℕ → Float → List Candidate → List CandidateDiagnostics
candidates_shown comparable covered [] = []
candidates_shown comparable covered (c ∷ cs) = candidate_shown comparable covered c ∷ candidates_shown comparable covered cs

-- As the array of 8 that a snapshot has.
abbrev pub candidate_array : ℕ → Float → List Candidate → List CandidateDiagnostics
candidate_array comparable covered found = candidates_shown comparable covered found ++ replicate (candidates_most - length found) blank_candidate

unfoldable pub magnitude_of : Option Float → Option Float
magnitude_of None = None
magnitude_of (Some x) = Some (magnitude x)

abbrev pub count_of_track : Option Hypothesis → ℕ
count_of_track None = 0
count_of_track (Some track) = 1

abbrev pub diagnostics_of : Configuration → Float → Window → Decision → Diagnostics
diagnostics_of c hop w d =
    let publishing = is_publishing d.verdict.state in
    record {
      query_duration_ms = duration w;
      active_frame_fraction = active_fraction c w;
      coarse_ambiguous = d.global && ambiguous d.found;
      dense_margin = cond d.global (margin_of d.found) zero⁺;
      offset_stability_ms = magnitude_of d.verdict.innovation;
      track_innovation_ms = d.verdict.innovation;
      track_count = count_of_track d.lock.accepted;
      offset_tracker_confirmed = publishing;
      offset_tracker_stable = publishing && eq d.verdict.coast zero⁺;
      candidate_count = length d.found;
      candidates = candidate_array (comparable_frames hop w) (coverage w) d.found;
      spectral = spectral_of d;
    }

abbrev pub phase_of : Reached → LockPhase
phase_of k = cond k.final_lock phase.Final (cond k.confirmed phase.Confirmed (cond k.provisional phase.Provisional phase.None))

abbrev pub stage_of : State → Bool → Stage
stage_of s global = cond (is_publishing s) stage.Tracking (cond global stage.RobustVerify stage.Readiness)

-- The offset added to a window's endpoint is the place on the reference.
abbrev pub estimate_at : RecordedMs → Option Float → Option Estimate
estimate_at endpoint None = None
estimate_at endpoint (Some offset) = Some (record {
  query_endpoint_recorded_time_ms = endpoint;
  reference_time_ms = record { 0 = endpoint.0 ⊕ offset };
  offset_ms = offset;
})

abbrev pub track_correlation : Option Hypothesis → Float
track_correlation None = zero⁺
track_correlation (Some track) = track.correlation

-- x brought between 0 and 1: `clamp`, which keeps -0.0.
abbrev pub between_zero_and_one : Float → Float
between_zero_and_one x = cond (lt x zero⁺) zero⁺ (cond (lt one x) one x)

-- The correlation, less by the part of 1,500 that was coasted; 0 without an estimate.
abbrev pub confidence_of : Option Float → Float → Float → Float
confidence_of None correlation coast = zero⁺
confidence_of (Some offset) correlation coast = between_zero_and_one (correlation ⊗ (one ⊖ coast ⊘ coast_most_ms))

-- The snapshot of a decision, with the milestones' readings as they are given.
unfoldable pub publish : Configuration → Float → Window → Decision → Milestones → Snapshot
publish c hop w d m =
    let v = d.verdict in
    record {
      state = v.state;
      phase = phase_of d.reached;
      stage = stage_of v.state d.global;
      estimate = estimate_at (endpoint_of w) v.offset;
      withhold_reason = v.reason;
      confidence = confidence_of v.offset (cond (is_publishing v.state) (track_correlation d.lock.accepted) (of_best (λ (c : Candidate). c.score) d.found)) v.coast;
      diagnostics = diagnostics_of c hop w d;
      first_provisional_lock_elapsed_ms = m.first_provisional_ms;
      confirmed_lock_elapsed_ms = m.confirmed_ms;
      final_lock_elapsed_ms = m.final_ms;
    }
