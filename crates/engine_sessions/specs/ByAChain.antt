-- A session of the Rust, recorded by `compare/run --sessions`, which writes this file: not to be edited by hand. Definitions only.
-- `fin s m (pos k)` is m × 2^k and `fin s m (negsuc k)` is m × 2^-(k + 1), below zero where s is true.
use Rattle.std.specs.Prelude.{true, false, None, Some, [], ◌∷◌, pos, negsuc, Float}
use Rattle.std.specs.Float.{fin, inf}
use Rattle.matcher_spec.specs.Index.{Index}
use Rattle.engine_spec.specs.Windows.{Window}
use Rattle.matcher_spec.specs.Features.{Features}
use Rattle.engine_spec.specs.Opening.{opened_index}
use Rattle.engine_spec.specs.Tracking.{hypothesis}
use Rattle.engine_spec.specs.declared.types.Configuration.{Configuration}
use Rattle.engine_spec.specs.declared.types.Snapshot.{Snapshot}
use Rattle.engine_spec.specs.declared.types.State.TheVariants as state
use Rattle.engine_spec.specs.declared.types.LockPhase.TheVariants as phase
use Rattle.engine_spec.specs.declared.types.Stage.TheVariants as stage
use Rattle.engine_spec.specs.declared.types.WithholdReason.TheVariants as reason
use Rattle.engine_spec.specs.declared.types.Refusal.TheVariants as refusal
use Rattle.engine_sessions.specs.Session.{Session, Turn, room_for, heard, heard_without_work, eight, refusal, answered}

abbrev pub configuration : Configuration
configuration = record { minimum_readiness_duration_ms = fin false 125 (pos 4); tracking_query_duration_ms = fin false 125 (pos 3); minimum_active_frame_energy_dbfs = fin true 13 (pos 1); minimum_average_energy_dbfs = fin true 31 (pos 0); minimum_active_frame_fraction = fin false 1 (negsuc 2) }

abbrev pub hop : Float
hop = fin false 125 (pos 1)

abbrev pub reference : Features
reference = record { bands = 1; times = fin true 125 (pos 4) ∷ fin true 875 (pos 1) ∷ fin true 375 (pos 2) ∷ fin true 625 (pos 1) ∷ fin true 125 (pos 3) ∷ fin true 375 (pos 1) ∷ fin true 125 (pos 2) ∷ fin true 125 (pos 1) ∷ fin false 0 (pos 0) ∷ fin false 125 (pos 1) ∷ fin false 125 (pos 2) ∷ fin false 375 (pos 1) ∷ fin false 125 (pos 3) ∷ fin false 625 (pos 1) ∷ fin false 375 (pos 2) ∷ fin false 875 (pos 1) ∷ fin false 125 (pos 4) ∷ fin false 1125 (pos 1) ∷ fin false 625 (pos 2) ∷ fin false 1375 (pos 1) ∷ fin false 375 (pos 3) ∷ fin false 1625 (pos 1) ∷ fin false 875 (pos 2) ∷ []; values = fin false 1 (negsuc 1) ∷ fin false 1 (pos 0) ∷ fin false 15 (negsuc 1) ∷ fin false 3 (pos 0) ∷ fin false 15 (negsuc 1) ∷ fin false 1 (pos 0) ∷ fin false 1 (pos 1) ∷ fin false 0 (pos 0) ∷ fin false 3 (pos 0) ∷ fin false 1 (negsuc 1) ∷ fin false 1 (pos 1) ∷ fin false 1 (pos 0) ∷ fin false 1 (negsuc 0) ∷ fin false 1 (negsuc 1) ∷ fin false 15 (negsuc 1) ∷ fin false 1 (negsuc 1) ∷ fin false 1 (pos 1) ∷ fin false 3 (pos 0) ∷ fin false 3 (pos 0) ∷ fin false 1 (negsuc 0) ∷ fin false 1 (pos 0) ∷ fin false 15 (negsuc 1) ∷ fin false 1 (pos 0) ∷ [] }

abbrev pub index : Index
index = opened_index configuration hop reference (room_for reference)

-- ---- 1, a first passing search
abbrev pub window1 : Window
window1 = record { bands = 1; times = fin false 125 (pos 3) ∷ fin false 625 (pos 1) ∷ fin false 375 (pos 2) ∷ fin false 875 (pos 1) ∷ fin false 125 (pos 4) ∷ fin false 1125 (pos 1) ∷ fin false 625 (pos 2) ∷ fin false 1375 (pos 1) ∷ fin false 375 (pos 3) ∷ fin false 1625 (pos 1) ∷ fin false 875 (pos 2) ∷ fin false 1875 (pos 1) ∷ fin false 125 (pos 5) ∷ fin false 2125 (pos 1) ∷ fin false 1125 (pos 2) ∷ fin false 2375 (pos 1) ∷ fin false 625 (pos 3) ∷ fin false 2625 (pos 1) ∷ fin false 1375 (pos 2) ∷ []; energies = fin true 5 (pos 2) ∷ inf true ∷ inf true ∷ inf true ∷ inf true ∷ inf true ∷ fin true 23 (pos 0) ∷ inf true ∷ inf true ∷ inf true ∷ inf true ∷ inf true ∷ fin true 13 (pos 1) ∷ inf true ∷ inf true ∷ inf true ∷ inf true ∷ inf true ∷ fin true 29 (pos 0) ∷ []; values = fin false 1 (negsuc 1) ∷ fin false 1 (negsuc 1) ∷ fin false 15 (negsuc 1) ∷ fin false 3 (pos 0) ∷ fin false 1 (pos 1) ∷ fin false 1 (pos 0) ∷ fin false 1 (pos 1) ∷ fin false 0 (pos 0) ∷ fin false 3 (pos 0) ∷ fin false 1 (negsuc 1) ∷ fin false 1 (pos 0) ∷ fin false 1 (pos 0) ∷ fin false 1 (negsuc 0) ∷ fin false 0 (pos 0) ∷ fin false 15 (negsuc 1) ∷ fin false 1 (negsuc 1) ∷ fin false 1 (pos 0) ∷ fin false 3 (pos 0) ∷ fin false 3 (pos 0) ∷ [] }

abbrev pub snapshot1 : Snapshot
snapshot1 = record {
  state = state.Locking;
  phase = phase.Provisional;
  stage = stage.RobustVerify;
  estimate = Some (record { query_endpoint_recorded_time_ms = record { 0 = fin false 1375 (pos 2) }; reference_time_ms = record { 0 = fin false 2741476523582129 (negsuc 39) }; offset_ms = fin true 3305837429185871 (negsuc 39) });
  withhold_reason = Some (reason.WeakAlignmentPeak);
  confidence = fin false 8473028871922935 (negsuc 52);
  diagnostics = record {
    query_duration_ms = fin false 1125 (pos 2);
    active_frame_fraction = fin false 2844378712023471 (negsuc 53);
    coarse_ambiguous = false;
    dense_margin = fin false 8473028871922935 (negsuc 52);
    offset_stability_ms = None;
    track_innovation_ms = None;
    track_count = 0;
    offset_tracker_confirmed = false;
    offset_tracker_stable = false;
    candidate_count = 1;
    candidates = eight (record { offset_ms = fin true 3305837429185871 (negsuc 39); coarse_offset_ms = fin true 3305837429185871 (negsuc 39); comparable_frame_count = 17; coverage_ratio = fin false 2001599834386887 (negsuc 50); combined_dense_score = fin false 8473028871922935 (negsuc 52) } ∷ []);
    spectral = record {
      global_search = true;
      correlation = fin false 8473028871922935 (negsuc 52);
      competing_peak_margin = Some (fin false 8473028871922935 (negsuc 52));
      first_half_correlation = fin false 528493750860823 (negsuc 48);
      second_half_correlation = fin false 4248378376982169 (negsuc 51);
      recent_correlation = fin false 4314202271362237 (negsuc 51);
      fresh_evidence_ms = fin false 0 (pos 0);
      coast_ms = fin false 0 (pos 0);
    };
  };
  first_provisional_lock_elapsed_ms = Some (record { 0 = fin false 1 (pos 0) });
  confirmed_lock_elapsed_ms = None;
  final_lock_elapsed_ms = None;
}

abbrev pub turn1 : Turn
turn1 = record { submission = heard 23 index window1 (fin false 1 (pos 0)); reply = answered snapshot1 (record { pending = Some (hypothesis (fin true 3305837429185871 (negsuc 39)) (record { 0 = fin false 2625 (pos 1) }) (record { 0 = fin false 2625 (pos 1) }) (fin false 8473028871922935 (negsuc 52))); accepted = None; last_global_search_ms = record { 0 = fin false 1375 (pos 2) } }) }

-- ---- 2, too early for a whole search
abbrev pub window2 : Window
window2 = record { bands = 1; times = fin false 625 (pos 1) ∷ fin false 375 (pos 2) ∷ fin false 875 (pos 1) ∷ fin false 125 (pos 4) ∷ fin false 1125 (pos 1) ∷ fin false 625 (pos 2) ∷ fin false 1375 (pos 1) ∷ fin false 375 (pos 3) ∷ fin false 1625 (pos 1) ∷ fin false 875 (pos 2) ∷ fin false 1875 (pos 1) ∷ fin false 125 (pos 5) ∷ fin false 2125 (pos 1) ∷ fin false 1125 (pos 2) ∷ fin false 2375 (pos 1) ∷ fin false 625 (pos 3) ∷ fin false 2625 (pos 1) ∷ fin false 1375 (pos 2) ∷ fin false 2875 (pos 1) ∷ []; energies = fin true 5 (pos 2) ∷ inf true ∷ inf true ∷ inf true ∷ inf true ∷ inf true ∷ fin true 23 (pos 0) ∷ inf true ∷ inf true ∷ inf true ∷ inf true ∷ inf true ∷ fin true 13 (pos 1) ∷ inf true ∷ inf true ∷ inf true ∷ inf true ∷ inf true ∷ fin true 29 (pos 0) ∷ []; values = fin false 1 (pos 0) ∷ fin false 1 (pos 1) ∷ fin false 3 (pos 0) ∷ fin false 15 (negsuc 1) ∷ fin false 1 (negsuc 1) ∷ fin false 1 (pos 1) ∷ fin false 0 (pos 0) ∷ fin false 3 (negsuc 0) ∷ fin false 1 (negsuc 1) ∷ fin false 1 (pos 1) ∷ fin false 1 (negsuc 1) ∷ fin false 1 (negsuc 0) ∷ fin false 1 (negsuc 1) ∷ fin false 1 (pos 1) ∷ fin false 1 (negsuc 1) ∷ fin false 1 (pos 1) ∷ fin false 3 (negsuc 0) ∷ fin false 3 (pos 0) ∷ fin false 1 (negsuc 0) ∷ [] }

abbrev pub snapshot2 : Snapshot
snapshot2 = record {
  state = state.Locking;
  phase = phase.Provisional;
  stage = stage.Readiness;
  estimate = Some (record { query_endpoint_recorded_time_ms = record { 0 = fin false 2875 (pos 1) }; reference_time_ms = record { 0 = fin false 3016354430526129 (negsuc 39) }; offset_ms = fin true 3305837429185871 (negsuc 39) });
  withhold_reason = Some (reason.WeakAlignmentPeak);
  confidence = fin false 0 (pos 0);
  diagnostics = record {
    query_duration_ms = fin false 1125 (pos 2);
    active_frame_fraction = fin false 2844378712023471 (negsuc 53);
    coarse_ambiguous = false;
    dense_margin = fin false 0 (pos 0);
    offset_stability_ms = None;
    track_innovation_ms = None;
    track_count = 0;
    offset_tracker_confirmed = false;
    offset_tracker_stable = false;
    candidate_count = 0;
    candidates = eight ([]);
    spectral = record {
      global_search = false;
      correlation = fin false 0 (pos 0);
      competing_peak_margin = None;
      first_half_correlation = fin false 0 (pos 0);
      second_half_correlation = fin false 0 (pos 0);
      recent_correlation = fin false 0 (pos 0);
      fresh_evidence_ms = fin false 0 (pos 0);
      coast_ms = fin false 0 (pos 0);
    };
  };
  first_provisional_lock_elapsed_ms = Some (record { 0 = fin false 1 (pos 0) });
  confirmed_lock_elapsed_ms = None;
  final_lock_elapsed_ms = None;
}

abbrev pub turn2 : Turn
turn2 = record { submission = heard 23 index window2 (fin false 1 (pos 1)); reply = answered snapshot2 (record { pending = Some (hypothesis (fin true 3305837429185871 (negsuc 39)) (record { 0 = fin false 2625 (pos 1) }) (record { 0 = fin false 2625 (pos 1) }) (fin false 8473028871922935 (negsuc 52))); accepted = None; last_global_search_ms = record { 0 = fin false 1375 (pos 2) } }) }

-- ---- 3, a search that fails by a half, at the same place
abbrev pub window3 : Window
window3 = record { bands = 1; times = fin false 375 (pos 2) ∷ fin false 875 (pos 1) ∷ fin false 125 (pos 4) ∷ fin false 1125 (pos 1) ∷ fin false 625 (pos 2) ∷ fin false 1375 (pos 1) ∷ fin false 375 (pos 3) ∷ fin false 1625 (pos 1) ∷ fin false 875 (pos 2) ∷ fin false 1875 (pos 1) ∷ fin false 125 (pos 5) ∷ fin false 2125 (pos 1) ∷ fin false 1125 (pos 2) ∷ fin false 2375 (pos 1) ∷ fin false 625 (pos 3) ∷ fin false 2625 (pos 1) ∷ fin false 1375 (pos 2) ∷ fin false 2875 (pos 1) ∷ fin false 375 (pos 4) ∷ []; energies = fin true 5 (pos 2) ∷ inf true ∷ inf true ∷ inf true ∷ inf true ∷ inf true ∷ fin true 23 (pos 0) ∷ inf true ∷ inf true ∷ inf true ∷ inf true ∷ inf true ∷ fin true 13 (pos 1) ∷ inf true ∷ inf true ∷ inf true ∷ inf true ∷ inf true ∷ fin true 29 (pos 0) ∷ []; values = fin false 15 (negsuc 1) ∷ fin false 3 (pos 0) ∷ fin false 15 (negsuc 1) ∷ fin false 1 (pos 0) ∷ fin false 1 (pos 1) ∷ fin false 0 (pos 0) ∷ fin false 3 (pos 0) ∷ fin false 1 (negsuc 1) ∷ fin false 1 (pos 1) ∷ fin false 1 (pos 0) ∷ fin false 1 (pos 0) ∷ fin false 1 (pos 1) ∷ fin false 1 (pos 0) ∷ fin false 0 (pos 0) ∷ fin false 1 (negsuc 0) ∷ fin false 3 (negsuc 0) ∷ fin false 1 (negsuc 1) ∷ fin false 1 (pos 1) ∷ fin false 15 (negsuc 1) ∷ [] }

abbrev pub snapshot3 : Snapshot
snapshot3 = record {
  state = state.Locking;
  phase = phase.Provisional;
  stage = stage.RobustVerify;
  estimate = Some (record { query_endpoint_recorded_time_ms = record { 0 = fin false 375 (pos 4) }; reference_time_ms = record { 0 = fin false 3291232337470129 (negsuc 39) }; offset_ms = fin true 3305837429185871 (negsuc 39) });
  withhold_reason = Some (reason.WeakAlignmentPeak);
  confidence = fin false 6134321673541875 (negsuc 52);
  diagnostics = record {
    query_duration_ms = fin false 1125 (pos 2);
    active_frame_fraction = fin false 2844378712023471 (negsuc 53);
    coarse_ambiguous = false;
    dense_margin = fin false 6134321673541875 (negsuc 52);
    offset_stability_ms = None;
    track_innovation_ms = None;
    track_count = 0;
    offset_tracker_confirmed = false;
    offset_tracker_stable = false;
    candidate_count = 1;
    candidates = eight (record { offset_ms = fin true 3286462608647075 (negsuc 39); coarse_offset_ms = fin true 3286462608647075 (negsuc 39); comparable_frame_count = 17; coverage_ratio = fin false 2001599834386887 (negsuc 50); combined_dense_score = fin false 6134321673541875 (negsuc 52) } ∷ []);
    spectral = record {
      global_search = true;
      correlation = fin false 6134321673541875 (negsuc 52);
      competing_peak_margin = Some (fin false 6134321673541875 (negsuc 52));
      first_half_correlation = fin false 9007198972770033 (negsuc 52);
      second_half_correlation = fin false 3768751556591265 (negsuc 56);
      recent_correlation = fin true 4579625951324529 (negsuc 52);
      fresh_evidence_ms = fin false 0 (pos 0);
      coast_ms = fin false 0 (pos 0);
    };
  };
  first_provisional_lock_elapsed_ms = Some (record { 0 = fin false 1 (pos 0) });
  confirmed_lock_elapsed_ms = None;
  final_lock_elapsed_ms = None;
}

abbrev pub turn3 : Turn
turn3 = record { submission = heard 23 index window3 (fin false 3 (pos 0)); reply = answered snapshot3 (record { pending = Some (hypothesis (fin true 3305837429185871 (negsuc 39)) (record { 0 = fin false 2625 (pos 1) }) (record { 0 = fin false 2625 (pos 1) }) (fin false 8473028871922935 (negsuc 52))); accepted = None; last_global_search_ms = record { 0 = fin false 375 (pos 4) } }) }

-- ---- 4, refused: no working buffers
abbrev pub window4 : Window
window4 = record { bands = 1; times = fin false 125 (pos 4) ∷ fin false 1125 (pos 1) ∷ fin false 625 (pos 2) ∷ fin false 1375 (pos 1) ∷ fin false 375 (pos 3) ∷ fin false 1625 (pos 1) ∷ fin false 875 (pos 2) ∷ fin false 1875 (pos 1) ∷ fin false 125 (pos 5) ∷ fin false 2125 (pos 1) ∷ fin false 1125 (pos 2) ∷ fin false 2375 (pos 1) ∷ fin false 625 (pos 3) ∷ fin false 2625 (pos 1) ∷ fin false 1375 (pos 2) ∷ fin false 2875 (pos 1) ∷ fin false 375 (pos 4) ∷ fin false 3125 (pos 1) ∷ fin false 1625 (pos 2) ∷ []; energies = fin true 5 (pos 2) ∷ inf true ∷ inf true ∷ inf true ∷ inf true ∷ inf true ∷ fin true 23 (pos 0) ∷ inf true ∷ inf true ∷ inf true ∷ inf true ∷ inf true ∷ fin true 13 (pos 1) ∷ inf true ∷ inf true ∷ inf true ∷ inf true ∷ inf true ∷ fin true 29 (pos 0) ∷ []; values = fin false 15 (negsuc 1) ∷ fin false 1 (negsuc 1) ∷ fin false 1 (pos 1) ∷ fin false 0 (pos 0) ∷ fin false 3 (negsuc 0) ∷ fin false 1 (negsuc 1) ∷ fin false 1 (pos 1) ∷ fin false 1 (negsuc 1) ∷ fin false 1 (negsuc 0) ∷ fin false 1 (negsuc 1) ∷ fin false 1 (pos 1) ∷ fin false 1 (negsuc 1) ∷ fin false 1 (pos 1) ∷ fin false 3 (negsuc 0) ∷ fin false 3 (pos 0) ∷ fin false 1 (negsuc 0) ∷ fin false 1 (negsuc 1) ∷ fin false 15 (negsuc 1) ∷ fin false 1 (pos 0) ∷ [] }

abbrev pub turn4 : Turn
turn4 = record { submission = heard_without_work index window4 (fin false 1 (pos 2)); reply = refusal refusal.WorkTooShort }

-- ---- 5, a second passing search: a lock
abbrev pub window5 : Window
window5 = record { bands = 1; times = fin false 125 (pos 4) ∷ fin false 1125 (pos 1) ∷ fin false 625 (pos 2) ∷ fin false 1375 (pos 1) ∷ fin false 375 (pos 3) ∷ fin false 1625 (pos 1) ∷ fin false 875 (pos 2) ∷ fin false 1875 (pos 1) ∷ fin false 125 (pos 5) ∷ fin false 2125 (pos 1) ∷ fin false 1125 (pos 2) ∷ fin false 2375 (pos 1) ∷ fin false 625 (pos 3) ∷ fin false 2625 (pos 1) ∷ fin false 1375 (pos 2) ∷ fin false 2875 (pos 1) ∷ fin false 375 (pos 4) ∷ fin false 3125 (pos 1) ∷ fin false 1625 (pos 2) ∷ []; energies = fin true 5 (pos 2) ∷ inf true ∷ inf true ∷ inf true ∷ inf true ∷ inf true ∷ fin true 23 (pos 0) ∷ inf true ∷ inf true ∷ inf true ∷ inf true ∷ inf true ∷ fin true 13 (pos 1) ∷ inf true ∷ inf true ∷ inf true ∷ inf true ∷ inf true ∷ fin true 29 (pos 0) ∷ []; values = fin false 15 (negsuc 1) ∷ fin false 1 (negsuc 1) ∷ fin false 1 (pos 1) ∷ fin false 0 (pos 0) ∷ fin false 3 (negsuc 0) ∷ fin false 1 (negsuc 1) ∷ fin false 1 (pos 1) ∷ fin false 1 (negsuc 1) ∷ fin false 1 (negsuc 0) ∷ fin false 1 (negsuc 1) ∷ fin false 1 (pos 1) ∷ fin false 1 (negsuc 1) ∷ fin false 1 (pos 1) ∷ fin false 3 (negsuc 0) ∷ fin false 3 (pos 0) ∷ fin false 1 (negsuc 0) ∷ fin false 1 (negsuc 1) ∷ fin false 15 (negsuc 1) ∷ fin false 1 (pos 0) ∷ [] }

abbrev pub snapshot5 : Snapshot
snapshot5 = record {
  state = state.Locked;
  phase = phase.Final;
  stage = stage.Tracking;
  estimate = Some (record { query_endpoint_recorded_time_ms = record { 0 = fin false 1625 (pos 2) }; reference_time_ms = record { 0 = fin false 3845892400722551 (negsuc 39) }; offset_ms = fin true 3300933179821449 (negsuc 39) });
  withhold_reason = None;
  confidence = fin false 4093060045203427 (negsuc 51);
  diagnostics = record {
    query_duration_ms = fin false 1125 (pos 2);
    active_frame_fraction = fin false 2844378712023471 (negsuc 53);
    coarse_ambiguous = false;
    dense_margin = fin false 2736382732469727 (negsuc 52);
    offset_stability_ms = None;
    track_innovation_ms = None;
    track_count = 1;
    offset_tracker_confirmed = true;
    offset_tracker_stable = true;
    candidate_count = 2;
    candidates = eight (record { offset_ms = fin true 3300933179821449 (negsuc 39); coarse_offset_ms = fin true 3300933179821449 (negsuc 39); comparable_frame_count = 17; coverage_ratio = fin false 2001599834386887 (negsuc 50); combined_dense_score = fin false 4093060045203427 (negsuc 51) } ∷ record { offset_ms = fin true 8816838925574505 (negsuc 40); coarse_offset_ms = fin true 8816838925574505 (negsuc 40); comparable_frame_count = 17; coverage_ratio = fin false 2001599834386887 (negsuc 50); combined_dense_score = fin false 5449737357937127 (negsuc 52) } ∷ []);
    spectral = record {
      global_search = true;
      correlation = fin false 4093060045203427 (negsuc 51);
      competing_peak_margin = Some (fin false 2736382732469727 (negsuc 52));
      first_half_correlation = fin false 4124283676615371 (negsuc 51);
      second_half_correlation = fin false 8119905038513937 (negsuc 52);
      recent_correlation = fin false 8397116124320411 (negsuc 52);
      fresh_evidence_ms = fin false 125 (pos 3);
      coast_ms = fin false 0 (pos 0);
    };
  };
  first_provisional_lock_elapsed_ms = Some (record { 0 = fin false 1 (pos 0) });
  confirmed_lock_elapsed_ms = Some (record { 0 = fin false 5 (pos 0) });
  final_lock_elapsed_ms = Some (record { 0 = fin false 5 (pos 0) });
}

abbrev pub turn5 : Turn
turn5 = record { submission = heard 23 index window5 (fin false 5 (pos 0)); reply = answered snapshot5 (record { pending = Some (hypothesis (fin true 3300933179821449 (negsuc 39)) (record { 0 = fin false 2625 (pos 1) }) (record { 0 = fin false 3125 (pos 1) }) (fin false 4093060045203427 (negsuc 51))); accepted = Some (hypothesis (fin true 3300933179821449 (negsuc 39)) (record { 0 = fin false 3125 (pos 1) }) (record { 0 = fin false 3125 (pos 1) }) (fin false 4093060045203427 (negsuc 51))); last_global_search_ms = record { 0 = fin false 1625 (pos 2) } }) }

-- ---- 6, a coast: no recent support
abbrev pub window6 : Window
window6 = record { bands = 1; times = fin false 1095 (pos 1) ∷ fin false 305 (pos 3) ∷ fin false 1345 (pos 1) ∷ fin false 735 (pos 2) ∷ fin false 1595 (pos 1) ∷ fin false 215 (pos 4) ∷ fin false 1845 (pos 1) ∷ fin false 985 (pos 2) ∷ fin false 2095 (pos 1) ∷ fin false 555 (pos 3) ∷ fin false 2345 (pos 1) ∷ fin false 1235 (pos 2) ∷ fin false 2595 (pos 1) ∷ fin false 85 (pos 6) ∷ fin false 2845 (pos 1) ∷ fin false 1485 (pos 2) ∷ fin false 3095 (pos 1) ∷ fin false 805 (pos 3) ∷ fin false 3345 (pos 1) ∷ []; energies = fin true 5 (pos 2) ∷ inf true ∷ inf true ∷ inf true ∷ inf true ∷ inf true ∷ fin true 23 (pos 0) ∷ inf true ∷ inf true ∷ inf true ∷ inf true ∷ inf true ∷ fin true 13 (pos 1) ∷ inf true ∷ inf true ∷ inf true ∷ inf true ∷ inf true ∷ fin true 29 (pos 0) ∷ []; values = fin false 1 (pos 0) ∷ fin false 1 (pos 0) ∷ fin false 0 (pos 0) ∷ fin false 3 (pos 0) ∷ fin false 0 (pos 0) ∷ fin false 1 (pos 1) ∷ fin false 1 (pos 0) ∷ fin false 0 (pos 0) ∷ fin false 1 (negsuc 1) ∷ fin false 15 (negsuc 1) ∷ fin false 0 (pos 0) ∷ fin false 1 (pos 1) ∷ fin false 3 (pos 0) ∷ fin false 3 (negsuc 0) ∷ fin false 1 (negsuc 0) ∷ fin false 3 (negsuc 0) ∷ fin false 1 (negsuc 1) ∷ fin false 1 (pos 1) ∷ fin false 15 (negsuc 1) ∷ [] }

abbrev pub snapshot6 : Snapshot
snapshot6 = record {
  state = state.Locked;
  phase = phase.Final;
  stage = stage.Tracking;
  estimate = Some (record { query_endpoint_recorded_time_ms = record { 0 = fin false 3345 (pos 1) }; reference_time_ms = record { 0 = fin false 4054799609999991 (negsuc 39) }; offset_ms = fin true 3300933179821449 (negsuc 39) });
  withhold_reason = Some (reason.WeakAlignmentPeak);
  confidence = fin false 3574605772810993 (negsuc 51);
  diagnostics = record {
    query_duration_ms = fin false 1125 (pos 2);
    active_frame_fraction = fin false 2844378712023471 (negsuc 53);
    coarse_ambiguous = false;
    dense_margin = fin false 0 (pos 0);
    offset_stability_ms = None;
    track_innovation_ms = None;
    track_count = 1;
    offset_tracker_confirmed = true;
    offset_tracker_stable = false;
    candidate_count = 1;
    candidates = eight (record { offset_ms = fin true 735 (pos 2); coarse_offset_ms = fin true 735 (pos 2); comparable_frame_count = 17; coverage_ratio = fin false 2001599834386887 (negsuc 50); combined_dense_score = fin false 7016606790595545 (negsuc 52) } ∷ []);
    spectral = record {
      global_search = false;
      correlation = fin false 7016606790595545 (negsuc 52);
      competing_peak_margin = None;
      first_half_correlation = fin false 8595920232198471 (negsuc 52);
      second_half_correlation = fin false 163680682907861 (negsuc 47);
      recent_correlation = fin true 8251528438417527 (negsuc 53);
      fresh_evidence_ms = fin false 125 (pos 3);
      coast_ms = fin false 95 (pos 1);
    };
  };
  first_provisional_lock_elapsed_ms = Some (record { 0 = fin false 1 (pos 0) });
  confirmed_lock_elapsed_ms = Some (record { 0 = fin false 5 (pos 0) });
  final_lock_elapsed_ms = Some (record { 0 = fin false 5 (pos 0) });
}

abbrev pub turn6 : Turn
turn6 = record { submission = heard 23 index window6 (fin false 3 (pos 1)); reply = answered snapshot6 (record { pending = Some (hypothesis (fin true 3300933179821449 (negsuc 39)) (record { 0 = fin false 2625 (pos 1) }) (record { 0 = fin false 3125 (pos 1) }) (fin false 4093060045203427 (negsuc 51))); accepted = Some (hypothesis (fin true 3300933179821449 (negsuc 39)) (record { 0 = fin false 3125 (pos 1) }) (record { 0 = fin false 3125 (pos 1) }) (fin false 4093060045203427 (negsuc 51))); last_global_search_ms = record { 0 = fin false 1625 (pos 2) } }) }

-- ---- 7, local support, which moves the track
abbrev pub window7 : Window
window7 = record { bands = 1; times = fin false 575 (pos 2) ∷ fin false 1275 (pos 1) ∷ fin false 175 (pos 4) ∷ fin false 1525 (pos 1) ∷ fin false 825 (pos 2) ∷ fin false 1775 (pos 1) ∷ fin false 475 (pos 3) ∷ fin false 2025 (pos 1) ∷ fin false 1075 (pos 2) ∷ fin false 2275 (pos 1) ∷ fin false 75 (pos 6) ∷ fin false 2525 (pos 1) ∷ fin false 1325 (pos 2) ∷ fin false 2775 (pos 1) ∷ fin false 725 (pos 3) ∷ fin false 3025 (pos 1) ∷ fin false 1575 (pos 2) ∷ fin false 3275 (pos 1) ∷ fin false 425 (pos 4) ∷ []; energies = fin true 5 (pos 2) ∷ inf true ∷ inf true ∷ inf true ∷ inf true ∷ inf true ∷ fin true 23 (pos 0) ∷ inf true ∷ inf true ∷ inf true ∷ inf true ∷ inf true ∷ fin true 13 (pos 1) ∷ inf true ∷ inf true ∷ inf true ∷ inf true ∷ inf true ∷ fin true 29 (pos 0) ∷ []; values = fin false 1 (pos 0) ∷ fin false 1 (pos 0) ∷ fin false 0 (pos 0) ∷ fin false 3 (pos 0) ∷ fin false 0 (pos 0) ∷ fin false 1 (pos 1) ∷ fin false 1 (pos 0) ∷ fin false 0 (pos 0) ∷ fin false 1 (negsuc 1) ∷ fin false 15 (negsuc 1) ∷ fin false 0 (pos 0) ∷ fin false 1 (pos 1) ∷ fin false 3 (pos 0) ∷ fin false 3 (negsuc 0) ∷ fin false 1 (negsuc 0) ∷ fin false 1 (pos 0) ∷ fin false 1 (pos 1) ∷ fin false 1 (pos 0) ∷ fin false 1 (negsuc 1) ∷ [] }

abbrev pub snapshot7 : Snapshot
snapshot7 = record {
  state = state.Locked;
  phase = phase.Final;
  stage = stage.Tracking;
  estimate = Some (record { query_endpoint_recorded_time_ms = record { 0 = fin false 425 (pos 4) }; reference_time_ms = record { 0 = fin false 8285021412691227 (negsuc 40) }; offset_ms = fin true 6668336725062373 (negsuc 40) });
  withhold_reason = None;
  confidence = fin false 8396204204430489 (negsuc 52);
  diagnostics = record {
    query_duration_ms = fin false 1125 (pos 2);
    active_frame_fraction = fin false 2844378712023471 (negsuc 53);
    coarse_ambiguous = false;
    dense_margin = fin false 0 (pos 0);
    offset_stability_ms = Some (fin false 52577284895351 (negsuc 39));
    track_innovation_ms = Some (fin true 52577284895351 (negsuc 39));
    track_count = 1;
    offset_tracker_confirmed = true;
    offset_tracker_stable = true;
    candidate_count = 1;
    candidates = eight (record { offset_ms = fin true 1525 (pos 1); coarse_offset_ms = fin true 1525 (pos 1); comparable_frame_count = 17; coverage_ratio = fin false 2001599834386887 (negsuc 50); combined_dense_score = fin false 8396204204430489 (negsuc 52) } ∷ []);
    spectral = record {
      global_search = false;
      correlation = fin false 8396204204430489 (negsuc 52);
      competing_peak_margin = None;
      first_half_correlation = fin false 8595920232198471 (negsuc 52);
      second_half_correlation = fin false 8149613027462139 (negsuc 52);
      recent_correlation = fin false 500303185900201 (negsuc 48);
      fresh_evidence_ms = fin false 125 (pos 3);
      coast_ms = fin false 0 (pos 0);
    };
  };
  first_provisional_lock_elapsed_ms = Some (record { 0 = fin false 1 (pos 0) });
  confirmed_lock_elapsed_ms = Some (record { 0 = fin false 5 (pos 0) });
  final_lock_elapsed_ms = Some (record { 0 = fin false 5 (pos 0) });
}

abbrev pub turn7 : Turn
turn7 = record { submission = heard 23 index window7 (fin false 7 (pos 0)); reply = answered snapshot7 (record { pending = Some (hypothesis (fin true 3300933179821449 (negsuc 39)) (record { 0 = fin false 2625 (pos 1) }) (record { 0 = fin false 3125 (pos 1) }) (fin false 4093060045203427 (negsuc 51))); accepted = Some (hypothesis (fin true 6668336725062373 (negsuc 40)) (record { 0 = fin false 3125 (pos 1) }) (record { 0 = fin false 3275 (pos 1) }) (fin false 8396204204430489 (negsuc 52))); last_global_search_ms = record { 0 = fin false 1625 (pos 2) } }) }

-- ---- 8, a coast: two hops after the last, no jump
abbrev pub window8 : Window
window8 = record { bands = 1; times = fin false 1825 (pos 2) ∷ fin false 3775 (pos 1) ∷ fin false 975 (pos 3) ∷ fin false 4025 (pos 1) ∷ []; energies = fin true 5 (pos 2) ∷ inf true ∷ inf true ∷ inf true ∷ []; values = fin false 3 (negsuc 0) ∷ fin false 3 (negsuc 0) ∷ fin false 3 (negsuc 0) ∷ fin false 1 (pos 1) ∷ [] }

abbrev pub snapshot8 : Snapshot
snapshot8 = record {
  state = state.Locked;
  phase = phase.Final;
  stage = stage.Tracking;
  estimate = Some (record { query_endpoint_recorded_time_ms = record { 0 = fin false 4025 (pos 1) }; reference_time_ms = record { 0 = fin false 2758450120532807 (negsuc 38) }; offset_ms = fin true 6668336725062373 (negsuc 40) });
  withhold_reason = Some (reason.WeakAlignmentPeak);
  confidence = fin false 5597469469620325 (negsuc 54);
  diagnostics = record {
    query_duration_ms = fin false 375 (pos 1);
    active_frame_fraction = fin false 1 (negsuc 1);
    coarse_ambiguous = false;
    dense_margin = fin false 0 (pos 0);
    offset_stability_ms = None;
    track_innovation_ms = None;
    track_count = 1;
    offset_tracker_confirmed = true;
    offset_tracker_stable = false;
    candidate_count = 0;
    candidates = eight ([]);
    spectral = record {
      global_search = true;
      correlation = fin false 0 (pos 0);
      competing_peak_margin = Some (fin false 0 (pos 0));
      first_half_correlation = fin false 0 (pos 0);
      second_half_correlation = fin false 0 (pos 0);
      recent_correlation = fin false 0 (pos 0);
      fresh_evidence_ms = fin false 0 (pos 0);
      coast_ms = fin false 625 (pos 1);
    };
  };
  first_provisional_lock_elapsed_ms = Some (record { 0 = fin false 1 (pos 0) });
  confirmed_lock_elapsed_ms = Some (record { 0 = fin false 5 (pos 0) });
  final_lock_elapsed_ms = Some (record { 0 = fin false 5 (pos 0) });
}

abbrev pub turn8 : Turn
turn8 = record { submission = heard 23 index window8 (fin false 1 (pos 3)); reply = answered snapshot8 (record { pending = None; accepted = Some (hypothesis (fin true 6668336725062373 (negsuc 40)) (record { 0 = fin false 3125 (pos 1) }) (record { 0 = fin false 3275 (pos 1) }) (fin false 8396204204430489 (negsuc 52))); last_global_search_ms = record { 0 = fin false 4025 (pos 1) } }) }

abbrev pub session : Session
session = record { configuration = configuration; hop = hop; reference = reference; turns = turn1 ∷ turn2 ∷ turn3 ∷ turn4 ∷ turn5 ∷ turn6 ∷ turn7 ∷ turn8 ∷ [] }
