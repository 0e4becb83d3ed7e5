-- Opening (document 01, "What each operation refuses"; engine.rs, `Engine::new`). Definitions only.
use Rattle.std.specs.Prelude.{Bool, true, false, cond, not, ◌&&◌, length, get_or, replicate, Float, None}
use Rattle.std.specs.Option.{option_map_or}
use Rattle.std.specs.Float.{nan, inf, binary64}
use Rattle.std.specs.Float.Ieee.{of_bits}
use Rattle.numbers_spec.specs.Arithmetic.{zero⁺}
use Rattle.matcher_spec.specs.Index.{Index, Matcher, accepts_reference, matcher_of, filled}
use Rattle.matcher_spec.specs.Features.{Features}
use Rattle.engine_spec.specs.Milestones.{no_milestones}
use Rattle.engine_spec.specs.Refusals.{refuses, opening_refusal}
use Rattle.engine_spec.specs.declared.types.Refusal.{Refusal}
use Rattle.engine_spec.specs.declared.types.Configuration.{Configuration}
use Rattle.engine_spec.specs.declared.types.Settings.{Settings}
use Rattle.engine_spec.specs.declared.types.Lock.{Lock}
use Rattle.engine_spec.specs.declared.types.CandidateDiagnostics.{CandidateDiagnostics}
use Rattle.engine_spec.specs.declared.types.Snapshot.{Snapshot}
use Rattle.engine_spec.specs.declared.types.Engine.{Engine}
use Rattle.engine_spec.specs.Results.{OpenResult}
use Rattle.engine_spec.specs.declared.types.State.TheVariants as state
use Rattle.engine_spec.specs.declared.types.LockPhase.TheVariants as phase
use Rattle.engine_spec.specs.declared.types.Stage.TheVariants as stage
use Rattle.engine_spec.specs.Results as answer
use Rattle.matcher_spec.specs.Limits.{candidates_most}

-- ---- nothing yet
-- No place, and no whole search: also what a jump leaves (document 01).
abbrev pub no_lock : Lock
no_lock = record { pending = None; accepted = None; last_global_search_ms = record { 0 = inf true } }

-- What stands behind the last candidate of a snapshot.
abbrev pub blank_candidate : CandidateDiagnostics
blank_candidate = record { offset_ms = zero⁺; coarse_offset_ms = zero⁺; comparable_frame_count = 0; coverage_ratio = zero⁺; combined_dense_score = zero⁺ }

-- A snapshot of nothing, where a value has to stand and there is no snapshot.
unfoldable pub blank_snapshot : Snapshot
blank_snapshot = record {
  state = state.Ready;
  phase = phase.None;
  stage = stage.Readiness;
  estimate = None;
  withhold_reason = None;
  confidence = zero⁺;
  diagnostics = record {
    query_duration_ms = zero⁺;
    active_frame_fraction = zero⁺;
    coarse_ambiguous = false;
    dense_margin = zero⁺;
    offset_stability_ms = None;
    track_innovation_ms = None;
    track_count = 0;
    offset_tracker_confirmed = false;
    offset_tracker_stable = false;
    candidate_count = 0;
    candidates = replicate candidates_most blank_candidate;
    spectral = record {
      global_search = false;
      correlation = zero⁺;
      competing_peak_margin = None;
      first_half_correlation = zero⁺;
      second_half_correlation = zero⁺;
      recent_correlation = zero⁺;
      fresh_evidence_ms = zero⁺;
      coast_ms = zero⁺;
    };
  };
  first_provisional_lock_elapsed_ms = None;
  confirmed_lock_elapsed_ms = None;
  final_lock_elapsed_ms = None;
}

-- ---- the configuration that a unit starts with (types.rs, `Configuration::default`): durations of 2,500 and 2,000, energies of -70 and -62, a fraction of 0.35
unfoldable pub default_configuration : Configuration
default_configuration = record {
  minimum_readiness_duration_ms = of_bits binary64 0x40a3880000000000;
  tracking_query_duration_ms = of_bits binary64 0x409f400000000000;
  minimum_active_frame_energy_dbfs = of_bits binary64 0xc051800000000000;
  minimum_average_energy_dbfs = of_bits binary64 0xc04f000000000000;
  minimum_active_frame_fraction = of_bits binary64 0x3fd6666666666666;
}

-- ---- the engine
-- A fresh engine: no endpoint, snapshot, place or milestone.
unfoldable pub fresh_engine : Configuration → Settings → Engine
fresh_engine c s = record {
  configuration = c;
  settings = s;
  lock = no_lock;
  milestones = no_milestones;
  last = record { endpoint_ms = None; has_snapshot = false; snapshot = blank_snapshot };
}

-- With index: the reference's counts and start.
abbrev pub with_index : Float → Features → Settings
with_index hop reference = record {
  hop_ms = hop;
  reference_frames = length reference.times;
  reference_bands = reference.bands;
  reference_start_ms = record { 0 = get_or reference.times 0 nan };
}

-- Without: counts and start are 0.
abbrev pub without_index : Float → Settings
without_index hop = record { hop_ms = hop; reference_frames = 0; reference_bands = 0; reference_start_ms = record { 0 = zero⁺ } }

-- Whether `SpectralMatcher::new` accepts the reference.
abbrev pub accepts_features : Float → Features → Bool
accepts_features hop reference = accepts_reference hop reference.bands reference.times reference.values

abbrev pub opened_settings : Float → Features → Settings
opened_settings hop reference = cond (accepts_features hop reference) (with_index hop reference) (without_index hop)

-- No engine: one with hop 0, which every submission refuses with 7.
unfoldable pub no_engine : Engine
no_engine =
    fresh_engine
    (record {
      minimum_readiness_duration_ms = zero⁺;
      tracking_query_duration_ms = zero⁺;
      minimum_active_frame_energy_dbfs = zero⁺;
      minimum_average_energy_dbfs = zero⁺;
      minimum_active_frame_fraction = zero⁺;
    })
    (without_index zero⁺)

-- ---- opening
unfoldable pub opening : Configuration → Float → Features → Index → OpenResult
opening c hop reference x =
    option_map_or (λ (r : Refusal). record { answer = answer.Refused r; engine = no_engine }) (opening_refusal c hop reference x)
    (record { answer = answer.Opened; engine = fresh_engine c (opened_settings hop reference) })

-- Whether the index is filled: not where opening is refused, and not where the reference is rejected.
unfoldable pub fills : Configuration → Float → Features → Index → Bool
fills c hop reference x = not (refuses (opening_refusal c hop reference x)) && accepts_features hop reference

-- The matcher of a reference: what opening fills in.
abbrev pub matcher_of_reference : Float → Features → Matcher
matcher_of_reference hop reference = matcher_of hop reference.bands reference.times reference.values

-- What the four buffers hold after opening: the filled part and the old tail, or all as it was.
unfoldable pub opened_index : Configuration → Float → Features → Index → Index
opened_index c hop reference x =
    let yes = fills c hop reference x in
    let m = matcher_of_reference hop reference in
    record {
      fine = filled yes m.fine.values x.fine;
      coarse = filled yes m.coarse.values x.coarse;
      fine_energy = filled yes m.fine.energy x.fine_energy;
      coarse_energy = filled yes m.coarse.energy x.coarse_energy;
    }
