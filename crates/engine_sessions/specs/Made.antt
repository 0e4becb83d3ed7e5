-- What no session reaches, but a state made by a caller brings: Confirmed. Definitions only.
use Rattle.std.specs.Prelude.{true, false, ◌≡◌, pos, None, Some}
use Rattle.std.specs.Float.{fin}
use Rattle.engine_spec.specs.Windows.{Submission}
use Rattle.engine_spec.specs.Refusals.{valid_engine}
use Rattle.engine_spec.specs.Opening.{blank_snapshot, with_index}
use Rattle.engine_spec.specs.Tracking.{hypothesis}
use Rattle.engine_spec.specs.Submitting.{submit}
use Rattle.engine_spec.specs.declared.types.Engine.{Engine}
use Rattle.engine_spec.specs.declared.types.State.TheVariants as state
use Rattle.engine_spec.specs.Results as answer
use Rattle.engine_sessions.specs.ByAChain.{configuration, hop, reference, turn7}

-- Of the recorded session's reference: a track at -3,000, and confirmed there without final.
unfoldable pub made_engine : Engine
made_engine = record {
  configuration = configuration;
  settings = with_index hop reference;
  lock = record {
    pending = None;
    accepted = Some (hypothesis (fin true 375 (pos 3)) (record { 0 = fin false 3125 (pos 1) }) (record { 0 = fin false 3125 (pos 1) }) (fin false 1 (pos 0)));
    last_global_search_ms = record { 0 = fin false 1625 (pos 2) };
  };
  milestones = record { first_provisional_ms = Some (record { 0 = fin false 1 (pos 0) }); confirmed_ms = Some (record { 0 = fin false 5 (pos 0) }); final_ms = None };
  last = record { endpoint_ms = None; has_snapshot = false; snapshot = blank_snapshot };
}

-- The submission is answered, not refused with 7, and shows Confirmed.
pub record Confirms (e : Engine) (i : Submission) : Type 0 where
  pub valid : valid_engine e ≡ true
  pub computed : (submit e i).answer ≡ answer.Computed
  pub confirmed : (submit e i).snapshot.state ≡ state.Confirmed

-- The session's window with local support is one.
abbrev pub MadeConfirmed : Type 0
MadeConfirmed = Confirms made_engine turn7.submission
