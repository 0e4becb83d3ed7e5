-- Submission: refused, re-read or computed, and the next state (document 01, Engine; engine.rs, `process`). Definitions only.
use Rattle.std.specs.Prelude.{true, cond, ◌&&◌, Option, None, Some}
use Rattle.std.specs.Option.{option_map_or}
use Rattle.engine_spec.specs.Windows.{Window, Submission, matcher_in, endpoint_of, jumps, rereads}
use Rattle.engine_spec.specs.Refusals.{submission_refusal}
use Rattle.engine_spec.specs.Opening.{no_lock, blank_snapshot}
use Rattle.engine_spec.specs.Milestones.{reached_by, stamp}
use Rattle.engine_spec.specs.Publishing.{Decision, decide, publish, estimate_at}
use Rattle.engine_spec.specs.declared.types.RecordedMs.{RecordedMs}
use Rattle.engine_spec.specs.declared.types.ClockMs.{ClockMs}
use Rattle.engine_spec.specs.declared.types.Lock.{Lock}
use Rattle.engine_spec.specs.declared.types.Milestones.{Milestones}
use Rattle.engine_spec.specs.declared.types.Snapshot.{Snapshot}
use Rattle.engine_spec.specs.declared.types.Engine.{Engine}
use Rattle.engine_spec.specs.Results.{SubmitResult}
use Rattle.engine_spec.specs.declared.types.Estimate.{Estimate}
use Rattle.engine_spec.specs.declared.types.Refusal.{Refusal}
use Rattle.engine_spec.specs.Results as answer

-- ---- a re-reading: the last snapshot with its estimate moved to this endpoint, state unchanged (document 01)
abbrev pub moved : RecordedMs → Option Estimate → Option Estimate
moved endpoint None = None
moved endpoint (Some e) = estimate_at endpoint (Some e.offset_ms)

-- Its milestones are those of the state.
unfoldable pub shown_again : RecordedMs → Milestones → Snapshot → Snapshot
shown_again endpoint m s = record {
  state = s.state;
  phase = s.phase;
  stage = s.stage;
  estimate = moved endpoint s.estimate;
  withhold_reason = s.withhold_reason;
  confidence = s.confidence;
  diagnostics = s.diagnostics;
  first_provisional_lock_elapsed_ms = m.first_provisional_ms;
  confirmed_lock_elapsed_ms = m.confirmed_ms;
  final_lock_elapsed_ms = m.final_ms;
}

unfoldable pub reread : Engine → RecordedMs → SubmitResult
reread e to = record { answer = answer.Reread; engine = e; snapshot = shown_again to e.milestones e.last.snapshot }

-- ---- a computed answer
-- A jump drops pending, accepted and the search time (document 01); the last snapshot is replaced in any case, and milestones stay.
abbrev pub lock_from : Engine → Window → Lock
lock_from e w = cond (jumps e.settings e.last.endpoint_ms w) no_lock e.lock

-- Submission grants every whole search that is due.
unfoldable pub decision_on : Engine → Submission → Decision
decision_on e i =
    let w = i.window in
    decide true e.configuration e.settings (matcher_in e.settings i.index) w (reached_by e.milestones) (lock_from e w)

-- The state after a decision on a window, with its milestones stamped by this clock.
unfoldable pub computed_from : Engine → Window → ClockMs → Decision → SubmitResult
computed_from e w clock d =
    let m = stamp e.milestones d.reached clock in
    let s = publish e.configuration e.settings.hop_ms w d m in
    record {
      answer = answer.Computed;
      engine = record {
        configuration = e.configuration;
        settings = e.settings;
        lock = d.lock;
        milestones = m;
        last = record { endpoint_ms = Some (endpoint_of w); has_snapshot = true; snapshot = s };
      };
      snapshot = s;
    }

-- ---- a refusal: the same state and no snapshot
abbrev pub refused : Engine → Refusal → SubmitResult
refused e r = record { answer = answer.Refused r; engine = e; snapshot = blank_snapshot }

-- ---- submission
-- What is not refused is re-read, where there is a last snapshot, or computed.
unfoldable pub answered_from : Engine → Submission → SubmitResult
answered_from e i =
    let w = i.window in
    cond (e.last.has_snapshot && rereads e.settings e.last.endpoint_ms w) (reread e (endpoint_of w))
    (computed_from e w i.clock (decision_on e i))

unfoldable pub submit : Engine → Submission → SubmitResult
submit e i = option_map_or (refused e) (submission_refusal e i) (answered_from e i)
