-- Tests of the enums, case by case. Definitions only.
use Rattle.std.specs.Prelude.{Bool, true, false}
use Rattle.engine_spec.specs.declared.types.State.{State}
use Rattle.engine_spec.specs.declared.types.State.TheVariants as state
use Rattle.engine_spec.specs.Results.{Answer}
use Rattle.engine_spec.specs.Results as answer

-- ---- states
-- A track is shown.
unfoldable pub is_publishing : State → Bool
is_publishing state.Ready = false
is_publishing state.Listening = false
is_publishing state.Locking = false
is_publishing state.Confirmed = true
is_publishing state.Locked = true
is_publishing state.Drifting = false
is_publishing state.Relocking = false
is_publishing state.Lost = false
is_publishing state.Failed = false

unfoldable pub is_locked : State → Bool
is_locked state.Ready = false
is_locked state.Listening = false
is_locked state.Locking = false
is_locked state.Confirmed = false
is_locked state.Locked = true
is_locked state.Drifting = false
is_locked state.Relocking = false
is_locked state.Lost = false
is_locked state.Failed = false

-- The states that interrupt a chain: Listening, Lost and Failed.
unfoldable pub interrupting : State → Bool
interrupting state.Ready = false
interrupting state.Listening = true
interrupting state.Locking = false
interrupting state.Confirmed = false
interrupting state.Locked = false
interrupting state.Drifting = false
interrupting state.Relocking = false
interrupting state.Lost = true
interrupting state.Failed = true

-- The states that only a state made by a caller can bring, or none.
unfoldable pub unreachable : State → Bool
unreachable state.Ready = true
unreachable state.Listening = false
unreachable state.Locking = false
unreachable state.Confirmed = true
unreachable state.Locked = false
unreachable state.Drifting = true
unreachable state.Relocking = false
unreachable state.Lost = false
unreachable state.Failed = false

-- ---- answers
-- Not a refusal and not a re-reading.
unfoldable pub is_computed : Answer → Bool
is_computed answer.Opened = false
is_computed answer.Computed = true
is_computed answer.Reread = false
is_computed (answer.Refused r) = false

unfoldable pub is_refused : Answer → Bool
is_refused answer.Opened = false
is_refused answer.Computed = false
is_refused answer.Reread = false
is_refused (answer.Refused r) = true
