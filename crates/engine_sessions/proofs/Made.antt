-- A state made by a caller brings Confirmed. Assumes nothing.
use mathlib.Core.Path.{refl}
use Rattle.engine_sessions.specs.Computed.{submit_now}
use Rattle.engine_sessions.specs.Made.{made_engine, MadeConfirmed}

pub made_confirmed : MadeConfirmed
unfolding made_engine submit_now
made_confirmed = record { valid = refl; computed = refl; confirmed = refl }
