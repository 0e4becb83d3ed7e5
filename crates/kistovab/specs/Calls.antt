-- What the calls answer and write: open, submit, support age over the engine that words hold (engine_layout, `state_in`). Definitions only.
use Rattle.std.specs.Prelude.{ℕ, ◌<◌, ◌≡◌, true, false, cond, List, ltb, drop, Float, Option, None, Some}
use Rattle.std.specs.Option.{option_map_or}
use Rattle.matcher_spec.specs.Index.{Index}
use Rattle.engine_spec.specs.Refusals.{number_of, refuses}
use Rattle.engine_spec.specs.declared.types.Configuration.{Configuration}
use Rattle.engine_spec.specs.Results.{OpenResult, SubmitResult, Age}
use Rattle.engine_layout.specs.Layout.{state_words, snapshot_words, state_in, snapshot_in}
use Rattle.kistovab.specs.Codes.{words_too_short, no_age, code_of, answers}

-- ---- open
abbrev pub configured : Float → Float → Float → Float → Float → Configuration
configured readiness tracking frameEnergy average_energy fraction = record {
  minimum_readiness_duration_ms = readiness;
  tracking_query_duration_ms = tracking;
  minimum_active_frame_energy_dbfs = frameEnergy;
  minimum_average_energy_dbfs = average_energy;
  minimum_active_frame_fraction = fraction;
}

-- What is answered with so many words lent for the state.
unfoldable pub open_code : ℕ → OpenResult → ℕ
open_code words o = cond (ltb words state_words) words_too_short (code_of o.answer)

-- What the index's buffers hold after it: as they were where the words are too few.
unfoldable pub index_after : ℕ → Index → Index → Index
index_after words opened old = cond (ltb words state_words) old opened

-- What the state's words hold after it.
pub record Opens (code : ℕ) (o : OpenResult) (old new : List ℕ) : Type 0 where
  pub held : code ≡ 0 → state_in new ≡ o.engine
  pub untouched : 0 < code → new ≡ old
  pub tail : drop state_words new ≡ drop state_words old

-- ---- submit
unfoldable pub submit_code : ℕ → ℕ → SubmitResult → ℕ
submit_code words shown s = cond (ltb words state_words) words_too_short (cond (ltb shown snapshot_words) words_too_short (code_of s.answer))

-- What the words of state and snapshot hold after it.
pub record Submits (code : ℕ) (s : SubmitResult) (state state' snapshot snapshot' : List ℕ) : Type 0 where
  -- the next state, which is the same where the submission is refused or re-read: then its words stay
  pub held : code < words_too_short → state_in state' ≡ s.engine
  pub untouched : 0 < code → state' ≡ state
  pub shown : answers code ≡ true → snapshot_in snapshot' ≡ s.snapshot
  pub unshown : answers code ≡ false → snapshot' ≡ snapshot
  pub tail : drop state_words state' ≡ drop state_words state
  pub shown_tail : drop snapshot_words snapshot' ≡ drop snapshot_words snapshot

-- ---- support age
unfoldable pub found_code : Option Float → ℕ
found_code None = no_age
found_code (Some x) = 0

unfoldable pub age_code : ℕ → Age → ℕ
age_code words a = cond (ltb words state_words) words_too_short (option_map_or number_of a.refusal (found_code a.coast_ms))

unfoldable pub found : Option Float → Float → Float
found None old = old
found (Some x) old = x

-- What the lent number is after it: as it was where there is no age.
unfoldable pub age_after : ℕ → Age → Float → Float
age_after words a old = cond (ltb words state_words) old (cond (refuses a.refusal) old (found a.coast_ms old))
