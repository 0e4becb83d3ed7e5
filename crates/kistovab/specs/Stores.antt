-- What the calls of named places answer and write: keep and restore over the engine that words hold (places_spec, `kept` and `restored`). Definitions only.
use Rattle.std.specs.Prelude.{ℕ, ◌<◌, ◌≡◌, cond, List, ltb, drop}
use Rattle.engine_spec.specs.Refusals.{number_or_zero}
use Rattle.engine_spec.specs.declared.types.Engine.{Engine}
use Rattle.engine_layout.specs.Layout.{state_words, state_in}
use Rattle.places_spec.specs.Places.{keep_refusal, kept, Restored}
use Rattle.kistovab.specs.Codes.{words_too_short}

-- ---- keep
-- What is answered with so many words lent for the state, under a name, with so many lent as the store: 0 where it is kept.
unfoldable pub keep_code : ℕ → ℕ → ℕ → ℕ
keep_code words name stored = cond (ltb words state_words) words_too_short (number_or_zero (keep_refusal name stored))

-- What the store holds after it: as it was where the words are too few.
unfoldable pub kept_after : ℕ → Engine → ℕ → List ℕ → List ℕ
kept_after words e name store = cond (ltb words state_words) store (kept e name store)

-- ---- restore
-- 0 where a state is given back.
unfoldable pub restore_code : ℕ → Restored → ℕ
restore_code words r = cond (ltb words state_words) words_too_short (number_or_zero r.refusal)

-- What the state's words hold after it.
pub record Restores (code : ℕ) (r : Restored) (old new : List ℕ) : Type 0 where
  pub held : code ≡ 0 → state_in new ≡ r.engine
  pub untouched : 0 < code → new ≡ old
  pub tail : drop state_words new ≡ drop state_words old
