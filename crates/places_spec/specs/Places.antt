-- Named places (document 02): a state is kept under one of eight names in a lent store of words, and later given back. Definitions only.
use Rattle.std.specs.Prelude.{ℕ, ◌-◌, ◌*◌, Bool, cond, ◌&&◌, List, leb, eqb, length, get_or, Option, None, Result, Ok, Err}
use Rattle.std.specs.Option.{option_map_or}
use Rattle.engine_spec.specs.Refusals.{refuses, unless, ◌then◌}
use Rattle.engine_spec.specs.declared.types.Engine.{Engine}
use Rattle.engine_spec.specs.declared.types.Refusal.{Refusal}
use Rattle.engine_spec.specs.declared.types.Refusal.TheVariants as refusal
use Rattle.engine_layout.specs.Layout.{layout, state_words, part, state_in}
use Rattle.engine_layout.specs.Written.{placed, state_as_words}

-- ---- the store
-- The names are 1 to 8.
abbrev pub places_most : ℕ
places_most = 8

abbrev pub is_name : ℕ → Bool
is_name name = leb 1 name && leb name places_most

-- One place after the other, each as long as the words of a state (engine_layout, `state_words`).
abbrev pub place_start : ℕ → ℕ
place_start name = (name - 1) * state_words

abbrev pub store_words : ℕ
store_words = places_most * state_words

-- The words of a place.
abbrev pub place_in : ℕ → List ℕ → List ℕ
place_in name store = part (place_start name) state_words store

-- A state is kept in a place where the layout number stands first. Zeros keep nothing, nor do words of another layout.
abbrev pub is_kept : List ℕ → Bool
is_kept place = eqb (get_or place 0 0) layout

-- ---- what is refused
-- Keeping, by the store's length: 14, then 6. The state is not judged: 7 does that when it is next submitted.
unfoldable pub keep_refusal : ℕ → ℕ → Option Refusal
keep_refusal name words =
    unless (is_name name) refusal.NameOutOfRange
    (unless (leb store_words words) refusal.StoreTooShort
    None)

-- Restoring: 14, 6, then 15.
unfoldable pub restore_refusal : ℕ → List ℕ → Option Refusal
restore_refusal name store = keep_refusal name (length store) then unless (is_kept (place_in name store)) refusal.NothingKept None

-- ---- keeping
-- A state is kept as it is handed in, by the words that the C interface has for it.
abbrev pub kept_words : Engine → List ℕ
kept_words e = state_as_words e

-- What the store holds after it: these words in the place of that name, and else what it held.
unfoldable pub kept : Engine → ℕ → List ℕ → List ℕ
kept e name store = cond (refuses (keep_refusal name (length store))) store (placed (place_start name) (kept_words e) store)

-- ---- restoring
-- Where it is refused, `engine` is the running one.
pub record Restored : Type 0 where
  pub refusal : Option Refusal
  pub engine : Engine

-- The state that the place holds, or the running one where it is refused.
unfoldable pub restored : Engine → ℕ → List ℕ → Restored
restored running name store =
    let r = restore_refusal name store in
    record { refusal = r; engine = cond (refuses r) running (state_in (place_in name store)) }

-- As code gives it: the state, or the refusal.
abbrev pub restored_or_refused : Restored → Result Engine Refusal
restored_or_refused x = option_map_or (λ (r : Refusal). Err r) x.refusal (Ok x.engine)
