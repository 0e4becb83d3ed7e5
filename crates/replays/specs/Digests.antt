-- One word for many: all of them, in order. Definitions only.
use Rattle.std.specs.Prelude.{ℕ, ◌+◌, ◌*◌, ◌/◌, ◌%◌, ◌^◌, List, to_bits, Float}
use Rattle.std.specs.List.{fold}
use Rattle.std.specs.Float.{binary64}
use Rattle.matcher_spec.specs.Index.{Index}

-- The word so far, turned by 9 bits, and the next added.
unfoldable pub with_word : ℕ → ℕ → ℕ
with_word word next = (word % 2 ^ 55 * 2 ^ 9 + word / 2 ^ 55 + next) % 2 ^ 64

-- Each of a list, taken in as a word.
abbrev pub with_all : {A : Type 0} → (A → ℕ) → ℕ → List A → ℕ
with_all word_of = fold (λ word x. with_word word (word_of x))

-- A NaN counts as one pattern.
abbrev pub with_floats : ℕ → List Float → ℕ
with_floats = with_all (to_bits binary64)

-- All of an index, as one word.
unfoldable pub index_digest : Index → ℕ
index_digest index = with_floats (with_floats (with_floats (with_floats 0 index.fine) index.coarse) index.fine_energy) index.coarse_energy
