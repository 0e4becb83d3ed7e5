-- The numbers that the calls answer with. Definitions only.
use Rattle.std.specs.Prelude.{ℕ, Bool, ◌||◌, eqb}
use Rattle.engine_spec.specs.Refusals.{number_of}
use Rattle.engine_spec.specs.Results.{Answer, Opened, Computed, Reread, Refused}
use Rattle.engine_spec.specs.declared.types.AnswerKind.{AnswerKind}
use Rattle.engine_spec.specs.declared.types.AnswerKind.TheVariants as kind

-- A re-reading.
abbrev pub reread_code : ℕ
reread_code = 100

-- Nothing that support could be aged from.
abbrev pub no_age : ℕ
no_age = 101

-- The words that are lent for a state or a snapshot are too few.
abbrev pub words_too_short : ℕ
words_too_short = 255

-- A refusal's code is its number.
unfoldable pub code_of : Answer → ℕ
code_of Opened = 0
code_of Computed = 0
code_of Reread = reread_code
code_of (Refused r) = number_of r

-- The same of what code gives back where nothing is refused.
unfoldable pub kind_code : AnswerKind → ℕ
kind_code kind.Computed = 0
kind_code kind.Reread = reread_code

-- Computed or a re-reading: a snapshot is answered.
abbrev pub answers : ℕ → Bool
answers code = eqb code 0 || eqb code reread_code
