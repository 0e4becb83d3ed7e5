-- What a line of the list says, and whether that is what the engine answers. Definitions only.
use Rattle.std.specs.Prelude.{ℕ, ◌*◌, Bool, ◌&&◌, List, eqb}
use Rattle.hexadecimal.specs.Hexadecimal.{spaced, word_at}
use Rattle.engine_lines.specs.declared.answers.Agreement.{Agreement}
use Rattle.engine_lines.specs.declared.answers.Answers.{Answers}

-- the words of a line, and its bytes
abbrev pub line_words : ℕ
line_words = 15

abbrev pub line_bytes : ℕ
line_bytes = line_words * spaced

-- the last three words are the answer's number, the state's digest, and the digest of what is shown
unfoldable pub agreement_with : List ℕ → Answers → Agreement
agreement_with line found =
    record {
      answer = eqb found.answer (word_at 12 line);
      state = eqb found.state (word_at 13 line);
      shown = eqb found.shown (word_at 14 line);
    }

unfoldable pub in_all : Agreement → Bool
in_all a = a.answer && a.state && a.shown
