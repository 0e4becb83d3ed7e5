-- What the matcher answers to a case, and whether a line says so. Definitions only.
use Rattle.std.specs.Prelude.{ℕ, ◌*◌, Bool, false, cond, ◌&&◌, List, length, replicate, ◌==◌, from_bits, Float}
use Rattle.std.specs.Float.{binary64}
use Rattle.numbers_spec.specs.Arithmetic.{◌⊕◌, ◌⊖◌, ◌⊗◌, zero⁺, real}
use Rattle.matcher_spec.specs.Candidates.{eight_of}
use Rattle.matcher_spec.specs.declared.types.Candidate.{Candidate}
use Rattle.matcher_spec.specs.Index.{Index, accepts_reference, filled, lent, lent_bands, lent_matcher, matcher_of}
use Rattle.matcher_spec.specs.Search.{local_search, whole_search}
use Rattle.matcher_spec.specs.Features.{Features, features}
use Rattle.matcher_spec.specs.declared.types.Reference.{Reference}
use Rattle.hexadecimal.specs.Hexadecimal.{spaced, word_at}
use Rattle.matcher_replay.specs.Cases.{case_of, coarse_room, coarse_energy_room, fine_room, fine_energy_room, is_small}
use Rattle.matcher_replay.specs.Digests.{with_candidates}
use Rattle.matcher_replay.specs.Sounds.{reference_values, window_values}
use Rattle.replays.specs.Digests.{index_digest}
use Rattle.replays.specs.Lines as lists
use Rattle.replays.specs.Sounds.{times_from}
use Rattle.matcher_replay.specs.declared.answers.Answers.{Answers}
use Rattle.matcher_replay.specs.declared.case.Case.{Case}

-- ---- the searches of an index
-- 5,000: the window's first time
abbrev pub begin : Float
begin = from_bits binary64 0x40b3880000000000

abbrev pub reference_of : Case → Reference
reference_of c = record { bands = c.bands; frames = c.frames; start_ms = zero⁺; hop_ms = c.hop }

-- The offset of the place that the window is cut out at.
abbrev pub offset_of : Case → Float
offset_of c = real c.from ⊗ c.hop ⊖ begin

module _ (c : Case) (index : Index) (window : Features) where
  unfoldable pub whole_of : List Candidate
  whole_of = whole_search (lent_matcher (reference_of c) index) window

  -- `reach` to either side of that offset
  unfoldable pub local_of : List Candidate
  local_of = local_search (reference_of c) (lent_bands c.bands c.frames index.fine index.fine_energy) window (offset_of c ⊖ c.reach) (offset_of c ⊕ c.reach)

  unfoldable pub searched_in : Answers
  searched_in =
      record {
        filled = 1;
        index = index_digest index;
        whole_count = length whole_of;
        whole = with_candidates 0 (eight_of whole_of);
        local_count = length local_of;
        local = with_candidates 0 (eight_of local_of);
      }

-- ---- a case
-- The answers where the reference is rejected.
abbrev pub rejected : Answers
rejected = record { filled = 0; index = 0; whole_count = 0; whole = 0; local_count = 0; local = 0 }

module _ (c : Case) where
  abbrev pub reference_times : List Float
  reference_times = times_from zero⁺ c.hop c.frames

  abbrev pub reference_sound : List Float
  reference_sound = reference_values c.seed c.period c.frames (c.bands * c.frames)

  abbrev pub window_times : List Float
  window_times = times_from begin c.hop c.window

  abbrev pub window_sound : List Float
  window_sound = window_values c.seed c.period c.window c.from (c.bands * c.window)

  -- The window's searches of an index.
  unfoldable pub heard_in : Index → Answers
  heard_in index = searched_in c index (features c.bands window_times window_sound)

  -- What is heard in the index that four buffers hold once they are filled from the reference.
  unfoldable pub answers_in : Index → Answers
  answers_in old =
      let accepted = accepts_reference c.hop c.bands reference_times reference_sound in
      let m = matcher_of c.hop c.bands reference_times reference_sound in
      cond accepted
      (heard_in
      (lent
      (filled accepted m.fine.values old.fine)
      (filled accepted m.coarse.values old.coarse)
      (filled accepted m.fine.energy old.fine_energy)
      (filled accepted m.coarse.energy old.coarse_energy)))
      rejected

  -- Zeros stand behind the index.
  unfoldable pub answers_of : Answers
  answers_of = answers_in (lent (replicate fine_room zero⁺) (replicate coarse_room zero⁺) (replicate fine_energy_room zero⁺) (replicate coarse_energy_room zero⁺))

-- ---- a line: its last six words are the answers
unfoldable pub says_of : List ℕ → Answers → Bool
says_of line found =
    found.filled == word_at 8 line
    && found.index == word_at 9 line
    && found.whole_count == word_at 10 line
    && found.whole == word_at 11 line
    && found.local_count == word_at 12 line
    && found.local == word_at 13 line

-- A case beyond the limits agrees with nothing.
unfoldable pub agrees_of : List ℕ → Bool
agrees_of line = cond (is_small (case_of line)) (says_of line (answers_of (case_of line))) false

-- ---- the list
-- The bytes of a line: 14 words.
abbrev pub line_bytes : ℕ
line_bytes = 14 * spaced

-- The number of lines, one that is cut off at the end included.
abbrev pub lines : List ℕ → ℕ
lines = lists.lines line_bytes

-- How many of the first n lines do not agree.
abbrev pub differing : ℕ → List ℕ → ℕ
differing = lists.differing line_bytes agrees_of
