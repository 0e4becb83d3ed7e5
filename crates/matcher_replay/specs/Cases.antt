-- The case that a line says, and which cases this program takes. Definitions only.
use Rattle.std.specs.Prelude.{◌≡◌, ℕ, ◌+◌, ◌*◌, ◌/◌, ◌<◌, ◌≤◌, Bool, true, cond, ◌&&◌, List, length, from_bits, nat_le, nat_lt, Float}
use Rattle.std.specs.Float.{binary64}
use Rattle.std.specs.Float.Ieee.{le}
use Rattle.numbers_spec.specs.Arithmetic.{one, zero⁺}
use Rattle.matcher_spec.specs.Centring.{wide_hop}
use Rattle.matcher_spec.specs.Index.{Index}
use Rattle.hexadecimal.specs.Hexadecimal.{word_at}
use Rattle.matcher_replay.specs.declared.case.Case.{Case}

-- ---- the most of a case
abbrev pub case_bands : ℕ
case_bands = 4

abbrev pub case_frames : ℕ
case_frames = 400

abbrev pub case_window : ℕ
case_window = 120

-- Seeds lie below.
abbrev pub seeds_end : ℕ
seeds_end = 65536

-- ---- the arrays that such a case needs: a reference, its index, a window, and what a search works in
abbrev pub fine_room : ℕ
fine_room = case_bands * case_frames

abbrev pub coarse_room : ℕ
coarse_room = case_bands * (case_frames / 4)

abbrev pub fine_energy_room : ℕ
fine_energy_room = case_bands * (case_frames + 1)

abbrev pub coarse_energy_room : ℕ
coarse_energy_room = case_bands * (case_frames / 4 + 1)

abbrev pub window_room : ℕ
window_room = case_bands * case_window

abbrev pub work32_room : ℕ
work32_room = 2 * window_room

abbrev pub work64_room : ℕ
work64_room = 3 * (case_bands * (case_window + 1)) + case_frames

-- An index whose buffers are those arrays.
pub record FitsArrays (index : Index) : Type 0 where
  pub fine : length index.fine ≡ fine_room
  pub coarse : length index.coarse ≡ coarse_room
  pub fine_energy : length index.fine_energy ≡ fine_energy_room
  pub coarse_energy : length index.coarse_energy ≡ coarse_energy_room

-- At least one of everything, and no more than the arrays hold.
unfoldable pub is_small : Case → Bool
is_small c =
    nat_lt c.seed seeds_end
    && le one c.hop
    && nat_lt 0 c.period
    && nat_lt 0 c.bands
    && nat_le c.bands case_bands
    && nat_lt 0 c.frames
    && nat_le c.frames case_frames
    && nat_lt 0 c.window
    && nat_le c.window case_window
    && nat_le c.from case_frames

-- What that says of its numbers.
pub record Limits (c : Case) : Type 0 where
  pub seed : c.seed < seeds_end
  pub wide : wide_hop c.hop ≡ true
  pub period : 0 < c.period
  pub some : 0 < c.bands
  pub bands : c.bands ≤ case_bands
  pub long : 0 < c.frames
  pub frames : c.frames ≤ case_frames
  pub heard : 0 < c.window
  pub window : c.window ≤ case_window
  pub from : c.from ≤ case_frames

-- ---- a line's first eight words
-- The float of a pattern up to plus infinity's, and 0 of any other.
unfoldable pub float_of : ℕ → Float
float_of bits = cond (nat_le bits 0x7ff0000000000000) (from_bits binary64 bits) zero⁺

unfoldable pub case_of : List ℕ → Case
case_of line =
    record {
      seed = word_at 0 line;
      hop = float_of (word_at 1 line);
      period = word_at 2 line;
      bands = word_at 3 line;
      frames = word_at 4 line;
      window = word_at 5 line;
      from = word_at 6 line;
      reach = float_of (word_at 7 line);
    }
