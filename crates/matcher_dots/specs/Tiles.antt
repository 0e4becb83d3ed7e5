-- Places by tiles, and lanes of a row of places. Definitions only.
use Rattle.std.specs.Prelude.{ℕ, List, length, take, drop, Float}
use Rattle.matcher_spec.specs.Scores.{lane}

-- So many places are worked on at once: their sums fill the vector registers.
abbrev pub tile : ℕ
tile = 24

-- Lane j of the dot product at place p of a row, after n chunks of eight.
abbrev pub lane_at : List Float → List Float → ℕ → ℕ → ℕ → Float
lane_at row query p j n = lane (take (length query) (drop p row)) query j n
