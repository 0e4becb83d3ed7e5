-- `matcher_dots::tiles::add_lanes` meets its contract. The loop's invariant: the two rows are the lanes of a tile's places after k chunks. Assumes nothing.
use Rattle.std.proofs.Common.{ℕ, ◌≡◌, ◌+◌, ◌<◌, get_or}
use Rattle.std.specs.Float.{nan}
use Rattle.matcher_dots.specs.Tiles.{lane_at, tile}
use Rattle.matcher_dots.proofs.tiles.add_lanes.Given as goal

abbrev pub invariant-loop-k : goal.invariant-loop-k
invariant-loop-k l = record {
  evens : (p : ℕ) → p < tile → get_or l.even p nan ≡ lane_at l.row l.query p l.j l.k;
  odds : (p : ℕ) → p < tile → get_or l.odd p nan ≡ lane_at l.row l.query p (l.j + 1) l.k;
}
