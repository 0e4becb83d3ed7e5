-- `matcher_dots::tiles::fill_tile` meets its contract. The first loop's invariant: the sums are the first lanes of a tile's places. The second's: they are the dot products as far as the products before i. The third's: so many of them are stored. Assumes nothing.
use Rattle.std.proofs.Common.{ℕ, ◌≡◌, ◌*◌, ◌/◌, ◌<◌, length, get_or}
use Rattle.std.specs.Float.{nan}
use Rattle.matcher_dots.specs.Tiles.{tile}
use Rattle.matcher_dots.proofs.TileLaws.{first_lanes, dot_to}
use Rattle.matcher_dots.proofs.tiles.fill_tile.Given as goal

abbrev pub invariant-loop-pair : goal.invariant-loop-pair
invariant-loop-pair l = (p : ℕ) → p < tile → get_or l.sums p nan ≡ first_lanes l.row l.query (length l.query / 8) (2 * l.pair) p

abbrev pub invariant-loop-i : goal.invariant-loop-i
invariant-loop-i l = (p : ℕ) → p < tile → get_or l.sums p nan ≡ dot_to l.row l.query l.i-counter p

abbrev pub invariant-loop-p : goal.invariant-loop-p
invariant-loop-p l = (q : ℕ) → q < l.p → get_or l.out q nan ≡ get_or l.sums q nan
