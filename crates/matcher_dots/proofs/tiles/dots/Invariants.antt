-- `matcher_dots::tiles::dots` meets its contract. Both loops' invariant: so many of the dot products are there. Assumes nothing.
use Rattle.std.proofs.Common.{ℕ, ◌*◌}
use Rattle.numbers_spec.proofs.RowLaws.{Filling}
use Rattle.matcher_spec.specs.Scores.{dot}
use Rattle.matcher_dots.specs.Tiles.{tile}
use Rattle.matcher_dots.proofs.TileLaws.{placed}
use Rattle.matcher_dots.proofs.tiles.dots.Given as goal

abbrev pub invariant-loop-t : goal.invariant-loop-t
invariant-loop-t l = Filling (λ (i : ℕ). dot (placed l.row l.query i) l.query) l.initial.out (l.t * tile) l.out

abbrev pub invariant-loop-at : goal.invariant-loop-at
invariant-loop-at l = Filling (λ (i : ℕ). dot (placed l.row l.query i) l.query) l.initial.out l.at l.out
