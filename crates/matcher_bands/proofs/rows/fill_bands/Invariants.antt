-- `matcher_bands::rows::fill_bands` meets its contract. The loop's invariant: what `fill` makes of the bands passed stands at the slice's front, and the rest is as it was. Assumes nothing.
use Rattle.std.proofs.Common.{List, Float, ◌≡◌, length}
use Rattle.matcher_bands.proofs.BandLaws.{Banded}
use Rattle.matcher_bands.proofs.rows.fill_bands.Given as goal

abbrev pub invariant-loop-b : goal.invariant-loop-b
invariant-loop-b g l =
    (f : List Float → List g.row.T.Denot)
    → ((part : _) (band : _) (after : _) → length part.now ≡ l.size → length band.now ≡ l.n → goal.F-post g l.fill part band tt after → after.now ≡ f band.now)
    → Banded f l.n l.size l.bands l.values l.initial.out l.b l.out
