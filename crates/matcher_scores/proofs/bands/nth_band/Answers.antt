-- `matcher_scores::bands::nth_band` meets its contract. Assumes nothing.
use native.Mathlib.Nat.{add-sub_cancel_left}
use native.Mathlib.Numerals.{add-one}
use Rattle.matcher_scores.proofs.bands.nth_band.Goals as goal

pub returns-clause-energy : goal.returns-clause-energy
returns-clause-energy c = simp (add-sub_cancel_left, add-one)
