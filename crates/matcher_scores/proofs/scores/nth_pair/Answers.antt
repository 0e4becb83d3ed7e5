-- `matcher_scores::scores::nth_pair` meets its contract. Assumes nothing.
use native.Mathlib.Nat.{add-sub_cancel_left}
use Rattle.matcher_spec.specs.Scores.{term_at}
use Rattle.matcher_scores.proofs.scores.nth_pair.Goals as goal

pub returns-clause-term : goal.returns-clause-term
unfolding term_at
returns-clause-term c start =
    let band = c.nth_band-band.ensures in
    simp (band.values, band.energy, c.at_least.ensures, c.variance_floor-floor.ensures, add-sub_cancel_left)
