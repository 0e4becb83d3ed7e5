-- `matcher_scores::scores::score_part` meets its contract. The loop's invariant: the score is the sum over the bands passed. Assumes nothing.
use mathlib.Core.Path.{◌≡◌}
use Rattle.numbers_spec.specs.Rows.{sum_to}
use Rattle.matcher_spec.specs.Lent.{bands_in}
use Rattle.matcher_spec.specs.Scores.{part_at}
use Rattle.matcher_scores.proofs.scores.score_part.Given as goal

abbrev pub invariant-loop-b : goal.invariant-loop-b
invariant-loop-b l = l.score ≡ sum_to (part_at (bands_in l.paired.reference) (bands_in l.paired.query) l.start l.low l.high) l.b
