-- `matcher_scores::scores::sum_bands` meets its contract. The loop's invariant: each score is the sum over the bands passed. Assumes nothing.
use mathlib.Core.Path.{◌≡◌}
use Prim.Native.Nat.{ℕ, ◌+◌}
use lib.ListN.{length}
use Rattle.numbers_spec.specs.Rows.{tabulate, sum_to}
use Rattle.matcher_spec.specs.Lent.{bands_in}
use Rattle.matcher_spec.specs.Scores.{term_at}
use Rattle.matcher_scores.proofs.scores.sum_bands.Given as goal

abbrev pub invariant-loop-b : goal.invariant-loop-b
invariant-loop-b l = l.scores ≡ tabulate (λ (i : ℕ). sum_to (term_at (bands_in l.scoring.reference) l.scoring.count l.scoring.query.now l.scoring.whole.now (l.low + i)) l.b) (length l.initial.scores)
