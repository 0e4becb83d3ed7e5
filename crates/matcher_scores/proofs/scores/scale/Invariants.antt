-- `matcher_scores::scores::scale` meets its contract. The loop's invariant: so many of the scores are scaled. Assumes nothing.
use Prim.Native.Nat.{ℕ}
use lib.ListN.{get_or}
use lib.Ieee.{nan}
use Rattle.numbers_spec.specs.Arithmetic.{◌⊗◌}
use Rattle.numbers_spec.proofs.RowLaws.{Filling}
use Rattle.matcher_scores.proofs.scores.scale.Given as goal

abbrev pub invariant-loop-i : goal.invariant-loop-i
invariant-loop-i l = Filling (λ (k : ℕ). get_or l.initial.scores k nan ⊗ l.by) l.initial.scores l.i l.scores
