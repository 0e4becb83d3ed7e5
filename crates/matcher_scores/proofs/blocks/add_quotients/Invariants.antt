-- `matcher_scores::blocks::add_quotients` meets its contract. The loop's invariant: so many of the scores have had their quotient added. Assumes nothing.
use Prim.Native.Nat.{ℕ}
use lib.ListN.{get_or}
use lib.Ieee.{nan}
use Rattle.numbers_spec.specs.Arithmetic.{◌⊕◌, ◌⊘◌}
use Rattle.numbers_spec.proofs.RowLaws.{Filling}
use Rattle.matcher_scores.proofs.blocks.add_quotients.Given as goal

abbrev pub invariant-loop-i : goal.invariant-loop-i
invariant-loop-i l = Filling (λ (k : ℕ). get_or l.initial.scores k nan ⊕ (get_or l.dotted k nan ⊘ get_or l.roots k nan)) l.initial.scores l.i l.scores
