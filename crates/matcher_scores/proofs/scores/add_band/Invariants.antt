-- `matcher_scores::scores::add_band` meets its contract. The loop's invariant: so many of the scores have had the band's term added. Assumes nothing.
use Prim.Native.Nat.{ℕ, ◌+◌}
use lib.ListN.{get_or}
use lib.Ieee.{nan}
use Rattle.numbers_spec.specs.Arithmetic.{◌⊕◌}
use Rattle.numbers_spec.proofs.RowLaws.{Filling}
use Rattle.matcher_scores.specs.Blocks.{term_of}
use Rattle.matcher_scores.proofs.scores.add_band.Given as goal

abbrev pub invariant-loop-i : goal.invariant-loop-i
invariant-loop-i l = Filling (λ (k : ℕ). get_or l.initial.scores k nan ⊕ term_of l.pair (l.low + k)) l.initial.scores l.i l.scores
