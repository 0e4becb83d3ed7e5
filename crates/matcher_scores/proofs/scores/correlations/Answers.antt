-- `matcher_scores::scores::correlations` meets its contract. Assumes nothing.
use mathlib.Core.Path.{◌∙◌}
use Prim.Native.Nat.{ℕ, ◌+◌}
use lib.ListN.{length}
use lib.Ieee.{Float, nan, of_bits}
use Rattle.numbers_spec.specs.Arithmetic.{◌⊗◌, ◌⊘◌, one}
use Rattle.numbers_spec.specs.Rows.{sum_to}
use Rattle.matcher_spec.specs.Lent.{bands_in}
use Rattle.matcher_spec.specs.Scores.{correlations, correlation_at, term_at}
use Rattle.numbers_spec.proofs.RowLaws.{tabulate_then}
use Rattle.matcher_scores.proofs.scores.correlations.Goals as goal

pub returns : goal.returns
unfolding correlations correlation_at of_bits
returns c =
    let a = c.args in
    let x = a.scoring.now in
    let sum : ℕ → Float = λ i. sum_to (term_at (bands_in x.reference) x.count x.query.now x.whole.now (a.low + i)) x.reference.bands in
    c.scale.ensures ∙ tabulate_then sum (λ (i : ℕ) (s : Float). s ⊗ (one ⊘ c.real.result)) nan (length a.scores.now) c.sum_bands.ensures ∙ simp c.real.ensures
