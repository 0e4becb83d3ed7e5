use mathlib.Core.Path.{sym, ap, ◌∙◌}
use Prim.Native.Nat.{ℕ, ◌+◌}
use lib.ListN.{length}
use lib.Ieee.{Float, of_bits}
use Rattle.numbers_spec.specs.Rows.{tabulate, sum_to}
use Rattle.matcher_spec.specs.Lent.{bands_in}
use Rattle.matcher_spec.specs.Scores.{term_at}
use Rattle.matcher_scores.proofs.BlockLaws.{sums_none, sums_more}
use Rattle.matcher_scores.proofs.scores.sum_bands.Goals as goal

pub loop-b-init : goal.loop-b-init
unfolding of_bits
loop-b-init c =
    let a = c.args in
    let x = a.scoring.now in
    let t : ℕ → ℕ → Float = λ i. term_at (bands_in x.reference) x.count x.query.now x.whole.now (a.low + i) in
    c.fill.ensures.after (λ y e. e) ∙ sums_none t (length a.scores.now) ∙ ap (tabulate (λ (i : ℕ). sum_to (t i) 0)) (sym c.fill.auto.self)

pub loop-b-preserved : goal.loop-b-preserved
loop-b-preserved c =
    let a = c.args in
    let x = a.scoring.now in
    sums_more (λ (i : ℕ). term_at (bands_in x.reference) x.count x.query.now x.whole.now (a.low + i)) _ c.loop-b.b _ c.add_band.ensures c.loop-b.invariant (λ i. c.nth_pair-pair.ensures.term (a.low + i))
