-- The counts of the range's ends are places, since the upper is at most the last. Assumes nothing.
use Rattle.std.proofs.Common.{arith, ◌∙◌, ◌-◌, Float, ap}
use Rattle.numbers_spec.specs.Arithmetic.{at_most}
use Rattle.matcher.proofs.SearchLaws.{counts_within}
use Rattle.matcher.proofs.local.local_candidates.Goals as goal

pub best_candidate-requires-clause-some : goal.best_candidate-requires-clause-some
best_candidate-requires-clause-some c =
    let x = c.args.compared.now in
    let most = c.at_most-high.ensures ∙ ap (λ (m : Float). at_most m c.floor.result) c.real.ensures in
    let fits = counts_within (x.reference.frames - x.bands.query.count) c.at_least-low.result c.floor.result (omega (arith, x.fits.short)) most c.if-low-high.true in
    omega (arith, fits, c.count.ensures, c.count-then-low-high.ensures)

pub best_candidate-requires-clause-within : goal.best_candidate-requires-clause-within
best_candidate-requires-clause-within c =
    let x = c.args.compared.now in
    let most = c.at_most-high.ensures ∙ ap (λ (m : Float). at_most m c.floor.result) c.real.ensures in
    let fits = counts_within (x.reference.frames - x.bands.query.count) c.at_least-low.result c.floor.result (omega (arith, x.fits.short)) most c.if-low-high.true in
    omega (arith, fits, x.fits.within, c.count-then-low-high.ensures)
