-- The candidate around a peak is put in, where the query has a place there. Assumes nothing.
use Rattle.std.proofs.Common.{arith, ◌∙◌}
use Rattle.matcher_spec.specs.Lent.{bands_in}
use Rattle.matcher.proofs.SearchLaws.{peak_in, peak_out}
use Rattle.matcher.proofs.whole.candidates_around.Goals as goal
use Rattle.matcher.proofs.whole.candidates_around.Goals.{then-low-high, else-low-high}

pub loop-peak-preserved : goal.loop-peak-preserved
loop-peak-preserved c =
    let x = c.args.compared.now in
    let l = c.loop-peak in
    let peaks = c.deref-peak-items.result.now in
    let same = c.deref-peak-items.ensures.0 in
    let before = rw (← same) at l.invariant.1 in
    elim c.if-low-high.branch [
      | then-low-high w ↦ (
        rw w.found-is (omega (arith, w.insert_by_score.ensures.len)),
        rw (w.found-is, w.insert_by_score.ensures.items, w.best_candidate.ensures, ← same)
            (peak_in x.reference (bands_in x.bands.reference) (bands_in x.bands.query) x.start l.found.items peaks l.peak-index c.loop-peak-test.true c.saturating_sub-low.ensures c.min-high.ensures w.if-low-high.true ∙ before),
      )
      | else-low-high w ↦ (
        rw w.found-is (omega arith),
        rw (w.found-is, ← same) (peak_out x.reference (bands_in x.bands.reference) (bands_in x.bands.query) x.start l.found.items peaks l.peak-index c.loop-peak-test.true c.saturating_sub-low.ensures c.min-high.ensures w.if-low-high.false ∙ before),
      )
    ]
