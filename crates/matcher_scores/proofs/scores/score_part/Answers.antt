use mathlib.Core.Path.{◌∙◌}
use Rattle.matcher_spec.specs.Scores.{part_at}
use Rattle.numbers_spec.proofs.RowLaws.{sum_more}
use Rattle.matcher_scores.proofs.scores.score_part.Goals as goal

pub loop-b-preserved : goal.loop-b-preserved
unfolding part_at
loop-b-preserved c =
    let own = c.nth_band.ensures in
    let query = c.nth_band-in-loop-b.ensures in
    sum_more _ _ c.loop-b.invariant (c.part_term-score.ensures ∙ simp (own.values, own.energy, query.values, query.energy))
