use Rattle.matcher_spec.specs.Search.{candidate_of}
use Rattle.matcher_candidates.proofs.candidate.candidate_of.Goals as goal

pub returns : goal.returns
unfolding candidate_of
returns c =
    simp (
      ← c.args.compared.now.same_bands,
      ← c.first_maximum-best.ensures.at_value,
      ← c.first_maximum-best.ensures.score_value,
      ← c.count.ensures,
      ← c.saturating_sub-recent.ensures,
      ← c.real.ensures,
      ← c.fraction_at.ensures,
      ← c.score_part.ensures,
      ← c.score_part-2.ensures,
      ← c.score_part-3.ensures,
    )
