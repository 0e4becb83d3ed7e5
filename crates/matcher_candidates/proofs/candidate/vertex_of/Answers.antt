use lib.Ieee.{neg, of_bits}
use Rattle.matcher_spec.specs.Search.{vertex}
use Rattle.matcher_candidates.proofs.candidate.vertex_of.Goals as goal

pub returns-then-curvature : goal.returns-then-curvature
unfolding vertex neg of_bits
returns-then-curvature c = simp (c.if-curvature.true, ← c.clamp.ensures.value)

pub returns-else-curvature : goal.returns-else-curvature
unfolding vertex neg of_bits
returns-else-curvature c = simp c.if-curvature.false
