use lib.Ieee.{of_bits, of_int}
use Rattle.matcher_spec.specs.Search.{separation}
use Rattle.matcher.proofs.whole.peak_separation.Goals as goal

pub returns : goal.returns
unfolding separation of_bits of_int
returns c = simp (← c.count.ensures, ← c.max.ensures)
