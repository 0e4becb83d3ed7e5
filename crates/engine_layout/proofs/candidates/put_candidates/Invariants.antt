-- `engine_layout::candidates::put_candidates` meets its contract: the first i candidates are written, and each would be read back. Assumes nothing.
use Rattle.std.proofs.Common.{◌*◌}
use Rattle.engine_layout.specs.Written.{candidates_to}
use Rattle.engine_layout.proofs.Laws.{Laid}
use Rattle.engine_layout.proofs.EightRows.{BackTo}
use Rattle.engine_layout.proofs.candidates.put_candidates.Given as goal

abbrev pub invariant-loop-i : goal.invariant-loop-i
invariant-loop-i l = Laid l.at (l.i * 5) (candidates_to l.i l.candidates) l.initial.words l.words × BackTo l.i l.candidates
