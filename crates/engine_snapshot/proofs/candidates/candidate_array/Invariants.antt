-- The rows so far are those of the candidates taken. Assumes nothing.
use mathlib.Core.Path.{◌≡◌}
use lib.ListN.{take}
use Rattle.engine_spec.specs.Publishing.{candidate_array}
use Rattle.engine_snapshot.proofs.candidates.candidate_array.Given as goal

abbrev pub invariant-loop-i : goal.invariant-loop-i
invariant-loop-i l = l.rows ≡ candidate_array l.comparable l.coverage (take l.i l.found)
