-- The loop's invariant: to go on from those kept gives what the contract says.
use Rattle.std.proofs.Common.{◌≡◌, ◌≤◌, length, drop}
use Rattle.matcher_spec.specs.Candidates.{independent, independent_from}
use Rattle.matcher_picks.proofs.candidates.keep_independent.Given as goal

abbrev pub invariant-loop-c : goal.invariant-loop-c
invariant-loop-c l = (length l.kept.items ≤ l.c-index) × (independent_from l.kept.items (drop l.c-index l.sorted.items) ≡ independent l.sorted.items)
