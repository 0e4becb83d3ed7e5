-- The loop's invariant: `at` is the first of the largest scores passed.
use Rattle.std.proofs.Common.{◌<◌, ◌≡◌, length}
use Rattle.matcher_spec.specs.Peaks.{maximum_to}
use Rattle.matcher_picks.proofs.peaks.first_maximum.Given as goal

abbrev pub invariant-loop-i : goal.invariant-loop-i
invariant-loop-i l = (l.at < length l.scores) × (l.at ≡ maximum_to l.scores l.i)
