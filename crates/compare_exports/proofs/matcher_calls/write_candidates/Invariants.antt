-- The loop's invariant: the numbers of the first i candidates, and the old list behind them.
use Rattle.std.proofs.Common.{◌≡◌, ◌*◌, ◌++◌, take, drop}
use Rattle.compare_exports.specs.MatcherCalls.{numbers_of}
use Rattle.compare_exports.proofs.matcher_calls.write_candidates.Given as goal

abbrev pub invariant-loop-i : goal.invariant-loop-i
invariant-loop-i l = l.out ≡ numbers_of (take l.i l.eight) ++ drop (l.i * 5) l.initial.out
