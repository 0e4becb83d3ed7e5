-- The loop's invariant: `best` is the best of the free places passed.
use Rattle.std.proofs.Common.{◌<◌, ◌≡◌, length, IfSome}
use Rattle.std.specs.Option.{unwrap_or}
use Rattle.matcher_spec.specs.Peaks.{free_to}
use Rattle.matcher_picks.proofs.peaks.best_free.Given as goal

abbrev pub invariant-loop-i : goal.invariant-loop-i
invariant-loop-i l = IfSome l.best (λ b. b < length l.scores) × (unwrap_or l.best (length l.scores) ≡ free_to l.scores l.separation l.taken l.i)
