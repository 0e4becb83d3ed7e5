-- The loop's invariant: to go on from the places picked gives what the contract says.
use Rattle.std.proofs.Common.{◌≡◌, ◌<◌, ◌-◌, length}
use Rattle.std.specs.List.{All}
use Rattle.matcher_spec.specs.Peaks.{peaks, peaks_from}
use Rattle.matcher_picks.proofs.peaks.pick_peaks.Given as goal

abbrev pub invariant-loop : goal.invariant-loop
invariant-loop l = (length l.picked.items ≡ l.counter) × (peaks_from l.scores l.separation (8 - l.counter) l.picked.items ≡ peaks l.scores l.separation) × All (λ place. place < length l.scores) l.picked.items
