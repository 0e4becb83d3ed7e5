-- `hexadecimal::read_list` meets its contract: what is read lies at the list's front, and is what the input has given. Assumes nothing.
use Rattle.std.proofs.Common.{length, take, ◌-◌, ◌≤◌}
use Rattle.std.specs.Io.KnownBytes.{Consumes}
use Rattle.hexadecimal.proofs.read_list.Given as goal

abbrev pub invariant-loop-size : goal.invariant-loop-size
invariant-loop-size g l = (l.size ≤ length l.list) × Consumes (g.R.Read.remaining l.initial.input) (g.R.Read.remaining l.input) (take l.size l.list)

abbrev pub decreases-loop-size : goal.decreases-loop-size
decreases-loop-size g l = length l.list - l.size
