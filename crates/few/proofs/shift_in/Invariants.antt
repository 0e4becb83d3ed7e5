-- To insert what is held where the loop stands gives the answer. Assumes nothing.
use Rattle.std.proofs.Common.{◌≡◌, insert, length}
use Rattle.few.proofs.shift_in.Given as goal

abbrev pub invariant-loop-i : goal.invariant-loop-i
invariant-loop-i g l = (length l.list ≡ length l.initial.list) × (insert l.list l.i l.held ≡ insert l.fn.list l.fn.at l.fn.item)
