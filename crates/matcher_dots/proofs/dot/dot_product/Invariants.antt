-- `matcher_dots::dot::dot_product` meets its contract. The first loop's invariant: each lane is what `lane` says after k chunks. The second's: the sum is what `onward` says of the products passed. Assumes nothing.
use Rattle.std.proofs.Common.{ℕ, ◌≡◌, ◌-◌, ◌*◌, ◌/◌, ◌<◌, length, get_or}
use Rattle.std.specs.Float.{nan}
use Rattle.matcher_spec.specs.Scores.{lane, lanes, onward}
use Rattle.matcher_dots.proofs.dot.dot_product.Given as goal

abbrev pub invariant-loop-k : goal.invariant-loop-k
invariant-loop-k l = (j : ℕ) → j < 8 → get_or l.lanes j nan ≡ lane l.left l.right j l.k-counter

abbrev pub invariant-loop-i : goal.invariant-loop-i
invariant-loop-i l = l.sum ≡ onward l.left l.right (length l.left / 8 * 8) (lanes l.left l.right (length l.left / 8)) (l.i - length l.left / 8 * 8)
