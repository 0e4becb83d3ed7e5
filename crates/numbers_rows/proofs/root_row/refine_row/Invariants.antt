-- `numbers_rows::root_row::refine_row` meets its contract: those so far are in the range. Assumes nothing.
use Rattle.std.proofs.Common.{ℕ, ◌<◌, get_or}
use lib.Ieee.{nan}
use Rattle.numbers_rows.specs.Rows.{Ranged}
use Rattle.numbers_rows.proofs.root_row.refine_row.Given as goal

abbrev pub invariant-loop-i : goal.invariant-loop-i
invariant-loop-i l = (k : ℕ) → k < l.i → Ranged (get_or l.roots k nan)
