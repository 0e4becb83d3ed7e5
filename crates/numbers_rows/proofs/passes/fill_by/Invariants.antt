-- `numbers_rows::passes::fill_by` meets its contract: each place so far holds what f gave at it. Assumes nothing.
use Rattle.std.proofs.Common.{ℕ, ◌<◌, get_or}
use Rattle.numbers_rows.proofs.passes.fill_by.Given as goal

abbrev pub invariant-loop-i : goal.invariant-loop-i
invariant-loop-i g l = (d : _) (k : ℕ) → k < l.i → goal.F-post g l.f k (get_or l.out k d)
