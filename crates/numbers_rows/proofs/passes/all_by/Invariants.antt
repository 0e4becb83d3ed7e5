-- `numbers_rows::passes::all_by` meets its contract: if all so far were true, f gave true at each; if not, it gave false at one. Assumes nothing.
use Rattle.std.proofs.Common.{ℕ, ◌<◌, ◌≡◌, true, false}
use Rattle.numbers_rows.proofs.passes.all_by.Given as goal

abbrev pub invariant-loop-i : goal.invariant-loop-i
invariant-loop-i g l =
    (l.all ≡ true → (k : ℕ) → k < l.i → goal.F-post g l.f k true) × (l.all ≡ false → (k : ℕ) × (k < l.i) × goal.F-post g l.f k false)
