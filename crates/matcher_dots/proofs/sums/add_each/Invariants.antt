-- `matcher_dots::sums::add_each` meets its contract. The loop's invariant: so many of the sums have had their term added. Assumes nothing.
use Rattle.std.proofs.Common.{ℕ, ◌<◌, ◌≤◌, get_or, Float, length, ◌≡◌}
use Rattle.std.specs.Float.{nan}
use Rattle.matcher_spec.specs.Energy.{◌+₃₂◌}
use Rattle.matcher_dots.proofs.sums.add_each.Given as goal

abbrev pub invariant-loop-p : goal.invariant-loop-p
invariant-loop-p g l = record {
  size : length l.sums ≡ length l.initial.sums;
  done : (q : ℕ) → q < l.p → (x : Float) × goal.F-post g l.term q x × (get_or l.sums q nan ≡ get_or l.initial.sums q nan +₃₂ x);
  rest : (q : ℕ) → l.p ≤ q → get_or l.sums q nan ≡ get_or l.initial.sums q nan;
}
