-- `matcher_bands::rows::fill_sums` meets its contract. The loop's invariant: so many of the sums are filled, and the next is at hand. Assumes nothing.
use Rattle.std.proofs.Common.{ℕ, ◌<◌, ◌≡◌, Float, get_or, length}
use Rattle.std.specs.Float.{nan}
use Rattle.numbers_spec.specs.Rows.{sum_to}
use Rattle.numbers_spec.proofs.RowLaws.{Filling}
use Rattle.matcher_bands.proofs.rows.fill_sums.Given as goal

abbrev pub invariant-loop-i : goal.invariant-loop-i
invariant-loop-i g l =
    (t : ℕ → Float) → ((i : ℕ) (x : Float) → i < length l.values → goal.F-post g l.term (get_or l.values i nan) x → x ≡ t i)
    → (l.sum ≡ sum_to t l.i) × Filling (sum_to t) l.initial.sums l.i l.sums
