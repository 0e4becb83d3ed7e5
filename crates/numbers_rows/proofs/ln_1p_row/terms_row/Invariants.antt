-- `numbers_rows::ln_1p_row::terms_row` meets its contract: so many places have their terms, and the others are as they were. Assumes nothing.
use Rattle.std.proofs.Common.{ℕ, ◌<◌, ◌≤◌, ◌≡◌, get_or}
use lib.Ieee.{nan}
use Rattle.numbers_spec.specs.Arithmetic.{◌⊗◌}
use Rattle.numbers_rows.specs.Logs.{terms}
use Rattle.numbers_rows.proofs.ln_1p_row.terms_row.Given as goal

abbrev pub invariant-loop-k : goal.invariant-loop-k
invariant-loop-k l =
    ((j : ℕ) → j < l.k → get_or l.sums j nan ≡ terms 4 l.i (get_or l.ratios j nan ⊗ get_or l.ratios j nan) (get_or l.initial.sums j nan))
    × ((j : ℕ) → l.k ≤ j → get_or l.sums j nan ≡ get_or l.initial.sums j nan)
