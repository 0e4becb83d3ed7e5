-- `numbers_rows::ln_1p_row::split_row` meets its contract: so many places are filled. Assumes nothing.
use Rattle.std.proofs.Common.{ℕ, ◌<◌, ◌≡◌, get_or}
use lib.Ieee.{nan}
use Rattle.numbers_rows.specs.Logs.{near_one, power}
use Rattle.numbers_rows.proofs.ln_1p_row.split_row.Given as goal

abbrev pub invariant-loop-k : goal.invariant-loop-k
invariant-loop-k l =
    ((j : ℕ) → j < l.k → get_or l.near j nan ≡ near_one (get_or l.w j nan)) × ((j : ℕ) → j < l.k → get_or l.powers j nan ≡ power (get_or l.w j nan))
