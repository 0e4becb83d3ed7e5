-- `numbers_rows::ln_1p_row::ln_1p_row` meets its contract: the logarithms of the blocks so far stand, and the working rows have their room. Assumes nothing.
use Rattle.std.proofs.Common.{◌≡◌, take, length}
use Rattle.numbers_spec.specs.Rows.{logs_of}
use Rattle.numbers_rows.proofs.ln_1p_row.ln_1p_row.Given as goal

abbrev pub invariant-loop-at : goal.invariant-loop-at
invariant-loop-at l =
    (take l.at l.logs ≡ logs_of (take l.at l.w)) × (length l.near ≡ 120) × (length l.powers ≡ 120) × (length l.ratios ≡ 120) × (length l.sums ≡ 120)
