-- `numbers_rows::root_row::near` meets its contract: its conversions are defined. Assumes nothing.
use mathlib.Core.Path.{sym, subst}
use native.Mathlib.Omega.{arith}
use lib.Dec.{T}
use Rattle.numbers_spec.proofs.Rooted.{no_nan_bits}
use Rattle.numbers_rows.proofs.Range.{Plus, from_tiny}
use Rattle.numbers_rows.proofs.root_row.near.Goals as goal

plus : (c : goal.After-at_least-v) → Plus c.at_least-v.result
plus c = subst Plus (sym c.at_least-v.ensures) (from_tiny _ (subst T (sym c.well_formed.0.1) tt))

pub overflow_sub-y : goal.overflow_sub-y
overflow_sub-y c = let h = (plus c).bits_le in omega arith

pub float_from_bits-y : goal.float_from_bits-y
float_from_bits-y c = no_nan_bits _ (omega arith)
