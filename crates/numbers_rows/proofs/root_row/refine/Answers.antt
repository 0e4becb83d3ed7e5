-- `numbers_rows::root_row::refine` meets its contract: its conversions are defined. Assumes nothing.
use mathlib.Core.Path.{sym, subst}
use native.Mathlib.Omega.{arith}
use lib.Dec.{T}
use Rattle.numbers_spec.proofs.Rooted.{no_nan_bits}
use Rattle.numbers_rows.proofs.Range.{Plus, from_least}
use Rattle.numbers_rows.proofs.root_row.refine.Goals as goal

plus : (c : goal.After-at_least) → Plus c.at_least.result
plus c = subst Plus (sym c.at_least.ensures) (from_least _ (subst T (sym c.well_formed.1.0.1) tt))

pub overflow_mul-c : goal.overflow_mul-c
overflow_mul-c c = let h = (plus c).bits_le in omega arith

pub float_from_bits-c : goal.float_from_bits-c
float_from_bits-c c = let h = (plus c).bits_le in no_nan_bits _ (omega arith)
