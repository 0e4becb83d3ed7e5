-- `numbers_rows::root_row::is_root` meets its contract. Assumes nothing.
use mathlib.Core.Path.{◌≡◌, subst, sym}
use mathlib.Core.Bool.{true}
use native.Mathlib.Omega.{arith}
use lib.Dec.{T}
use lib.Ieee.{Float, lt}
use Rattle.numbers_spec.proofs.Rooted.{no_nan_bits}
use Rattle.numbers_rows.proofs.Range.{ranged_le, ranged_ge}
use Rattle.numbers_rows.proofs.Sure.{sure}
use Rattle.numbers_rows.proofs.root_row.is_root.Goals as goal

passed : (y z b : Float) → y ≡ z → lt y b ≡ true → lt z b ≡ true
passed y z b e = subst (λ (k : Float). lt k b ≡ true) e

pub overflow_add-high : goal.overflow_add-high
overflow_add-high c = let h = ranged_le _ c.requires in omega arith

pub overflow_mul-high : goal.overflow_mul-high
overflow_mul-high c = let h = ranged_le _ c.requires in omega arith

pub float_from_bits-high : goal.float_from_bits-high
float_from_bits-high c = let h = ranged_le _ c.requires in no_nan_bits _ (omega arith)

pub overflow_sub-unit : goal.overflow_sub-unit
overflow_sub-unit c = let h = ranged_ge _ c.requires in omega arith

pub overflow_mul-unit : goal.overflow_mul-unit
overflow_mul-unit c = let h = ranged_le _ c.requires in omega arith

pub float_from_bits-unit : goal.float_from_bits-unit
float_from_bits-unit c = let h = ranged_le _ c.requires in no_nan_bits _ (omega arith)

pub returns : goal.returns
returns c h =
    sure _ c.requires _ (subst T (sym c.well_formed.0.1) tt) (passed _ _ _ c.at_least.ensures h)
