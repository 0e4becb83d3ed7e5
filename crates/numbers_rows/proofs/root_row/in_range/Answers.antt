-- `numbers_rows::root_row::in_range` meets its contract. Assumes nothing.
use mathlib.Core.Path.{ap, sym, ◌∙◌, subst}
use lib.Dec.{T}
use Rattle.numbers_spec.specs.Arithmetic.{at_most}
use Rattle.numbers_rows.specs.Rows.{Ranged}
use Rattle.numbers_rows.proofs.Range.{most, ranged}
use Rattle.numbers_rows.proofs.root_row.in_range.Goals as goal

pub returns : goal.returns
returns c =
    subst Ranged (sym (c.at_most.ensures ∙ ap (at_most most) c.at_least.ensures)) (ranged _ (subst T (sym c.well_formed.0.1) tt))
