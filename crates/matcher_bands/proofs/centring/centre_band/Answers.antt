-- `matcher_bands::centring::centre_band` meets its contract. Assumes nothing.
use Rattle.std.proofs.Common.{◌≡◌, Float, List, rules, refl, ap, drop, ◌++◌, ◌∙◌, arith}
use Rattle.matcher_bands.specs.Centring.{prefix_sums}
use Rattle.matcher_bands.proofs.CentringLaws.{smoothed_row}
use Rattle.matcher_bands.proofs.centring.centre_band.Goals as goal

pub returns-clause-row_after : goal.returns-clause-row_after
returns-clause-row_after c =
    let a = c.args in
    let v = a.row.now in
    let sums : c.fill_sums.new.sums ≡ prefix_sums v = search rules in
    c.centre.ensures ∙ ap (λ (l : List Float). l ++ drop a.centring.count v) (smoothed_row a.centring.radius a.centring.from a.centring.count v c.fill_sums.new.sums _ _ sums refl refl (omega arith))
