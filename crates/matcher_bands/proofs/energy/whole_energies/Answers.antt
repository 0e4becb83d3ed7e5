use mathlib.Core.Path.{◌≡◌, refl, sym, ap, ◌∙◌}
use Prim.Native.Nat.{ℕ, ◌+◌, ◌-◌, ◌*◌, ◌≤◌}
use native.Mathlib.Numerals.{add-one}
use native.Mathlib.Omega.{arith}
use mathlib.Core.List.{List, ◌++◌}
use lib.ListN.{length, drop, length-drop, length-set}
use lib.Seq.{take_all}
use lib.Ieee.{Float, nan, of_bits}
use Rattle.numbers_spec.specs.Rows.{tabulate}
use Rattle.matcher_spec.specs.Energy.{whole_energies}
use Rattle.numbers_spec.proofs.RowLaws.{length_tabulate, filled_more}
use Rattle.matcher_bands.proofs.CentringLaws.{tabulate_part}
use Rattle.matcher_spec.specs.Limits.{bands_most}
use Rattle.matcher_bands.proofs.energy.whole_energies.Goals as goal
use Rattle.matcher_bands.proofs.energy.whole_energies.Invariants.{last, none}

-- what is left of a list of zeros
left : (bands : ℕ) → bands ≤ bands_most → drop bands (tabulate none bands_most) ≡ tabulate none (bands_most - bands)
left bands h =
    let long : length (drop bands (tabulate none bands_most)) ≤ bands_most - bands = rw (length-drop, length_tabulate) (omega arith) in
    sym (take_all (bands_most - bands) (drop bands (tabulate none bands_most)) long) ∙ tabulate_part none nan bands_most bands (bands_most - bands) (omega arith)

pub loop-b-init : goal.loop-b-init
unfolding tabulate of_bits
loop-b-init c = (refl, refl)

pub loop-b-preserved : goal.loop-b-preserved
loop-b-preserved c =
    let a = c.args in
    (simp length-set c.loop-b.invariant.0, filled_more (last a.n a.energy.now) (tabulate none bands_most) c.loop-b.b c.loop-b.invariant.1 (rw add-one) (rw (length_tabulate none bands_most) (omega arith)))

pub returns : goal.returns
unfolding whole_energies
returns c =
    let a = c.args in
    let e : c.loop-b.b ≡ a.bands = omega arith in
    rw e at c.loop-b.invariant.1 ∙ ap (λ (l : List Float). tabulate (last a.n a.energy.now) a.bands ++ l) (left a.bands (omega arith))
