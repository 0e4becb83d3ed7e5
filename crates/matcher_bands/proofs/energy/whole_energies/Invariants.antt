-- The loop's invariant: the whole energies of the bands passed are filled, the others 0.0. Assumes nothing.
use Rattle.std.proofs.Common.{◌≡◌, ℕ, suc, ◌+◌, ◌*◌, List, Float, get_or, length}
use Rattle.std.specs.Float.{nan}
use Rattle.numbers_spec.specs.Arithmetic.{zero⁺}
use Rattle.numbers_spec.specs.Rows.{tabulate}
use Rattle.numbers_spec.proofs.RowLaws.{Filled}
use Rattle.matcher_spec.specs.Limits.{bands_most}
use Rattle.matcher_bands.proofs.energy.whole_energies.Given as goal

abbrev pub last : ℕ → List Float → ℕ → Float
last n energy b = get_or energy (b * suc n + n) nan

abbrev pub none : ℕ → Float
none b = zero⁺

abbrev pub invariant-loop-b : goal.invariant-loop-b
invariant-loop-b l = (length l.whole ≡ bands_most) × Filled (last l.n l.energy) (tabulate none bands_most) l.b l.whole
