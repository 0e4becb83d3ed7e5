use Rattle.std.proofs.Common.{◌≡◌, ◌+◌, ◌*◌, ◌++◌, drop, subst, zero-mul, rules, arith}
use Rattle.numbers_spec.specs.Rows.{rows}
use Rattle.matcher_spec.specs.Energy.{energies, all_energies}
use Rattle.matcher_bands.proofs.energy.fill_energies.Goals as goal

pub returns-then-bands-gt0 : goal.returns-then-bands-gt0
returns-then-bands-gt0 c = c.fill_bands.ensures energies (λ part band after s v p. search rules)

pub returns-else-bands-gt0 : goal.returns-else-bands-gt0
unfolding rows
returns-else-bands-gt0 c =
    let a = c.args in
    let none : 0 ≡ a.bands = omega arith in
    subst (λ k. a.energy.now ≡ all_energies k a.n a.values.now ++ drop (k * (a.n + 1)) a.energy.now) none (rw zero-mul)
