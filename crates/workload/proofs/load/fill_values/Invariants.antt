-- `workload::load::fill_values` meets its contract. The loop's invariant: so many values are written, and x is the generator's value after so many steps. Assumes nothing.
use Rattle.std.proofs.Common.{◌≡◌}
use Rattle.numbers_spec.proofs.RowLaws.{Filling}
use Rattle.workload_spec.specs.Draws.{stepped}
use Rattle.workload_spec.specs.Load.{value_at}
use Rattle.workload.proofs.load.fill_values.Given as goal

abbrev pub invariant-loop-value : goal.invariant-loop-value
invariant-loop-value l =
    (l.x ≡ stepped l.seed l.value-index) × Filling (value_at l.seed) l.initial.values l.value-index l.values
