-- `workload::load::fill_times` meets its contract. The loop's invariant: so many times are written. Assumes nothing.
use Rattle.numbers_spec.proofs.RowLaws.{Filling}
use Rattle.workload_spec.specs.Load.{load_time}
use Rattle.workload.proofs.load.fill_times.Given as goal

abbrev pub invariant-loop-i : goal.invariant-loop-i
invariant-loop-i l = Filling (load_time l.hop) l.initial.times l.i l.times
