use Rattle.std.proofs.Common.{refl, arith}
use Rattle.numbers_spec.proofs.RowLaws.{filling_more}
use Rattle.workload_spec.specs.Load.{load_time}
use Rattle.workload.proofs.load.fill_times.Goals as goal

pub loop-i-preserved : goal.loop-i-preserved
unfolding load_time
loop-i-preserved c = filling_more c.loop-i.invariant refl (omega arith)
