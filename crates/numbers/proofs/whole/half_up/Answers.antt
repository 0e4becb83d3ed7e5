-- `numbers::whole::half_up` meets its contract. Assumes nothing.
use Rattle.std.proofs.Common.{arith}
use Rattle.numbers.proofs.whole.Fractions.{half_none, half_shift, half_fits}
use Rattle.numbers.proofs.whole.half_up.Goals as goal

pub overflow_add-result : goal.overflow_add-result
overflow_add-result c = omega (arith, half_fits c.args.sig c.args.gap c.requires.sig_lt c.if-gap-gt63.false)

pub returns-then-gap-gt63 : goal.returns-then-gap-gt63
returns-then-gap-gt63 c = half_none c.args.sig c.args.gap c.requires.sig_lt c.if-gap-gt63.true

pub returns-else-gap-gt63 : goal.returns-else-gap-gt63
returns-else-gap-gt63 c = half_shift c.args.sig c.args.gap c.requires.gap_some c.if-gap-gt63.false
