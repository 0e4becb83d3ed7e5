use Rattle.std.proofs.Common.{arith}
use Rattle.numbers_rows.proofs.Rows.{tabulated}
use Rattle.numbers_rows.proofs.passes.fill_by.Goals as goal

pub returns-clause-row : goal.returns-clause-row
returns-clause-row g c h says = tabulated h _ (omega arith) (λ d k b. says k _ b (c.loop-i.invariant d k (omega arith)))
