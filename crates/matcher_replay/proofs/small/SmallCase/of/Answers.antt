-- `matcher_replay::small::SmallCase::of` meets its contract: a case that is small is within the limits. Assumes nothing.
use Rattle.std.proofs.Common.{sym, ◌∙◌}
use Rattle.matcher_replay.proofs.CaseLaws.{limits}
use Rattle.matcher_replay.proofs.small.SmallCase.of.Goals as goal

pub invariant_of-result : goal.invariant_of-result
invariant_of-result c = record { limits = limits c.of-case.result (sym c.is_small.ensures ∙ c.if-not-is_small.false) }
