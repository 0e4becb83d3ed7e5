-- `matcher_replay::case::Case::is_small` meets its contract: 1.0 is the definition's one. Assumes nothing.
use Rattle.std.proofs.Common.{rules}
use lib.Ieee.{of_bits}
use Rattle.matcher_replay.specs.Cases.{is_small}
use Rattle.matcher_replay.proofs.case.Case.is_small.Goals as goal

pub returns-then-self-le-CASE_WINDOW : goal.returns-then-self-le-CASE_WINDOW
unfolding is_small of_bits
returns-then-self-le-CASE_WINDOW c = search rules

pub returns-else-self-le-CASE_WINDOW : goal.returns-else-self-le-CASE_WINDOW
unfolding is_small of_bits
returns-else-self-le-CASE_WINDOW c = search rules
