-- Nothing is written where a number does not fit, and the margin where all do. Assumes nothing.
use Rattle.std.proofs.Common.{rules, tests}
use Rattle.compare_exports.specs.MatcherCalls.{fits_margin}
use Rattle.compare_exports.proofs.FrontLaws.{candidates_front}
use Rattle.compare_exports.proofs.matcher_calls.matcher_margin.Goals as goal
use Rattle.compare_exports.proofs.matcher_calls.matcher_margin.Goals.{then-count-gt-CANDIDATES_MOST-via-then-count-gt-CANDIDATES_MOST, then-count-gt-CANDIDATES_MOST-via-else-count-gt-CANDIDATES_MOST+then-is_empty}

pub returns-then-count-gt-CANDIDATES_MOST-clause-value : goal.returns-then-count-gt-CANDIDATES_MOST-clause-value
unfolding fits_margin
returns-then-count-gt-CANDIDATES_MOST-clause-value c =
    elim c.then-count-gt-CANDIDATES_MOST.branch [
      | then-count-gt-CANDIDATES_MOST-via-then-count-gt-CANDIDATES_MOST w ↦ search (rules, tests)
      | then-count-gt-CANDIDATES_MOST-via-else-count-gt-CANDIDATES_MOST+then-is_empty w ↦ search (rules, tests)
    ]

pub returns-clause-out_after : goal.returns-clause-out_after
unfolding fits_margin
returns-clause-out_after c = rw (c.margin.ensures, c.candidates_at.ensures, c.in-Some.ensures.cases.same, candidates_front c.args.numbers.now) (search (rules, tests))
