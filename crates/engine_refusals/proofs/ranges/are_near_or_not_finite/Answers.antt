-- `engine_refusals::ranges::are_near_or_not_finite` meets its contract. Assumes nothing.
use Rattle.std.proofs.Common.{rules, tests}
use Rattle.std.proofs.lemmas.Iterator.{YieldsList-from_slice}
use Rattle.std.proofs.lemmas.Iterator.Search.{all_from_yields_List}
use Rattle.engine_spec.specs.Refusals.{near_or_not_finite}
use Rattle.numbers_spec.proofs.ChainLaws.{every_is_all}
use Rattle.engine_refusals.proofs.ranges.are_near_or_not_finite.Goals as goal

pub returns : goal.returns
returns c =
    rw every_is_all (all_from_yields_List near_or_not_finite _ _ _ c.all.ensures.ran (YieldsList-from_slice c.args.times.now cc) (λ x b q k. search (rules, tests)))
