-- `engine_refusals::ranges::are_near` meets its contract. Assumes nothing.
use Rattle.std.proofs.Common.{rules, tests}
use Rattle.std.proofs.lemmas.Iterator.{YieldsList-from_slice}
use Rattle.std.proofs.lemmas.Iterator.Search.{all_from_yields_List}
use Rattle.engine_spec.specs.Refusals.{near}
use Rattle.numbers_spec.proofs.ChainLaws.{every_is_all}
use Rattle.engine_refusals.proofs.ranges.are_near.Goals as goal

pub returns : goal.returns
returns c =
    rw every_is_all (all_from_yields_List near _ _ _ c.all.ensures.ran (YieldsList-from_slice c.args.times.now cc) (λ x b q k. search (rules, tests)))
