-- `engine_refusals::ranges::are_valid_energies` meets its contract. Assumes nothing.
use Rattle.std.proofs.Common.{rules, tests}
use Rattle.std.proofs.lemmas.Iterator.{YieldsList-from_slice}
use Rattle.std.proofs.lemmas.Iterator.Search.{all_from_yields_List}
use Rattle.engine_spec.specs.Refusals.{valid_energy}
use Rattle.numbers_spec.proofs.ChainLaws.{every_is_all}
use Rattle.engine_refusals.proofs.ranges.are_valid_energies.Goals as goal

pub returns : goal.returns
returns c =
    rw every_is_all (all_from_yields_List valid_energy _ _ _ c.all.ensures.ran (YieldsList-from_slice c.args.energies.now cc) (λ x b q k. search (rules, tests)))
