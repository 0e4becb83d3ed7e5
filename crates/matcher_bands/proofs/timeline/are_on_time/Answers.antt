-- `matcher_bands::timeline::are_on_time` meets its contract. Assumes nothing.
use Rattle.std.proofs.Common.{◌-◌, length, refl, rules, tests, ◌∙◌}
use Rattle.std.proofs.lemmas.Iterator.{YieldsList-from_range}
use Rattle.std.proofs.lemmas.Iterator.Search.{all_from_yields_List}
use Rattle.matcher_spec.specs.Timeline.{on_time}
use Rattle.matcher_bands.proofs.TimelineLaws.{all_from_one}
use Rattle.matcher_bands.proofs.timeline.are_on_time.Goals as goal

pub returns : goal.returns
returns c =
    let times = c.args.times.now in
    let n = length times - 1 in
    let on = on_time c.args.hop times in
    all_from_yields_List on _ _ _ c.all.ensures.ran (YieldsList-from_range 1 (length times) n refl refl) (λ x b q k. search (rules, tests)) ∙ all_from_one on n
