-- `matcher_bands::timeline::are_valid` meets its contract. Assumes nothing.
use Rattle.std.proofs.Common.{◌≡◌, Bool, true, ◌&&◌, ◌∷◌, [], Float, refl, sym, ap, rules, ◌∙◌}
use Rattle.std.specs.List.{fold}
use Rattle.std.proofs.lemmas.Fn.{fold_over}
use Rattle.std.proofs.iter.Yields.{fronts, slice_gives}
use Rattle.std.proofs.lemmas.List.Sums.{fold-append}
use Rattle.matcher_spec.specs.Timeline.{valid_value, valid_values}
use Rattle.matcher_bands.proofs.TimelineLaws.{all_folded}
use Rattle.matcher_bands.proofs.timeline.are_valid.Goals as goal

abbrev both : Bool → Float → Bool
both all v = all && valid_value v

pub returns : goal.returns
unfolding valid_values
returns c =
    fold_over fronts (λ y. y.now) _ (λ ys b. b ≡ fold both true ys) _
    (λ ys a x b f' j k. let e : b ≡ both a x.now = search rules in (e ∙ ap (λ s. both s x.now) j ∙ sym (fold-append both true ys (x.now ∷ [])), search rules))
    c.iter.result c.iter.result.rest.now true c.fold.result (slice_gives c.iter.result) refl c.fold.ensures.ran
    ∙ ap (fold both true) c.iter.ensures.rest
    ∙ all_folded valid_value c.args.values.now
