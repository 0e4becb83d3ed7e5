-- `matcher_filling::query::fill_query` meets its contract. Assumes nothing.
use mathlib.Core.Path.{refl, sym, ap, ◌∙◌}
use native.Mathlib.Omega.{arith}
use lib.ListN.{length}
use Rattle.matcher_spec.specs.Features.{Features}
use Rattle.matcher_filling.specs.Queries.{Answered}
use Rattle.matcher_filling.proofs.FillLaws.{searchable_room, query_told}
use Rattle.matcher_filling.proofs.query.fill_query.Goals as goal

pub fill_centred-requires-clause-some_bands : goal.fill_centred-requires-clause-some_bands
fill_centred-requires-clause-some_bands c =
    let room = searchable_room c.args.reference c.args.window.now (sym c.is_searchable.ensures ∙ c.if-not-is_searchable.false) in
    omega arith

pub fill_centred-requires-clause-some_left : goal.fill_centred-requires-clause-some_left
fill_centred-requires-clause-some_left c =
    let room = searchable_room c.args.reference c.args.window.now (sym c.is_searchable.ensures ∙ c.if-not-is_searchable.false) in
    omega arith

pub overflow_sub-result : goal.overflow_sub-result
overflow_sub-result c =
    let room = searchable_room c.args.reference c.args.window.now (sym c.is_searchable.ensures ∙ c.if-not-is_searchable.false) in
    omega (arith, room, c.radius-radius.ensures, ap (λ (w : Features). length w.times) c.window.view_is)

pub bounds-window-inside-radius : goal.bounds-window-inside-radius
bounds-window-inside-radius c =
    let room = searchable_room c.args.reference c.args.window.now (sym c.is_searchable.ensures ∙ c.if-not-is_searchable.false) in
    omega (arith, room, c.radius-radius.ensures, ap (λ (w : Features). length w.times) c.window.view_is)

pub returns-then-not-is_searchable : goal.returns-then-not-is_searchable
unfolding Answered
returns-then-not-is_searchable c = record { told = sym (sym c.is_searchable.ensures ∙ c.if-not-is_searchable.true); query = λ e. search }

pub returns : goal.returns
unfolding Answered
returns c =
    let a = c.args in
    let filled = c.fill_centred in
    query_told a.reference a.window.now filled.new.values filled.new.energy c.radius-radius.ensures (sym c.is_searchable.ensures ∙ c.if-not-is_searchable.false) filled.ensures.values_front filled.ensures.energy_front
    c.requires.in_range _ (rw (← c.window.view_is) refl) (rw (← c.window.view_is) refl)
