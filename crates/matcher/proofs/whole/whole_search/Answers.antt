-- A search by the window's query is the search of the window. Assumes nothing.
use Rattle.std.proofs.Common.{ap, arith, sym, ◌∙◌}
use Rattle.matcher_spec.specs.Index.{Matcher}
use Rattle.matcher_filling.specs.Queries.{Answered}
use Rattle.matcher.proofs.QueryLaws.{whole_by, whole_none, query_room}
use Rattle.matcher.proofs.whole.whole_search.Goals as goal

pub returns-in_default : goal.returns-in_default
unfolding Answered
returns-in_default c =
    let same = ap (λ (m : Matcher). m.reference) c.matcher.view_is in
    record { value = c.nothing_found.ensures ∙ sym (whole_none c.args.matcher.now _ _ _ (rw same at c.in_default.ensures)) }

pub whole_found-requires-clause-fits : goal.whole_found-requires-clause-fits
unfolding Answered
whole_found-requires-clause-fits c =
    let same = ap (λ (m : Matcher). m.reference) c.matcher.view_is in
    rw same at c.in-Some.ensures.fits

pub whole_found-requires-clause-work_room : goal.whole_found-requires-clause-work_room
unfolding Answered
whole_found-requires-clause-work_room c =
    let same = ap (λ (m : Matcher). m.reference) c.matcher.view_is in
    query_room c.args.matcher.now.reference c.args.window.now _ _ _ (rw same at c.in-Some.ensures) (record { work32_room_lem = omega (arith, c.requires.values_len_2, c.fill_query.auto.work32); work64_room_lem = omega (arith, c.requires.values_len_2, c.fill_query.auto.work64) })

pub returns : goal.returns
unfolding Answered
returns c =
    let same = ap (λ (m : Matcher). m.reference) c.matcher.view_is in
    record { value = c.whole_found.ensures.value ∙ whole_by c.args.matcher.now _ c.in-Some.query _ _ (rw same at c.in-Some.ensures) }
