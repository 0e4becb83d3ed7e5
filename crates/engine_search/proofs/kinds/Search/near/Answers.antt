-- A search by the window's query is the search of the window. Assumes nothing.
use Rattle.std.proofs.Common.{◌≡◌, sym, subst, ◌∙◌}
use Rattle.matcher_spec.specs.Search.{QueryFits, WorkRoom}
use Rattle.matcher_filling.specs.Queries.{QueryFilled, Answered}
use Rattle.matcher.proofs.QueryLaws.{local_by, local_none, query_room, query_stays}
use Rattle.engine_spec.specs.Windows.{query}
use Rattle.engine_search.specs.Searching.{near_of}
use Rattle.engine_search.specs.declared.kinds.Search.{Search}
use Rattle.engine_search.proofs.kinds.Search.near.Goals as goal

pub returns-in_default-clause-value : goal.returns-in_default-clause-value
unfolding Answered
returns-in_default-clause-value c =
    let s = c.args.self.now in
    c.nothing_found.ensures ∙ sym (local_none s.matcher.reference s.matcher.fine (query s.window.now) c.args.work32.now c.args.work64.now _ _ (rw c.in_default.is at c.requires.filled_query))

pub local_found-requires-clause-fits : goal.local_found-requires-clause-fits
unfolding Answered
local_found-requires-clause-fits c =
    subst (λ (s : Search). QueryFits s.matcher.reference c.in-Some.query.frames) (sym c.self.view_is) (rw c.in-Some.is at c.requires.filled_query).fits

pub local_found-requires-clause-work_room : goal.local_found-requires-clause-work_room
unfolding Answered
local_found-requires-clause-work_room c =
    let s = c.args.self.now in
    let q = c.in-Some.query in
    subst (λ (s : Search). WorkRoom s.matcher.reference s.matcher.reference.bands q.frames c.args.work32.now c.args.work64.now) (sym c.self.view_is)
    (query_room s.matcher.reference (query s.window.now) q c.args.work32.now c.args.work64.now (rw c.in-Some.is at c.requires.filled_query) c.requires.work_room)

pub returns-clause-value : goal.returns-clause-value
unfolding Answered
returns-clause-value c =
    let q = c.in-Some.query in
    let told = subst (λ (s : Search). QueryFilled s.matcher.reference (query s.window.now) q c.args.work32.now c.args.work64.now) (sym c.self.view_is) (rw c.in-Some.is at c.requires.filled_query) in
    subst (λ (s : Search). c.local_found.result.items ≡ near_of s c.args.track) c.self.view_is
    (c.local_found.ensures.value ∙ local_by _ _ _ q c.args.work32.now c.args.work64.now _ _ told)

pub returns-clause-filled_query : goal.returns-clause-filled_query
unfolding Answered
returns-clause-filled_query c =
    let q = c.in-Some.query in
    let told = subst (λ (s : Search). QueryFilled s.matcher.reference (query s.window.now) q c.args.work32.now c.args.work64.now) (sym c.self.view_is) (rw c.in-Some.is at c.requires.filled_query) in
    rw c.in-Some.is
    (subst (λ (s : Search). QueryFilled s.matcher.reference (query s.window.now) q c.args.work32.now c.local_found.new.work64) c.self.view_is
    (query_stays _ _ q c.args.work32.now c.args.work64.now c.local_found.new.work64 c.local_found.ensures.stays told))
