-- A search by the window's query is the search of the window. Assumes nothing.
use Rattle.std.proofs.Common.{sym, ◌∙◌}
use Rattle.matcher_filling.specs.Queries.{Answered}
use Rattle.matcher.proofs.QueryLaws.{whole_by, whole_none, query_room}
use Rattle.engine_spec.specs.Windows.{query}
use Rattle.engine_search.proofs.kinds.Search.candidates.Goals as goal

pub returns-in_default : goal.returns-in_default
unfolding Answered
returns-in_default c =
    let s = c.args.self.now in
    c.nothing_found.ensures ∙ sym (whole_none s.matcher (query s.window.now) c.args.work32.now c.args.work64.now (rw c.in_default.is at c.requires.filled_query))

pub whole_found-requires-clause-fits : goal.whole_found-requires-clause-fits
unfolding Answered
whole_found-requires-clause-fits c = (rw c.in-Some.is at c.requires.filled_query).fits

pub whole_found-requires-clause-work_room : goal.whole_found-requires-clause-work_room
unfolding Answered
whole_found-requires-clause-work_room c =
    let s = c.args.self.now in
    query_room s.matcher.reference (query s.window.now) c.in-Some.query c.args.work32.now c.args.work64.now (rw c.in-Some.is at c.requires.filled_query) c.requires.work_room

pub returns : goal.returns
unfolding Answered
returns c =
    let s = c.args.self.now in
    c.whole_found.ensures.value ∙ whole_by s.matcher (query s.window.now) c.in-Some.query c.args.work32.now c.args.work64.now (rw c.in-Some.is at c.requires.filled_query)
