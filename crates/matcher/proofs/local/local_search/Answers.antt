-- A search by the window's query is the search of the window. Assumes nothing.
use Rattle.std.proofs.Common.{arith, sym, ◌∙◌}
use Rattle.matcher_filling.specs.Queries.{Answered}
use Rattle.matcher.proofs.QueryLaws.{local_by, local_none, query_room}
use Rattle.matcher.proofs.local.local_search.Goals as goal

pub returns-in_default : goal.returns-in_default
unfolding Answered
returns-in_default c = record { value = c.nothing_found.ensures ∙ sym (local_none _ _ _ _ _ _ _ c.in_default.ensures) }

pub local_found-requires-clause-fits : goal.local_found-requires-clause-fits
unfolding Answered
local_found-requires-clause-fits c = c.in-Some.ensures.fits

pub local_found-requires-clause-work_room : goal.local_found-requires-clause-work_room
unfolding Answered
local_found-requires-clause-work_room c = query_room _ c.args.window.now _ _ _ c.in-Some.ensures (record { work32_room_lem = omega (arith, c.requires.values_len_2, c.fill_query.auto.work32); work64_room_lem = omega (arith, c.requires.values_len_2, c.fill_query.auto.work64) })

pub returns : goal.returns
unfolding Answered
returns c = record { value = c.local_found.ensures.value ∙ local_by _ _ _ c.in-Some.query _ _ _ _ c.in-Some.ensures }
