-- `position` finds the first candidate that scores lower. Assumes nothing.
use Rattle.std.proofs.Common.{rules, ◌≡◌, Bool, sym}
use Rattle.std.specs.Float.Ieee.{lt}
use Rattle.std.specs.List.{position, position_or_len}
use Rattle.std.proofs.lemmas.Iterator.{YieldsList-from_slice}
use Rattle.std.proofs.lemmas.Iterator.Search.{position_from_yields_List}
use Rattle.matcher_spec.specs.declared.types.Candidate.{Candidate}
use Rattle.matcher_spec.proofs.CandidateLaws.{first_or_length, insert_is}
use Rattle.matcher_picks.proofs.candidates.insert_by_score.Goals as goal

pub returns-clause-items : goal.returns-clause-items
returns-clause-items c =
    let l = c.args.found.now.items in
    let lower : Candidate → Bool = λ d. lt d.score c.args.c.score in
    let found : c.position.result ≡ position lower l = position_from_yields_List lower _ _ _ c.position.ensures.ran (YieldsList-from_slice l (search rules)) (λ x b q k. search rules) in
    let at : c.unwrap_or-at.result ≡ position_or_len lower l = rw (c.unwrap_or-at.ensures, found, c.len-n.ensures.value) (first_or_length lower l) in
    rw (c.insert.ensures.items, at) (sym (insert_is c.args.c l))
