use Rattle.std.proofs.Common.{rules, ◌≡◌, sym, ap, ◌∙◌, get_or, add-one, arith}
use Rattle.engine_spec.specs.declared.types.CandidateDiagnostics.{CandidateDiagnostics}
use Rattle.engine_layout.specs.Layout.{candidate_of}
use Rattle.engine_layout.specs.Written.{no_candidate, candidate_words}
use Rattle.engine_layout.proofs.EightRows.{row_more, BackTo}
use Rattle.engine_layout.proofs.candidates.put_candidates.Goals as goal

pub loop-i-preserved : goal.loop-i-preserved
unfolding BackTo
loop-i-preserved c =
    let p = c.put in
    let l = c.loop-i in
    let a = c.args in
    let row = c.candidate_words-row in
    let x : CandidateDiagnostics = get_or a.candidates l.i no_candidate in
    let back : candidate_of (candidate_words x) ≡ x = ap candidate_of (sym row.ensures.value) ∙ row.ensures.back in (
      rw add-one (row_more a.candidates a.at l.i a.words.now l.words p.new.words row.result l.invariant.0 (omega arith) (search rules) row.ensures.value p.ensures),
      rw add-one (l.invariant.1, back),
    )
