-- `kistovab::calls::kistovab_submit` meets its contract. Assumes nothing.
use borrow.Author.Tests.{le-ltb}
use mathlib.Core.Path.{sym, ap, ◌∙◌}
use lib.ListN.{drop}
use Rattle.engine_layout.specs.Layout.{state_in}
use Rattle.kistovab.specs.Calls.{submit_code}
use Rattle.kistovab.proofs.CallLaws.{code_submitted, refused_submits, computed_submits, reread_submits}
use Rattle.kistovab.proofs.calls.kistovab_submit.Goals as goal
use Rattle.kistovab.proofs.calls.kistovab_submit.Goals.{in-Computed, in-Reread}

pub returns-after-done-clause-value : goal.returns-after-done-clause-value
unfolding submit_code
returns-after-done-clause-value c =
    simp (le-ltb _ _ c.if-state-lt-STATE_WORDS.false, le-ltb _ _ c.if-snapshot-lt-SNAPSHOT_WORDS.false) (c.code_of.ensures ∙ code_submitted c.args.state.now _ c.in-Ok.done (rw (sym c.read_state.ensures) c.in-Ok.ensures.value))

pub returns-after-done-clause-words : goal.returns-after-done-clause-words
returns-after-done-clause-words c =
    rw c.code_of.ensures (elim c.match-done.branch [
      | in-Computed w ↦ computed_submits c.args.state.now _ c.in-Ok.done (rw (sym c.read_state.ensures) c.in-Ok.ensures.value) c.write_snapshot.ensures.words_after c.write_snapshot.ensures.tail w.in-Computed.is (ap state_in w.state-is ∙ w.write_state.ensures.words_after) (ap (drop 106) w.state-is ∙ w.write_state.ensures.tail)
      | in-Reread w ↦ reread_submits c.args.state.now _ c.in-Ok.done (rw (sym c.read_state.ensures) c.in-Ok.ensures.value) c.write_snapshot.ensures.words_after c.write_snapshot.ensures.tail w.in-Reread.is w.state-is
    ])

pub returns-in-Err-clause-words : goal.returns-in-Err-clause-words
returns-in-Err-clause-words c = rw c.number_of.ensures (refused_submits _ _ _ _ (rw (sym c.read_state.ensures) c.in-Err.ensures.value))
