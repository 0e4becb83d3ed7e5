-- `engine_words::snapshots::put_snapshot` meets its contract. Assumes nothing.
use lib.ListN.{length}
use native.Mathlib.Omega.{arith}
use Prim.Native.Nat.{ℕ, ◌+◌, ◌≤◌}
use mathlib.Core.List.{List, [], ◌∷◌, ◌++◌}
use mathlib.Core.Path.{refl, ap, ◌∙◌}
use Rattle.engine_spec.specs.Milestones.{milestones_shown}
use Rattle.engine_layout.specs.Written.{state_word, phase_word, stage_word, reason_word, estimate_words, diagnostics_words, milestones_words, shown_words}
use Rattle.engine_layout.specs.Layout.{word, float, state_of, phase_of, stage_of, reason_of, estimate_of, milestones_of}
use Rattle.engine_layout.proofs.Laws.{Laid, first_laid, next_laid, cons_same}
use Rattle.engine_words.proofs.ReadBack.{given_back, snapshot_back}
use Rattle.engine_layout.proofs.Lengths.{estimate_long, diagnostics_long, milestones_long}
use Rattle.engine_words.proofs.snapshots.put_snapshot.Goals as goal

pub returns : goal.returns
unfolding shown_words
returns c =
    let a = c.args in
    let s = a.s in
    let w0 : List ℕ = a.words.now in
    let h : a.at + 76 ≤ length w0 = c.requires in
    let st = c.to_word.ensures in
    let ph = c.to_word-2.ensures in
    let sg = c.to_word-3.ensures in
    let place = c.estimate_words.ensures in
    let rs = c.to_word-4.ensures in
    let cf = c.to_word-5.ensures in
    let readings = c.milestones_words.ensures in
    let shown = c.milestones_shown.ensures in
    let mw = readings.value ∙ ap milestones_words shown in
    let kinds : List ℕ = state_word s.state ∷ phase_word s.phase ∷ stage_word s.stage ∷ [] in
    let support : List ℕ = reason_word s.withhold_reason ∷ word s.confidence ∷ [] in
    let l1 : Laid a.at 3 kinds w0 c.put.new.words = first_laid (cons_same st.value (cons_same ph.value (cons_same sg.value refl))) refl c.put.ensures in
    let l2 : Laid a.at 7 (kinds ++ estimate_words s.estimate) w0 c.put-2.new.words = next_laid l1 place.value (estimate_long s.estimate) refl (omega arith) c.put-2.ensures in
    let l3 : Laid a.at 9 (kinds ++ estimate_words s.estimate ++ support) w0 c.put-3.new.words =
    next_laid l2 (cons_same rs.value (cons_same cf.value refl)) refl refl (omega arith) c.put-3.ensures in
    let l4 : Laid a.at 70 (kinds ++ estimate_words s.estimate ++ support ++ diagnostics_words s.diagnostics) w0 c.put_diagnostics.new.words =
    next_laid l3 refl (diagnostics_long s.diagnostics) refl (omega arith) c.put_diagnostics.ensures.words_after in
    let l5 : Laid a.at 76 (kinds ++ estimate_words s.estimate ++ support ++ diagnostics_words s.diagnostics ++ milestones_words (milestones_shown s)) w0 c.put-4.new.words =
    next_laid l4 mw (milestones_long (milestones_shown s)) refl (omega arith) c.put-4.ensures in
    let back =
    snapshot_back s s.estimate _ _ _ _ _ _ _ (diagnostics_long s.diagnostics) (milestones_long (milestones_shown s)) (given_back state_of st.value st.back) (given_back phase_of ph.value ph.back) (given_back stage_of sg.value sg.back) (given_back estimate_of place.value place.back) (given_back reason_of rs.value rs.back) (given_back (λ (n : ℕ). float n) cf.value cf.back) c.put_diagnostics.ensures.back (given_back milestones_of mw (readings.back ∙ shown)) in
    record { words_after = l5.there; back = back }
