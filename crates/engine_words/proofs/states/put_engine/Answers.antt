-- `engine_words::states::put_engine` meets its contract. Assumes nothing.
use lib.ListN.{length}
use native.Mathlib.Omega.{arith}
use Prim.Native.Nat.{ℕ, ◌≤◌}
use mathlib.Core.List.{List, ◌++◌}
use mathlib.Core.Path.{refl}
use Rattle.engine_layout.specs.Written.{configuration_words, settings_words, lock_words, milestones_words, last_words, engine_words}
use Rattle.engine_layout.specs.Layout.{configuration_of, settings_of, milestones_of}
use Rattle.engine_layout.proofs.Laws.{Laid, first_laid, next_laid}
use Rattle.engine_words.proofs.ReadBack.{given_back, engine_back}
use Rattle.engine_layout.proofs.Lengths.{configuration_long, settings_long, lock_long, milestones_long, last_long}
use Rattle.engine_words.proofs.states.put_engine.Goals as goal

pub returns : goal.returns
unfolding engine_words
returns c =
    let a = c.args in
    let e = a.e in
    let w0 : List ℕ = a.words.now in
    let h : 106 ≤ length w0 = c.requires in
    let demands = c.configuration_words in
    let fixed = c.settings_words in
    let readings = c.milestones_words in
    let cw = configuration_words e.configuration in
    let sw = settings_words e.settings in
    let lw = lock_words e.lock in
    let mw = milestones_words e.milestones in
    let l1 : Laid 1 5 cw w0 c.put.new.words = first_laid demands.ensures.value (configuration_long e.configuration) c.put.ensures in
    let l2 : Laid 1 9 (cw ++ sw) w0 c.put-2.new.words = next_laid l1 fixed.ensures.value (settings_long e.settings) refl (omega arith) c.put-2.ensures in
    let l3 : Laid 1 20 (cw ++ sw ++ lw) w0 c.put_lock.new.words = next_laid l2 refl (lock_long e.lock) refl (omega arith) c.put_lock.ensures.words_after in
    let l4 : Laid 1 26 (cw ++ sw ++ lw ++ mw) w0 c.put-3.new.words = next_laid l3 readings.ensures.value (milestones_long e.milestones) refl (omega arith) c.put-3.ensures in
    let l5 : Laid 1 105 (cw ++ sw ++ lw ++ mw ++ last_words e.last) w0 c.put_last.new.words = next_laid l4 refl (last_long e.last) refl (omega arith) c.put_last.ensures.words_after in
    let bc = given_back configuration_of demands.ensures.value demands.ensures.back in
    let bs = given_back settings_of fixed.ensures.value fixed.ensures.back in
    let bm = given_back milestones_of readings.ensures.value readings.ensures.back in
    record { words_after = l5.there; back = engine_back e _ _ _ _ _ (configuration_long e.configuration) (settings_long e.settings) (lock_long e.lock) (milestones_long e.milestones) (last_long e.last) bc bs c.put_lock.ensures.back bm c.put_last.ensures.back }
