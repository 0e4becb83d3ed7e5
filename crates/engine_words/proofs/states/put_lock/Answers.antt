-- `engine_words::states::put_lock` meets its contract. Assumes nothing.
use lib.ListN.{length}
use native.Mathlib.Omega.{arith}
use Prim.Native.Nat.{ℕ, ◌+◌, ◌≤◌}
use mathlib.Core.List.{List, [], ◌∷◌, ◌++◌}
use mathlib.Core.Path.{refl}
use Rattle.engine_layout.specs.Written.{recorded_word, hypothesis_words, lock_words}
use Rattle.engine_layout.specs.Layout.{recorded_of, hypothesis_of}
use Rattle.engine_layout.proofs.Laws.{Laid, first_laid, next_laid, cons_same}
use Rattle.engine_words.proofs.ReadBack.{given_back, lock_back}
use Rattle.engine_layout.proofs.Lengths.{hypothesis_long}
use Rattle.engine_words.proofs.states.put_lock.Goals as goal

pub returns : goal.returns
unfolding lock_words
returns c =
    let a = c.args in
    let l = a.l in
    let w0 : List ℕ = a.words.now in
    let h : a.at + 11 ≤ length w0 = c.requires in
    let first = c.hypothesis_words.ensures in
    let second = c.hypothesis_words-2.ensures in
    let searched = c.to_word.ensures in
    let l1 : Laid a.at 5 (hypothesis_words l.pending) w0 c.put.new.words = first_laid first.value (hypothesis_long l.pending) c.put.ensures in
    let l2 : Laid a.at 10 (hypothesis_words l.pending ++ hypothesis_words l.accepted) w0 c.put-2.new.words =
    next_laid l1 second.value (hypothesis_long l.accepted) refl (omega arith) c.put-2.ensures in
    let l3 : Laid a.at 11 (hypothesis_words l.pending ++ hypothesis_words l.accepted ++ (recorded_word l.last_global_search_ms ∷ [])) w0 c.put-3.new.words =
    next_laid l2 (cons_same searched.value refl) refl refl (omega arith) c.put-3.ensures in
    record { words_after = l3.there; back = lock_back l _ _ _ (hypothesis_long l.pending) (hypothesis_long l.accepted) (given_back hypothesis_of first.value first.back) (given_back hypothesis_of second.value second.back) (given_back recorded_of searched.value searched.back) }
