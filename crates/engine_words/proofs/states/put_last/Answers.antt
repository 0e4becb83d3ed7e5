-- `engine_words::states::put_last` meets its contract. Assumes nothing.
use lib.ListN.{length}
use native.Mathlib.Omega.{arith}
use Prim.Native.Nat.{ℕ, ◌+◌, ◌≤◌}
use mathlib.Core.List.{List, [], ◌∷◌, ◌++◌}
use mathlib.Core.Path.{refl}
use Rattle.engine_layout.specs.Written.{bool_word, recorded_word, tag, word_or_zero, shown_words, last_words}
use Rattle.engine_layout.specs.Layout.{bool_of, option_of, recorded_of}
use Rattle.engine_layout.proofs.Laws.{Laid, first_laid, next_laid, cons_same}
use Rattle.engine_words.proofs.ReadBack.{given_back, last_back}
use Rattle.engine_layout.proofs.Lengths.{shown_long}
use Rattle.engine_words.proofs.states.put_last.Goals as goal

pub returns : goal.returns
unfolding last_words
returns c =
    let a = c.args in
    let l = a.l in
    let w0 : List ℕ = a.words.now in
    let h : a.at + 79 ≤ length w0 = c.requires in
    let point = c.word_or_zero.ensures in
    let flag = c.to_word.ensures in
    let head : List ℕ = tag l.endpoint_ms ∷ word_or_zero recorded_word l.endpoint_ms ∷ bool_word l.has_snapshot ∷ [] in
    let l1 : Laid a.at 3 head w0 c.put.new.words = first_laid (cons_same c.tag.ensures (cons_same point.value (cons_same flag.value refl))) refl c.put.ensures in
    let l2 : Laid a.at 79 (head ++ shown_words l.snapshot) w0 c.put_snapshot.new.words =
    next_laid l1 refl (shown_long l.snapshot) refl (omega arith) c.put_snapshot.ensures.words_after in
    let be = given_back (option_of recorded_of (tag l.endpoint_ms)) point.value point.back in
    record { words_after = l2.there; back = last_back l _ _ _ _ (shown_long l.snapshot) be (given_back bool_of flag.value flag.back) c.put_snapshot.ensures.back }
