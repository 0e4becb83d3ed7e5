-- `engine_words::states::write_state` meets its contract. Assumes nothing.
use lib.ListN.{length}
use native.Mathlib.Omega.{arith}
use Prim.Native.Nat.{ℕ, ◌≤◌}
use mathlib.Core.List.{List, [], ◌∷◌, ◌++◌}
use mathlib.Core.Path.{refl}
use Rattle.engine_layout.specs.Written.{engine_words}
use Rattle.engine_layout.specs.Layout.{layout}
use Rattle.engine_layout.proofs.Laws.{Laid, first_laid, next_laid}
use Rattle.engine_words.proofs.ReadBack.{state_in_lem, words_in, reads_back, tail_in}
use Rattle.engine_layout.proofs.Lengths.{engine_long}
use Rattle.engine_words.proofs.states.write_state.Goals as goal

pub returns : goal.returns
returns c =
    let a = c.args in
    let w0 : List ℕ = a.words.now in
    let h : 106 ≤ length w0 = c.requires in
    let l1 : Laid 0 1 (layout ∷ []) w0 c.put.new.words = first_laid refl refl c.put.ensures in
    let l2 : Laid 0 106 ((layout ∷ []) ++ engine_words a.engine) w0 c.put_engine.new.words =
    next_laid l1 refl (engine_long a.engine) refl (omega arith) c.put_engine.ensures.words_after in
    let back = c.put_engine.ensures.back in
    record { words_after = state_in_lem a.engine _ w0 _ (engine_long a.engine) back l2; tail = tail_in 106 _ w0 _ l2; words = words_in a.engine w0 _ l2; back = reads_back a.engine back }
