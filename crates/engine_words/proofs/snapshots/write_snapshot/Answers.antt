-- `engine_words::snapshots::write_snapshot` meets its contract. Assumes nothing.
use lib.ListN.{length}
use native.Mathlib.Omega.{arith}
use Prim.Native.Nat.{ℕ, ◌≤◌}
use mathlib.Core.List.{List, [], ◌∷◌, ◌++◌}
use mathlib.Core.Path.{refl}
use Rattle.engine_layout.specs.Written.{shown_words}
use Rattle.engine_layout.specs.Layout.{layout}
use Rattle.engine_layout.proofs.Laws.{Laid, first_laid, next_laid}
use Rattle.engine_words.proofs.ReadBack.{snapshot_in_lem, tail_in}
use Rattle.engine_layout.proofs.Lengths.{shown_long}
use Rattle.engine_words.proofs.snapshots.write_snapshot.Goals as goal

pub returns : goal.returns
returns c =
    let a = c.args in
    let w0 : List ℕ = a.words.now in
    let h : 77 ≤ length w0 = c.requires in
    let l1 : Laid 0 1 (layout ∷ []) w0 c.put.new.words = first_laid refl refl c.put.ensures in
    let l2 : Laid 0 77 ((layout ∷ []) ++ shown_words a.snapshot) w0 c.put_snapshot.new.words =
    next_laid l1 refl (shown_long a.snapshot) refl (omega arith) c.put_snapshot.ensures.words_after in
    record { words_after = snapshot_in_lem a.snapshot _ w0 _ (shown_long a.snapshot) c.put_snapshot.ensures.back l2; tail = tail_in 77 _ w0 _ l2 }
