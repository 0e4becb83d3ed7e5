use Rattle.std.proofs.Common.{◌≡◌, ℕ, suc, ◌+◌, ◌<◌, Bool, true, false, cond, List, [], ◌∷◌, length, drop, slice_index_or, sym, ◌∙◌, arith, add-one, drop-cons, drop_of_length-le}
use Rattle.replays.proofs.LineLaws.{others}
use Rattle.replays.proofs.lines.replay_lines.Goals as goal
use Rattle.replays.proofs.lines.replay_lines.Goals.{then-not-agrees, else-not-agrees}

module _ (agrees : List ℕ → Bool) where
  -- what differs so far, with a line, and what differs behind it
  counted_on : (v : Bool) (x : List ℕ) (rest : List (List ℕ)) (differ total : ℕ) → v ≡ agrees x
      → differ + others agrees (x ∷ rest) ≡ total → cond v differ (differ + 1) + others agrees rest ≡ total
  counted_on true x rest differ total e h = rw (← e) at h
  counted_on false x rest differ total e h = let k : differ + suc (others agrees rest) ≡ total = rw (← e) at h in omega (arith, k)

  -- the line that follows comes off the front of what is left
  next : (l : List (List ℕ)) (i differ total : ℕ) (x : List ℕ) (v : Bool) → i < length l → x ≡ slice_index_or l i x → v ≡ agrees x
      → differ + others agrees (drop i l) ≡ total → cond v differ (differ + 1) + others agrees (drop (i + 1) l) ≡ total
  next l i differ total x v k e a h = rw (add-one i) (counted_on v x _ _ _ a (rw (drop-cons l i x, ← e) at h))

  none_left : (l : List (List ℕ)) (i differ total : ℕ) → drop i l ≡ [] → differ + others agrees (drop i l) ≡ total → differ ≡ total
  none_left l i differ total e h = let k : differ + 0 ≡ total = rw e at h in omega (arith, k)

pub loop-before-preserved : goal.loop-before-preserved
loop-before-preserved g c =
    let i = c.loop-before.invariant in
    let x = c.index-lines-before in
    elim c.if-not-agrees.branch [
      | then-not-agrees w ↦
          record {
            few = omega (arith, w.differ-is);
            counted = λ p d. rw (w.differ-is) (next p c.args.lines.now _ _ _ x.result false c.loop-before-test.true x.is (sym w.if-not-agrees.true ∙ d _ _ c.agrees.ensures) (i.counted p d));
          }
      | else-not-agrees w ↦
          record {
            few = omega (arith, w.differ-is);
            counted = λ p d. rw (w.differ-is) (next p c.args.lines.now _ _ _ x.result true c.loop-before-test.true x.is (sym w.if-not-agrees.false ∙ d _ _ c.agrees.ensures) (i.counted p d));
          }
    ]

pub returns-clause-counted : goal.returns-clause-counted
returns-clause-counted g c = λ p d.
    none_left p c.args.lines.now c.loop-before.before _ _ (drop_of_length-le c.args.lines.now c.loop-before-test.false) (c.loop-before.invariant.counted p d)
