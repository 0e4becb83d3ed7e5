-- `replays::lines::replay` meets its contract: whole lines come off the list's front, and what is left is one that is cut off. Assumes nothing.
use Rattle.std.proofs.Common.{◌≡◌, ℕ, zero, suc, ◌+◌, ◌*◌, ◌/◌, ◌%◌, ◌<◌, ◌≤◌, Bool, true, false, cond, List, ◌∷◌, length, take, drop, refl, sym, ap, ◌∙◌, arith, le-ltb, lt-ltb, mod-lt, min, ◌==◌}
use Rattle.std.proofs.Math.Nat.{suc-add, suc-mul}
use Rattle.std.proofs.lemmas.Nat.{div-add-mod'}
use Rattle.std.proofs.lemmas.Bool.{eqb-true}
use Rattle.std.proofs.lemmas.Grind.{common_steps}
use Rattle.std.proofs.lemmas.List.{length-drop, drop-drop}
use Rattle.std.specs.Simd.{first_chunks}
use Rattle.replays.specs.Lines.{differing, first_agrees, lines}
use Rattle.replays.proofs.LineLaws.{others, rounded_up}
use Rattle.replays.proofs.lines.replay.Goals as goal

positive : (n : ℕ) → (n == 0) ≡ false → 0 < n
positive n e = grind (arith, common_steps)

module _ (w : ℕ) (p : List ℕ → Bool) where
  first : (all : List ℕ) → w ≤ length all → first_agrees w p all ≡ p (take w all)
  unfolding first_agrees
  first all h = rw (le-ltb (length all) w h) refl

  one : (v : Bool) (x : List ℕ) (rest : List (List ℕ)) (t : ℕ) → v ≡ p x → cond v 0 1 + (others p rest + t) ≡ others p (x ∷ rest) + t
  one true x rest t e = rw (← e) (omega arith)
  one false x rest t e = rw (← e) (omega arith)

  -- k whole lines come off the front
  passed : (k m : ℕ) (all : List ℕ) → k * w ≤ length all → differing w p (k + m) all ≡ others p (first_chunks w k all) + differing w p m (drop (k * w) all)
  unfolding differing
  passed zero m all h =
      let a : 0 + m ≡ m = omega arith in
      let b : 0 * w ≡ 0 = omega arith in
      rw (a, b) (omega arith)
  passed (suc k) m all h =
      let room : w ≤ length all = omega (arith, suc-mul k w) in
      let left : k * w ≤ length (drop w all) = rw (length-drop w all) (omega (arith, suc-mul k w)) in
      let behind : drop (k * w) (drop w all) ≡ drop (suc k * w) all = drop-drop (k * w) w all ∙ ap (λ n. drop n all) (omega (arith, suc-mul k w)) in
      rw (suc-add k m, passed k m (drop w all) left, behind) (one (first_agrees w p all) (take w all) _ _ (first all room))

  -- a line that is cut off differs
  cut : (rest : List ℕ) → length rest < w → differing w p 1 rest ≡ 1
  unfolding differing first_agrees
  cut rest h = rw (lt-ltb (length rest) w h) refl

  module _ (some : 0 < w) (all : List ℕ) where
    room : length all / w * w ≤ length all
    room = omega (arith, div-add-mod' (length all) w)

    all_whole : {found : List (List ℕ)} (rest : List ℕ) → found ≡ first_chunks w (length all / w) all → length rest ≡ length all % w → (length rest == 0) ≡ true
        → others p found ≡ differing w p (lines w all) all
    unfolding differing
    all_whole rest e r none =
        let z : length all % w ≡ 0 = sym r ∙ eqb-true _ _ none in
        rw (e, rounded_up (length all) w some, z, passed (length all / w) 0 all room) (omega arith)

    one_cut : {found : List (List ℕ)} (rest : List ℕ) → found ≡ first_chunks w (length all / w) all → rest ≡ drop (length all / w * w) all → length rest ≡ length all % w
        → (length rest == 0) ≡ false → others p found + 1 ≡ differing w p (lines w all) all
    one_cut rest e d r left =
        let one_more : min 1 (length all % w) ≡ 1 = omega (arith, positive (length rest) left, r) in
        rw (e, rounded_up (length all) w some, one_more, passed (length all / w) 1 all room, ← d, cut rest (rw r (mod-lt (length all) some))) refl

pub returns-then-is_empty : goal.returns-then-is_empty
returns-then-is_empty g c = λ p d.
    let k = c.as_chunks.ensures in
    c.replay_lines-differ.ensures.counted p d ∙ all_whole g.row.LINE p g.met.A.Replayed.sized.0 c.args.list.now c.as_chunks.result.1.now k.front k.back_len (sym c.is_empty.ensures ∙ c.if-is_empty.true)

pub returns : goal.returns
returns g c = λ p d.
    let k = c.as_chunks.ensures in
    ap (λ n. n + 1) (c.replay_lines-differ.ensures.counted p d)
    ∙ one_cut g.row.LINE p g.met.A.Replayed.sized.0 c.args.list.now c.as_chunks.result.1.now k.front k.back k.back_len (sym c.is_empty.ensures ∙ c.if-is_empty.false)
