use Rattle.std.proofs.Common.{◌≡◌, ℕ, ◌+◌, ◌-◌, ◌≤◌, List, ◌++◌, arith, length, take, slice_range, sym, ap, ◌∙◌, subst, le_refl, drop_at, length-take-le}
use Rattle.std.proofs.lemmas.Slice.{take-put_mid_below}
use Rattle.std.specs.Io.KnownBytes.{Consumes}
use Rattle.std.proofs.KnownBytes.{Consumes-trans}
use borrow.Rule.Slice.PartMut.{put_mid, post_of, same_len_mid}
use lib.Seq.{take-add, take-append-le}
use Rattle.hexadecimal.proofs.read_list.Goals as goal

-- the front as it was, and what was put behind it, are the longer front
front_more : (a b : ℕ) (old new : List ℕ) → a ≤ b → take a new ≡ take a old → take a old ++ slice_range new a b ≡ take b new
front_more a b old new h front =
    let same : a + (b - a) ≡ b = omega arith in
    ap (λ l. l ++ slice_range new a b) (sym front) ∙ sym (take-add a (b - a) new) ∙ ap (λ n. take n new) same

put_behind : (a k n : ℕ) (xs ys : List ℕ) → a ≤ length xs → n ≤ length ys → slice_range (put_mid a k xs ys) a (a + n) ≡ take n ys
put_behind a k n xs ys within fits =
    let same : (a + n) - a ≡ n = omega arith in
    let after = post_of a k xs in
    ap (take ((a + n) - a)) (drop_at (take a xs) (ys ++ after) a (length-take-le a xs within)) ∙ ap (λ m. take m (ys ++ after)) same ∙ take-append-le n ys after fits

pub loop-size-preserved : goal.loop-size-preserved
loop-size-preserved g c =
    let from = c.loop-size.size in
    let list = c.loop-size.list in
    let room = length list - from in
    let within = c.loop-size.invariant.0 in
    let part = put_behind from room c.in_ok-got.got list c.read.new.buf within c.in_ok-got.ensures.bound.0 in
    let joined = front_more from (from + c.in_ok-got.got) list (put_mid from room list c.read.new.buf) (omega arith) (take-put_mid_below _ _ _ _ _ (le_refl _) within) in
    let long : length (put_mid from room list c.read.new.buf) ≡ length list = same_len_mid from room list c.read.new.buf c.read.auto.buf in
    (omega (arith, long, c.in_ok-got.ensures.bound.0), subst (Consumes _ _) (ap (λ l. take from list ++ l) (sym part) ∙ joined) (Consumes-trans _ _ _ _ _ c.loop-size.invariant.1 c.in_ok-got.ensures.bytes.0))
