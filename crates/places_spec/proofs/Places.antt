-- Named places: what keeping leaves, and what is given back (specs/PlaceLaws.antt). Assumes nothing.
use Prim.Native.Nat.{ℕ, zero, suc, ◌+◌, ◌-◌, ◌≤◌, ◌<◌}
use mathlib.Core.Bool.{Bool, true, false, cond, not}
use mathlib.Core.List.{List, ◌++◌}
use mathlib.Core.Path.{◌≡◌, refl, sym, ap, ◌∙◌, subst}
use native.Mathlib.Omega.{arith}
use borrow.Author.Tests.{le-leb}
use lib.Dec.{T, leb, ltb, eqb, leb→le, ltb→lt, nltb→le, lit<}
use lib.ListN.{length, take, drop, get_or, replicate, length-append, length-drop, length-replicate, take-append-drop}
use lib.Seq.{length-take-le, drop-drop, get_or-take, get_or-drop}
use Rattle.std.specs.Prelude.{None, Some}
use Rattle.engine_spec.specs.Refusals.{refuses, unless, ◌then◌}
use Rattle.engine_spec.specs.Lists.{answers_to}
use Rattle.engine_spec.specs.declared.types.Engine.{Engine}
use Rattle.engine_spec.specs.declared.types.Refusal.TheVariants as refusal
use Rattle.engine_spec.proofs.Tests.{and_l, and_r}
use Rattle.engine_spec.proofs.Submissions.{clash}
use Rattle.engine_layout.specs.Layout.{layout, part, state_in}
use Rattle.engine_layout.specs.Written.{placed, state_as_words}
use Rattle.engine_layout.proofs.Laws.{front_part, placed_part, placed_tail}
use Rattle.engine_layout.proofs.Lengths.{engine_long}
use Rattle.places_spec.specs.Places.{Restored, places_most, is_name, place_start, store_words, place_in, is_kept, keep_refusal, restore_refusal, kept_words, kept, restored}
use Rattle.places_spec.specs.PlaceLaws.{NothingInZeros, GivenBack, OthersStay, KeepingLeaves, AsAtTheMark}

-- ---- words put into a row
placed_front : (a k at : ℕ) (ys w : List ℕ) → a + k ≤ at → at ≤ length w → part a k (placed at ys w) ≡ part a k w
placed_front a k at ys w h l =
    let n : length (take at w) ≡ at = length-take-le at w l in
    front_part a k (take at w) (ys ++ drop (length ys) (drop at w)) (omega arith)
    ∙ sym (front_part a k (take at w) (drop at w) (omega arith))
    ∙ ap (part a k) (take-append-drop at w)

placed_behind : (a n at : ℕ) (ys w : List ℕ) → at + length ys ≡ n → n ≤ a → at ≤ length w → drop a (placed at ys w) ≡ drop a w
placed_behind a n at ys w e h l =
    let r : (x : List ℕ) → drop a x ≡ drop (a - n) (drop n x) = λ x. ap (λ (j : ℕ). drop j x) {x = a} {y = n + (a - n)} (omega arith) ∙ sym (drop-drop (a - n) n x) in
    r (placed at ys w) ∙ ap (drop (a - n)) (placed_tail at (length ys) n ys w refl e l) ∙ sym (r w)

placed_long : (at : ℕ) (ys w : List ℕ) → at + length ys ≤ length w → length (placed at ys w) ≡ length w
placed_long at ys w h =
    let a = length-append (take at w) (ys ++ drop (length ys) (drop at w)) in
    let b = length-append ys (drop (length ys) (drop at w)) in
    let c = length-drop (length ys) (drop at w) in
    let d = length-drop at w in
    let n = length-take-le at w (omega arith) in
    omega (arith, a, b, c, d, n)

-- ---- a place within the store
state_long : (e : Engine) → length (state_as_words e) ≡ 106
unfolding state_as_words
state_long e = omega (arith, engine_long e)

pub words_long : (e : Engine) → length (kept_words e) ≡ 106
words_long e = state_long _

-- What is not refused has a name from 1 to 8, and a store that is long enough.
pub record Room (name words : ℕ) : Type 0 where
  pub least : 1 ≤ name
  pub most : name ≤ 8
  pub long : 848 ≤ words

named_least : (name : ℕ) → T (is_name name) → 1 ≤ name
named_least name h = leb→le 1 name (and_l (leb 1 name) (leb name places_most) h)

named_most : (name : ℕ) → T (is_name name) → name ≤ 8
named_most name h = leb→le name places_most (and_r (leb 1 name) (leb name places_most) h)

pub room : (name words : ℕ) → refuses (keep_refusal name words) ≡ false → Room name words
unfolding keep_refusal
room name words h = go (is_name name) (leb store_words words) h (named_least name) (named_most name) (leb→le store_words words)
  where
    go : (b c : Bool) → refuses (cond b (cond c None (Some refusal.StoreTooShort)) (Some refusal.NameOutOfRange)) ≡ false → (T b → 1 ≤ name) → (T b → name ≤ 8) → (T c → 848 ≤ words) → Room name words
    go true true h x y z = record { least = x tt; most = y tt; long = z tt }
    go true false h x y z = clash h
    go false c h x y z = clash h

pub named : (name words : ℕ) → refuses (keep_refusal name words) ≡ false → is_name name ≡ true
unfolding keep_refusal
named name words h = go (is_name name) h
  where
    go : (b : Bool) → refuses (cond b (cond (leb store_words words) None (Some refusal.StoreTooShort)) (Some refusal.NameOutOfRange)) ≡ false → b ≡ true
    go true h = refl
    go false h = clash h

-- ---- the words of the other places, the tail and the length
module _ (e : Engine) (name : ℕ) (store : List ℕ) (r : Room name (length store)) where
  abbrev at : ℕ
  at = place_start name

  abbrev new : List ℕ
  new = placed at (kept_words e) store

  within : at + 106 ≤ length store
  within = let a = r.least in let b = r.most in let c = r.long in omega arith

  new_long : length new ≡ length store
  new_long = placed_long at (kept_words e) store (omega (arith, words_long e, within))

  -- A place before it or behind it.
  other_place : (other : ℕ) → 1 ≤ other → (other ≡ name → ⊥) → place_in other new ≡ place_in other store
  other_place other h d = go (ltb other name) (ltb name other) (ltb→lt other name) (nltb→le other name) (ltb→lt name other) (nltb→le name other)
    where
      go : (b c : Bool) → (T b → other < name) → (T (not b) → name ≤ other) → (T c → name < other) → (T (not c) → other ≤ name) → place_in other new ≡ place_in other store
      go true c x x' y y' = placed_front (place_start other) 106 at (kept_words e) store (let u = x tt in omega arith) (omega (arith, within))
      go false true x x' y y' = ap (take 106) (placed_behind (place_start other) (at + 106) at (kept_words e) store (omega (arith, words_long e)) (let u = y tt in let v = r.least in omega arith) (omega (arith, within)))
      go false false x x' y y' = absurd (d (let u = x' tt in let v = y' tt in omega arith))

  new_tail : drop store_words new ≡ drop store_words store
  new_tail = placed_behind store_words (at + 106) at (kept_words e) store (omega (arith, words_long e)) (let b = r.most in let a = r.least in omega arith) (omega (arith, within))

  here : place_in name new ≡ kept_words e
  here = placed_part at 106 (kept_words e) store (words_long e) (omega (arith, within))

-- ---- what is given back, by the store's length and the place's words alone
abbrev pub given_by : Engine → ℕ → ℕ → List ℕ → Restored
given_by running name words place =
    let r = keep_refusal name words then unless (is_kept place) refusal.NothingKept None in
    record { refusal = r; engine = cond (refuses r) running (state_in place) }

pub given_is : (running : Engine) (name : ℕ) (store : List ℕ) → restored running name store ≡ given_by running name (length store) (place_in name store)
unfolding restored restore_refusal
given_is running name store = refl

-- Under what is no name the words don't matter.
unnamed : (running : Engine) (name words : ℕ) (place : List ℕ) → is_name name ≡ false → given_by running name words place ≡ record { refusal = Some refusal.NameOutOfRange; engine = running }
unfolding keep_refusal
unnamed running name words place h = rw h refl

-- Of a place where something is kept, and of one where nothing is.
pub given_kept : (running : Engine) (name words : ℕ) (place : List ℕ) → refuses (keep_refusal name words) ≡ false → is_kept place ≡ true → given_by running name words place ≡ record { refusal = None; engine = state_in place }
given_kept running name words place h k = rw (h, k) refl

pub given_empty : (running : Engine) (name words : ℕ) (place : List ℕ) → refuses (keep_refusal name words) ≡ false → is_kept place ≡ false → given_by running name words place ≡ record { refusal = Some refusal.NothingKept; engine = running }
given_empty running name words place h k = rw (h, k) refl

-- Where keeping is refused, so is restoring, with the same number.
pub given_refused : (running : Engine) (name words : ℕ) (place : List ℕ) → refuses (keep_refusal name words) ≡ true → given_by running name words place ≡ record { refusal = keep_refusal name words; engine = running }
given_refused running name words place h = rw h (rw h refl)

-- ---- keeping that is not refused, and keeping that is
pub kept_new : (e : Engine) (name : ℕ) (store : List ℕ) → refuses (keep_refusal name (length store)) ≡ false → kept e name store ≡ placed (place_start name) (kept_words e) store
unfolding kept
kept_new e name store h = rw h refl

pub kept_refused : (e : Engine) (name : ℕ) (store : List ℕ) → refuses (keep_refusal name (length store)) ≡ true → kept e name store ≡ store
unfolding kept
kept_refused e name store h = rw h refl

-- ---- what keeping leaves
same_given : (running : Engine) (other : ℕ) (old next : List ℕ) → length next ≡ length old → (is_name other ≡ true → place_in other next ≡ place_in other old) → restored running other next ≡ restored running other old
same_given running other old next l p =
    given_is running other next ∙ go (is_name other) refl ∙ sym (given_is running other old)
  where
    go : (b : Bool) → is_name other ≡ b → given_by running other (length next) (place_in other next) ≡ given_by running other (length old) (place_in other old)
    go true h = ap (λ (n : ℕ). given_by running other n (place_in other next)) l ∙ ap (λ (x : List ℕ). given_by running other (length old) x) (p h)
    go false h = unnamed running other (length next) (place_in other next) h ∙ sym (unnamed running other (length old) (place_in other old) h)

is_T : (b : Bool) → b ≡ true → T b
is_T b h = subst T (sym h) tt

pub others_stay : KeepingLeaves
others_stay e name store = go (refuses (keep_refusal name (length store))) refl
  where
    go : (b : Bool) → refuses (keep_refusal name (length store)) ≡ b → OthersStay e name store
    go true h =
        let q = kept_refused e name store h in
        record {
          places = λ other u d. ap (place_in other) q;
          given = λ running other d. ap (restored running other) q;
          tail = ap (drop store_words) q;
          long = ap length q;
        }
    go false h =
        let q = kept_new e name store h in
        let r = room name (length store) h in
        let long : length (kept e name store) ≡ length store = ap length q ∙ new_long e name store r in
        let place : (other : ℕ) → is_name other ≡ true → (other ≡ name → ⊥) → place_in other (kept e name store) ≡ place_in other store =
        λ other u d. ap (place_in other) q ∙ other_place e name store r other (named_least other (is_T (is_name other) u)) d in
        record {
          places = place;
          given = λ running other d. same_given running other store (kept e name store) long (λ u. place other u d);
          tail = ap (drop store_words) q ∙ new_tail e name store r;
          long = long;
        }

-- ---- what is given back
pub kept_there : (e : Engine) → is_kept (kept_words e) ≡ true
unfolding state_as_words
kept_there e = refl

-- The place of a state that was kept.
pub kept_place : (e : Engine) (name : ℕ) (store : List ℕ) → refuses (keep_refusal name (length store)) ≡ false → place_in name (kept e name store) ≡ kept_words e
kept_place e name store h = ap (place_in name) (kept_new e name store h) ∙ here e name store (room name (length store) h)

pub given_back : GivenBack
given_back running e name store h back =
    let next = kept e name store in
    given_is running name next
    ∙ ap (λ (n : ℕ). given_by running name n (place_in name next)) (others_stay e name store).long
    ∙ ap (λ (x : List ℕ). given_by running name (length store) x) (kept_place e name store h)
    ∙ given_kept running name (length store) (kept_words e) h (kept_there e)
    ∙ ap (λ (f : Engine). record { refusal = None; engine = f }) back

pub as_at_the_mark : AsAtTheMark
as_at_the_mark running e name store h back l = ap (λ (r : Restored). answers_to r.engine l) (given_back running e name store h back)

-- ---- zeros
unrefused : (name words : ℕ) → is_name name ≡ true → store_words ≤ words → refuses (keep_refusal name words) ≡ false
unfolding keep_refusal
unrefused name words h l = rw (h, le-leb store_words words l) refl

pub zero_place : (name n : ℕ) → is_kept (place_in name (replicate n 0)) ≡ false
zero_place name n = ap (λ (w : ℕ). eqb w layout) (get_or-take 106 (drop (place_start name) (replicate n 0)) 0 0 (lit< tt) ∙ get_or-drop (place_start name) (replicate n 0) 0 0 ∙ zero_at n (place_start name + 0))
  where
    zero_at : (n i : ℕ) → ◌≡◌ {A = ℕ} (get_or (replicate n 0) i 0) 0
    zero_at zero i = refl
    zero_at (suc n) zero = refl
    zero_at (suc n) (suc i) = zero_at n i

pub nothing_in_zeros : NothingInZeros
nothing_in_zeros running name n h l =
    given_is running name (replicate n 0)
    ∙ given_empty running name (length (replicate n 0)) (place_in name (replicate n 0)) (unrefused name (length (replicate n 0)) h (subst (λ (k : ℕ). store_words ≤ k) (sym (length-replicate n 0)) l)) (zero_place name n)
