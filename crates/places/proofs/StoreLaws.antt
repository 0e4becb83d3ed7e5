-- What each way through keeping and restoring leaves. Assumes nothing.
use Prim.Native.Nat.{ℕ, ◌+◌, ◌-◌}
use mathlib.Core.Bool.{Bool, true, false}
use mathlib.Core.List.{List, ◌++◌, append-nil}
use mathlib.Core.Path.{◌≡◌, sym, ap, ◌∙◌}
use native.Mathlib.Omega.{arith}
use lib.ListN.{length, take, drop, drop_of_length-le, length-drop}
use lib.Seq.{length-take-le}
use borrow.Rule.Slice.PartMut.{put_mid}
use Rattle.std.specs.Prelude.{Option, None, Some, Ok, Err}
use Rattle.std.specs.Option.{option_map_or}
use Rattle.engine_spec.specs.Refusals.{refuses}
use Rattle.engine_spec.specs.declared.types.Engine.{Engine}
use Rattle.engine_spec.specs.declared.types.Refusal.{Refusal}
use Rattle.engine_spec.specs.declared.types.Refusal.TheVariants as refusal
use Rattle.engine_layout.specs.Layout.{state_in}
use Rattle.engine_layout.specs.Written.{placed, state_as_words}
use Rattle.places_spec.specs.Places.{Restored, place_start, place_in, is_kept, keep_refusal, kept, restored, restored_or_refused}
use Rattle.places_spec.proofs.Places.{Room, room, words_long, kept_new, kept_refused, given_is, given_refused, given_empty, given_kept}

-- What `check_keep` found, by the name and the store's length.
module _ (name words : ℕ) where
  pub passes : None ≡ keep_refusal name words → refuses (keep_refusal name words) ≡ false
  passes found = ap (λ (r : Option Refusal). refuses r) (sym found)

  pub refuses_it : {e : Refusal} → Some e ≡ keep_refusal name words → refuses (keep_refusal name words) ≡ true
  refuses_it found = ap (λ (r : Option Refusal). refuses r) (sym found)

-- ---- a place's words
place_long : (name : ℕ) (store : List ℕ) → Room name (length store) → length (place_in name store) ≡ 106
place_long name store r =
    let a = r.least in
    let b = r.most in
    let l = r.long in
    length-take-le 106 (drop (place_start name) store) (omega (arith, length-drop (place_start name) store))

-- The part that was cut out.
pub cut : (name p : ℕ) (store : List ℕ) → p ≡ place_start name → take (p + 106 - p) (drop p store) ≡ place_in name store
cut name p store e =
    let k : p + 106 - p ≡ 106 = omega arith in
    ap (λ (n : ℕ). take n (drop p store)) k ∙ ap (λ (a : ℕ). take 106 (drop a store)) e

-- ---- keeping
-- Words that fill a row are the row.
filled : (ys w : List ℕ) → length w ≡ length ys → placed 0 ys w ≡ ys
filled ys w h = ap (λ (t : List ℕ). ys ++ t) (drop_of_length-le w {i = length ys} (omega arith)) ∙ append-nil ys

-- The place put back with the state's words in it.
pub put_back : (e : Engine) (name p : ℕ) (store w : List ℕ) → None ≡ keep_refusal name (length store) → p ≡ place_start name
    → w ≡ placed 0 (state_as_words e) (take (p + 106 - p) (drop p store))
    → put_mid p (p + 106 - p) store w ≡ kept e name store
put_back e name p store w found q v =
    let h = passes name (length store) found in
    let long : length (place_in name store) ≡ length (state_as_words e) = place_long name store (room name (length store) h) ∙ sym (words_long e) in
    let k : p + 106 - p ≡ length (state_as_words e) = omega (arith, words_long e) in
    let y : w ≡ state_as_words e = v ∙ ap (placed 0 (state_as_words e)) (cut name p store q) ∙ filled (state_as_words e) (place_in name store) long in
    ap (λ (n : ℕ). put_mid p n store w) k
    ∙ ap (λ (ys : List ℕ). put_mid p (length (state_as_words e)) store ys) y
    ∙ ap (λ (a : ℕ). placed a (state_as_words e) store) q
    ∙ sym (kept_new e name store h)

pub left_alone : (e : Engine) (name : ℕ) (store : List ℕ) {r : Refusal} → Some r ≡ keep_refusal name (length store) → store ≡ kept e name store
left_alone e name store found = sym (kept_refused e name store (refuses_it name (length store) found))

-- ---- restoring
module _ (running : Engine) (name : ℕ) (store : List ℕ) where
  is : {x : Restored} → restored running name store ≡ x → restored_or_refused x ≡ restored_or_refused (restored running name store)
  is q = ap (λ (y : Restored). restored_or_refused y) (sym q)

  pub refused : {e : Refusal} → Some e ≡ keep_refusal name (length store) → Err e ≡ restored_or_refused (restored running name store)
  refused found =
      ap (λ (o : Option Refusal). option_map_or (λ (r : Refusal). Err r) o (Ok running)) found
      ∙ is (given_is running name store ∙ given_refused running name (length store) (place_in name store) (refuses_it name (length store) found))

  module _ {place : List ℕ} (found : None ≡ keep_refusal name (length store)) (there : place ≡ place_in name store) where
    holds : {x : Bool} → x ≡ is_kept place → is_kept (place_in name store) ≡ x
    holds k = ap (λ (w : List ℕ). is_kept w) (sym there) ∙ sym k

    pub empty : false ≡ is_kept place → Err refusal.NothingKept ≡ restored_or_refused (restored running name store)
    empty k = is (given_is running name store ∙ given_empty running name (length store) (place_in name store) (passes name (length store) found) (holds k))

    pub given : {e : Engine} → e ≡ state_in place → true ≡ is_kept place → Ok e ≡ restored_or_refused (restored running name store)
    given q k =
        ap (λ (f : Engine). Ok f) (q ∙ ap state_in there)
        ∙ is (given_is running name store ∙ given_kept running name (length store) (place_in name store) (passes name (length store) found) (holds k))
