-- Laws of a row that is written part by part. Assumes nothing.
use Prim.Native.Nat.{ℕ, zero, suc, ◌+◌, ◌-◌, ◌≤◌}
use mathlib.Core.Path.{◌≡◌, refl, sym, ap, ◌∙◌}
use mathlib.Core.List.{List, [], ◌∷◌, ◌++◌, append_assoc}
use native.Mathlib.Omega.{arith}
use lib.ListN.{length, take, drop, get_or, length-append, length-drop, drop_of_length-le, take-append-drop}
use lib.Seq.{length-take-le, drop-cons, drop-append-le, take-append-le, drop_at, drop-drop, take_at, take-length}
use lib.Ieee.Bits.{of_bits-to_bits}
use Rattle.engine_layout.specs.Layout.{part}
use Rattle.engine_layout.specs.Written.{placed}

module _ {A : Type 0} where
  -- The n elements from k on, one by one.
  unfoldable pub spell : A → ℕ → ℕ → List A → List A
  spell d k zero l = []
  spell d k (suc n) l = get_or l k d ∷ spell d (suc k) n l

  pub spell_drop : (d : A) (n k : ℕ) (l : List A) → k + n ≡ length l → spell d k n l ≡ drop k l
  unfolding spell
  spell_drop d zero k l h = sym (drop_of_length-le l {i = k} (omega arith))
  spell_drop d (suc n) k l h = ap (λ (r : List A). get_or l k d ∷ r) (spell_drop d n (suc k) l (omega arith)) ∙ sym (drop-cons l k d (omega arith))

  pub cons_same : {x y : A} {xs ys : List A} → x ≡ y → xs ≡ ys → x ∷ xs ≡ y ∷ ys
  cons_same {x} {y} {xs} {ys} p q = ap (λ (a : A). a ∷ xs) p ∙ ap (λ (r : List A). y ∷ r) q

-- ---- one part after another
regroup : (a b c d : List ℕ) → (a ++ b) ++ (c ++ d) ≡ a ++ ((b ++ c) ++ d)
regroup a b c d = simp append_assoc

placed_more : (at k : ℕ) (ys zs w : List ℕ) → length ys ≡ k → at + (k + length zs) ≤ length w → placed (at + k) zs (placed at ys w) ≡ placed at (ys ++ zs) w
placed_more at k ys zs w e h =
    let rest : List ℕ = drop (length ys) (drop at w) in
    let n : length (take at w) ≡ at = length-take-le at w (omega arith) in
    let m : length (take at w ++ ys) ≡ at + k = length-append (take at w) ys ∙ omega arith in
    let s : placed at ys w ≡ (take at w ++ ys) ++ rest = sym (append_assoc (take at w) ys rest) in
    let p : take (at + k) (placed at ys w) ≡ take at w ++ ys = ap (take (at + k)) s ∙ take_at (take at w ++ ys) rest (at + k) m in
    let q : drop (at + k) (placed at ys w) ≡ rest = ap (drop (at + k)) s ∙ drop_at (take at w ++ ys) rest (at + k) m in
    let r : drop (length zs) rest ≡ drop (length (ys ++ zs)) (drop at w) = drop-drop (length zs) (length ys) (drop at w) ∙ ap (λ (j : ℕ). drop j (drop at w)) (sym (length-append ys zs)) in
    ap (λ (x : List ℕ). x ++ (zs ++ drop (length zs) (drop (at + k) (placed at ys w)))) p
    ∙ ap (λ (x : List ℕ). (take at w ++ ys) ++ (zs ++ drop (length zs) x)) q
    ∙ ap (λ (x : List ℕ). (take at w ++ ys) ++ (zs ++ x)) r
    ∙ regroup (take at w) ys zs (drop (length (ys ++ zs)) (drop at w))

-- The k words ys stand in the new row from `at` on, and else it is the old one.
pub record Laid (at k : ℕ) (ys old new : List ℕ) : Type 0 where
  pub long : length ys ≡ k
  pub there : new ≡ placed at ys old

pub none_laid : (at : ℕ) (w : List ℕ) → Laid at 0 [] w w
none_laid at w = record { long = refl; there = sym (take-append-drop at w) }

pub first_laid : {at k : ℕ} {ys zs old new : List ℕ} → ys ≡ zs → length zs ≡ k → new ≡ placed at ys old → Laid at k zs old new
first_laid {at} {old = old} e n p = record { long = n; there = p ∙ ap (λ (y : List ℕ). placed at y old) e }

pub next_laid : {at k m n : ℕ} {xs ys zs old mid new : List ℕ} → Laid at k xs old mid → ys ≡ zs → length zs ≡ m → k + m ≡ n → at + n ≤ length old → new ≡ placed (at + k) ys mid → Laid at n (xs ++ zs) old new
next_laid {at} {k} {m} {n} {xs} {ys} {zs} {old} {mid} {new} l e s q h p = record {
  long = length-append xs zs ∙ omega (arith, l.long);
  there =
      p
      ∙ ap (λ (y : List ℕ). placed (at + k) y mid) e
      ∙ ap (λ (y : List ℕ). placed (at + k) zs y) l.there
      ∙ placed_more at k xs zs old l.long (omega arith);
}

-- ---- reading it back
-- A float's word is read as the float.
pub ruleset read_back = (of_bits-to_bits)

-- The last part of a row.
pub last_part : (n k : ℕ) (xs ys : List ℕ) → length xs ≡ n → length ys ≡ k → part n k (xs ++ ys) ≡ ys
last_part n k xs ys e h = ap (take k) (drop_at xs ys n e) ∙ ap (λ (j : ℕ). take j ys) (sym h) ∙ take-length ys

-- A part that lies before it.
pub front_part : (a k : ℕ) (xs ys : List ℕ) → a + k ≤ length xs → part a k (xs ++ ys) ≡ part a k xs
front_part a k xs ys h =
    let n : length (drop a xs) ≡ length xs - a = length-drop a xs in
    ap (take k) (drop-append-le a xs ys (omega arith)) ∙ take-append-le k (drop a xs) ys (omega arith)

-- What was placed is read, and what follows stays.
pub placed_part : (a k : ℕ) (ys w : List ℕ) → length ys ≡ k → a ≤ length w → part a k (placed a ys w) ≡ ys
placed_part a k ys w e h =
    ap (take k) (drop_at (take a w) (ys ++ drop (length ys) (drop a w)) a (length-take-le a w h)) ∙ take_at ys (drop (length ys) (drop a w)) k e

pub placed_tail : (a k n : ℕ) (ys w : List ℕ) → length ys ≡ k → a + k ≡ n → a ≤ length w → drop n (placed a ys w) ≡ drop n w
placed_tail a k n ys w e q h =
    let l : length (take a w ++ ys) ≡ n = length-append (take a w) ys ∙ omega (arith, length-take-le a w h) in
    ap (drop n) (sym (append_assoc (take a w) ys (drop (length ys) (drop a w))))
    ∙ drop_at (take a w ++ ys) (drop (length ys) (drop a w)) n l
    ∙ drop-drop (length ys) a w
    ∙ ap (λ (j : ℕ). drop j w) {x = a + length ys} {y = n} (omega arith)
