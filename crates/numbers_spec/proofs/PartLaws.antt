-- Lists by a rule that are filled part by part, or gone over once more; fronts and parts of lists. Assumes nothing.
use mathlib.Core.Path.{◌≡◌, refl, sym, ap, ◌∙◌}
use Prim.Native.Nat.{ℕ, zero, suc, ◌+◌, ◌-◌, ◌<◌, ◌≤◌}
use native.Mathlib.Nat.{add-zero, add-suc}
use native.Mathlib.Omega.{arith}
use mathlib.Core.List.{List, [], ◌∷◌, ◌++◌, append_assoc, append-nil}
use lib.ListN.{length, get_or, take, drop, length-append, length-drop, take-append-drop}
use lib.Seq.{drop-append-add, drop_at, drop-drop, length-take-le, take_all, take-append_seam, take_at, take-take}
use borrow.Rule.Slice.PartMut.{put_mid, post_of}
use Rattle.numbers_spec.specs.Rows.{rows, tabulate}
use Rattle.numbers_spec.proofs.RowLaws.{length_tabulate, get_d_tabulate, tabulate_ext, put_next, filled_length, Filling, filling_all}

-- a list from a place on
pub rest : {A : Type 0} (l : List A) (at : ℕ) → take (length l - at) (drop at l) ≡ drop at l
rest l at = take_all (length l - at) (drop at l) (simp length-drop (omega arith))

module _ {A : Type 0} (f : ℕ → A) where
  pub row_length : (n : ℕ) {l : List A} → l ≡ tabulate f n → length l ≡ n
  row_length n p = ap length p ∙ length_tabulate f n

  -- an element of a list that a rule filled
  pub row_at : (n i : ℕ) (z : A) {l : List A} → l ≡ tabulate f n → i < n → get_or l i z ≡ f i
  row_at n i z p h = ap (λ (x : List A). get_or x i z) p ∙ get_d_tabulate f n i z h

  -- each element went through g: the rule is h, where g of f's elements are h's
  pub row_then : (h : ℕ → A) (g : ℕ → A → A) (z : A) (n : ℕ) {l m : List A} → l ≡ tabulate f n → m ≡ tabulate (λ (i : ℕ). g i (get_or l i z)) n
      → ((i : ℕ) → i < n → g i (f i) ≡ h i) → m ≡ tabulate h n
  row_then h g z n p q e = q ∙ tabulate_ext _ _ n (λ i w. ap (g i) (row_at n i z p w) ∙ e i w)

  -- n elements, and then m more
  pub tabulate_add : (n m : ℕ) → tabulate f (n + m) ≡ tabulate f n ++ tabulate (λ (j : ℕ). f (n + j)) m
  unfolding tabulate
  tabulate_add n zero = rw add-zero (sym (append-nil (tabulate f n)))
  tabulate_add n (suc m) =
      rw add-suc
      (ap (λ (l : List A). l ++ (f (n + m) ∷ [])) (tabulate_add n m) ∙ append_assoc (tabulate f n) (tabulate (λ (j : ℕ). f (n + j)) m) (f (n + m) ∷ []))

  -- the part from i up to `end` was lent, and came back filled
  pub filling_part : (d : List A) (i end : ℕ) {row part : List A} → Filling f d i row → part ≡ tabulate (λ (j : ℕ). f (i + j)) (end - i) → i ≤ end → end ≤ length d
      → Filling f d end (put_mid i (end - i) row part)
  filling_part d i end {row} p q h k =
      let e : i + (end - i) ≡ end = omega arith in
      let front =
      (λ j. put_mid i (end - i) row (q j))
      ∙ put_next (tabulate f i) (tabulate (λ (j : ℕ). f (i + j)) (end - i)) d i (end - i) (length_tabulate f i) p.front
      ∙ (λ j. sym (tabulate_add i (end - i)) j ++ drop (i + (end - i)) d)
      ∙ (λ j. tabulate f (e j) ++ drop (e j) d) in
      record { within = k; size = filled_length f d end front k; front = front }

  -- what is filled so far is where another loop begins
  pub filling_anew : (d : List A) (i : ℕ) {row : List A} → Filling f d i row → Filling f row i row
  filling_anew d i p =
      let behind = ap (drop i) p.front ∙ drop_at (tabulate f i) (drop i d) i (length_tabulate f i) in
      record { within = omega arith; size = refl; front = p.front ∙ ap (λ (l : List A). tabulate f i ++ l) (sym behind) }

-- all of a list of n is filled
pub filling_of_lem : {A : Type 0} {f : ℕ → A} {d : List A} {n i : ℕ} {row : List A} → Filling f d i row → length d ≡ n → n ≤ i → row ≡ tabulate f n
filling_of_lem {f = f} p e h = filling_all p (omega arith) ∙ ap (tabulate f) e

-- ---- fronts and parts of lists
-- lists that agree at a front agree at a shorter one
pub shorter_front : {A : Type 0} (m k : ℕ) (x y : List A) → m ≤ k → take k x ≡ take k y → take m x ≡ take m y
shorter_front m k x y h e = sym (take-take m k x h) ∙ ap (take m) e ∙ take-take m k y h

-- the part that was lent from `at` on and came back can be read there
pub put_read : {A : Type 0} (at k : ℕ) (d part : List A) → at ≤ length d → take (length part) (drop at (put_mid at k d part)) ≡ part
put_read at k d part h = ap (take (length part)) (drop_at (take at d) (part ++ post_of at k d) at (length-take-le at d h)) ∙ take-append_seam part (post_of at k d)

pub put_is : {A : Type 0} (at k n : ℕ) (d part : List A) → at ≤ length d → length part ≡ n → take n (drop at (put_mid at k d part)) ≡ part
put_is at k n d part h e = ap (λ (j : ℕ). take j (drop at (put_mid at k d part))) (sym e) ∙ put_read at k d part h

-- A list d of which the front was filled with p, and which kept its length: p is as long as the part that it stands for, and can be read there.
module _ {A : Type 0} (p d : List A) {e : List A} (k : ℕ) (q : e ≡ p ++ drop k d) (s : length e ≡ length d) (h : k ≤ length d) where
  pub front_length : length p ≡ k
  front_length = omega (arith, ap length q, length-append p (drop k d), length-drop k d)

  pub front_is : take k e ≡ p
  front_is = ap (take k) q ∙ take_at p (drop k d) k front_length

  pub front_filled : e ≡ p ++ drop (length p) d
  front_filled = q ∙ ap (λ (j : ℕ). p ++ drop j d) (sym front_length)

-- A list d of which k elements from `from` on were replaced by p, and which kept its length.
module _ {A : Type 0} (p d : List A) {e : List A} (from k : ℕ) (q : e ≡ take from d ++ p ++ drop (from + k) d) (s : length e ≡ length d) (h : from + k ≤ length d) where
  front : length (take from d) ≡ from
  front = length-take-le from d (omega arith)

  parts : e ≡ take from d ++ (p ++ drop (from + k) d)
  parts = q ∙ append_assoc (take from d) p (drop (from + k) d)

  pub within_length : length p ≡ k
  within_length = omega (arith, front, ap length parts, length-append (take from d) (p ++ drop (from + k) d), length-append p (drop (from + k) d), length-drop (from + k) d)

  pub within_is : take k (drop from e) ≡ p
  within_is = ap (λ (l : List A). take k (drop from l)) parts ∙ ap (take k) (drop_at (take from d) (p ++ drop (from + k) d) from front) ∙ take_at p (drop (from + k) d) k within_length

  pub within_before : take from e ≡ take from d
  within_before = ap (take from) parts ∙ take_at (take from d) (p ++ drop (from + k) d) from front

-- a list by its front and its rest
pub front_and_rest : {A : Type 0} {p : List A} (e d : List A) (k : ℕ) → take k e ≡ p → drop k e ≡ drop k d → e ≡ p ++ drop k d
front_and_rest e d k q s = sym (take-append-drop k e) ∙ (λ i. q i ++ s i)

-- what lies past a filled front does not see it
pub drop_past : {A : Type 0} (x d : List A) (m k : ℕ) → length x ≡ m → m ≤ k → drop k (x ++ drop m d) ≡ drop k d
drop_past x d m k l h =
    let e : k ≡ length x + (k - m) = omega arith in
    let s : m + (k - m) ≡ k = omega arith in
    ap (λ (j : ℕ). drop j (x ++ drop m d)) e ∙ drop-append-add x (drop m d) (k - m) ∙ drop-drop (k - m) m d ∙ ap (λ (j : ℕ). drop j d) s

-- two rules for rows that agree below n
pub rows_ext : {A : Type 0} (f g : ℕ → List A) (n : ℕ) → ((i : ℕ) → i < n → f i ≡ g i) → rows f n ≡ rows g n
unfolding rows
rows_ext f g zero h = refl
rows_ext f g (suc n) h = (λ k. rows_ext f g n (λ i w. h i (omega arith)) k ++ h n (omega arith) k)
