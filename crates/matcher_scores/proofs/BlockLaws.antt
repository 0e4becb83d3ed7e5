-- The laws that the blocks of places cite: what the passes over a block leave at each place, a block that comes back behind those before it, and one more band. Assumes nothing.
use mathlib.Core.Path.{◌≡◌, refl, sym, ap, subst, ◌∙◌}
use Prim.Native.Nat.{ℕ, zero, suc, ◌+◌, ◌-◌, ◌<◌, ◌≤◌}
use native.Mathlib.Nat.{add_assoc}
use native.Mathlib.Numerals.{add-one}
use native.Mathlib.Omega.{arith}
use mathlib.Core.List.{List, [], ◌∷◌, ◌++◌}
use lib.ListN.{length, get_or, take, drop, replicate, get_or-append}
use lib.Seq.{get_or-take, get_or-drop, drop-drop, drop_at}
use lib.Ieee.{Float, nan}
use borrow.Rule.Slice.PartMut.{put_mid, mid_len}
use Rattle.std.proofs.lemmas.List.{replicate_more}
use Rattle.numbers_spec.specs.Arithmetic.{◌⊕◌, ◌⊖◌, ◌⊗◌, ◌⊘◌, at_least, zero⁺}
use Rattle.numbers_spec.proofs.RowLaws.{root_at, Filling, filling_none, filling_all, length_tabulate, tabulate_ext, tabulate_then}
use Rattle.numbers_spec.specs.Rows.{roots_of, sum_to, tabulate}
use Rattle.numbers_spec.specs.Root.{root_of}
use Rattle.matcher_spec.specs.Scores.{dot, band_term}
use Rattle.numbers_spec.proofs.PartLaws.{rest, row_at, row_length, filling_part}

-- where a loop that fills a row begins, and where it ends
pub ruleset fillings = (filling_none, filling_all)

-- ---- an element
-- what is lent from i on is still as d has it
filling_rest : {A : Type 0} {f : ℕ → A} (d : List A) (i m : ℕ) (z : A) {row : List A} → Filling f d i row → (j : ℕ) → j < m → get_or (take m (drop i row)) j z ≡ get_or d (i + j) z
filling_rest {A} {f} d i m z p j h =
    get_or-take m _ j z h
    ∙ ap (λ (l : List A). get_or (drop i l) j z) p.front
    ∙ ap (λ (l : List A). get_or l j z) (drop_at (tabulate f i) (drop i d) i (length_tabulate f i))
    ∙ get_or-drop i d j z

-- ---- a list from a place on, as `&l[at..]` lends it
abbrev pub from : {A : Type 0} → List A → ℕ → List A
from l at = take (length l - at) (drop at l)

-- ---- what was written to a row's front, where it is read
front_at : {A : Type 0} (k i : ℕ) (row front : List A) (z : A) → i < length front → get_or (put_mid 0 k row front) i z ≡ get_or front i z
front_at k i row front z h = get_or-append front (drop k row) z i h

-- ---- a block
module _ (reference energy query : List Float) (floor whole : Float) where
  -- the dot product of the band, where the reference begins at the place `at`
  dot_from : (at i : ℕ) → dot (take (length query) (drop i (from reference at))) query ≡ dot (take (length query) (drop (at + i) reference)) query
  dot_from at i = ap (λ (row : List Float). dot (take (length query) row) query) (ap (drop i) (rest reference at) ∙ drop-drop i at reference)

  -- The passes wrote to the fronts of the working rows: the quotient of what they wrote is what the band adds.
  pub quotient_is : (at k i : ℕ) (before₁ before₂ before₃ : List Float) {n m : ℕ} {products roots dotted : List Float}
      → products ≡ tabulate (λ (j : ℕ). whole ⊗ at_least floor (get_or energy (at + j + length query) nan ⊖ get_or energy (at + j) nan)) n
      → roots ≡ roots_of (take k (put_mid 0 k before₁ products))
      → dotted ≡ tabulate (λ (j : ℕ). dot (take (length query) (drop j (from reference at))) query) m
      → i < k → i < n → i < m → i < length roots
      → get_or (put_mid 0 k before₂ dotted) i nan ⊘ get_or (put_mid 0 k before₃ roots) i nan ≡ band_term reference energy query floor whole (at + i)
  unfolding band_term
  quotient_is at k i b₁ b₂ b₃ {n} {m} {products} {roots} {dotted} p q d hk hn hm hr =
      let product = get_or-take k _ i nan hk ∙ front_at k i b₁ products nan (rw (row_length _ n p) hn) ∙ row_at _ n i nan p hn in
      let root = front_at k i b₃ roots nan hr ∙ ap (λ (l : List Float). get_or l i nan) q ∙ root_at (take k (put_mid 0 k b₁ products)) i ∙ ap root_of product in
      let quotient = front_at k i b₂ dotted nan (rw (row_length _ m d) hm) ∙ row_at _ m i nan d hm ∙ dot_from at i in
      (λ j. quotient j ⊘ root j)

-- the next block was lent, and came back with the band's terms added
pub block_more : (t : ℕ → Float) (scores : List Float) (low i end : ℕ) {past : ℕ} {row part : List Float} → let added = (λ (k : ℕ). get_or scores k nan ⊕ t (low + k)) in Filling added scores i row
    → part ≡ tabulate (λ (j : ℕ). get_or (take (end - i) (drop i row)) j nan ⊕ t (low + i + j)) (length (take (end - i) (drop i row)))
    → i ≤ end → end ≤ length scores → end ≡ past → Filling added scores past (put_mid i (end - i) row part)
block_more t scores low i end {row = row} {part = part} p q h k e =
    let added : ℕ → Float = λ j. get_or scores j nan ⊕ t (low + j) in
    let each : part ≡ tabulate (λ (j : ℕ). added (i + j)) (end - i) =
    q
    ∙ ap (tabulate _) (mid_len i end row (omega (arith, p.size)))
    ∙ tabulate_ext _ _ (end - i) (λ j w s. filling_rest scores i (end - i) nan p j w s ⊕ t (add_assoc low i j s)) in
    subst (λ (m : ℕ). Filling added scores m (put_mid i (end - i) row part)) e (filling_part added scores i end p each h k)

-- ---- the sum over the bands
-- no band yet
pub sums_none : (t : ℕ → ℕ → Float) (n : ℕ) → replicate n zero⁺ ≡ tabulate (λ (i : ℕ). sum_to (t i) 0) n
unfolding tabulate sum_to
sums_none t zero = refl
sums_none t (suc n) = rw add-one at (sym (replicate_more n zero⁺)) ∙ (λ k. sums_none t n k ++ (zero⁺ ∷ []))

-- one more band at each place
pub sums_more : (t : ℕ → ℕ → Float) (u : ℕ → Float) (b n : ℕ) {old new : List Float} → new ≡ tabulate (λ (i : ℕ). get_or old i nan ⊕ u i) (length old)
    → old ≡ tabulate (λ (i : ℕ). sum_to (t i) b) n → ((i : ℕ) → u i ≡ t i b) → new ≡ tabulate (λ (i : ℕ). sum_to (t i) (b + 1)) n
unfolding sum_to
sums_more t u b n p q e =
    p
    ∙ tabulate_then (λ (i : ℕ). sum_to (t i) b) (λ (i : ℕ) (s : Float). s ⊕ u i) nan n q
    ∙ rw add-one (λ k. tabulate (λ (i : ℕ). sum_to (t i) b ⊕ e i k) n)
