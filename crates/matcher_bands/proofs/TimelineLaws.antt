-- The tests that `all` and `fold` make, as the tests of specs/Timeline.antt of matcher_spec. Assumes nothing.
use mathlib.Core.Path.{◌≡◌, refl, sym, ap, ◌∙◌}
use mathlib.Core.Bool.{Bool, true, false, ◌&&◌}
use mathlib.Core.List.{List, [], ◌∷◌, ◌++◌, map-id}
use Prim.Native.Nat.{ℕ, zero, suc, ◌+◌, ◌≤◌}
use native.Mathlib.Numerals.{add-one}
use native.Mathlib.Omega.{arith}
use lib.ListN.{length, get_or, take}
use lib.Seq.{take-length}
use lib.Ieee.{Float, nan}
use Rattle.std.specs.List.{fold, list_all, range_with_len}
use Rattle.std.proofs.lemmas.List.Folds.{list_all-append}
use Rattle.std.proofs.lemmas.List.FromFn.{map-range_with_len_more}
use Rattle.std.proofs.lemmas.List.Sums.{fold_more}
use Rattle.numbers_spec.specs.Rows.{all_to}

pub and_true : (b : Bool) → b && true ≡ b
and_true true = refl
and_true false = refl

-- a test of 1, 2, .. n
pub all_from_one : (p : ℕ → Bool) (n : ℕ) → list_all p (range_with_len 1 n) ≡ all_to (λ (i : ℕ). p (suc i)) n
unfolding all_to
all_from_one p zero = refl
all_from_one p (suc n) =
    let one : 1 + n ≡ suc n = omega arith in
    let more = sym (map-id (range_with_len 1 (n + 1))) ∙ map-range_with_len_more (λ (x : ℕ). x) 1 n (suc n) one ∙ ap (λ (l : List ℕ). l ++ (suc n ∷ [])) (map-id (range_with_len 1 n)) in
    let grown : list_all p (range_with_len 1 (n + 1)) ≡ list_all p (range_with_len 1 n) && p (suc n) =
    ap (list_all p) more ∙ list_all-append p (range_with_len 1 n) (suc n ∷ []) ∙ ap (λ (b : Bool). list_all p (range_with_len 1 n) && b) (and_true (p (suc n))) in
    (rw add-one at grown) ∙ ap (λ (b : Bool). b && p (suc n)) (all_from_one p n)

-- a test of each value, that goes on where one failed
pub all_folded : (p : Float → Bool) (l : List Float) → fold (λ (all : Bool) (v : Float). all && p v) true l ≡ all_to (λ (i : ℕ). p (get_or l i nan)) (length l)
unfolding all_to
all_folded p l = ap (fold (λ (all : Bool) (v : Float). all && p v) true) (sym (take-length l)) ∙ first (length l) (omega arith)
  where
    first : (n : ℕ) → n ≤ length l → fold (λ (all : Bool) (v : Float). all && p v) true (take n l) ≡ all_to (λ (i : ℕ). p (get_or l i nan)) n
    first zero h = refl
    first (suc n) h =
        (rw add-one at (fold_more (λ (all : Bool) (v : Float). all && p v) true l n nan (omega arith))) ∙ ap (λ (b : Bool). b && p (get_or l n nan)) (first n (omega arith))
