-- What the definitions say by index, in std's list functions, as a chain of iterators is found. Assumes nothing.
use mathlib.Core.Path.{◌≡◌, refl, sym, ap, ◌∙◌}
use mathlib.Core.Bool.{Bool, true, false, cond, ◌&&◌}
use mathlib.Core.List.{List, [], ◌∷◌, ◌++◌}
use Prim.Native.Nat.{ℕ, zero, suc, ◌≤◌}
use native.Mathlib.Numerals.{add-one}
use native.Mathlib.Omega.{arith}
use lib.Ieee.{Float, nan}
use lib.ListN.{length, get_or, take, replicate}
use Rattle.std.specs.List.{list_all, count_by, fold}
use Rattle.std.proofs.lemmas.List.{replicate-append-replicate}
use Rattle.std.proofs.lemmas.List.Sums.{count_by_more_yes, count_by_more_no, fold_more}
use Rattle.numbers_spec.specs.Arithmetic.{◌⊕◌, zero⁺}
use Rattle.numbers_spec.specs.Rows.{tabulate, all_to, every, sum_to, tally}

and_true : (a : Bool) → a ≡ a && true
and_true true = refl
and_true false = refl

and_assoc : (a b c : Bool) → (a && b) && c ≡ a && (b && c)
and_assoc true b c = refl
and_assoc false b c = refl

-- the first of them apart
from_first : (p : ℕ → Bool) (n : ℕ) → all_to p (suc n) ≡ p 0 && all_to (λ (i : ℕ). p (suc i)) n
unfolding all_to
from_first p zero = and_true (p 0)
from_first p (suc n) =
    ap (λ (b : Bool). b && p (suc n)) (from_first p n) ∙ and_assoc (p 0) (all_to (λ (i : ℕ). p (suc i)) n) (p (suc n))

pub every_is_all : (p : Float → Bool) (l : List Float) → every p l ≡ list_all p l
unfolding every all_to
every_is_all p [] = refl
every_is_all p (x ∷ l) =
    from_first (λ (i : ℕ). p (get_or (x ∷ l) i nan)) (length l) ∙ ap (λ (b : Bool). p x && b) (every_is_all p l)

-- `filter` and `count` over the first n
pub tally_is_count : (p : Float → Bool) (l : List Float) (n : ℕ) → n ≤ length l → tally (λ (i : ℕ). p (get_or l i nan)) n ≡ count_by p (take n l)
unfolding tally
tally_is_count p l zero h = refl
tally_is_count p l (suc n) h =
    one_more (p (get_or l n nan)) (tally_is_count p l n (omega arith)) refl
  where
    one_more : (b : Bool) {t : ℕ} → t ≡ count_by p (take n l) → p (get_or l n nan) ≡ b → cond b (suc t) t ≡ count_by p (take (suc n) l)
    one_more true q e =
        ap suc q ∙ sym (add-one (count_by p (take n l))) ∙ sym (count_by_more_yes p l n nan (omega arith) e) ∙ ap (λ (k : ℕ). count_by p (take k l)) (add-one n)
    one_more false q e = q ∙ sym (count_by_more_no p l n nan (omega arith) e) ∙ ap (λ (k : ℕ). count_by p (take k l)) (add-one n)

-- `fold` over the first n
pub sum_is_fold : (f : Float → Float) (l : List Float) (n : ℕ) → n ≤ length l → sum_to (λ (i : ℕ). f (get_or l i nan)) n ≡ fold (λ (s x : Float). s ⊕ f x) zero⁺ (take n l)
unfolding sum_to
sum_is_fold f l zero h = refl
sum_is_fold f l (suc n) h =
    ap (λ (s : Float). s ⊕ f (get_or l n nan)) (sum_is_fold f l n (omega arith))
    ∙ sym (fold_more (λ (s x : Float). s ⊕ f x) zero⁺ l n nan (omega arith))
    ∙ ap (λ (k : ℕ). fold (λ (s x : Float). s ⊕ f x) zero⁺ (take k l)) (add-one n)

-- `fill`
pub replicate_is : {A : Type 0} (x : A) (n : ℕ) → replicate n x ≡ tabulate (λ (i : ℕ). x) n
unfolding tabulate
replicate_is x zero = refl
replicate_is x (suc n) =
    sym (replicate-append-replicate n 1 x ∙ ap (λ (k : ℕ). replicate k x) (add-one n)) ∙ ap (λ l. l ++ x ∷ []) (replicate_is x n)
