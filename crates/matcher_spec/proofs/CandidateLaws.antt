-- The laws of specs/Candidates.antt that the loops cite. Assumes nothing.
use Rattle.std.proofs.Common.{◌≡◌, ℕ, suc, ◌+◌, ◌<◌, Bool, true, false, cond, not, List, [], ◌∷◌, ◌++◌, length, get_or, drop, refl, ap, arith, ltb, Some, None}
use Rattle.std.specs.Float.Ieee.{lt}
use Rattle.std.specs.List as list
use Rattle.std.specs.Option.{unwrap_or}
use Rattle.std.proofs.lemmas.List.{at_drop_more}
use Rattle.std.proofs.lemmas.List.Sums.{prefix_len-le-length}
use borrow.Author.Tests.{ltb-false}
use Rattle.matcher_spec.specs.Candidates.{insert, crowded, independent_from}
use Rattle.matcher_spec.specs.declared.types.Candidate.{Candidate}

-- What `position(p).unwrap_or(n)` gives, where n is the list's length.
pub first_or_length : {A : Type 0} (p : A → Bool) (l : List A) → unwrap_or (list.position p l) (length l) ≡ list.position_or_len p l
first_or_length {A} p l = at (ltb (list.position_or_len p l) (length l)) refl
  where
    at : (t : Bool) → ltb (list.position_or_len p l) (length l) ≡ t → unwrap_or (cond t (Some (list.position_or_len p l)) None) (length l) ≡ list.position_or_len p l
    at true e = refl
    at false e = omega (arith, ltb-false _ _ e, prefix_len-le-length (λ (x : A). not (p x)) l)

-- A candidate is put before the first that scores lower.
pub insert_is : (c : Candidate) (l : List Candidate) → insert c l ≡ list.insert l (list.position_or_len (λ (d : Candidate). lt d.score c.score) l) c
unfolding insert
insert_is c [] = refl
insert_is c (d ∷ l) = at (lt d.score c.score) (insert_is c l)
  where
    first : ℕ
    first = list.position_or_len (λ (e : Candidate). lt e.score c.score) l

    at : (t : Bool) → insert c l ≡ list.insert l first c → cond t (c ∷ d ∷ l) (d ∷ insert c l) ≡ list.insert (d ∷ l) (cond (not t) (1 + first) 0) c
    at true e = refl
    at false e = let more : 1 + first ≡ suc first = omega arith in rw more (ap (λ (r : List Candidate). d ∷ r) e)

-- One step of keeping those that are independent.
pub independent_next : (listed l : List Candidate) (i : ℕ) (z : Candidate) → i < length l
    → independent_from listed (drop i l) ≡ cond (crowded listed (get_or l i z)) (independent_from listed (drop (i + 1) l)) (independent_from (listed ++ get_or l i z ∷ []) (drop (i + 1) l))
unfolding independent_from
independent_next listed l i z h = at_drop_more (independent_from listed) l i z h
