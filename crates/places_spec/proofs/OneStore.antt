-- A session over one store is a session such as the guarantee speaks of (specs/OneStore.antt). Assumes nothing.
use Prim.Native.Nat.{ℕ}
use mathlib.Core.Bool.{Bool, true, false, cond}
use mathlib.Core.List.{List, [], ◌∷◌, ◌++◌}
use mathlib.Core.Path.{◌≡◌, refl, sym, ap, ◌∙◌, subst}
use lib.Dec.{T, eqb, eqb→eq, eqb_refl}
use lib.ListN.{length, replicate, length-replicate}
use Rattle.std.specs.Prelude.{None, Some}
use Rattle.engine_spec.specs.Windows.{Submission}
use Rattle.engine_spec.specs.Refusals.{refuses}
use Rattle.engine_spec.specs.Submitting.{submit}
use Rattle.engine_spec.specs.Sessions.{Start, Past, settings_of, matcher_of, fresh_of, state_of, further, Proper, Turn, answers_of, AllProper, nothing, submission, return}
use Rattle.engine_spec.specs.declared.types.Engine.{Engine}
use Rattle.engine_spec.proofs.Submissions.{answered_by}
use Rattle.engine_spec.proofs.Sessions.{after_more, proper_more, guarantee_of_sessions}
use Rattle.engine_layout.specs.Layout.{state_in}
use Rattle.engine_layout.specs.Written.{ReadsBack}
use Rattle.places_spec.specs.Places.{Restored, is_name, place_in, is_kept, keep_refusal, kept, restored}
use Rattle.places_spec.specs.OneStore.{Call, submit_it, keep_as, restore_from, answers_asked, AllAsked, nothing, submitted, kept_as, restored_from, Mark, no_marks, marked, turn_to, past_at, turns_asked, OwnStore}
use Rattle.places_spec.proofs.Places.{given_is, given_kept, given_empty, given_refused, kept_refused, kept_place, kept_there, others_stay, named, zero_place}

-- ---- a place and its mark
abbrev past_of : Start → List Submission → Past
past_of b l = record { start = b; submissions = l }

-- Nothing is kept and nothing marked, or a state and what led to it from this opening.
data Matches (b : Start) : List ℕ → Mark → Type 0 where
  neither : {place : List ℕ} → is_kept place ≡ false → Matches b place None
  both : {place : List ℕ} {l : List Submission} → is_kept place ≡ true → Proper (past_of b l) → state_in place ≡ state_of (past_of b l) → Matches b place (Some l)

-- The store's length, and each of its places.
record Follows (b : Start) (words : ℕ) (store : List ℕ) (marks : ℕ → Mark) : Type 0 where
  long : length store ≡ words
  each : (name : ℕ) → is_name name ≡ true → Matches b (place_in name store) (marks name)

-- Zeros keep nothing.
follows_zeros : (b : Start) (words : ℕ) → Follows b words (replicate words 0) no_marks
follows_zeros b words = record { long = length-replicate words 0; each = λ name h. neither (zero_place name words) }

-- ---- keeping
-- The place of the name holds the state, the others are as they were.
module _ (b : Start) (words : ℕ) (store : List ℕ) (marks : ℕ → Mark) (f : Follows b words store marks) (e : Engine) (k : List Submission) (h : Proper (past_of b k)) (is : e ≡ state_of (past_of b k)) (name : ℕ) where
  kept_here : refuses (keep_refusal name (length store)) ≡ false → ReadsBack e → Matches b (place_in name (kept e name store)) (Some k)
  kept_here r back =
      let q = kept_place e name store r in
      both (ap is_kept q ∙ kept_there e) h (ap state_in q ∙ back ∙ is)

  kept_each : refuses (keep_refusal name (length store)) ≡ false → ReadsBack e → (other : ℕ) → is_name other ≡ true → Matches b (place_in other (kept e name store)) (marked name k marks other)
  kept_each r back other u = go (eqb other name) (eqb→eq other name) differs
    where
      differs : eqb other name ≡ false → other ≡ name → ⊥
      differs x y = subst T (sym (ap (λ (n : ℕ). eqb n name) y) ∙ x) (eqb_refl name)

      go : (c : Bool) → (T c → other ≡ name) → (c ≡ false → other ≡ name → ⊥) → Matches b (place_in other (kept e name store)) (cond c (Some k) (marks other))
      go true x y = subst (λ (n : ℕ). Matches b (place_in n (kept e name store)) (Some k)) (sym (x tt)) (kept_here r back)
      go false x y = subst (λ (w : List ℕ). Matches b w (marks other)) (sym ((others_stay e name store).places other u (y refl))) (f.each other u)

  follows_kept : (refuses (keep_refusal name (length store)) ≡ false → ReadsBack e) → Follows b words (kept e name store) (cond (refuses (keep_refusal name words)) marks (marked name k marks))
  follows_kept back =
      subst (λ (n : ℕ). Follows b words (kept e name store) (cond (refuses (keep_refusal name n)) marks (marked name k marks))) f.long (go (refuses (keep_refusal name (length store))) refl)
    where
      go : (c : Bool) → refuses (keep_refusal name (length store)) ≡ c → Follows b words (kept e name store) (cond c marks (marked name k marks))
      go true r = subst (λ (w : List ℕ). Follows b words w marks) (sym (kept_refused e name store r)) f
      go false r = record { long = (others_stay e name store).long ∙ f.long; each = kept_each r (back r) }

-- ---- restoring
-- The running state stays, or a marked one comes.
data Comes (b : Start) (e : Engine) : Engine → Mark → Type 0 where
  stays : {f : Engine} → f ≡ e → Comes b e f None
  comes : {f : Engine} {l : List Submission} → Proper (past_of b l) → f ≡ state_of (past_of b l) → Comes b e f (Some l)

come : (b : Start) (e : Engine) (words : ℕ) (store : List ℕ) (marks : ℕ → Mark) → Follows b words store marks → (name : ℕ) → Comes b e (restored e name store).engine (cond (refuses (keep_refusal name words)) None (marks name))
come b e words store marks f name =
    subst (λ (n : ℕ). Comes b e (restored e name store).engine (cond (refuses (keep_refusal name n)) None (marks name))) f.long (go (refuses (keep_refusal name (length store))) refl)
  where
    engine_is : {x : Restored} → restored e name store ≡ x → (restored e name store).engine ≡ x.engine
    engine_is q = ap (λ (r : Restored). r.engine) q

    given : (mark : Mark) → Matches b (place_in name store) mark → refuses (keep_refusal name (length store)) ≡ false → Comes b e (restored e name store).engine mark
    given mark (neither k) r = stays (engine_is (given_is e name store ∙ given_empty e name (length store) (place_in name store) r k))
    given mark (both k h is) r = comes h (engine_is (given_is e name store ∙ given_kept e name (length store) (place_in name store) r k) ∙ is)

    go : (c : Bool) → refuses (keep_refusal name (length store)) ≡ c → Comes b e (restored e name store).engine (cond c None (marks name))
    go true r = stays (engine_is (given_is e name store ∙ given_refused e name (length store) (place_in name store) r))
    go false r = given (marks name) (f.each name (named name (length store) r)) r

-- ---- the list
-- What is answered from f on is what the session answers from e on.
record Asked (p : Past) (e f : Engine) (store : List ℕ) (l : List Call) (turns : List Turn) : Type 0 where
  proper : AllProper p turns
  is : answers_asked f store l ≡ answers_of e turns

asked : (words : ℕ) (p : Past) (e : Engine) (store : List ℕ) (marks : ℕ → Mark) → Proper p → e ≡ state_of p → Follows p.start words store marks
    → (l : List Call) → AllAsked (settings_of p.start) (matcher_of p.start) e store l → Asked p e e store l (turns_asked words p marks l)
unfolding answers_asked answers_of turns_asked
asked words p e store marks h is f [] nothing = record { proper = nothing; is = refl }
asked words p e store marks h is f (submit_it i ∷ l) (submitted x rest) =
    let q : (submit e i).engine ≡ state_of (further p i) = ap (λ (g : Engine). (submit g i).engine) is ∙ sym (after_more (fresh_of p.start) p.submissions i) in
    let y = asked words (further p i) (submit e i).engine store marks (proper_more p i h x) q f l rest in
    record { proper = submission x y.proper; is = ap (λ r. answered_by i (submit e i) ∷ r) y.is }
asked words p e store marks h is f (keep_as name ∷ l) (kept_as back rest) =
    let y = asked words p e (kept e name store) _ h is (follows_kept p.start words store marks f e p.submissions h is name back) l rest in
    record { proper = y.proper; is = y.is }
asked words p e store marks h is f (restore_from name ∷ l) (restored_from rest) =
    let y = go (restored e name store).engine _ (come p.start e words store marks f name) rest (λ k x g q r. asked words (past_of p.start k) g store marks x q f l r) in
    record { proper = y.proper; is = y.is }
  where
    go : (g : Engine) (mark : Mark) → Comes p.start e g mark → AllAsked (settings_of p.start) (matcher_of p.start) g store l
        → ((k : List Submission) → let q = past_of p.start k in Proper q → (g : Engine) → g ≡ state_of q → AllAsked (settings_of p.start) (matcher_of p.start) g store l → Asked q g g store l (turns_asked words q marks l))
        → Asked p e g store l (turn_to p mark ++ turns_asked words (past_at p mark) marks l)
    go g mark (stays q) r ih =
        let y = ih p.submissions h g (q ∙ is) r in
        record { proper = y.proper; is = y.is ∙ ap (λ (x : Engine). answers_of x (turns_asked words p marks l)) q }
    go g mark (comes {l = k} x q) r ih =
        let y = ih k x g q r in
        record { proper = return x refl y.proper; is = y.is ∙ ap (λ (z : Engine). answers_of z (turns_asked words (past_of p.start k) marks l)) q }

pub own_store : OwnStore
own_store words p l h hs =
    let y = asked words p (state_of p) (replicate words 0) no_marks h refl (follows_zeros p.start words) l hs in
    record { proper = y.proper; is = y.is; promised = guarantee_of_sessions p (turns_asked words p no_marks l) h y.proper }
