-- What the last computed answer of a list leaves in the state: re-readings and support ages along any list. Assumes nothing.
use Prim.Native.Nat.{ℕ, suc, ◌-◌, ◌<◌}
use mathlib.Core.Bool.{Bool, true, false, cond, ◌&&◌}
use mathlib.Core.List.{List, [], ◌∷◌}
use mathlib.Core.Path.{◌≡◌, refl, sym, ap, ◌∙◌, subst}
use native.Mathlib.Omega.{arith}
use lib.Dec.{T}
use lib.ListN.{length, get_or}
use Rattle.std.specs.Prelude.{Option, None, Some}
use Rattle.std.specs.Option.{option_map_or}
use Rattle.matcher_spec.specs.Index.{Matcher}
use Rattle.engine_spec.specs.Cases.{is_computed}
use Rattle.engine_spec.specs.Windows.{Submission, endpoint_of, rereads}
use Rattle.engine_spec.specs.Refusals.{valid_configuration, valid_engine, submission_refusal}
use Rattle.engine_spec.specs.Opening.{fresh_engine, opened_settings, matcher_of_reference}
use Rattle.engine_spec.specs.Submitting.{shown_again, reread, decision_on, computed_from, refused, answered_from, submit}
use Rattle.engine_spec.specs.SupportAge.{support_age}
use Rattle.engine_spec.specs.Lists.{Answered, answers_to, engine_after, remaining, unanswered}
use Rattle.engine_spec.specs.Guarantee.{AllHanded, nothing, next}
use Rattle.engine_spec.specs.Guaranteed.{last_of, ReadAgain, Rereadings, age_left, SupportAges}
use Rattle.engine_spec.specs.declared.types.Refusal.{Refusal}
use Rattle.engine_spec.specs.declared.types.Configuration.{Configuration}
use Rattle.engine_spec.specs.declared.types.Settings.{Settings}
use Rattle.engine_spec.specs.declared.types.Snapshot.{Snapshot}
use Rattle.engine_spec.specs.declared.types.Last.{Last}
use Rattle.engine_spec.specs.declared.types.Engine.{Engine}
use Rattle.engine_spec.specs.Results.{Answer, SubmitResult}
use Rattle.engine_spec.specs.Results as answer
use Rattle.engine_spec.proofs.Tests.{and_l, T-is}
use Rattle.engine_spec.proofs.Validity.{safe_valid}
use Rattle.engine_spec.proofs.Openings.{Opening, engine_is, configuration_valid}
use Rattle.engine_spec.proofs.Submissions.{clash, answered_by, Good, Grounds, Kind, refusal, again, computed, kind, good_fresh, good_next, good_after}
use Rattle.engine_spec.proofs.Run.{grounds}

-- ---- the last of a list
last_more : (x y : Answered) (l : List Answered) → last_of (x ∷ y ∷ l) ≡ last_of (y ∷ l)
last_more x y l = at (length (x ∷ y ∷ l) - 1) (length (y ∷ l) - 1) (omega arith)
  where
    at : (n k : ℕ) → n ≡ suc k → get_or (x ∷ y ∷ l) n unanswered ≡ get_or (y ∷ l) k unanswered
    at n k e = ap (λ (j : ℕ). get_or (x ∷ y ∷ l) j unanswered) e

-- What a state holds as its last, where these answers were computed since another: that one's, or the snapshot of the last of them.
abbrev Left : Last → Last → List Answered → Type 0
Left before after [] = after ≡ before
Left before after (x ∷ l) = (after.has_snapshot ≡ true) × (after.snapshot ≡ (last_of (x ∷ l)).snapshot)

left_more : (before here after : Last) (x : Answered) (l : List Answered) → here.has_snapshot ≡ true → here.snapshot ≡ x.snapshot → Left here after l → Left before after (x ∷ l)
left_more before here after x [] h s e = (ap (λ (t : Last). t.has_snapshot) e ∙ h, ap (λ (t : Last). t.snapshot) e ∙ s)
left_more before here after x (y ∷ l) h s e = (e.0, e.1 ∙ ap (λ (a : Answered). a.snapshot) (sym (last_more x y l)))

-- ---- along a list
left_step : (s : Settings) (m : Matcher) (e : Engine) (i : Submission) (x : SubmitResult) → Kind s m e i x → (after : Last) (A : List Answered) → Left x.engine.last after (remaining A) → Left e.last after (remaining (answered_by i x ∷ A))
unfolding remaining is_computed reread computed_from
left_step s m e i x (refusal q) after A h = h
left_step s m e i x (again q p) after A h = h
left_step s m e i x (computed n) after A h = left_more e.last x.engine.last after (answered_by i x) (remaining A) refl refl h

left : (s : Settings) (m : Matcher) → Grounds s m → (e : Engine) (l : List Submission) → Good s e → AllHanded s m l → Left e.last (engine_after e l).last (remaining (answers_to e l))
unfolding engine_after answers_to remaining
left s m g e l good nothing = refl
left s m g e l good (next {i = i} {l = k} h rest) =
    let x = kind s m g e i good h in
    left_step s m e i (submit e i) x (engine_after (submit e i).engine k).last (answers_to (submit e i).engine k) (left s m g (submit e i).engine k (good_next s m g e i (submit e i) good x) rest)

-- ---- re-readings
is_reread : Answer → Bool
is_reread answer.Opened = false
is_reread answer.Computed = false
is_reread answer.Reread = true
is_reread (answer.Refused r) = false

-- Of what a submission may give, only a re-reading is answered so; it takes a last snapshot.
pub record Again (e : Engine) (i : Submission) : Type 0 where
  pub held : e.last.has_snapshot ≡ true
  pub is : (submit e i).snapshot ≡ shown_again (endpoint_of i.window) e.milestones e.last.snapshot

read_again : (e : Engine) (i : Submission) → (submit e i).answer ≡ answer.Reread → Again e i
unfolding submit answered_from reread computed_from is_reread
read_again e i h = go (submission_refusal e i) (e.last.has_snapshot && rereads e.settings e.last.endpoint_ms i.window) refl refl (subst (λ (a : Answer). T (is_reread a)) (sym h) tt)
  where
    go : (r : Option Refusal) (b : Bool) → submission_refusal e i ≡ r → (e.last.has_snapshot && rereads e.settings e.last.endpoint_ms i.window) ≡ b
        → T (is_reread (option_map_or (refused e) r (cond b (reread e (endpoint_of i.window)) (computed_from e i.window i.clock (decision_on e i)))).answer) → Again e i
    go (Some r) b p q t = absurd t
    go None false p q t = absurd t
    go None true p q t = record { held = T-is e.last.has_snapshot (and_l e.last.has_snapshot _ (subst T (sym q) tt)); is = rw (p, q) refl }

again_left : (e f : Engine) (l : List Submission) (i : Submission) (R : List Answered) → e.last.has_snapshot ≡ false → Left e.last f.last R → Again f i
    → (0 < length R) × ((submit f i).snapshot ≡ shown_again (endpoint_of i.window) f.milestones (last_of R).snapshot)
again_left e f l i [] n h a = clash (sym a.held ∙ ap (λ (t : Last). t.has_snapshot) h ∙ n)
again_left e f l i (x ∷ R) n h a = (omega arith, a.is ∙ ap (λ (s : Snapshot). shown_again (endpoint_of i.window) f.milestones s) h.1)

module _ (c : Configuration) (s : Settings) (m : Matcher) (g : Grounds s m) (v : valid_configuration c ≡ true) (l : List Submission) (h : AllHanded s m l) where
  abbrev fresh : Engine
  fresh = fresh_engine c s

  reached_left : Left fresh.last (engine_after fresh l).last (remaining (answers_to fresh l))
  reached_left = left s m g fresh l (good_fresh c s m g v) h

  rereading : (i : Submission) → (submit (engine_after (fresh_engine c s) l) i).answer ≡ answer.Reread → ReadAgain (fresh_engine c s) l i
  rereading i t =
      let x = again_left fresh (engine_after fresh l) l i (remaining (answers_to fresh l)) (unfold fresh_engine in refl) reached_left (read_again (engine_after fresh l) i t) in
      record { some = x.0; is = x.1 }

  -- ---- support ages
  age_left_lem : (e f : Engine) (R : List Answered) → e.last.has_snapshot ≡ false → valid_engine f ≡ true → Left e.last f.last R → support_age f ≡ record { refusal = None; coast_ms = age_left R }
  unfolding support_age
  age_left_lem e f [] n q h = rw (q, ap (λ (t : Last). t.has_snapshot) h ∙ n) refl
  age_left_lem e f (x ∷ R) n q h = rw (q, h.0, h.1) refl

  age : support_age (engine_after (fresh_engine c s) l) ≡ record { refusal = None; coast_ms = age_left (remaining (answers_to (fresh_engine c s) l)) }
  age =
      age_left_lem fresh (engine_after fresh l) (remaining (answers_to fresh l)) (unfold fresh_engine in refl)
      (safe_valid (engine_after fresh l) (good_after s m g fresh l (good_fresh c s m g v) h).safe) reached_left

pub rereadings : Rereadings
rereadings c hop reference x held opened l h =
    let o : Opening c hop reference x = record { held = held; opened = opened } in
    subst (λ (e : Engine). (i : Submission) → (submit (engine_after e l) i).answer ≡ answer.Reread → ReadAgain e l i) (sym (engine_is o))
    (rereading c (opened_settings hop reference) (matcher_of_reference hop reference) (grounds c hop reference x o) (configuration_valid o) l h)

pub support_ages : SupportAges
support_ages c hop reference x held opened l h =
    let o : Opening c hop reference x = record { held = held; opened = opened } in
    subst (λ (e : Engine). support_age (engine_after e l) ≡ record { refusal = None; coast_ms = age_left (remaining (answers_to e l)) }) (sym (engine_is o))
    (age c (opened_settings hop reference) (matcher_of_reference hop reference) (grounds c hop reference x o) (configuration_valid o) l h)
