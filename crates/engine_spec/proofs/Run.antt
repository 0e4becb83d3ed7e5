-- The guarantee (specs/Guarantee.antt), what is proved besides of every state reached (specs/Guaranteed.antt), and that the place shown can't leap (specs/Leap.antt): by induction along a list of submissions. Assumes nothing.
use Prim.Native.Nat.{ℕ, zero, suc, ◌+◌, ◌<◌}
use mathlib.Core.Bool.{true, false}
use mathlib.Core.List.{List, ◌∷◌}
use mathlib.Core.Path.{◌≡◌, sym, ap, subst}
use native.Mathlib.Omega.{arith}
use native.Mathlib.Nat.{lt_irrefl}
use lib.Dec.{T}
use lib.ListN.{length, get_or}
use lib.Ieee.{Float}
use Rattle.std.specs.Prelude.{Option, None, Some}
use Rattle.matcher_spec.specs.Index.{Index, Matcher}
use Rattle.engine_spec.specs.Windows.{Window, rereads, Submission}
use Rattle.matcher_spec.specs.Features.{Features}
use Rattle.engine_spec.specs.Refusals.{valid_configuration, handed_refusal, submission_refusal}
use Rattle.engine_spec.specs.Opening.{fresh_engine, opened_settings, matcher_of_reference}
use Rattle.engine_spec.specs.Submitting.{shown_again, reread, computed_from}
use Rattle.engine_spec.specs.Guarantee.{AllHanded, under, Trusted, Promised, Guarantee}
use Rattle.engine_spec.specs.Guaranteed.{NeverSeven, NeverConfirmed}
use Rattle.engine_spec.specs.Leap.{Gentle, Gently, CannotLeap}
use Rattle.engine_spec.specs.Lists.{Answered, answers_to, engine_after, remaining, unanswered}
use Rattle.engine_spec.specs.Cases.{is_computed, is_refused, unreachable}
use Rattle.engine_spec.proofs.Standing.{Inv, start, Next, next}
use Rattle.engine_spec.proofs.Handed.{near_endpoint, clock_finite}
use Rattle.engine_spec.proofs.Openings.{Opening, engine_is, hop_is, configuration_valid, settings_valid, trim_finite, fair, sound, decision_is}
use Rattle.engine_spec.proofs.Validity.{safe_next, offsets_finite}
use Rattle.engine_spec.proofs.Submissions.{clash, computed_by, is_at, Good, Grounds, New, refusal, again, computed, good_fresh, good_after, refusal_is, answered_by, Steps, stop, step, steps, told, Trace, end, more, trace}
use Rattle.engine_spec.proofs.Struck.{alike, alike_self, reclocked}
use Rattle.engine_spec.specs.declared.types.RecordedMs.{RecordedMs}
use Rattle.engine_spec.specs.declared.types.Configuration.{Configuration}
use Rattle.engine_spec.specs.declared.types.Settings.{Settings}
use Rattle.engine_spec.specs.declared.types.Engine.{Engine}

-- ---- an opening that is answered gives all that the list's proof rests on
pub grounds : (c : Configuration) (hop : Float) (reference : Features) (x : Index) → Opening c hop reference x → Grounds (opened_settings hop reference) (matcher_of_reference hop reference)
grounds c hop reference x o =
    let s = opened_settings hop reference in
    record {
      trimmed = trim_finite o;
      valid = settings_valid o;
      clocked = clock_finite s;
      fair = fair o;
      sound = sound o;
      decision = decision_is o;
      offsets = λ e i good h q. offsets_finite s (matcher_of_reference hop reference) e i good.safe good.settings (sound o i h q) (near_endpoint s i q);
      safe = λ e i good h q. safe_next s (matcher_of_reference hop reference) e i good.safe good.settings (sound o i h q) (near_endpoint s i q) (clock_finite s i q);
    }

-- ---- along the computed answers
-- what is shown of each
pub record Relied (s : Settings) (m : Matcher) (a : ℕ → Answered) (n : ℕ) : Type 0 where
  pub trusted : Trusted s.hop_ms m a n
  pub usual : unreachable (a n).snapshot.state ≡ false
  pub gentle : Gentle s.hop_ms a n

module _ (s : Settings) (m : Matcher) (g : Grounds s m) (a : ℕ → Answered) where
  next_of : (n : ℕ) (e : Engine) (i : Submission) → Good s e → Inv s m a n e → New s m e i → a n ≡ answered_by i (computed_by s m e i) → Next s m a n (computed_by s m e i).engine
  next_of n e i good inv w q =
      next s m a n e i g.trimmed inv (g.fair i w.handed w.answered) (ap (λ (x : Answered). x.submission.window) q) w.anew (g.offsets e i good w.handed w.answered) (ap (λ (x : Answered). x.snapshot) q)

  -- from the answer n on, which the state e gives
  along : (n : ℕ) (e : Engine) (A : List Answered) → Trace s m e A → ((k : ℕ) → k < length A → a (n + k) ≡ get_or A k unanswered) → Inv s m a n e → (k : ℕ) → k < length A → Relied s m a (n + k)
  along n e A end h inv k l = absurd (lt_irrefl 0 (omega arith))
  along n e A (more {i = i} {A = B} good w rest) h inv k l =
      let here : a n ≡ answered_by i (computed_by s m e i) = subst (λ (j : ℕ). a j ≡ answered_by i (computed_by s m e i)) (plus_zero n) (h 0 (omega arith)) in
      let x : Next s m a n (computed_by s m e i).engine = next_of n e i good inv w here in
      go k l (record { trusted = x.trusted; usual = x.usual; gentle = x.gentle })
      (λ p v. along (suc n) (computed_by s m e i).engine B rest (λ j u. subst (λ (p : ℕ). a p ≡ get_or B j unanswered) (plus_suc n j) (h (suc j) (omega arith))) x.inv p v)
    where
      plus_zero : (n : ℕ) → n + 0 ≡ n
      plus_zero n = omega arith

      plus_suc : (n j : ℕ) → n + suc j ≡ suc n + j
      plus_suc n j = omega arith

      go : (k : ℕ) → k < suc (length B) → Relied s m a n → ((j : ℕ) → j < length B → Relied s m a (suc n + j)) → Relied s m a (n + k)
      go zero l r rs = subst (λ (p : ℕ). Relied s m a p) (sym (plus_zero n)) r
      go (suc j) l r rs = subst (λ (p : ℕ). Relied s m a p) (sym (plus_suc n j)) (rs j (omega arith))

-- from the first on
relied : (c : Configuration) (s : Settings) (m : Matcher) (g : Grounds s m) (A : List Answered) → Trace s m (fresh_engine c s) A → (k : ℕ) → k < length A → Relied s m (λ (j : ℕ). get_or A j unanswered) k
relied c s m g A t k l =
    let a : ℕ → Answered = λ (j : ℕ). get_or A j unanswered in
    subst (λ (p : ℕ). Relied s m a p) (zero_plus k)
    (along s m g a 0 (fresh_engine c s) A t (λ j u. ap (λ (p : ℕ). get_or A p unanswered) (zero_plus j)) (start s m a c) k l)
  where
    zero_plus : (j : ℕ) → 0 + j ≡ j
    zero_plus j = omega arith

-- ---- the guarantee
promised : (c : Configuration) (s : Settings) (m : Matcher) → Grounds s m → valid_configuration c ≡ true → (l : List Submission) → AllHanded s m l → Promised s.hop_ms (fresh_engine c s) m l
unfolding fresh_engine
promised c s m g v l h =
    let e = fresh_engine c s in
    let good = good_fresh c s m g v in
    let st = steps s m g e l good h in
    let tr = trace s m e l (answers_to e l) st in
    record {
      told = told s m e l (answers_to e l) st;
      struck = λ cs n t. (alike s m g e e good good (alike_self e) l h (under cs (remaining (answers_to e l))) (reclocked (remaining (answers_to e l)) cs n t)).bare;
      trusted = λ i u. (relied c s m g (remaining (answers_to e l)) tr i u).trusted;
    }

pub guarantee : Guarantee
guarantee c hop reference x held opened l h =
    let o : Opening c hop reference x = record { held = held; opened = opened } in
    let m = matcher_of_reference hop reference in
    subst (λ (e : Engine). Promised hop e m l) (sym (engine_is o))
    (subst (λ (t : Float). Promised t (fresh_engine c (opened_settings hop reference)) m l) (hop_is hop reference)
    (promised c (opened_settings hop reference) m (grounds c hop reference x o) (configuration_valid o) l h))

-- ---- no state reached is refused with 7
seven : (c : Configuration) (s : Settings) (m : Matcher) → Grounds s m → valid_configuration c ≡ true → (l : List Submission) → AllHanded s m l → (i : Submission)
    → submission_refusal (engine_after (fresh_engine c s) l) i ≡ handed_refusal (fresh_engine c s).settings i
unfolding fresh_engine
seven c s m g v l h i = refusal_is s (engine_after (fresh_engine c s) l) i (good_after s m g (fresh_engine c s) l (good_fresh c s m g v) h)

pub never_seven : NeverSeven
never_seven c hop reference x held opened l h =
    let o : Opening c hop reference x = record { held = held; opened = opened } in
    subst (λ (e : Engine). (i : Submission) → submission_refusal (engine_after e l) i ≡ handed_refusal e.settings i) (sym (engine_is o))
    (seven c (opened_settings hop reference) (matcher_of_reference hop reference) (grounds c hop reference x o) (configuration_valid o) l h)

-- ---- no answer is Confirmed, Ready or Drifting
-- Each of these shows another state;
abbrev Usual : List Answered → Type 0
Usual A = (k : ℕ) → k < length A → unreachable (get_or A k unanswered).snapshot.state ≡ false

-- or each that is not a refusal does.
abbrev UsualUnrefused : List Answered → Type 0
UsualUnrefused A = (k : ℕ) → k < length A → is_refused (get_or A k unanswered).answer ≡ false → unreachable (get_or A k unanswered).snapshot.state ≡ false

-- So does the last snapshot, which a re-reading shows.
abbrev LastUsual : Engine → Type 0
LastUsual e = T (is_at e.last.endpoint_ms) → unreachable e.last.snapshot.state ≡ false

usual_with : (x : Answered) (A : List Answered) → (is_refused x.answer ≡ false → unreachable x.snapshot.state ≡ false) → UsualUnrefused A → UsualUnrefused (x ∷ A)
usual_with x A h t zero l = h
usual_with x A h t (suc k) l = t k (omega arith)

-- without an endpoint nothing is re-read
there : (s : Settings) (p : Option RecordedMs) (w : Window) → rereads s p w ≡ true → T (is_at p)
there s None w h = clash (sym h)
there s (Some t) w h = tt

usual_along : (s : Settings) (m : Matcher) (e : Engine) (l : List Submission) (A : List Answered) → Steps s m e l A → LastUsual e → Usual (remaining A) → UsualUnrefused A
unfolding remaining is_computed is_refused reread shown_again computed_from
usual_along s m e l A stop last h = λ k u r. absurd (lt_irrefl 0 (omega arith))
usual_along s m e l A (step {i = i} {l = j} {A = B} good (refusal q) rest) last h =
    usual_with _ B (λ r. clash r) (usual_along s m e j B rest last h)
usual_along s m e l A (step {i = i} {l = j} {A = B} good (again q p) rest) last h =
    usual_with _ B (λ r. last (there s e.last.endpoint_ms i.window p)) (usual_along s m e j B rest last h)
usual_along s m e l A (step {i = i} {l = j} {A = B} good (computed n) rest) last h =
    usual_with _ B (λ r. h 0 (omega arith))
    (usual_along s m (computed_by s m e i).engine j B rest (λ t. h 0 (omega arith)) (λ k u. h (suc k) (omega arith)))

never_unusual : (c : Configuration) (s : Settings) (m : Matcher) → Grounds s m → valid_configuration c ≡ true → (l : List Submission) → AllHanded s m l → UsualUnrefused (answers_to (fresh_engine c s) l)
unfolding fresh_engine
never_unusual c s m g v l h =
    let e = fresh_engine c s in
    let st = steps s m g e l (good_fresh c s m g v) h in
    usual_along s m e l (answers_to e l) st (λ t. absurd t) (λ k u. (relied c s m g (remaining (answers_to e l)) (trace s m e l (answers_to e l) st) k u).usual)

pub never_confirmed : NeverConfirmed
never_confirmed c hop reference x held opened l h =
    let o : Opening c hop reference x = record { held = held; opened = opened } in
    subst (λ (e : Engine). UsualUnrefused (answers_to e l)) (sym (engine_is o))
    (never_unusual c (opened_settings hop reference) (matcher_of_reference hop reference) (grounds c hop reference x o) (configuration_valid o) l h)

-- ---- the place shown can't leap
moves_gently : (c : Configuration) (s : Settings) (m : Matcher) → Grounds s m → valid_configuration c ≡ true → (l : List Submission) → AllHanded s m l → Gently s.hop_ms (fresh_engine c s) l
unfolding fresh_engine
moves_gently c s m g v l h =
    let e = fresh_engine c s in
    λ i u. (relied c s m g (remaining (answers_to e l)) (trace s m e l (answers_to e l) (steps s m g e l (good_fresh c s m g v) h)) i u).gentle

pub cannot_leap : CannotLeap
cannot_leap c hop reference x held opened l h =
    let o : Opening c hop reference x = record { held = held; opened = opened } in
    let s = opened_settings hop reference in
    subst (λ (e : Engine). Gently hop e l) (sym (engine_is o))
    (subst (λ (t : Float). Gently t (fresh_engine c s) l) (hop_is hop reference) (moves_gently c s (matcher_of_reference hop reference) (grounds c hop reference x o) (configuration_valid o) l h))
