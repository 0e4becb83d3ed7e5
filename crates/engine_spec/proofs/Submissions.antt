-- What one submission gives in a state that a fresh engine reaches: refused, re-read or computed; and a list of them, step by step. Assumes nothing.
use mathlib.Core.Bool.{Bool, true, false, cond, ◌&&◌}
use mathlib.Core.List.{List, [], ◌∷◌}
use mathlib.Core.Path.{◌≡◌, refl, sym, ap, ap₂, ◌∙◌, subst}
use lib.Dec.{T}
use lib.Ieee.Scale.{finite}
use Rattle.std.specs.Prelude.{Option, None, Some}
use Rattle.std.specs.Option.{option_map_or}
use Rattle.matcher_spec.specs.Index.{Matcher}
use Rattle.engine_spec.specs.Windows.{Window, indexed, query, endpoint_of, evidence, rereads, Submission}
use Rattle.engine_spec.specs.Refusals.{valid_configuration, valid_settings, handed_refusal, submission_refusal}
use Rattle.engine_spec.specs.Opening.{fresh_engine}
use Rattle.engine_spec.specs.Publishing.{Decision, decide}
use Rattle.engine_spec.specs.Submitting.{lock_from, decision_on, reread, computed_from, refused, answered_from, submit}
use Rattle.engine_spec.specs.Guarantee.{Handed, AllHanded, nothing, next, answers, answer_to, told_by}
use Rattle.engine_spec.specs.Milestones.{reached_by}
use Rattle.engine_spec.specs.Lists.{Answered, answers_to, engine_after, remaining}
use Rattle.engine_spec.specs.Cases.{is_computed}
use Rattle.engine_spec.proofs.Effects.{Fair, Sound, Offsets, trim}
use Rattle.engine_spec.proofs.Validity.{Safe, safe_valid, safe_fresh}
use Rattle.engine_spec.specs.declared.types.Refusal.{Refusal}
use Rattle.engine_spec.specs.declared.types.RecordedMs.{RecordedMs}
use Rattle.engine_spec.specs.declared.types.Configuration.{Configuration}
use Rattle.engine_spec.specs.declared.types.Settings.{Settings}
use Rattle.engine_spec.specs.declared.types.Engine.{Engine}
use Rattle.engine_spec.specs.Results.{Answer, SubmitResult}

-- A test that comes out both ways.
pub clash : {A : Type 0} → true ≡ false → A
clash h = absurd (subst (λ (b : Bool). T b) h tt)

-- ---- the decision that a matcher brings, and what is computed from it
abbrev pub decision_by : Settings → Matcher → Engine → Submission → Decision
decision_by s m e i = decide true e.configuration s m i.window (reached_by e.milestones) (lock_from e i.window)

abbrev pub computed_by : Settings → Matcher → Engine → Submission → SubmitResult
computed_by s m e i = computed_from e i.window i.clock (decision_by s m e i)

-- ---- a state that is reached
abbrev pub is_at : Option RecordedMs → Bool
is_at None = false
is_at (Some t) = true

-- It has these settings, keeps its numbers in range, and has a last snapshot exactly where it has a last endpoint.
pub record Good (s : Settings) (e : Engine) : Type 0 where
  pub settings : e.settings ≡ s
  pub safe : Safe e
  pub shown : e.last.has_snapshot ≡ is_at e.last.endpoint_ms

-- ---- all that the list's proof takes of an opening, gathered here
pub record Grounds (s : Settings) (m : Matcher) : Type 0 where
  pub trimmed : T (finite (trim s))
  pub valid : valid_settings s ≡ true
  pub clocked : (i : Submission) → handed_refusal s i ≡ None → T (finite i.clock.0)
  pub fair : (i : Submission) → Handed s m i → handed_refusal s i ≡ None → Fair s m i.window
  pub sound : (i : Submission) → Handed s m i → handed_refusal s i ≡ None → Sound s m i.window
  pub decision : (e : Engine) (i : Submission) → e.settings ≡ s → Handed s m i → handed_refusal s i ≡ None → decision_on e i ≡ decision_by s m e i
  pub offsets : (e : Engine) (i : Submission) → Good s e → Handed s m i → handed_refusal s i ≡ None → T (indexed s) → Offsets m (query i.window) (evidence s.hop_ms i.window) (lock_from e i.window).accepted
  pub safe : (e : Engine) (i : Submission) → Good s e → Handed s m i → handed_refusal s i ≡ None → Safe (computed_by s m e i).engine

pub good_fresh : (c : Configuration) (s : Settings) (m : Matcher) → Grounds s m → valid_configuration c ≡ true → Good s (fresh_engine c s)
unfolding fresh_engine
good_fresh c s m g v = record { settings = refl; safe = safe_fresh c s v g.valid; shown = refl }

-- ---- the three kinds of answers
module _ (s : Settings) (m : Matcher) where
  -- a submission that is neither refused nor a re-reading
  pub record New (e : Engine) (i : Submission) : Type 0 where
    pub handed : Handed s m i
    pub answered : handed_refusal s i ≡ None
    pub anew : rereads s e.last.endpoint_ms i.window ≡ false

  pub data Kind (e : Engine) (i : Submission) : SubmitResult → Type 0 where
    refusal : {r : Refusal} → handed_refusal s i ≡ Some r → Kind e i (refused e r)
    again : handed_refusal s i ≡ None → rereads s e.last.endpoint_ms i.window ≡ true → Kind e i (reread e (endpoint_of i.window))
    computed : New e i → Kind e i (computed_by s m e i)

-- 7 is not answered: only what is handed in may be refused
pub refusal_is : (s : Settings) (e : Engine) (i : Submission) → Good s e → submission_refusal e i ≡ handed_refusal s i
unfolding submission_refusal
refusal_is s e i g = rw (safe_valid e g.safe, g.settings)

-- without an endpoint nothing is a re-reading
snapshot_idle : (s : Settings) (p : Option RecordedMs) (w : Window) → (is_at p && rereads s p w) ≡ rereads s p w
snapshot_idle s None w = refl
snapshot_idle s (Some t) w = refl

rereads_is : (s : Settings) (e : Engine) (w : Window) → Good s e → (e.last.has_snapshot && rereads e.settings e.last.endpoint_ms w) ≡ rereads s e.last.endpoint_ms w
rereads_is s e w g =
    ap₂ (λ (b : Bool) (t : Settings). b && rereads t e.last.endpoint_ms w) g.shown g.settings
    ∙ snapshot_idle s e.last.endpoint_ms w

-- every answer is of one of the three
pub kind : (s : Settings) (m : Matcher) → Grounds s m → (e : Engine) (i : Submission) → Good s e → Handed s m i → Kind s m e i (submit e i)
unfolding submit answered_from
kind s m g e i good h =
    rw (refusal_is s e i good, rereads_is s e i.window good)
    (go (handed_refusal s i) (rereads s e.last.endpoint_ms i.window) refl refl)
  where
    go : (r : Option Refusal) (a : Bool) → handed_refusal s i ≡ r → rereads s e.last.endpoint_ms i.window ≡ a
        → Kind s m e i (option_map_or (refused e) r (cond a (reread e (endpoint_of i.window)) (computed_from e i.window i.clock (decision_on e i))))
    go (Some r) a q p = refusal q
    go None true q p = again q p
    go None false q p =
        subst (λ (d : Decision). Kind s m e i (computed_from e i.window i.clock d)) (sym (g.decision e i good.settings h q))
        (computed (record { handed = h; answered = q; anew = p }))

-- ---- the next state is one that is reached
pub good_next : (s : Settings) (m : Matcher) → Grounds s m → (e : Engine) (i : Submission) (x : SubmitResult) → Good s e → Kind s m e i x → Good s x.engine
unfolding reread computed_from
good_next s m g e i x good (refusal q) = good
good_next s m g e i x good (again q p) = good
good_next s m g e i x good (computed n) = record { settings = good.settings; safe = g.safe e i good n.handed n.answered; shown = refl }

-- ---- a list of submissions, step by step
abbrev pub answered_by : Submission → SubmitResult → Answered
answered_by i x = record { submission = i; answer = x.answer; snapshot = x.snapshot }

-- Each state is one that is reached, and each answer of one of the three kinds.
pub data Steps (s : Settings) (m : Matcher) : Engine → List Submission → List Answered → Type 0 where
  stop : {e : Engine} → Steps s m e [] []
  step : {e : Engine} {i : Submission} {x : SubmitResult} {l : List Submission} {A : List Answered} → Good s e → Kind s m e i x → Steps s m x.engine l A → Steps s m e (i ∷ l) (answered_by i x ∷ A)

pub steps : (s : Settings) (m : Matcher) → Grounds s m → (e : Engine) (l : List Submission) → Good s e → AllHanded s m l → Steps s m e l (answers_to e l)
unfolding answers_to
steps s m g e l good nothing = stop
steps s m g e l good (next {i = i} {l = k} h rest) =
    let x = kind s m g e i good h in
    step good x (steps s m g (submit e i).engine k (good_next s m g e i (submit e i) good x) rest)

pub good_after : (s : Settings) (m : Matcher) → Grounds s m → (e : Engine) (l : List Submission) → Good s e → AllHanded s m l → Good s (engine_after e l)
unfolding engine_after
good_after s m g e l good nothing = good
good_after s m g e l good (next {i = i} {l = k} h rest) =
    good_after s m g (submit e i).engine k (good_next s m g e i (submit e i) good (kind s m g e i good h)) rest

-- ---- told: each answer, and the endpoint that the next one sees
module _ (s : Settings) (m : Matcher) (e : Engine) (i : Submission) where
  abbrev told_here : Answer
  told_here = answer_to s e.last.endpoint_ms i

  answer_is : (x : SubmitResult) → Kind s m e i x → x.answer ≡ told_here
  unfolding answer_to reread computed_from
  answer_is x (refusal q) = rw q refl
  answer_is x (again q p) = rw (q, p) refl
  answer_is x (computed n) = rw (n.answered, n.anew) refl

  endpoint_is : (x : SubmitResult) → Kind s m e i x → x.engine.last.endpoint_ms ≡ cond (is_computed told_here) (Some (endpoint_of i.window)) e.last.endpoint_ms
  unfolding answer_to reread computed_from is_computed
  endpoint_is x (refusal q) = rw q refl
  endpoint_is x (again q p) = rw (q, p) refl
  endpoint_is x (computed n) = rw (n.answered, n.anew) refl

pub told : (s : Settings) (m : Matcher) (e : Engine) (l : List Submission) (A : List Answered) → Steps s m e l A → answers A ≡ told_by s e.last.endpoint_ms l
unfolding answers told_by
told s m e l A stop = refl
told s m e l A (step {i = i} {x = x} {l = k} {A = B} good is rest) =
    ap₂ ◌∷◌ (answer_is s m e i x is) (told s m x.engine k B rest ∙ ap (λ (p : Option RecordedMs). told_by s p k) (endpoint_is s m e i x is))

-- ---- the computed answers alone, as a run in which nothing is struck
pub data Trace (s : Settings) (m : Matcher) : Engine → List Answered → Type 0 where
  end : {e : Engine} → Trace s m e []
  more : {e : Engine} {i : Submission} {A : List Answered} → Good s e → New s m e i → Trace s m (computed_by s m e i).engine A → Trace s m e (answered_by i (computed_by s m e i) ∷ A)

pub trace : (s : Settings) (m : Matcher) (e : Engine) (l : List Submission) (A : List Answered) → Steps s m e l A → Trace s m e (remaining A)
unfolding remaining is_computed reread computed_from
trace s m e l A stop = end
trace s m e l A (step {i = i} {l = k} {A = B} good (refusal q) rest) =
    trace s m e k B rest
trace s m e l A (step {l = k} {A = B} good (again q p) rest) = trace s m e k B rest
trace s m e l A (step {i = i} {l = k} {A = B} good (computed n) rest) = more good n (trace s m (computed_by s m e i).engine k B rest)
