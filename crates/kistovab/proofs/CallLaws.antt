-- What a call's answer says of the definitions' one: the code of a refusal, and what is answered where nothing is refused. Assumes nothing.
use Prim.Native.Nat.{ℕ, ◌<◌}
use native.Mathlib.Omega.{arith}
use mathlib.Core.Bool.{true, false, ◌&&◌}
use mathlib.Core.List.{List}
use mathlib.Core.Path.{◌≡◌, refl, sym, ap, ◌∙◌, subst}
use lib.Dec.{T, ltb→lt}
use lib.ListN.{drop}
use lib.Ieee.{Float}
use Rattle.std.specs.Prelude.{Option, None, Some, Ok, Err}
use Rattle.matcher_spec.specs.Features.{Features}
use Rattle.matcher_spec.specs.Index.{Index}
use Rattle.engine_spec.specs.Windows.{Submission, rereads, endpoint_of}
use Rattle.engine_spec.specs.Refusals.{number_of, opening_refusal, submission_refusal}
use Rattle.engine_spec.specs.Results.{OpenResult, SubmitResult, Answer, Opened, Computed, Reread, Refused, unless_refused, kind_of, opened, given_by, submitted}
use Rattle.engine_spec.specs.Opening.{opening}
use Rattle.engine_spec.specs.Submitting.{reread, computed_from, decision_on, answered_from, submit}
use Rattle.engine_spec.specs.declared.types.AnswerKind.{AnswerKind}
use Rattle.engine_spec.specs.declared.types.AnswerKind.TheVariants as kind
use Rattle.engine_spec.specs.declared.types.Configuration.{Configuration}
use Rattle.engine_spec.specs.declared.types.Engine.{Engine}
use Rattle.engine_spec.specs.declared.types.Refusal.{Refusal}
use Rattle.engine_spec.specs.declared.types.Refusal.TheVariants as refusal
use Rattle.engine_spec.specs.declared.types.Submitted.{Submitted}
use Rattle.engine_spec.proofs.Handed.{refuses_by_number}
use Rattle.engine_spec.proofs.Results.{opened_refused}
use Rattle.engine_spec.proofs.Tests.{cond_elim}
use Rattle.engine.proofs.StoredLaws.{kept_where_refused}
use Rattle.engine_layout.specs.Layout.{state_words, snapshot_words, state_in, snapshot_in}
use Rattle.kistovab.specs.Codes.{code_of, kind_code, answers}
use Rattle.kistovab.specs.Calls.{Opens, Submits}

-- ---- codes
pub over : (r : Refusal) → 0 < number_of r
over r = ltb→lt 0 (number_of r) (subst T (refuses_by_number (Some r)) tt)

unanswered : (r : Refusal) → answers (number_of r) ≡ false
unfolding number_of
unanswered refusal.InvalidConfiguration = refl
unanswered refusal.HopOutOfRange = refl
unanswered refusal.ReferenceTooLarge = refl
unanswered refusal.ReferenceMiscounted = refl
unanswered refusal.ReferenceTimeTooFar = refl
unanswered refusal.IndexTooShort = refl
unanswered refusal.StateOutOfRange = refl
unanswered refusal.ClockNotFinite = refl
unanswered refusal.NoFrames = refl
unanswered refusal.WindowTooLarge = refl
unanswered refusal.WindowInvalid = refl
unanswered refusal.WindowTimeOutOfRange = refl
unanswered refusal.WorkTooShort = refl
unanswered refusal.NameOutOfRange = refl
unanswered refusal.StoreTooShort = refl
unanswered refusal.NothingKept = refl

pub answers_kind : (k : AnswerKind) → answers (kind_code k) ≡ true
unfolding kind_code
answers_kind kind.Computed = refl
answers_kind kind.Reread = refl

module _ {A : Type 0} where
  -- Refused, the definition's answer has the refusal's number.
  pub code_refused : (a : Answer) (x : A) {r : Refusal} → Err r ≡ unless_refused a x → number_of r ≡ code_of a
  unfolding code_of
  code_refused Opened x h = let z : ◌≡◌ {A = ℕ} 0 1 = cc in absurd (omega arith)
  code_refused Computed x h = let z : ◌≡◌ {A = ℕ} 0 1 = cc in absurd (omega arith)
  code_refused Reread x h = let z : ◌≡◌ {A = ℕ} 0 1 = cc in absurd (omega arith)
  code_refused (Refused s) x h = ap number_of cc

  -- Not refused, it has the number of how it was answered.
  pub code_given : (a : Answer) (x : A) {d : A} → Ok d ≡ unless_refused a x → (kind_code (kind_of a) ≡ code_of a) × (d ≡ x)
  unfolding code_of kind_code
  code_given Opened x h = (refl, cc)
  code_given Computed x h = (refl, cc)
  code_given Reread x h = (refl, cc)
  code_given (Refused s) x h = let z : ◌≡◌ {A = ℕ} 0 1 = cc in absurd (omega arith)

-- ---- opening
module _ (c : Configuration) (hop : Float) (f : Features) (x : Index) where
  go : (o : Option Refusal) → opening_refusal c hop f x ≡ o → {e : Engine} → Ok e ≡ opened (opening c hop f x) → 0 ≡ code_of (opening c hop f x).answer
  unfolding opening code_of
  go None q h = rw q refl
  go (Some r) q h =
      let clash = h ∙ opened_refused c hop f x q in
      let z : ◌≡◌ {A = ℕ} 0 1 = cc in absurd (omega arith)

  pub code_opened : {e : Engine} → Ok e ≡ opened (opening c hop f x) → 0 ≡ code_of (opening c hop f x).answer
  code_opened h = go (opening_refusal c hop f x) refl h

pub refused_opens : (r : Refusal) (o : OpenResult) (state : List ℕ) → Opens (number_of r) o state state
refused_opens r o state = record { held = λ z. absurd (omega (arith, over r)); untouched = λ z. refl; tail = refl }

-- ---- submission
module _ (e : Engine) (i : Submission) where
  again : kind_of (answered_from e i).answer ≡ kind.Reread → (answered_from e i).engine ≡ e
  unfolding answered_from reread computed_from
  again =
      cond_elim (λ (s : SubmitResult). kind_of s.answer ≡ kind.Reread → s.engine ≡ e) (e.last.has_snapshot && rereads e.settings e.last.endpoint_ms i.window)
      (reread e (endpoint_of i.window)) (computed_from e i.window i.clock (decision_on e i)) (λ _ h. refl) (λ _ h. let z : ◌≡◌ {A = ℕ} 0 1 = cc in absurd (omega arith))

  goes : (o : Option Refusal) → submission_refusal e i ≡ o → kind_of (submit e i).answer ≡ kind.Reread → (submit e i).engine ≡ e
  unfolding submit
  goes None q = rw q again
  goes (Some r) q = rw q (λ h. refl)

  -- A re-reading leaves the engine.
  kept_where_reread : kind_of (submit e i).answer ≡ kind.Reread → (submit e i).engine ≡ e
  kept_where_reread = goes (submission_refusal e i) refl

pub refused_submits : (state : List ℕ) (i : Submission) (r : Refusal) (snapshot : List ℕ) → Err r ≡ submitted (submit (state_in state) i) → Submits (number_of r) (submit (state_in state) i) state state snapshot snapshot
refused_submits state i r snapshot h = record {
  held = λ z. kept_where_refused (state_in state) i (sym h);
  untouched = λ z. refl;
  shown = λ z. let y : false ≡ true = sym (unanswered r) ∙ z in let w : ◌≡◌ {A = ℕ} 0 1 = cc in absurd (omega arith);
  unshown = λ z. refl;
  tail = refl;
  shown_tail = refl;
}

-- The state's words are written where it is computed, and else left.
module _ (state : List ℕ) (i : Submission) (d : Submitted) (h : Ok d ≡ submitted (submit (state_in state) i)) where
  is : d ≡ given_by (submit (state_in state) i)
  is = (code_given (submit (state_in state) i).answer (given_by (submit (state_in state) i)) h).1

  pub code_submitted : kind_code d.answer ≡ code_of (submit (state_in state) i).answer
  code_submitted = ap (λ (x : Submitted). kind_code x.answer) is ∙ (code_given (submit (state_in state) i).answer (given_by (submit (state_in state) i)) h).0

  module _ {state' snapshot snapshot' : List ℕ} (shown : snapshot_in snapshot' ≡ d.snapshot) (shown_tail : drop snapshot_words snapshot' ≡ drop snapshot_words snapshot) where
    given : (state_in state' ≡ (submit (state_in state) i).engine) → (0 < kind_code d.answer → state' ≡ state) → (drop state_words state' ≡ drop state_words state) → Submits (kind_code d.answer) (submit (state_in state) i) state state' snapshot snapshot'
    given held untouched tail = record {
      held = λ z. held;
      untouched = untouched;
      shown = λ z. shown ∙ ap (λ (x : Submitted). x.snapshot) is;
      unshown = λ z. let y : true ≡ false = sym (answers_kind d.answer) ∙ z in let w : ◌≡◌ {A = ℕ} 0 1 = cc in absurd (omega arith);
      tail = tail;
      shown_tail = shown_tail;
    }

    pub computed_submits : d.answer ≡ kind.Computed → state_in state' ≡ d.engine → drop state_words state' ≡ drop state_words state → Submits (kind_code d.answer) (submit (state_in state) i) state state' snapshot snapshot'
    unfolding kind_code
    computed_submits k w t =
        given (w ∙ ap (λ (x : Submitted). x.engine) is) (λ z. let n : kind_code d.answer ≡ 0 = ap kind_code k in absurd (omega (arith, n))) t

    pub reread_submits : d.answer ≡ kind.Reread → state' ≡ state → Submits (kind_code d.answer) (submit (state_in state) i) state state' snapshot snapshot'
    reread_submits k w =
        given (ap state_in w ∙ sym (kept_where_reread (state_in state) i (sym (ap (λ (x : Submitted). x.answer) is) ∙ k))) (λ z. w) (ap (drop state_words) w)
