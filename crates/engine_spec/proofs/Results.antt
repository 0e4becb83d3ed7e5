-- What code gives back, by the refusal that there is or is not: opening, submission and support age. Assumes nothing.
use mathlib.Core.Bool.{true, false, ◌&&◌}
use mathlib.Core.Path.{◌≡◌, refl}
use lib.Ieee.{Float}
use Rattle.std.specs.Prelude.{None, Some, Ok, Err}
use Rattle.matcher_spec.specs.Features.{Features}
use Rattle.matcher_spec.specs.Index.{Index}
use Rattle.engine_spec.specs.Windows.{Submission, rereads, endpoint_of}
use Rattle.engine_spec.specs.Refusals.{valid_engine, opening_refusal, submission_refusal}
use Rattle.engine_spec.specs.Results.{SubmitResult, opened, given_by, submitted, aged}
use Rattle.engine_spec.specs.Opening.{fresh_engine, opened_settings, opening}
use Rattle.engine_spec.specs.Submitting.{reread, computed_from, decision_on, answered_from, submit}
use Rattle.engine_spec.specs.SupportAge.{support_age}
use Rattle.engine_spec.specs.declared.types.Configuration.{Configuration}
use Rattle.engine_spec.specs.declared.types.Engine.{Engine}
use Rattle.engine_spec.specs.declared.types.Refusal.{Refusal}
use Rattle.engine_spec.specs.declared.types.Refusal.TheVariants as refusal
use Rattle.engine_spec.proofs.Tests.{cond_elim}

-- ---- opening
module _ (c : Configuration) (hop : Float) (reference : Features) (x : Index) where
  pub opened_refused : {r : Refusal} → opening_refusal c hop reference x ≡ Some r → opened (opening c hop reference x) ≡ Err r
  unfolding opening
  opened_refused e = rw e refl

  pub opened_fresh : opening_refusal c hop reference x ≡ None → opened (opening c hop reference x) ≡ Ok (fresh_engine c (opened_settings hop reference))
  unfolding opening
  opened_fresh e = rw e refl

-- ---- submission
module _ (e : Engine) (i : Submission) where
  pub submitted_refused : {r : Refusal} → submission_refusal e i ≡ Some r → submitted (submit e i) ≡ Err r
  unfolding submit
  submitted_refused h = rw h refl

  -- What is not refused is answered.
  answered : submitted (answered_from e i) ≡ Ok (given_by (answered_from e i))
  unfolding answered_from reread computed_from
  answered =
      cond_elim (λ (s : SubmitResult). submitted s ≡ Ok (given_by s)) (e.last.has_snapshot && rereads e.settings e.last.endpoint_ms i.window)
      (reread e (endpoint_of i.window)) (computed_from e i.window i.clock (decision_on e i)) (λ _. refl) (λ _. refl)

  pub submitted_answered : submission_refusal e i ≡ None → submitted (submit e i) ≡ Ok (given_by (answered_from e i))
  unfolding submit
  submitted_answered h = rw h answered

-- ---- support age
pub aged_refused : (e : Engine) → valid_engine e ≡ false → aged (support_age e) ≡ Err refusal.StateOutOfRange
unfolding support_age
aged_refused e h = rw h refl

pub aged_found : (e : Engine) → valid_engine e ≡ true → aged (support_age e) ≡ Ok (support_age e).coast_ms
unfolding support_age
aged_found e h = rw h refl
