-- A refused submission leaves the engine. Assumes nothing.
use Prim.Native.Nat.{ℕ}
use native.Mathlib.Omega.{arith}
use mathlib.Core.Path.{◌≡◌, refl, sym, ◌∙◌}
use Rattle.std.specs.Prelude.{Option, None, Some, Err}
use Rattle.engine_spec.specs.Windows.{Submission}
use Rattle.engine_spec.specs.Refusals.{submission_refusal}
use Rattle.engine_spec.specs.Results.{submitted}
use Rattle.engine_spec.specs.Submitting.{submit}
use Rattle.engine_spec.specs.declared.types.Engine.{Engine}
use Rattle.engine_spec.specs.declared.types.Refusal.{Refusal}
use Rattle.engine_spec.proofs.Results.{submitted_answered}

module _ (e : Engine) (i : Submission) {r : Refusal} (h : submitted (submit e i) ≡ Err r) where
  go : (o : Option Refusal) → submission_refusal e i ≡ o → e ≡ (submit e i).engine
  unfolding submit
  go None q =
      let clash = sym (submitted_answered e i q) ∙ h in
      let z : ◌≡◌ {A = ℕ} 0 1 = cc in absurd (omega arith)
  go (Some s) q = rw q refl

  pub kept_where_refused : e ≡ (submit e i).engine
  kept_where_refused = go (submission_refusal e i) refl
