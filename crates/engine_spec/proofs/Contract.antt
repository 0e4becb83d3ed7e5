-- What opening's contract says, of whatever equals what opening gives. Assumes nothing.
use mathlib.Core.Path.{◌≡◌, refl, sym, subst}
use lib.Ieee.{Float}
use Rattle.std.specs.Prelude.{Result}
use Rattle.numbers_spec.specs.Rows.{Every, F32}
use Rattle.matcher_spec.specs.Index.{Index}
use Rattle.matcher_spec.specs.Features.{Features}
use Rattle.engine_spec.specs.Opening.{opening, opened_index}
use Rattle.engine_spec.specs.declared.types.Configuration.{Configuration}
use Rattle.engine_spec.specs.declared.types.Engine.{Engine}
use Rattle.engine_spec.specs.declared.types.Refusal.{Refusal}
use Rattle.engine_spec.specs.Refusals.{opening_refusal}
use Rattle.engine_spec.specs.Results.{OpenResult, opened}
use Rattle.engine_spec.proofs.Tests.{option_elim}
use Rattle.engine_spec.proofs.Run.{guarantee, never_seven}
use Rattle.engine_spec.proofs.Openings.{opened_filled}
use Rattle.engine_spec.specs.Guaranteed.{Guaranteed, GuaranteedOf}

pub guaranteed : (c : Configuration) (hop : Float) (reference : Features) (x : Index) → Every F32 reference.values → {r : OpenResult} {y : Index} → r ≡ opening c hop reference x → y ≡ opened_index c hop reference x → Guaranteed c hop reference y r
guaranteed c hop reference x held {y = y} e f =
    subst (λ (z : OpenResult). Guaranteed c hop reference y z) (sym e)
    (subst (λ (i : Index). Guaranteed c hop reference i (opening c hop reference x)) (sym f)
    (record {
      promised = λ o l h. guarantee c hop reference x held o l h;
      never_seven = λ o l h. never_seven c hop reference x held o l h;
      index = λ o t. opened_filled c hop reference x o t;
    }))

-- And of the `Result` that code gives.
pub guaranteed_of : (c : Configuration) (hop : Float) (reference : Features) (x : Index) → Every F32 reference.values → {r : Result Engine Refusal} {y : Index} → r ≡ opened (opening c hop reference x) → y ≡ opened_index c hop reference x → GuaranteedOf c hop reference y r
unfolding opening
guaranteed_of c hop reference x held {y = y} e f =
    subst (λ (z : Result Engine Refusal). GuaranteedOf c hop reference y z) (sym e)
    (option_elim (λ (o : OpenResult). Guaranteed c hop reference y o → GuaranteedOf c hop reference y (opened o)) _ (opening_refusal c hop reference x) _
    (λ _ g. g) (λ _ _ _. tt) (guaranteed c hop reference x held refl f))
