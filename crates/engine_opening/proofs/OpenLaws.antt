-- Opening by its cases. Assumes nothing.
use Prim.Native.Nat.{ℕ, ◌-◌, ◌<◌, suc}
use native.Mathlib.Omega.{arith}
use mathlib.Core.Bool.{Bool, true, false, not, ◌&&◌}
use mathlib.Core.List.{List}
use mathlib.Core.Path.{◌≡◌, sym, ap, subst, ◌∙◌}
use lib.Dec.{T, ltb, ltb→lt}
use lib.ListN.{length, get_or}
use lib.Ieee.{Float, nan, lt}
use Rattle.std.specs.Prelude.{Option, None, Some}
use lib.Ieee.Scale.{finite}
use Rattle.numbers_spec.specs.Arithmetic.{zero⁺}
use Rattle.numbers_spec.specs.Rows.{all_to}
use Rattle.matcher_spec.specs.Timeline.{regular, on_time, valid_values}
use Rattle.matcher_spec.specs.Index.{Index, accepts_reference, filled}
use Rattle.matcher_spec.specs.Features.{Features}
use Rattle.engine_spec.specs.Refusals.{refuses, opening_refusal}
use Rattle.engine_spec.specs.Opening.{accepts_features, fills, matcher_of_reference, opened_index}
use Rattle.engine_spec.specs.declared.types.Configuration.{Configuration}
use Rattle.engine_spec.specs.declared.types.Refusal.{Refusal}
use Rattle.engine_spec.proofs.Tests.{and_l}

module _ (c : Configuration) (hop : Float) (reference : Features) (x : Index) where
  abbrev refusal : Option Refusal
  refusal = opening_refusal c hop reference x

  -- the buffers
  filled_by : (flag : Bool) → fills c hop reference x ≡ flag → ◌≡◌ {A = Index} record {
    fine = filled flag (matcher_of_reference hop reference).fine.values x.fine;
    coarse = filled flag (matcher_of_reference hop reference).coarse.values x.coarse;
    fine_energy = filled flag (matcher_of_reference hop reference).fine.energy x.fine_energy;
    coarse_energy = filled flag (matcher_of_reference hop reference).coarse.energy x.coarse_energy;
  } (opened_index c hop reference x)
  unfolding opened_index
  filled_by flag e = λ i. record {
    fine = filled (sym e i) (matcher_of_reference hop reference).fine.values x.fine;
    coarse = filled (sym e i) (matcher_of_reference hop reference).coarse.values x.coarse;
    fine_energy = filled (sym e i) (matcher_of_reference hop reference).fine.energy x.fine_energy;
    coarse_energy = filled (sym e i) (matcher_of_reference hop reference).coarse.energy x.coarse_energy;
  }

  pub index_kept : {r : Refusal} → refusal ≡ Some r → x ≡ opened_index c hop reference x
  unfolding fills
  index_kept h = filled_by false (ap (λ (z : Option Refusal). not (refuses z) && accepts_features hop reference) h)

  pub index_filled : refusal ≡ None → {b : Bool} {f g k l : List Float} → b ≡ accepts_features hop reference
      → f ≡ filled b (matcher_of_reference hop reference).fine.values x.fine → g ≡ filled b (matcher_of_reference hop reference).coarse.values x.coarse
      → k ≡ filled b (matcher_of_reference hop reference).fine.energy x.fine_energy → l ≡ filled b (matcher_of_reference hop reference).coarse.energy x.coarse_energy
      → ◌≡◌ {A = Index} record { fine = f; coarse = g; fine_energy = k; coarse_energy = l } (opened_index c hop reference x)
  unfolding fills
  index_filled h {b = b} y p q r t =
      let e : fills c hop reference x ≡ b = ap (λ (z : Option Refusal). not (refuses z) && accepts_features hop reference) h ∙ sym y in
      (λ i. record { fine = p i; coarse = q i; fine_energy = r i; coarse_energy = t i }) ∙ filled_by b e

pub accepted_frames : (hop : Float) (reference : Features) {b : Bool} → b ≡ accepts_features hop reference → b ≡ true → 0 < length reference.times
unfolding accepts_reference regular
accepted_frames hop reference q e =
    let n = length reference.times in
    let t = subst T (sym e ∙ q) tt in
    let r = and_l (regular hop reference.times) (ltb 0 reference.bands && valid_values reference.values) t in
    let k : 1 < n = ltb→lt 1 n (and_l (ltb 1 n) ((finite hop && (lt zero⁺ hop && finite (get_or reference.times 0 nan))) && all_to (λ (i : ℕ). on_time hop reference.times (suc i)) (n - 1)) r) in
    omega arith
