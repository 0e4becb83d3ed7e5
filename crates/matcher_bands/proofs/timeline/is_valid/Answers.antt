-- `matcher_bands::timeline::is_valid` meets its contract: what is not below zero and below plus infinity is finite. Assumes nothing.
use mathlib.Core.Bool.{true, false, ◌&&◌}
use mathlib.Core.Path.{◌≡◌, refl}
use lib.Ieee.{Float, nan, inf, fin, le, lt, of_bits}
use Rattle.numbers_spec.specs.Arithmetic.{zero⁺}
use Rattle.matcher_spec.specs.Timeline.{valid_value}
use Rattle.matcher_bands.proofs.TimelineLaws.{and_true}
use Rattle.matcher_bands.proofs.timeline.is_valid.Goals as goal

below_infinity : (v : Float) → le zero⁺ v && lt v (inf false) ≡ valid_value v
unfolding le lt
below_infinity nan = refl
below_infinity (inf true) = refl
below_infinity (inf false) = refl
below_infinity (fin s m e) = and_true (le zero⁺ (fin s m e))

pub returns : goal.returns
unfolding of_bits
returns c = below_infinity c.args.v
