-- Narrowing keeps the order, and gives an f32. Assumes nothing.
use mathlib.Core.Path.{refl}
use Prim.Native.Nat.{◌*◌}
use lib.Dec.{T}
use lib.Ieee.{Float, nan, inf, fin, binary32, up, down, le}
use lib.Ieee.Fits.{down_pos, round-fits, nan-fits, inf-fits}
use lib.Ieee.Scale.{finite}
use Rattle.numbers_spec.specs.Narrow.{nearest_f32}
use Rattle.numbers_spec.specs.Values.{Number}
use Rattle.numbers_spec.specs.FloatLaws.{NarrowMonotone, NarrowFits}
use Rattle.numbers_spec.proofs.Order.{P, N, le→below, monotone_of_finite}
use Rattle.numbers_spec.proofs.Rounding.{signed_mono, round_sided, sided_number, is_own}

finite_narrow : (x y : Float) → T (finite x) → T (finite y) → T (le x y) → T (le (nearest_f32 x) (nearest_f32 y))
finite_narrow nan y X Y h = absurd X
finite_narrow (inf s) y X Y h = absurd X
finite_narrow (fin s m e) nan X Y h = absurd Y
finite_narrow (fin s m e) (inf t) X Y h = absurd Y
finite_narrow (fin s m e) (fin t n d) X Y h =
    unfold nearest_f32 in
    signed_mono binary32 s (m * up e) (P s (m * up e)) (N s (m * up e)) (down e) t (n * up d) (P t (n * up d)) (N t (n * up d)) (down d) (down_pos e) (down_pos d) (is_own s (m * up e)) (is_own t (n * up d))
    (le→below (fin s m e) (fin t n d) tt tt h)

narrow_number : (x : Float) → T (finite x) → Number (nearest_f32 x)
narrow_number nan X = absurd X
narrow_number (inf s) X = absurd X
narrow_number (fin s m e) X = unfold nearest_f32 in sided_number s _ (round_sided binary32 s (m * up e) (down e))

pub narrow_mono : NarrowMonotone
narrow_mono = monotone_of_finite nearest_f32 (λ s. unfold nearest_f32 in refl) narrow_number finite_narrow

pub narrow_fits : NarrowFits
unfolding nearest_f32
narrow_fits nan = nan-fits binary32
narrow_fits (inf s) = inf-fits binary32 s
narrow_fits (fin s m e) = round-fits binary32 s (m * up e) (down e)
