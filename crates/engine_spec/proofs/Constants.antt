-- Each constant is its decimal rounded, by computation, and `round` gives the nearest value. Assumes nothing.
use Prim.Native.Nat.{◌^◌}
use mathlib.Core.Bool.{true}
use mathlib.Core.List.{List, [], ◌∷◌, map, head-eq_of_cons-eq, tail-eq_of_cons-eq}
use mathlib.Core.Path.{◌≡◌, refl, sym}
use native.Mathlib.Nat.{zero-lt-suc, one-le-pow}
use lib.Ieee.{round, units, size, of_bits}
use lib.Ieee.Scale.{finite}
use Rattle.numbers_spec.proofs.Nearest.{round_nearest}
use Rattle.engine_spec.specs.Opening.{default_configuration}
use Rattle.engine_spec.specs.Constants.{Constant, constants, All, nearest, Rounded, Closest, Constants, NearestClosest}

-- What agrees along the list agrees at each constant, so that one computation serves all of them.
each : {A : Type 0} (f g : Constant → A) (l : List Constant) → map f l ≡ map g l → All (λ (c : Constant). f c ≡ g c) l
each f g [] e = tt
each f g (c ∷ l) e = (head-eq_of_cons-eq e, each f g l (tail-eq_of_cons-eq e))

pub constants_rounded : Constants
unfolding of_bits round units size default_configuration
constants_rounded = each (λ (c : Constant). c.value) (λ (c : Constant). nearest c.format c.decimal) constants refl

-- ---- nearest in value
abbrev Finite : Constant → Type 0
Finite c = finite c.value ≡ true

all_finite : All Finite constants
unfolding of_bits default_configuration
all_finite = each (λ (c : Constant). finite c.value) (λ (c : Constant). true) constants refl

closest : (c : Constant) → Rounded c → Finite c → Closest c
closest c e h =
    let d = c.decimal in
    rw e (round_nearest c.format d.sign d.digits (10 ^ d.places) (one-le-pow d.places 10 (zero-lt-suc 9)) (rw (sym e, h) tt))

all_closest : (l : List Constant) → All Rounded l → All Finite l → All Closest l
all_closest [] e h = tt
all_closest (c ∷ l) e h = (closest c e.0 h.0, all_closest l e.1 h.1)

pub nearest_closest : NearestClosest
nearest_closest = all_closest constants constants_rounded all_finite
