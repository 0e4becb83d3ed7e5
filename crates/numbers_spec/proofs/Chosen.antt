-- L of the m and e chosen is the L chosen. Assumes nothing.
use mathlib.Core.Bool.{Bool, true, false, cond}
use mathlib.Core.Path.{◌≡◌, refl}
use lib.Ieee.{Float}
use Rattle.numbers_spec.specs.Arithmetic.{◌⊕◌, ◌⊗◌, one}
use Rattle.numbers_spec.specs.Logarithm.{half, log_at}

pub chosen : (b : Bool) (m e : Float) → log_at (cond b (m ⊗ half) m) (cond b (e ⊕ one) e) ≡ cond b (log_at (m ⊗ half) (e ⊕ one)) (log_at m e)
chosen true m e = refl
chosen false m e = refl
