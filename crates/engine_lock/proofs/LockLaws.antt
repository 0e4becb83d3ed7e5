-- Numbers that are none, for `least`. Assumes nothing.
use Prim.Native.Nat.{◌*◌}
use mathlib.Core.Bool.{true, false, not}
use mathlib.Core.Path.{◌≡◌, refl, sym, ◌∙◌}
use borrow.Author.Tests.{eq-eqb, not-true, not-false}
use lib.Ieee.{Float, nan, inf, fin, eq, is_nan, up, down}

eq_self : (y : Float) → eq y y ≡ not (is_nan y)
unfolding eq is_nan
eq_self nan = refl
eq_self (inf true) = refl
eq_self (inf false) = refl
eq_self (fin true m e) = rw (eq-eqb (m * up e * down e) (m * up e * down e) refl) refl
eq_self (fin false m e) = rw (eq-eqb (m * up e * down e) (m * up e * down e) refl) refl

pub no_nan : (y : Float) → eq y y ≡ true → is_nan y ≡ false
no_nan y h = not-true (is_nan y) (sym (eq_self y) ∙ h)

pub nan_passed : (y : Float) → eq y y ≡ false → is_nan y ≡ true
nan_passed y h = not-false (is_nan y) (sym (eq_self y) ∙ h)
