-- Rounding to whole, floor and ceiling (document 01, Numbers), over the magnitude m * up e / down e of a finite value. Definitions only.
-- The sign stays, at a zero too, as in Rust: -0.4 rounds to -0.0. An infinity and a NaN are given back.
use Rattle.std.specs.Prelude.{ℕ, suc, ◌+◌, ◌*◌, ◌/◌, ◌%◌, cond, eqb, Float}
use Rattle.std.specs.Float.{nan, inf, fin, binary64}
use Rattle.std.specs.Float.Ieee.{up, down, round}

-- ---- n / d as a whole number: to the nearest with a half going up, and upward. Downward is n / d itself.
abbrev pub half_up : ℕ → ℕ → ℕ
half_up n d = (2 * n + d) / (2 * d)

abbrev pub upward : ℕ → ℕ → ℕ
upward n d = cond (eqb (n % d) 0) (n / d) (suc (n / d))

-- x to the nearest whole number, a half away from zero: `f64::round`.
unfoldable pub whole_nearest : Float → Float
whole_nearest nan = nan
whole_nearest (inf s) = inf s
whole_nearest (fin s m e) = round binary64 s (half_up (m * up e) (down e)) 1

-- The largest whole number that is not above x: `f64::floor`. Below zero the magnitude goes up.
unfoldable pub whole_below : Float → Float
whole_below nan = nan
whole_below (inf s) = inf s
whole_below (fin s m e) = round binary64 s (cond s (upward (m * up e) (down e)) (m * up e / down e)) 1

-- The smallest whole number that is not below x: `f64::ceil`.
unfoldable pub whole_above : Float → Float
whole_above nan = nan
whole_above (inf s) = inf s
whole_above (fin s m e) = round binary64 s (cond s (m * up e / down e) (upward (m * up e) (down e))) 1
