-- The square root (document 01, Numbers; IEEE 754's squareRoot). Definitions only.
use Rattle.std.specs.Prelude.{ℕ, zero, suc, ◌+◌, ◌-◌, ◌*◌, ◌/◌, ◌^◌, ◌≤◌, ◌<◌, true, false, cond, leb, ltb, Float}
use Rattle.std.specs.Float.{nan, inf, fin, binary64}
use Rattle.std.specs.Float.Ieee.{up, down, size, units}

-- The root of n without its fraction, digit by digit: s has the digits so far, and k are left.
unfoldable pub root_from : ℕ → ℕ → ℕ → ℕ
root_from zero s n = s
root_from (suc k) s n = root_from k (cond (leb ((s + 2 ^ k) * (s + 2 ^ k)) n) (s + 2 ^ k) s) n

-- The whole number nearest to the root of an n below 2 ^ 106. No root lies halfway between two whole numbers, since (s + 1/2) ^ 2 is s * s + s + 1/4: so there is no tie to settle.
unfoldable pub near_root : ℕ → ℕ
unfolding root_from
near_root n = let s = root_from 53 0 n in cond (ltb (s * s + s) n) (suc s) s

-- c is the whole number nearest to the root of n: c - 1/2 < √n < c + 1/2, with each side squared.
pub record NearRoot (n c : ℕ) : Type 0 where
  pub above : c * c < n + c
  pub below : n ≤ c * c + c

-- The root of n units of 2 ^ -1074 is √(n * 2 ^ 1074) units. With k such that √(n * 2 ^ 1074 / 4 ^ k) has 53 digits before the point, the nearest f64 is the nearest whole number to that, times 2 ^ k.
-- That no f64 is nearer is a theorem of its own, which does not speak of this method: `NearestRoot` of RootLaws.
unfoldable pub root_units : ℕ → Float
unfolding near_root
root_units n = let k = (size n + 1075) / 2 - 53 in units binary64 false (near_root (n * 2 ^ 1074 / (2 ^ k * 2 ^ k))) k

-- The square root on all inputs: a zero keeps its sign, plus infinity is itself, and what lies below zero has none.
unfoldable pub root_of : Float → Float
unfolding root_units
root_of nan = nan
root_of (inf s) = cond s nan (inf false)
root_of (fin s zero e) = fin s zero e
root_of (fin true (suc m) e) = nan
root_of (fin false (suc m) e) = root_units (suc m * up e * 2 ^ 1074 / down e)
