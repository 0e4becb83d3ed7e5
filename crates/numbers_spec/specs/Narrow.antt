-- The nearest f32 (document 01, Numbers), and the sum by which it is worked out. Definitions only.
use Rattle.std.specs.Prelude.{ℕ, ◌+◌, ◌-◌, ◌*◌, ◌/◌, ◌%◌, ◌^◌, ◌≤◌, ◌≡◌, Float}
use Rattle.std.specs.Float.{nan, inf, fin, binary32}
use Rattle.std.specs.Float.Ieee.{up, down, round}
use Rattle.std.specs.Float.Ieee.Nearest.{closest}

-- The f32 nearest to x, a tie to the one whose last digit is even: `x as f32`.
unfoldable pub nearest_f32 : Float → Float
nearest_f32 nan = nan
nearest_f32 (inf s) = inf s
nearest_f32 (fin s m e) = round binary32 s (m * up e) (down e)

-- ---- rounding by a sum
-- a without its last k binary digits, rounded by a sum: half less one and the lowest digit kept are added, then k digits are cut off.
unfoldable pub by_sum : ℕ → ℕ → ℕ
by_sum k a = (a + (2 ^ (k - 1) - 1) + a / 2 ^ k % 2) / 2 ^ k

-- q is a / 2 ^ k to the nearest whole number, a tie to the even one. (One of the two differences is 0.)
pub record NearestWhole (k a q : ℕ) : Type 0 where
  pub near : 2 * ((a - q * 2 ^ k) + (q * 2 ^ k - a)) ≤ 2 ^ k
  pub tie : 2 * ((a - q * 2 ^ k) + (q * 2 ^ k - a)) ≡ 2 ^ k → q % 2 ≡ 0

-- The sum gives that number, whatever the number of digits dropped, from 1 on. Of none, half less one has no meaning.
abbrev pub SumNearest : Type 0
SumNearest = (k a : ℕ) → 1 ≤ k → NearestWhole k a (by_sum k a)

-- It is the whole number that IEEE 754's rounding takes.
abbrev pub SumClosest : Type 0
SumClosest = (k a : ℕ) → 1 ≤ k → by_sum k a ≡ closest a (2 ^ k)
