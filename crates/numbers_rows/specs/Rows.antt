-- Functions of `numbers`, of each element of a row. Definitions only.
use Rattle.std.specs.Prelude.{ℕ, ◌+◌, ◌*◌, ◌^◌, ◌≤◌, ◌<◌, ◌≡◌, Float}
use Rattle.std.specs.Float.{binary64}
use Rattle.std.specs.Float.Ieee.{of_bits}

-- s is digits * 2 ^ place units of 2 ^ -1074, with 2 ^ 52 < digits ≤ 2 ^ 53, and lies where its square and the parts of it are normal numbers.
pub record Ranged (s : Float) : Type 0 where
  pub place : ℕ
  pub digits : ℕ
  pub is : s ≡ of_bits binary64 (place * 2 ^ 52 + digits)
  pub digits_gt : 2 ^ 52 < digits
  pub digits_le : digits ≤ 2 ^ 53
  pub place_ge : 537 ≤ place
  pub place_le : place ≤ 1500
