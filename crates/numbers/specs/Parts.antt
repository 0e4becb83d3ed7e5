-- A finite f64 as whole numbers: what the inner functions of narrowing and root hand to each other. Definitions only.
use Rattle.std.specs.Prelude.{◌≡◌, ℕ, ◌+◌, ◌-◌, ◌*◌, ◌^◌, ◌<◌, ◌≤◌, ◌⊎◌}
use Rattle.std.specs.Int.Count.{count_leading_zeros}

-- Counted in units of 2 ^ -149, the smallest f32, the number sig * 2 ^ exp * 2 ^ -1074 has 24 binary digits before the point once r of them are dropped, or fewer and r is 0.
pub record Dropped (sig exp r : ℕ) : Type 0 where
  pub below : sig * 2 ^ exp * 2 ^ 149 < 2 ^ (24 + r) * 2 ^ 1074
  pub least : (r ≡ 0) ⊎ (2 ^ (23 + r) * 2 ^ 1074 ≤ sig * 2 ^ exp * 2 ^ 149)
  pub gap : exp + 29 ≤ 925 + r
  pub small : r ≤ 2045

-- sig * 2 ^ exp with its significand brought to 53 digits: full * 2 ^ (scale - 52).
pub record Normalised (sig exp full scale : ℕ) : Type 0 where
  pub full_is : full ≡ sig * 2 ^ (count_leading_zeros 64 sig - 11)
  pub scale_is : scale ≡ exp + 52 - (count_leading_zeros 64 sig - 11)
