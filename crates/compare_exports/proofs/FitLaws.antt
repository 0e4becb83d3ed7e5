-- How many values, and how many energies, bands within the limits have. Assumes nothing.
use Rattle.std.proofs.Common.{ℕ, ◌+◌, ◌*◌, ◌≤◌, arith}
use Rattle.std.proofs.Math.Nat.{mul-le-mul}

-- k bands of at most m values have no fewer.
pub few : {b k n m : ℕ} → b ≤ k → n ≤ m → (b * n ≤ k * m) × (b * (n + 1) ≤ k * (m + 1))
few {n = n} {m = m} h l = let more : n + 1 ≤ m + 1 = omega arith in (mul-le-mul h l, mul-le-mul h more)
