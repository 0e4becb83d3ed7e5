-- Bounds of products. Assumes nothing.
use Prim.Native.Nat.{ℕ, ◌*◌, ◌≤◌}
use native.Mathlib.Nat.{mul-le-mul}

pub few : (b n B N : ℕ) → b ≤ B → n ≤ N → b * n ≤ B * N
few b n B N h k = mul-le-mul h k
