-- `workload::load::value_of` meets its contract: neither the cast nor the quotient is rounded, so that the two are one rounding of the whole. Assumes nothing.
use mathlib.Core.Path.{◌≡◌}
use mathlib.Core.Bool.{true, false, true≢false}
use Prim.Native.Nat.{ℕ, ◌*◌, ◌%◌}
use native.Mathlib.Nat.{mul-pos}
use native.Mathlib.Omega.{arith}
use lib.Count.{count_trailing_zeros}
use lib.Dec.{lit<}
use lib.IntN.{pos}
use lib.Ieee.{Float, nan, inf, fin, binary32, up, down, odd, round, div, of_bits, of_fields, of_int}
use lib.Ieee.Back.{round_whole}
use lib.Ieee.Exact.{HasValue}
use lib.Ieee.Fits.{down_pos}
use lib.Ieee.Scale.{round_same}
use Rattle.workload_spec.specs.Load.{load_value}
use Rattle.workload.proofs.load.value_of.Goals as goal

-- k / 256, of a float that is k
quotient : (x : Float) (k : ℕ) → HasValue x false k 1 → div binary32 x (fin false 1 (pos 8)) ≡ round binary32 false k 256
unfolding div
quotient nan k v = absurd v
quotient (inf s) k v = absurd v
quotient (fin true m e) k v = absurd (true≢false v.0)
quotient (fin false m e) k v = round_same binary32 false (m * up e * 1) (1 * 256 * down e) k 256 (mul-pos (lit< tt) (down_pos e)) (lit< tt) (over (m * up e) (down e) v.1)
  where
    over : (a d : ℕ) → a * 1 ≡ k * d → a * 1 * 256 ≡ k * (1 * 256 * d)
    over a d e = omega arith

yielded : (n : ℕ) → div binary32 (of_int binary32 (pos (n % 4096))) (fin false 1 (pos 8)) ≡ load_value n
unfolding load_value of_int
yielded n = quotient (round binary32 false (n % 4096) 1) (n % 4096) (round_whole binary32 false (n % 4096) (omega arith))

pub returns : goal.returns
unfolding of_bits of_fields odd count_trailing_zeros
returns c = yielded _
