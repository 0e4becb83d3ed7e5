-- The generator (document 02, Job 7): Marsaglia's 64-bit xorshift with shifts 13 left, 7 right, 17 left. Definitions only.
use Rattle.std.specs.Prelude.{ℕ, zero, suc, ◌*◌, ◌/◌, ◌%◌, ◌^◌}
use Rattle.std.specs.Int.Bits.{bit_xor}

-- x xor x shifted by k: to the left, cut off at 64 bits; to the right.
abbrev pub xor_left : ℕ → ℕ → ℕ
xor_left k x = bit_xor x (x * 2 ^ k % 2 ^ 64)

abbrev pub xor_right : ℕ → ℕ → ℕ
xor_right k x = bit_xor x (x / 2 ^ k)

-- One step.
unfoldable pub step : ℕ → ℕ
step x = xor_left 17 (xor_right 7 (xor_left 13 x))

-- The generator's value after k steps from the seed.
unfoldable pub stepped : ℕ → ℕ → ℕ
stepped seed zero = seed
stepped seed (suc k) = step (stepped seed k)

-- Number k that is drawn, from 0: the generator's value after k + 1 steps, so that the seed itself is never drawn.
abbrev pub drawn : ℕ → ℕ → ℕ
drawn seed k = stepped seed (suc k)
