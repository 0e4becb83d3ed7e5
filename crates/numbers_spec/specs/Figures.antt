-- Document 01's worked figures of numbers, P7 to P10. Definitions only.
-- `fin s m (pos k)` is m × 2^k and `fin s m (negsuc k)` is m × 2^-(k + 1), below zero where s is true; m is odd, so that each value is written in one way.
use Rattle.std.specs.Prelude.{true, false, ◌≡◌, pos, negsuc}
use Rattle.std.specs.Float.{fin}
use Rattle.numbers_spec.specs.Arithmetic.{zero⁺, one}
use Rattle.numbers_spec.specs.Whole.{whole_nearest}
use Rattle.numbers_spec.specs.Narrow.{nearest_f32}
use Rattle.numbers_spec.specs.Root.{root_of}
use Rattle.numbers_spec.specs.Exponential.{exp_of}
use Rattle.numbers_spec.specs.Logarithm.{log_of}

-- root of 2.25 is 1.5: of 9 × 2^-2, 3 × 2^-1
abbrev pub P7 : Type 0
P7 = root_of (fin false 9 (negsuc 1)) ≡ fin false 3 (negsuc 0)

-- nearest f32 of 16,777,217 is 16,777,216; of 16,777,219, 16,777,220: 2^24 and 4,194,305 × 2^2
abbrev pub P8 : Type 0
P8 = (nearest_f32 (fin false 16777217 (pos 0)) ≡ fin false 1 (pos 24)) × (nearest_f32 (fin false 16777219 (pos 0)) ≡ fin false 4194305 (pos 2))

-- 2.5 rounds to 3, −2.5 to −3: 2.5 is 5 × 2^-1
abbrev pub P9 : Type 0
P9 = (whole_nearest (fin false 5 (negsuc 0)) ≡ fin false 3 (pos 0)) × (whole_nearest (fin true 5 (negsuc 0)) ≡ fin true 3 (pos 0))

-- E(0) = 1, L(1) = 0
abbrev pub P10 : Type 0
P10 = (exp_of zero⁺ ≡ one) × (log_of one ≡ zero⁺)

pub record Figures : Type 0 where
  pub p7 : P7
  pub p8 : P8
  pub p9 : P9
  pub p10 : P10
