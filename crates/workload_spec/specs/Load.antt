-- What a load holds (document 02, Job 7). Definitions only.
use Rattle.std.specs.Prelude.{ℕ, ◌*◌, ◌%◌, false, Float}
use Rattle.std.specs.Float.{binary32, binary64}
use Rattle.std.specs.Float.Ieee.{round, of_bits}
use Rattle.numbers_spec.specs.Arithmetic.{◌⊗◌, real}
use Rattle.numbers_spec.specs.Rows.{tabulate}
use Rattle.engine_spec.specs.Windows.{Window}
use Rattle.engine_spec.specs.Lent.{window}
use Rattle.workload_spec.specs.Draws.{drawn}

-- The value that a number n yields: (n mod 4,096) / 256, as an f32. Nothing is rounded (LoadLaws, `ValueExact`).
unfoldable pub load_value : ℕ → Float
load_value n = round binary32 false (n % 4096) 256

-- Number k yields value k: band after band, and in each band its frames in order.
abbrev pub value_at : ℕ → ℕ → Float
value_at seed k = load_value (drawn seed k)

-- The time of frame i, from 0: i × hop, rounded once.
unfoldable pub load_time : Float → ℕ → Float
load_time hop i = real i ⊗ hop

-- -20, of every frame.
abbrev pub load_energy : Float
load_energy = of_bits binary64 0xc034000000000000

-- The load of so many bands and frames, as a reference or a window has it.
unfoldable pub load : ℕ → Float → ℕ → ℕ → Window
load seed hop bands frames =
    window bands
    (tabulate (load_time hop) frames)
    (tabulate (λ (i : ℕ). load_energy) frames)
    (tabulate (value_at seed) (bands * frames))
