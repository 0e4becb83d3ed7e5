-- References and windows from a few numbers. Definitions only.
use Rattle.std.specs.Prelude.{ℕ, ◌+◌, ◌*◌, ◌/◌, ◌%◌, List, from_bits, Float}
use Rattle.std.specs.Float.{binary32}
use Rattle.std.specs.Float.Ieee.{add, mul}
use Rattle.numbers_spec.specs.Rows.{tabulate}
use Rattle.replays.specs.Sounds.{value_at}

-- Values of a band lie so far from those of the next.
abbrev pub band_step : ℕ
band_step = 8192

-- What a band has at a frame of the reference, which repeats every `period` frames.
unfoldable pub sound_at : ℕ → ℕ → ℕ → ℕ → Float
sound_at seed period band frame = value_at seed (band * band_step + frame % period % band_step)

-- What a window hears there: three quarters of it, and a quarter of the next seed's sound (0.75 and 0.25 as f32).
unfoldable pub heard_at : ℕ → ℕ → ℕ → ℕ → Float
heard_at seed period band frame =
    add binary32
    (mul binary32 (sound_at seed period band frame) (from_bits binary32 0x3f400000))
    (mul binary32 (sound_at (seed + 1) band_step band frame) (from_bits binary32 0x3e800000))

-- `size` values of n frames a band, band after band: of the reference, and of a window that begins at its frame `from`.
abbrev pub reference_values : ℕ → ℕ → ℕ → ℕ → List Float
reference_values seed period n size = tabulate (λ (i : ℕ). sound_at seed period (i / n) (i % n)) size

abbrev pub window_values : ℕ → ℕ → ℕ → ℕ → ℕ → List Float
window_values seed period n from size = tabulate (λ (i : ℕ). heard_at seed period (i / n) (from + i % n)) size
