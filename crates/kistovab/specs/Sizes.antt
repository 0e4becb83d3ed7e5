-- How long the lent slices have to be: 0 where a count is over its limit. Definitions only.
use Rattle.std.specs.Prelude.{ℕ, ◌+◌, ◌*◌, ◌/◌, cond, ◌&&◌, leb}
use Rattle.engine_spec.specs.Refusals.{counts_in_range}
use Rattle.matcher_spec.specs.Energy.{reduction}
use Rattle.matcher_spec.specs.Limits.{frames_most, window_most, bands_most}

-- ---- the index of a reference (engine_spec, `index_fits`)
unfoldable pub fine_length : ℕ → ℕ → ℕ
fine_length frames bands = cond (counts_in_range frames bands) (bands * frames) 0

unfoldable pub coarse_length : ℕ → ℕ → ℕ
coarse_length frames bands = cond (counts_in_range frames bands) (bands * (frames / reduction)) 0

unfoldable pub fine_energy_length : ℕ → ℕ → ℕ
fine_energy_length frames bands = cond (counts_in_range frames bands) (bands * (frames + 1)) 0

unfoldable pub coarse_energy_length : ℕ → ℕ → ℕ
coarse_energy_length frames bands = cond (counts_in_range frames bands) (bands * (frames / reduction + 1)) 0

-- ---- the working buffers of a window (engine_spec, `work_fits`)
unfoldable pub work32_length : ℕ → ℕ → ℕ
work32_length frames bands = cond (leb frames window_most && leb bands bands_most) (2 * (bands * frames)) 0

unfoldable pub work64_length : ℕ → ℕ → ℕ → ℕ
work64_length frames bands referenceFrames =
    cond (leb frames window_most && (leb bands bands_most && leb referenceFrames frames_most)) (3 * (bands * (frames + 1)) + referenceFrames) 0
