-- Readiness: why a window cannot be searched (document 01, Engine; engine.rs, `process`). Definitions only.
use Rattle.std.specs.Prelude.{ℕ, Bool, true, cond, not, length, get_or, Float, Option, None, Some}
use Rattle.std.specs.Float.{nan, inf}
use Rattle.std.specs.Float.Ieee.{lt, le}
use Rattle.numbers_spec.specs.Arithmetic.{◌⊖◌, ◌⊗◌, ◌⊘◌, zero⁺, at_most, real}
use Rattle.numbers_spec.specs.Exponential.{ten_to}
use Rattle.numbers_spec.specs.Logarithm.{log10_of}
use Rattle.numbers_spec.specs.Rows.{sum_to, tally}
use Rattle.engine_spec.specs.Thresholds.{ten}
use Rattle.engine_spec.specs.Windows.{Window, indexed, accepts_timeline, duration}
use Rattle.engine_spec.specs.declared.types.Configuration.{Configuration}
use Rattle.engine_spec.specs.declared.types.Settings.{Settings}
use Rattle.engine_spec.specs.declared.types.WithholdReason.{WithholdReason}
use Rattle.engine_spec.specs.declared.types.WithholdReason.TheVariants as reason

-- ---- how loud a window is
-- The part of the frames whose energy reaches the threshold.
unfoldable pub active_fraction : Configuration → Window → Float
active_fraction c w = real (tally (λ (i : ℕ). le c.minimum_active_frame_energy_dbfs (get_or w.energies i nan)) (length w.times)) ⊘ real (length w.times)

-- The mean of the powers 10^(energy / 10).
unfoldable pub mean_power : Window → Float
mean_power w = sum_to (λ (i : ℕ). ten_to (get_or w.energies i nan ⊘ ten)) (length w.times) ⊘ real (length w.times)

-- As an energy again; minus infinity where there is no power.
unfoldable pub average_energy : Window → Float
average_energy w = cond (lt zero⁺ (mean_power w)) (ten ⊗ log10_of (mean_power w)) (inf true)

-- ---- how long it has to be
-- Once confirmed, the shorter of the readiness duration and the tracking duration less a hop.
abbrev pub minimum_duration : Configuration → Float → Bool → Float
minimum_duration c hop confirmed =
    cond confirmed (at_most c.minimum_readiness_duration_ms (c.tracking_query_duration_ms ⊖ hop)) c.minimum_readiness_duration_ms

-- ---- the reasons, tried in this order; none where the window can be searched
unfoldable pub readiness : Configuration → Settings → Bool → Window → Option WithholdReason
readiness c s confirmed w =
    cond (not (indexed s)) (Some reason.IndexUnavailable)
    (cond (lt (duration w) (minimum_duration c s.hop_ms confirmed)) (Some reason.InsufficientDuration)
    (cond (not (accepts_timeline s w)) (Some reason.LostSignal)
    (cond (lt (average_energy w) c.minimum_average_energy_dbfs) (Some reason.InsufficientEnergy)
    (cond (lt (active_fraction c w) c.minimum_active_frame_fraction) (Some reason.InsufficientActiveFrames)
    None))))
