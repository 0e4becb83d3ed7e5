-- Numbers are what their comments say: each float constant of the definitions is the value of its format nearest to the decimal in its comment. Definitions only.
-- Constants that only laws and figures use (*Laws.antt, *Bounds.antt, Figures.antt) are no part of the product and not listed.
use Rattle.std.specs.Prelude.{ℕ, ◌^◌, Bool, true, false, List, [], ◌∷◌, ◌≡◌, Float}
use Rattle.std.specs.Float.{Format, binary32, binary64}
use Rattle.std.specs.Float.Ieee.{round}
use Rattle.numbers_spec.specs.Arithmetic.{zero⁺, one, two}
use Rattle.numbers_spec.specs.Exponential.{limit, limit⁻, log2e, hi, lo, ln10, bias, field_most}
use Rattle.numbers_spec.specs.Logarithm.{smallest_normal, sqrt2, half, series_most}
use Rattle.numbers_spec.specs.Nearest.{NearestTo}
use Rattle.matcher_spec.specs.Limits.{hop_least, hop_most, farthest_ms, farthest, track_most}
use Rattle.matcher_spec.specs.Timeline.{twentieth}
use Rattle.matcher_spec.specs.Centring.{context_ms}
use Rattle.matcher_spec.specs.Energy.{zero_f32, four}
use Rattle.matcher_spec.specs.Scores.{thousandth}
use Rattle.matcher_spec.specs.Candidates.{apart_ms}
use Rattle.matcher_spec.specs.Search.{flat, minus_half, recent_ms}
use Rattle.engine_spec.specs.Thresholds.{reread_ms, trimmed_ms, ten, coast_most_ms, local_ms, same_place_ms, support_correlation, support_recent, gain_ms, supported_interval_ms, search_interval_ms, passing_correlation, passing_margin, passing_half, stale_ms, chain_ms, chain_recent}
use Rattle.engine_spec.specs.Opening.{default_configuration}

-- ---- decimals
-- ±digits / 10^places; the sign is `true` for a minus.
pub record Decimal : Type 0 where
  pub sign : Bool
  pub digits : ℕ
  pub places : ℕ

abbrev pub plus : ℕ → ℕ → Decimal
plus n p = record { sign = false; digits = n; places = p }

abbrev pub minus : ℕ → ℕ → Decimal
minus n p = record { sign = true; digits = n; places = p }

-- ---- constants: each beside its decimal, by file
pub record Constant : Type 0 where
  pub format : Format
  pub value : Float
  pub decimal : Decimal

abbrev pub f64 : Float → Decimal → Constant
f64 x d = record { format = binary64; value = x; decimal = d }

abbrev pub f32 : Float → Decimal → Constant
f32 x d = record { format = binary32; value = x; decimal = d }

abbrev pub constants : List Constant
constants =
    -- numbers_spec, Arithmetic
    f64 zero⁺ (plus 0 0)
    ∷ f64 one (plus 1 0)
    ∷ f64 two (plus 2 0)
    -- Exponential
    ∷ f64 limit (plus 690 0)
    ∷ f64 limit⁻ (minus 690 0)
    ∷ f64 log2e (plus 14426950408889634 16)
    ∷ f64 hi (plus 6931471803691238 16)
    ∷ f64 lo (plus 19082149292705877 26)
    ∷ f64 ln10 (plus 2302585092994046 15)
    ∷ f64 bias (plus 1023 0)
    ∷ f64 field_most (plus 2046 0)
    -- Logarithm
    ∷ f64 smallest_normal (plus 22250738585072014 324)
    ∷ f64 sqrt2 (plus 14142135623730951 16)
    ∷ f64 half (plus 5 1)
    ∷ f64 series_most (plus 375 3)
    -- matcher_spec, Limits
    ∷ f64 hop_least (plus 1 0)
    ∷ f64 hop_most (plus 1000 0)
    ∷ f64 farthest_ms (plus farthest 0)
    ∷ f64 track_most (plus (10 ^ 13) 0)
    -- Timeline
    ∷ f64 twentieth (plus 5 2)
    -- Centring
    ∷ f64 context_ms (plus 250 0)
    -- Energy
    ∷ f32 zero_f32 (plus 0 0)
    ∷ f32 four (plus 4 0)
    -- Scores
    ∷ f64 thousandth (plus 1 3)
    -- Candidates
    ∷ f64 apart_ms (plus 750 0)
    -- Search
    ∷ f64 flat (minus 1 6)
    ∷ f64 minus_half (minus 5 1)
    ∷ f64 recent_ms (plus 1000 0)
    -- engine_spec, Thresholds
    ∷ f64 reread_ms (plus 90 0)
    ∷ f64 trimmed_ms (plus 500 0)
    ∷ f64 ten (plus 10 0)
    ∷ f64 coast_most_ms (plus 1500 0)
    ∷ f64 local_ms (plus 100 0)
    ∷ f64 same_place_ms (plus 80 0)
    ∷ f64 support_correlation (plus 15 2)
    ∷ f64 support_recent (plus 12 2)
    ∷ f64 gain_ms (plus 300 0)
    ∷ f64 supported_interval_ms (plus 2000 0)
    ∷ f64 search_interval_ms (plus 500 0)
    ∷ f64 passing_correlation (plus 25 2)
    ∷ f64 passing_margin (plus 6 2)
    ∷ f64 passing_half (plus 10 2)
    ∷ f64 stale_ms (plus 2500 0)
    ∷ f64 chain_ms (plus 1000 0)
    ∷ f64 chain_recent (plus 15 2)
    -- Opening
    ∷ f64 default_configuration.minimum_readiness_duration_ms (plus 2500 0)
    ∷ f64 default_configuration.tracking_query_duration_ms (plus 2000 0)
    ∷ f64 default_configuration.minimum_active_frame_energy_dbfs (minus 70 0)
    ∷ f64 default_configuration.minimum_average_energy_dbfs (minus 62 0)
    ∷ f64 default_configuration.minimum_active_frame_fraction (plus 35 2)
    ∷ []

-- ---- the statements
-- P holds of every constant of the list.
abbrev pub All : (Constant → Type 0) → List Constant → Type 0
All P [] = Unit {0}
All P (c ∷ l) = P c × All P l

-- The decimal rounded once to the format: to the nearest value, a tie to the one whose last digit is even.
abbrev pub nearest : Format → Decimal → Float
nearest f d = round f d.sign d.digits (10 ^ d.places)

abbrev pub Rounded : Constant → Type 0
Rounded c = c.value ≡ nearest c.format c.decimal

abbrev pub Constants : Type 0
Constants = All Rounded constants

-- The same without a word of how `round` works: no value of the format is nearer to the decimal (`NearestTo`).
abbrev pub Closest : Constant → Type 0
Closest c = let d = c.decimal in NearestTo c.format d.sign d.digits (10 ^ d.places) c.value

abbrev pub NearestClosest : Type 0
NearestClosest = All Closest constants
