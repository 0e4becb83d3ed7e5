-- Timelines (document 01, Matcher; matcher.rs, `is_regular`, `accepts_timeline`). Definitions only.
use Rattle.std.specs.Prelude.{ℕ, suc, ◌-◌, Bool, ◌&&◌, List, eqb, ltb, length, get_or, Float}
use Rattle.std.specs.Float.{nan, binary64}
use Rattle.std.specs.Float.Ieee.{lt, le, of_bits}
use Rattle.std.specs.Float.Ieee.Scale.{finite}
use Rattle.numbers_spec.specs.Arithmetic.{◌⊕◌, ◌⊖◌, ◌⊗◌, zero⁺, absolute, real}
use Rattle.numbers_spec.specs.Rows.{all_to}

-- 0.05
abbrev pub twentieth : Float
twentieth = of_bits binary64 0x3fa999999999999a

-- a is off b by less than hop × 0.05.
abbrev pub within_tolerance : Float → Float → Float → Bool
within_tolerance hop a b = lt (absolute (a ⊖ b)) (hop ⊗ twentieth)

-- The step to frame i is near hop, and its time near start + i × hop.
unfoldable pub on_time : Float → List Float → ℕ → Bool
on_time hop times i =
    let t = get_or times i nan in
    let step = t ⊖ get_or times (i - 1) nan in
    finite step && (within_tolerance hop step hop && within_tolerance hop t (get_or times 0 nan ⊕ real i ⊗ hop))

-- A regular timeline: two frames or more, each on time.
unfoldable pub regular : Float → List Float → Bool
regular hop times =
    ltb 1 (length times) && ((finite hop && (lt zero⁺ hop && finite (get_or times 0 nan))) && all_to (λ (i : ℕ). on_time hop times (suc i)) (length times - 1))

-- An accepted timeline: regular, and with the reference's number of bands.
unfoldable pub accepts : ℕ → Float → ℕ → List Float → Bool
accepts bands hop windowBands times = eqb windowBands bands && regular hop times

-- A value that a band may hold: finite and not below zero. -0.0 is such a value.
abbrev pub valid_value : Float → Bool
valid_value v = finite v && le zero⁺ v

unfoldable pub valid_values : List Float → Bool
valid_values values = all_to (λ (i : ℕ). valid_value (get_or values i nan)) (length values)
