-- Logs and centring (document 01, Matcher; matcher.rs, `centered`). Definitions only.
use Rattle.std.specs.Prelude.{ℕ, ◌+◌, ◌-◌, ◌*◌, min, Bool, List, length, get_or, take, drop, Float}
use Rattle.std.specs.Float.{nan, binary32, binary64}
use Rattle.std.specs.Float.Ieee.{le, sub, of_bits}
use Rattle.numbers_spec.specs.Arithmetic.{◌⊕◌, ◌⊖◌, ◌⊗◌, ◌⊘◌, one, at_least, count_of, real}
use Rattle.numbers_spec.specs.Narrow.{nearest_f32}
use Rattle.numbers_spec.specs.Whole.{whole_nearest}
use Rattle.numbers_spec.specs.Rows.{tabulate, sum_to, logs_of}
use Rattle.matcher_spec.specs.Limits.{hop_least}

-- ---- the radius
-- 250 milliseconds before a frame, and as many after it.
abbrev pub context_ms : Float
context_ms = of_bits binary64 0x406f400000000000

-- 250 / hop rounded, without the floor of 1: 0 at a hop above 500.
unfoldable pub context_frames : Float → Float
context_frames hop = whole_nearest (context_ms ⊘ hop)

-- The radius R: 250 / hop rounded, at least 1.
unfoldable pub radius : Float → ℕ
radius hop = count_of (at_least one (context_frames hop))

-- No radius is larger: at the least hop, 1, it is 250 (`radius_small` of proofs/RadiusLaw).
abbrev pub radius_most : ℕ
radius_most = 250

-- A hop that opening accepts is 1 or more. (At most 1,000 too, which nothing here needs.)
abbrev pub wide_hop : Float → Bool
wide_hop hop = le hop_least hop

-- ---- a band's row
-- The f32 logarithm of 1 + v, of each value.
abbrev pub logs : List Float → List Float
logs = logs_of

-- The sum of the first n values, in f64.
abbrev pub sum_of : List Float → ℕ → Float
sum_of v = sum_to (λ (i : ℕ). get_or v i nan)

-- The mean over the 2R + 1 frames around i, in f64, as an f32. `sums k` is the sum of the first k of n values. Where the frames reach past an end, the value there is repeated.
unfoldable pub mean_around : (ℕ → Float) → ℕ → Float → Float → ℕ → ℕ → Float
mean_around sums n first last r i =
    nearest_f32
    (((sums (min n (i + r + 1)) ⊖ sums (i - r)) ⊕ real (r - i) ⊗ first ⊕ real (i + r + 1 - n) ⊗ last)
    ⊘ real (2 * r + 1))

-- Value i less the mean around it, in f32.
unfoldable pub centred_at : ℕ → List Float → ℕ → Float
centred_at r v i = sub binary32 (get_or v i nan) (mean_around (sum_of v) (length v) (get_or v 0 nan) (get_or v (length v - 1) nan) r i)

-- A band's centred logs.
unfoldable pub centred : ℕ → List Float → List Float
centred r values = tabulate (centred_at r (logs values)) (length values)

-- What a window keeps of a row: all but R frames at each end.
abbrev pub kept : ℕ → List Float → List Float
kept r v = take (length v - 2 * r) (drop r v)
