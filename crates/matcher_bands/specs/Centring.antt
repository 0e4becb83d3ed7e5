-- What centring leaves in the buffers that it works in. Definitions only.
use Rattle.std.specs.Prelude.{ℕ, zero, suc, ◌+◌, ◌-◌, ◌*◌, min, List, length, get_or, Float}
use Rattle.std.specs.Float.{nan}
use Rattle.numbers_spec.specs.Arithmetic.{◌⊕◌, ◌⊖◌, ◌⊗◌, ◌⊘◌, real}
use Rattle.numbers_spec.specs.Rows.{tabulate}
use Rattle.matcher_spec.specs.Centring.{sum_of}

-- The prefix sums of a row, one more than it has values.
abbrev pub prefix_sums : List Float → List Float
prefix_sums v = tabulate (sum_of v) (length v + 1)

-- The mean over the 2R + 1 frames around i, by the prefix sums, in f64: `mean_around` of matcher_spec is the nearest f32 of it.
unfoldable pub wide_mean : List Float → Float → Float → ℕ → ℕ → Float
wide_mean sums first last r i =
    ((get_or sums (min (length sums - 1) (i + r + 1)) nan ⊖ get_or sums (i - r) nan) ⊕ real (r - i) ⊗ first ⊕ real (i + r + 1 - (length sums - 1)) ⊗ last)
    ⊘ real (2 * r + 1)

-- What the last of n turns left, f (n - 1); where there was none, z.
unfoldable pub last_or : {A : Type 0} → A → (ℕ → A) → ℕ → A
last_or z f zero = z
last_or z f (suc n) = f n
