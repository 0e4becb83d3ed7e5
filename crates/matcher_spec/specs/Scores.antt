-- Scores of places (matcher.rs, `dot_product`, `correlations`, `score_part`), each operation in the Rust's order and format. Definitions only.
use Rattle.std.specs.Prelude.{ℕ, zero, suc, ◌+◌, ◌-◌, ◌*◌, ◌/◌, List, length, get_or, take, drop, Float}
use Rattle.std.specs.Float.{nan, binary32, binary64}
use Rattle.std.specs.Float.Ieee.{mul, of_bits}
use Rattle.numbers_spec.specs.Arithmetic.{◌⊖◌, ◌⊗◌, ◌⊘◌, one, at_least, real}
use Rattle.numbers_spec.specs.Root.{root_of}
use Rattle.numbers_spec.specs.Rows.{tabulate, row, sum_to}
use Rattle.matcher_spec.specs.Energy.{Bands, zero_f32, ◌+₃₂◌}

-- ---- the dot product: eight lanes, then the lanes in order, then the rest, all in f32
abbrev pub product : List Float → List Float → ℕ → Float
product l r i = mul binary32 (get_or l i nan) (get_or r i nan)

-- Lane j after n chunks of eight.
unfoldable pub lane : List Float → List Float → ℕ → ℕ → Float
lane l r j zero = zero_f32
lane l r j (suc n) = lane l r j n +₃₂ product l r (n * 8 + j)

-- The eight lanes after n chunks, added from 0.0 on.
unfoldable pub lanes : List Float → List Float → ℕ → Float
lanes l r n =
    zero_f32 +₃₂ lane l r 0 n +₃₂ lane l r 1 n +₃₂ lane l r 2 n +₃₂ lane l r 3 n +₃₂ lane l r 4 n +₃₂ lane l r 5 n +₃₂ lane l r 6 n +₃₂ lane l r 7 n

-- The sum s and then the n products from place `from` on.
unfoldable pub onward : List Float → List Float → ℕ → Float → ℕ → Float
onward l r from s zero = s
onward l r from s (suc n) = onward l r from s n +₃₂ product l r (from + n)

unfoldable pub dot : List Float → List Float → Float
dot l r = onward l r (length l / 8 * 8) (lanes l r (length l / 8)) (length l - length l / 8 * 8)

-- ---- the score of a place
-- 0.001
abbrev pub thousandth : Float
thousandth = of_bits binary64 0x3f50624dd2f1a9fc

-- An energy below n frames × 0.001 counts as that: silence then scores near 0.
unfoldable pub variance_floor : ℕ → Float
variance_floor n = real n ⊗ thousandth

-- What a band adds to the score of the place `start`: the dot product over the root of the product of the energies, the query's first.
unfoldable pub band_term : List Float → List Float → List Float → Float → Float → ℕ → Float
band_term reference energy query floor wholeEnergy start =
    dot (take (length query) (drop start reference)) query
    ⊘ root_of (wholeEnergy ⊗ at_least floor (get_or energy (start + length query) nan ⊖ get_or energy start nan))

-- What band b adds at a place, where `wholes` are the query's whole energies.
unfoldable pub term_at : Bands → ℕ → List Float → List Float → ℕ → ℕ → Float
term_at reference count query whole start b =
    band_term (row reference.count reference.values b) (row (suc reference.count) reference.energy b) (row count query b)
    (variance_floor count) (at_least (variance_floor count) (get_or whole b nan)) start

module _ (bands : ℕ) (reference : Bands) (count : ℕ) (query whole : List Float) where
  -- The score of a place: the sum over the bands times 1 / bands.
  unfoldable pub correlation_at : ℕ → Float
  correlation_at start = sum_to (term_at reference count query whole start) bands ⊗ (one ⊘ real bands)

  -- The scores of n places from `low` on.
  unfoldable pub correlations : ℕ → ℕ → List Float
  correlations low n = tabulate (λ (i : ℕ). correlation_at (low + i)) n

-- ---- the score of a part of the query, from frame `low` up to `high`
-- A band's part: the reference's energy first.
unfoldable pub part_term : List Float → List Float → List Float → List Float → ℕ → ℕ → ℕ → Float
part_term reference energy query queryEnergy start low high =
    dot (take (high - low) (drop (start + low) reference)) (take (high - low) (drop low query))
    ⊘ root_of (at_least (variance_floor (high - low)) (get_or energy (start + high) nan ⊖ get_or energy (start + low) nan)
    ⊗ at_least (variance_floor (high - low)) (get_or queryEnergy high nan ⊖ get_or queryEnergy low nan))

-- What band b adds to it.
unfoldable pub part_at : Bands → Bands → ℕ → ℕ → ℕ → ℕ → Float
part_at reference query start low high b =
    part_term (row reference.count reference.values b) (row (suc reference.count) reference.energy b)
    (row query.count query.values b) (row (suc query.count) query.energy b) start low high

-- The sum over the bands divided by their number: not times 1 / bands, as above.
unfoldable pub score_part : ℕ → Bands → Bands → ℕ → ℕ → ℕ → Float
score_part bands reference query start low high = sum_to (part_at reference query start low high) bands ⊘ real bands
