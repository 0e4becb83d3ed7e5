-- Bounds of energies, dot products and scores, for rows whose values lie within 2 ^ 7 (as centred rows do): no score is a NaN, and each lies far below 10 ^ 13. Definitions only.
use Rattle.std.specs.Prelude.{ℕ, suc, ◌+◌, ◌-◌, ◌*◌, ◌≤◌, ◌<◌, false, List, ◌≡◌, T, negsuc, length, get_or, take, drop, Float}
use Rattle.std.specs.Float.{nan, fin}
use Rattle.std.specs.Float.Ieee.{le}
use Rattle.std.specs.Float.Ieee.Scale.{finite}
use Rattle.numbers_spec.specs.Arithmetic.{◌⊖◌, ◌⊗◌, ◌⊘◌, at_least}
use Rattle.numbers_spec.specs.Root.{root_of}
use Rattle.numbers_spec.specs.Values.{Within, NotNegative, Normal}
use Rattle.numbers_spec.specs.Rows.{row, Every}
use Rattle.matcher_spec.specs.Energy.{energy_to, Bands, with_energies, whole_energies}
use Rattle.matcher_spec.specs.Scores.{dot, variance_floor, term_at, part_at, correlation_at, score_part}
use Rattle.matcher_spec.specs.Limits.{frames_most, window_most, bands_most}

-- Every value of the row is finite and within ±2 ^ 7.
abbrev pub Bounded : List Float → Type 0
Bounded = Every (Within 1 7)

-- ---- energies, of a row of at most 65,535 values
-- i squares sum up to at most i * 2 ^ 14,
abbrev pub EnergyWithin : Type 0
EnergyWithin = (v : List Float) → Bounded v → length v ≤ frames_most → (i : ℕ) → i ≤ length v → Within i 14 (energy_to v i)

-- not below zero,
abbrev pub EnergyNotNegative : Type 0
EnergyNotNegative = (v : List Float) → Bounded v → length v ≤ frames_most → (i : ℕ) → i ≤ length v → NotNegative (energy_to v i)

-- and no less for more of them.
abbrev pub EnergyGrows : Type 0
EnergyGrows = (v : List Float) → Bounded v → length v ≤ frames_most → (i j : ℕ) → i ≤ j → j ≤ length v → T (le (energy_to v i) (energy_to v j))

-- So a part's energy, the difference of two, is finite and not negative.
pub record PartEnergy (e : Float) : Type 0 where
  pub within : Within 1 31 e
  pub not_negative : NotNegative e

abbrev pub EnergyOfPart : Type 0
EnergyOfPart = (v : List Float) → Bounded v → length v ≤ frames_most → (i j : ℕ) → i ≤ j → j ≤ length v → PartEnergy (energy_to v j ⊖ energy_to v i)

-- ---- the dot product: its n products sum up to at most n * 2 ^ 14
abbrev pub DotWithin : Type 0
DotWithin = (l r : List Float) → Bounded l → Bounded r → length l ≤ length r → length l ≤ frames_most → Within (length l) 14 (dot l r)

-- ---- the root that a dot product is divided by
-- 2 ^ -10
abbrev pub least_weight : Float
least_weight = fin false 1 (negsuc 9)

-- An energy under the root: from 2 ^ -10 to 2 ^ 31.
pub record Weight (x : Float) : Type 0 where
  pub large : T (le least_weight x)
  pub within : Within 1 31 x

-- Such is every energy that counts as 0.001 a frame at least, of one frame or more.
abbrev pub WeightOfEnergy : Type 0
WeightOfEnergy = (n : ℕ) → 1 ≤ n → n ≤ frames_most → (e : Float) → Within 1 31 e → Weight (at_least (variance_floor n) e)

-- The product of two is a normal number above zero,
abbrev pub ProductNormal : Type 0
ProductNormal = (x y : Float) → Weight x → Weight y → Normal (x ⊗ y)

-- and its root is finite, and 2 ^ -10 at least.
pub record LargeRoot (r : Float) : Type 0 where
  pub finite_is : T (finite r)
  pub large : T (le least_weight r)

abbrev pub RootOfWeights : Type 0
RootOfWeights = (x y : Float) → Weight x → Weight y → LargeRoot (root_of (x ⊗ y))

-- ---- bands
-- Bands of n values each, all of them bounded.
pub record BoundedBands (bands n : ℕ) (values : List Float) : Type 0 where
  pub long : bands * n ≤ length values
  pub each : Bounded values

-- A reference of n frames and a query of `count`, as a search has them: 1 to 64 bands, at most 65,535 and 1,024 frames, and the query not empty.
pub record Comparable (bands n count : ℕ) (values query : List Float) : Type 0 where
  pub some : 1 ≤ bands
  pub few : bands ≤ bands_most
  pub frames : n ≤ frames_most
  pub heard : 1 ≤ count
  pub short : count ≤ window_most
  pub reference_bounded : BoundedBands bands n values
  pub query_bounded : BoundedBands bands count query

-- ---- what stands under the roots of `term_at` and `part_at` (matcher, specs/Scores.antt)
-- The energy of the frames from `low` up to `high` in band b, at least the floor of n frames.
abbrev pub weight_of : Bands → ℕ → ℕ → ℕ → ℕ → Float
weight_of x n b low high =
    let energy = row (suc x.count) x.energy b in
    at_least (variance_floor n) (get_or energy high nan ⊖ get_or energy low nan)

abbrev pub term_radicand : Bands → ℕ → List Float → List Float → ℕ → ℕ → Float
term_radicand reference count query whole start b = at_least (variance_floor count) (get_or whole b nan) ⊗ weight_of reference count b start (start + length (row count query b))

abbrev pub part_radicand : Bands → Bands → ℕ → ℕ → ℕ → ℕ → Float
part_radicand reference query start low high b = weight_of reference (high - low) b (start + low) (start + high) ⊗ weight_of query (high - low) b low high

-- That these stand there:
pub record Radicands : Type 0 where
  pub of_term : (reference : Bands) (count : ℕ) (query whole : List Float) (start b : ℕ) →
      term_at reference count query whole start b
      ≡ dot (take (length (row count query b)) (drop start (row reference.count reference.values b))) (row count query b)
      ⊘ root_of (term_radicand reference count query whole start b)
  pub of_part : (reference query : Bands) (start low high b : ℕ) →
      part_at reference query start low high b
      ≡ dot (take (high - low) (drop (start + low) (row reference.count reference.values b))) (take (high - low) (drop low (row query.count query.values b)))
      ⊘ root_of (part_radicand reference query start low high b)

-- In every band and at every place at which the query lies within the reference, and for every part that has a frame, it is a normal number above zero.
pub record NormalRadicands (bands : ℕ) (reference query : Bands) : Type 0 where
  pub of_term : (start b : ℕ) → start + query.count ≤ reference.count → b < bands → Normal (term_radicand reference query.count query.values (whole_energies bands query) start b)
  pub of_part : (start low high b : ℕ) → low < high → high ≤ query.count → start + high ≤ reference.count → b < bands → Normal (part_radicand reference query start low high b)

abbrev pub RadicandsNormal : Type 0
RadicandsNormal =
    (bands n count : ℕ) (values query : List Float) → Comparable bands n count values query → NormalRadicands bands (with_energies bands n values) (with_energies bands count query)

-- ---- what a band adds: at most 1,024 * 2 ^ 14 / 2 ^ -10
abbrev pub TermWithin : Type 0
TermWithin =
    (bands n count : ℕ) (values query : List Float) → Comparable bands n count values query → (start b : ℕ) → start + count ≤ n → b < bands
    → Within 1 34 (term_at (with_energies bands n values) count query (whole_energies bands (with_energies bands count query)) start b)

abbrev pub PartWithin : Type 0
PartWithin =
    (bands n count : ℕ) (values query : List Float) → Comparable bands n count values query → (start low high b : ℕ) → low < high → high ≤ count → start + high ≤ n → b < bands
    → Within 1 34 (part_at (with_energies bands n values) (with_energies bands count query) start low high b)

-- ---- scores
-- The score of a place, and of a part of the query there, is finite and within ±2 ^ 40, which is about 1.1 * 10 ^ 12.
abbrev pub CorrelationWithin : Type 0
CorrelationWithin =
    (bands n count : ℕ) (values query : List Float) → Comparable bands n count values query → (start : ℕ) → start + count ≤ n
    → Within 1 40 (correlation_at bands (with_energies bands n values) count query (whole_energies bands (with_energies bands count query)) start)

abbrev pub ScorePartWithin : Type 0
ScorePartWithin =
    (bands n count : ℕ) (values query : List Float) → Comparable bands n count values query → (start low high : ℕ) → low < high → high ≤ count → start + high ≤ n
    → Within 1 40 (score_part bands (with_energies bands n values) (with_energies bands count query) start low high)
