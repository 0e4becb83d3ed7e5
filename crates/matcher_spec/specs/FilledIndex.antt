-- Four lent buffers hold the matcher that opening filled them with, and what they held before does not matter (document 01, Opening). Definitions only.
use Rattle.std.specs.Prelude.{ℕ, suc, ◌*◌, ◌/◌, true, List, ◌≡◌, length, Float}
use Rattle.matcher_spec.specs.Index.{Matcher, matcher_of, filled, lent, lent_matcher}
use Rattle.matcher_spec.specs.Search.{whole_search, local_search}
use Rattle.matcher_spec.specs.Features.{Features}

-- How many values and energies a matcher has: `bands` rows each, an energy more than values in a row, and a quarter of the frames in the averaged bands.
pub record Sized (m : Matcher) : Type 0 where
  pub fine_values_lem : length m.fine.values ≡ m.reference.bands * m.reference.frames
  pub fine_energy_lem : length m.fine.energy ≡ m.reference.bands * suc m.reference.frames
  pub coarse_values : length m.coarse.values ≡ m.reference.bands * (m.reference.frames / 4)
  pub coarse_energy_lem : length m.coarse.energy ≡ m.reference.bands * suc (m.reference.frames / 4)

-- The matcher that the buffers hold after opening, where they held `old` before.
abbrev pub opened : Matcher → List Float → List Float → List Float → List Float → Matcher
opened m old₁ old₂ old₃ old₄ =
    lent_matcher m.reference (lent (filled true m.fine.values old₁) (filled true m.coarse.values old₂) (filled true m.fine.energy old₃) (filled true m.coarse.energy old₄))

-- Of every reference whose rows are as long as its timeline:
pub record Filled (m : Matcher) : Type 0 where
  pub sized : Sized m
  -- the buffers hold its matcher,
  pub is_held : (old₁ old₂ old₃ old₄ : List Float) → opened m old₁ old₂ old₃ old₄ ≡ m
  -- so a whole search of them is a search of its matcher, and so is a local one.
  pub whole : (old₁ old₂ old₃ old₄ : List Float) (w : Features) → whole_search (opened m old₁ old₂ old₃ old₄) w ≡ whole_search m w
  pub near : (old₁ old₂ old₃ old₄ : List Float) (w : Features) (lower upper : Float) →
      local_search m.reference (opened m old₁ old₂ old₃ old₄).fine w lower upper ≡ local_search m.reference m.fine w lower upper

abbrev pub FilledIndex : Type 0
FilledIndex = (hop : Float) (bands : ℕ) (times values : List Float) → length values ≡ bands * length times → Filled (matcher_of hop bands times values)
