-- Places by blocks. Definitions only.
use Rattle.std.specs.Prelude.{ℕ, ◌+◌, Float, get_or, length}
use Rattle.std.specs.Float.{nan}
use Rattle.numbers_spec.specs.Arithmetic.{◌⊖◌, ◌⊗◌, at_least}
use Rattle.matcher_spec.specs.Scores.{band_term}
use Rattle.matcher_scores.specs.declared.bands.Pair.{Pair}

-- A block has at most so many places, a whole number of tiles.
abbrev pub block : ℕ
block = 120

-- What a band adds at a place.
abbrev pub term_of : Pair → ℕ → Float
term_of x = band_term x.reference.now x.energy.now x.query.now x.floor x.whole

-- What stands under the root at a place.
abbrev pub product_of : Pair → ℕ → Float
product_of x i = x.whole ⊗ at_least x.floor (get_or x.energy.now (i + length x.query.now) nan ⊖ get_or x.energy.now i nan)
