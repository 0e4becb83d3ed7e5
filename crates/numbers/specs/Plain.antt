-- The numbers whose nearest f32 is taken from their whole pattern. Definitions only.
use Rattle.std.specs.Prelude.{Bool, ◌&&◌, ◌||◌, T, ◌==◌, from_bits, to_bits, Float}
use Rattle.std.specs.Float.{binary64}
use Rattle.std.specs.Float.Ieee.{le}

-- The least normal f32, 2 ^ -126, and the largest, as f64.
abbrev pub normal_least : Float
normal_least = from_bits binary64 0x3810_0000_0000_0000

abbrev pub normal_most : Float
normal_most = from_bits binary64 0x47ef_ffff_e000_0000

-- Whether x lies between the two, or is +0, whose pattern is 0.
unfoldable pub plain : Float → Bool
plain x = (le normal_least x && le x normal_most) || to_bits binary64 x == 0

abbrev pub Plain : Float → Type 0
Plain x = T (plain x)
