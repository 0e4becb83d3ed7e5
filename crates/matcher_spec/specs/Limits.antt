-- The ranges that document 01 sets, each under one name; src/limits.rt has the same names for the code. Definitions only.
use Rattle.std.specs.Prelude.{ℕ, ◌^◌, Float}
use Rattle.std.specs.Float.{binary64}
use Rattle.std.specs.Float.Ieee.{of_bits}
use Rattle.numbers_spec.specs.Arithmetic.{one}

-- A hop from 1 to 1,000.
abbrev pub hop_least : Float
hop_least = one

abbrev pub hop_most : Float
hop_most = of_bits binary64 0x408f400000000000

-- A reference of 65,535 frames at most, and a window of 1,024.
abbrev pub frames_most : ℕ
frames_most = 65535

abbrev pub window_most : ℕ
window_most = 1024

-- Of either, 64 bands at most.
abbrev pub bands_most : ℕ
bands_most = 64

-- A search lists 8 candidates at most.
abbrev pub candidates_most : ℕ
candidates_most = 8

-- 10^12: no time lies further from 0; as a float, and as a whole number,
abbrev pub farthest_ms : Float
farthest_ms = of_bits binary64 0x426d1a94a2000000

abbrev pub farthest : ℕ
farthest = 10 ^ 12

-- 10^13: and no number of a candidate, a track or an estimate.
abbrev pub track_most : Float
track_most = of_bits binary64 0x42a2309ce5400000
