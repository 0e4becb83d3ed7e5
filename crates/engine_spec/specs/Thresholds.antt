-- The thresholds of the lock rules (engine.rs), each under one name. Definitions only.
use Rattle.std.specs.Prelude.{Float}
use Rattle.std.specs.Float.{binary64}
use Rattle.std.specs.Float.Ieee.{of_bits}

-- ---- windows
-- 90: an endpoint less than this past the last computed one is a re-reading.
abbrev pub reread_ms : Float
reread_ms = of_bits binary64 0x4056800000000000

-- 500: what centring trims of a window, in the coverage that a snapshot shows.
abbrev pub trimmed_ms : Float
trimmed_ms = of_bits binary64 0x407f400000000000

-- 10: decibels in a bel.
abbrev pub ten : Float
ten = of_bits binary64 0x4024000000000000

-- ---- the track
-- 1,500: a track coasts no longer without support.
abbrev pub coast_most_ms : Float
coast_most_ms = of_bits binary64 0x4097700000000000

-- 100: how far from the track a local search looks.
abbrev pub local_ms : Float
local_ms = of_bits binary64 0x4059000000000000

-- 80: offsets no further apart are the same place.
abbrev pub same_place_ms : Float
same_place_ms = of_bits binary64 0x4054000000000000

-- 0.15 and 0.12: correlation and recent correlation that support a track.
abbrev pub support_correlation : Float
support_correlation = of_bits binary64 0x3fc3333333333333

abbrev pub support_recent : Float
support_recent = of_bits binary64 0x3fbeb851eb851eb8

-- 300: the time in which a supported track goes most of the way to what was found.
abbrev pub gain_ms : Float
gain_ms = of_bits binary64 0x4072c00000000000

-- ---- whole searches
-- 2,000 and 500: a whole search is due so long after the last, with local support and without.
abbrev pub supported_interval_ms : Float
supported_interval_ms = of_bits binary64 0x409f400000000000

abbrev pub search_interval_ms : Float
search_interval_ms = of_bits binary64 0x407f400000000000

-- 0.25, 0.06 and 0.10: a whole search passes with this correlation, margin and correlation of both halves.
abbrev pub passing_correlation : Float
passing_correlation = of_bits binary64 0x3fd0000000000000

abbrev pub passing_margin : Float
passing_margin = of_bits binary64 0x3faeb851eb851eb8

abbrev pub passing_half : Float
passing_half = of_bits binary64 0x3fb999999999999a

-- 2,500: later than this, pending evidence is stale.
abbrev pub stale_ms : Float
stale_ms = of_bits binary64 0x40a3880000000000

-- 1,000: a chain spans this less a hop,
abbrev pub chain_ms : Float
chain_ms = of_bits binary64 0x408f400000000000

-- and its last answer has a recent correlation of 0.15.
abbrev pub chain_recent : Float
chain_recent = of_bits binary64 0x3fc3333333333333
