-- The mean that a `Smoothing` gives. Definitions only.
use Rattle.std.specs.Prelude.{ℕ, Float}
use Rattle.matcher_bands.specs.declared.centring.Smoothing.{Smoothing}
use Rattle.matcher_bands.specs.Centring.{wide_mean}

-- The mean over the frames around i, in f64.
abbrev pub mean_at : Smoothing → ℕ → Float
mean_at s i = wide_mean s.sums.now s.first s.last s.radius i
