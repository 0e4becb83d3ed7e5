-- What is handed in, of a reference or of a window (types.rs, `FeatureFrame`). Definitions only.
use Rattle.std.specs.Prelude.{ℕ, List, Float}

-- A time for each frame, and values band after band.
pub record Features : Type 0 where
  pub bands : ℕ
  pub times : List Float
  pub values : List Float

abbrev pub features : ℕ → List Float → List Float → Features
features bands times values = record { bands = bands; times = times; values = values }
