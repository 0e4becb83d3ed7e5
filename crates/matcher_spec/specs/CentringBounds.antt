-- How large centred values are, those that a window keeps, and their averages by fours: finite f32 from -92 to 92. Definitions only.
use Rattle.std.specs.Prelude.{ℕ, ◌^◌, ◌≤◌, true, List, ◌≡◌, length, Float}
use Rattle.numbers_spec.specs.Arithmetic.{real}
use Rattle.numbers_spec.specs.Values.{AtMost, Within}
use Rattle.matcher_spec.specs.Timeline.{valid_values}
use Rattle.matcher_spec.specs.Centring.{centred, kept}
use Rattle.matcher_spec.specs.Energy.{averages, all_averages}
use Rattle.matcher_spec.specs.Index.{fine_values}
use Rattle.matcher_spec.specs.Search.{query_values}
use Rattle.numbers_spec.specs.Rows.{Every, F32}

-- x is a finite f32 and |x| ≤ 92; so |x| ≤ 2 ^ 7.
pub record Small (x : Float) : Type 0 where
  pub held : F32 x
  pub most : AtMost (real 92) x
  pub within : Within 1 7 x

-- ---- a row of values that a band may hold, centred; what a window keeps of a row; a row averaged by fours
abbrev pub CentredWithin : Type 0
CentredWithin = (r : ℕ) (values : List Float) → r ≤ 2 ^ 40 → length values ≤ 2 ^ 40 → Every F32 values → valid_values values ≡ true → Every Small (centred r values)

abbrev pub KeptWithin : Type 0
KeptWithin = (r : ℕ) (v : List Float) → Every Small v → Every Small (kept r v)

abbrev pub AveragesWithin : Type 0
AveragesWithin = (v : List Float) → Every Small v → Every Small (averages v)

-- ---- bounds of bands with n values each: the reference's, the query's, and both averaged
abbrev pub FineWithin : Type 0
FineWithin = (r bands n : ℕ) (values : List Float) → r ≤ 2 ^ 40 → n ≤ 2 ^ 40 → Every F32 values → valid_values values ≡ true → Every Small (fine_values r bands n values)

abbrev pub QueryWithin : Type 0
QueryWithin = (r bands n : ℕ) (values : List Float) → r ≤ 2 ^ 40 → n ≤ 2 ^ 40 → Every F32 values → valid_values values ≡ true → Every Small (query_values r bands n values)

abbrev pub AllAveragesWithin : Type 0
AllAveragesWithin = (bands n : ℕ) (v : List Float) → Every Small v → Every Small (all_averages bands n v)
