-- What is proved of first maximum and peaks (document 01, Matcher). Definitions only.
use Rattle.std.specs.Prelude.{ℕ, ◌≤◌, ◌<◌, false, List, ◌≡◌, T, length, get_or, take, Float}
use Rattle.std.specs.Float.{nan}
use Rattle.std.specs.Float.Ieee.{lt, le}
use Rattle.numbers_spec.specs.Values.{Number}
use Rattle.matcher_spec.specs.Peaks.{first_maximum, apart, near_to, best_free, peaks}
use Rattle.numbers_spec.specs.Rows.{Every}
use Rattle.matcher_spec.specs.Limits.{candidates_most}

-- None of the scores is a NaN.
abbrev pub Numbers : List Float → Type 0
Numbers = Every Number

-- ---- the first maximum
-- Place p is one of the scores', none scores higher, and all before it really lower.
pub record FirstLargest (s : List Float) (p : ℕ) : Type 0 where
  pub within : p < length s
  pub largest : (i : ℕ) → i < length s → T (le (get_or s i nan) (get_or s p nan))
  pub first : (i : ℕ) → i < p → T (lt (get_or s i nan) (get_or s p nan))

abbrev pub FirstMaximum : Type 0
FirstMaximum = (s : List Float) → 0 < length s → Numbers s → FirstLargest s (first_maximum s)

-- ---- peaks
-- Place i is not near one taken.
abbrev pub Free : ℕ → List ℕ → ℕ → Type 0
Free separation taken i = near_to taken separation i ≡ false

-- That is: it is the separation or more from each of them.
abbrev pub FreeIsApart : Type 0
FreeIsApart = (separation : ℕ) (taken : List ℕ) (i k : ℕ) → Free separation taken i → k < length taken → separation ≤ apart (get_or taken k 0) i

-- Place p is free, no free place scores higher, and all free ones before it really lower.
pub record FirstFree (s : List Float) (separation : ℕ) (taken : List ℕ) (p : ℕ) : Type 0 where
  pub within : p < length s
  pub free : Free separation taken p
  pub largest : (i : ℕ) → i < length s → Free separation taken i → T (le (get_or s i nan) (get_or s p nan))
  pub first : (i : ℕ) → i < p → Free separation taken i → T (lt (get_or s i nan) (get_or s p nan))

-- Peak j, and the peaks before it.
abbrev pub peak_at : List Float → ℕ → ℕ → ℕ
peak_at s separation j = get_or (peaks s separation) j 0

abbrev pub peaks_before : List Float → ℕ → ℕ → List ℕ
peaks_before s separation j = take j (peaks s separation)

-- There are at most 8,
abbrev pub PeaksFew : Type 0
PeaksFew = (s : List Float) (separation : ℕ) → length (peaks s separation) ≤ candidates_most

-- each is a place of the scores,
abbrev pub PeaksWithin : Type 0
PeaksWithin = (s : List Float) (separation j : ℕ) → j < length (peaks s separation) → peak_at s separation j < length s

-- any two are the separation apart, NaN scores or not,
abbrev pub PeaksApart : Type 0
PeaksApart = (s : List Float) (separation i j : ℕ) → i < j → j < length (peaks s separation) → separation ≤ apart (peak_at s separation i) (peak_at s separation j)

-- each is the best of the places that those before it leave free,
abbrev pub PeakIsBest : Type 0
PeakIsBest = (s : List Float) (separation j : ℕ) → j < length (peaks s separation) → peak_at s separation j ≡ best_free s separation (peaks_before s separation j)

-- which, for scores without NaN, is the first of the largest among them;
abbrev pub PeakFirstLargest : Type 0
PeakFirstLargest = (s : List Float) (separation j : ℕ) → Numbers s → j < length (peaks s separation) → FirstFree s separation (peaks_before s separation j) (peak_at s separation j)

-- and where there are fewer than 8, no place is left free.
abbrev pub PeaksExhaust : Type 0
PeaksExhaust = (s : List Float) (separation i : ℕ) → length (peaks s separation) < candidates_most → i < length s → Free separation (peaks s separation) i → ⊥
