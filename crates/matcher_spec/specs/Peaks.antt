-- First maximum and peaks (document 01, Matcher; matcher.rs, `first_maximum`, `peaks`). Definitions only.
use Rattle.std.specs.Prelude.{ℕ, zero, suc, Bool, cond, List, [], ◌∷◌, ◌++◌, ltb, eqb, length, get_or, Float}
use Rattle.std.specs.Float.{nan}
use Rattle.std.specs.Int.{abs_diff}
use Rattle.std.specs.List.{list_any}
use Rattle.std.specs.Float.Ieee.{lt}
use Rattle.matcher_spec.specs.Limits.{candidates_most}

-- The first of the largest among the first n scores: only a larger one takes the place of an earlier. 0 of none.
unfoldable pub maximum_to : List Float → ℕ → ℕ
maximum_to s zero = 0
maximum_to s (suc n) = cond (lt (get_or s (maximum_to s n) nan) (get_or s n nan)) n (maximum_to s n)

abbrev pub first_maximum : List Float → ℕ
first_maximum s = maximum_to s (length s)

-- How far apart two places are.
abbrev pub apart : ℕ → ℕ → ℕ
apart = abs_diff

-- Whether one of the places taken is nearer than the separation to i.
unfoldable pub near_to : List ℕ → ℕ → ℕ → Bool
near_to taken separation i = list_any (λ (place : ℕ). ltb (apart place i) separation) taken

-- Place i against the best so far. There is none yet where that is the number of scores.
abbrev pub better : List Float → ℕ → ℕ → ℕ
better s best i = cond (eqb best (length s)) i (cond (lt (get_or s best nan) (get_or s i nan)) i best)

-- The first of the largest among the first n scores at places that are free: not near one taken. The number of scores where none is.
unfoldable pub free_to : List Float → ℕ → List ℕ → ℕ → ℕ
free_to s separation taken zero = length s
free_to s separation taken (suc n) = cond (near_to taken separation n) (free_to s separation taken n) (better s (free_to s separation taken n) n)

abbrev pub best_free : List Float → ℕ → List ℕ → ℕ
best_free s separation taken = free_to s separation taken (length s)

-- The places taken and up to k more, each the best that is free.
unfoldable pub peaks_from : List Float → ℕ → ℕ → List ℕ → List ℕ
peaks_from s separation zero taken = taken
peaks_from s separation (suc k) taken =
    cond (eqb (best_free s separation taken) (length s)) taken
    (peaks_from s separation k (taken ++ (best_free s separation taken ∷ [])))

abbrev pub peaks : List Float → ℕ → List ℕ
peaks s separation = peaks_from s separation candidates_most []
