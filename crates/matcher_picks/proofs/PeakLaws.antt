-- How peaks are picked, one after the other. Assumes nothing.
use Rattle.std.proofs.Common.{◌≡◌, ℕ, suc, ◌+◌, ◌-◌, ◌<◌, List, [], ◌∷◌, ◌++◌, length, Float, arith, sym}
use borrow.Author.Tests.{eq-eqb, ne_eqb}
use Rattle.matcher_spec.specs.Peaks.{best_free, peaks_from}

module _ (s : List Float) (separation n : ℕ) (taken : List ℕ) (h : n < 8) where
  k : 8 - n ≡ suc (8 - (n + 1))
  k = omega arith

  -- The best free place is picked,
  pub pick_more : (b : ℕ) → b ≡ best_free s separation taken → b < length s → peaks_from s separation (8 - n) taken ≡ peaks_from s separation (8 - (n + 1)) (taken ++ b ∷ [])
  unfolding peaks_from
  pick_more b e w = rw (k, ← e, ne_eqb b (length s) (λ q. omega arith))

  -- and none where none is free.
  pub pick_none : length s ≡ best_free s separation taken → peaks_from s separation (8 - n) taken ≡ taken
  unfolding peaks_from
  pick_none e = rw (k, eq-eqb _ _ (sym e))
