-- First maximum and peaks: a scan of the scores finds the first of the largest among the places allowed, and each peak comes from such a scan. Assumes nothing.
use Prim.Native.Nat.{ℕ, zero, suc, ◌+◌, ◌≤◌, ◌<◌}
use native.Mathlib.Nat.{eq-or-lt_of_le, not-suc-le-zero}
use native.Mathlib.Omega.{arith}
use mathlib.Core.Bool.{true, false, cond}
use mathlib.Core.List.{List, [], ◌∷◌, ◌++◌}
use mathlib.Core.Logic.{⊎_elim}
use mathlib.Core.Path.{◌≡◌, refl}
use lib.Dec.{T, ltb, eqb, T_not}
use lib.ListN.{length, get_or, take, length-append, get_or-append}
use lib.Seq.{get_or_at, get_or-take, take-append-le, take_at, length-take-le}
use lib.Ieee.{Float, nan, lt, le}
use borrow.Author.Tests.{ltb-false, eqb-true, eqb-false, eq-eqb, ne_eqb}
use Rattle.numbers_spec.specs.Values.{Number}
use Rattle.numbers_spec.proofs.Order.{le_reflexive, le_transitive, lt→le, le→not-lt, not-lt→le, not-le→lt}
use Rattle.matcher_spec.specs.Peaks.{maximum_to, apart, near_to, better, free_to, best_free, peaks_from, peaks}
use Rattle.matcher_spec.specs.PeakLaws.{Numbers, FirstMaximum, Free, FreeIsApart, FirstFree, PeaksFew, PeaksWithin, PeaksApart, PeakIsBest, PeakFirstLargest, PeaksExhaust}
use Rattle.matcher_spec.proofs.Cases.{cond_elim, is_T, is_not_T, never, or_false_l, or_false_r}
use Rattle.matcher_spec.specs.Limits.{candidates_most}

-- x ≤ y < z
le_lt : (x y z : Float) → Number x → Number z → T (le x y) → T (lt y z) → T (lt x z)
le_lt x y z X Z h k = not-le→lt x z X Z (lib.Dec.not_T (le z x) (λ t. T_not (lt y z) (le→not-lt y z (le_transitive z x y t h)) k))

-- ---- a scan
-- p is the first of the largest of the scores before place n where Q allows.
record Best (s : List Float) (Q : ℕ → Type 0) (n p : ℕ) : Type 0 where
  within : p < n
  allowed : Q p
  largest : (i : ℕ) → i < n → Q i → T (le (get_or s i nan) (get_or s p nan))
  first : (i : ℕ) → i < p → Q i → T (lt (get_or s i nan) (get_or s p nan))

module _ (s : List Float) (N : Numbers s) (Q : ℕ → Type 0) where
  -- the first that is allowed
  best_one : (n : ℕ) → n < length s → Q n → ((i : ℕ) → i < n → Q i → ⊥) → Best s Q (suc n) n
  best_one n h q none = record {
    within = omega arith;
    allowed = q;
    largest = λ i w a. ⊎_elim (λ (e : i ≡ n). rw e (le_reflexive (get_or s n nan) (N n h))) (λ (u : i < n). absurd (none i u a)) (eq-or-lt_of_le (omega arith));
    first = λ i w a. absurd (none i w a);
  }

  -- one that is not allowed
  best_skip : (n p : ℕ) → (Q n → ⊥) → Best s Q n p → Best s Q (suc n) p
  best_skip n p none b = record {
    within = omega (arith, b.within);
    allowed = b.allowed;
    largest = λ i w a. ⊎_elim (λ (e : i ≡ n). absurd (none (rw e at a))) (λ (u : i < n). b.largest i u a) (eq-or-lt_of_le (omega arith));
    first = b.first;
  }

  -- one more that is
  best_more : (n p : ℕ) → n < length s → Q n → Best s Q n p → Best s Q (suc n) (cond (lt (get_or s p nan) (get_or s n nan)) n p)
  best_more n p h q b = cond_elim (Best s Q (suc n)) (lt (get_or s p nan) (get_or s n nan)) n p
      (λ e. record {
        within = omega arith;
        allowed = q;
        largest = λ i w a. ⊎_elim
            (λ (u : i ≡ n). rw u (le_reflexive (get_or s n nan) (N n h)))
            (λ (u : i < n). lt→le (get_or s i nan) (get_or s n nan) (lower e i u a))
            (eq-or-lt_of_le (omega arith));
        first = lower e;
      })
      (λ e. record {
        within = omega (arith, b.within);
        allowed = b.allowed;
        largest = λ i w a. ⊎_elim
            (λ (u : i ≡ n). rw u (not-lt→le (get_or s p nan) (get_or s n nan) (N p (omega (arith, b.within))) (N n h) (is_not_T e)))
            (λ (u : i < n). b.largest i u a)
            (eq-or-lt_of_le (omega arith));
        first = b.first;
      })
    where
      lower : lt (get_or s p nan) (get_or s n nan) ≡ true → (i : ℕ) → i < n → Q i → T (lt (get_or s i nan) (get_or s n nan))
      lower e i u a = le_lt (get_or s i nan) (get_or s p nan) (get_or s n nan) (N i (omega arith)) (N n h) (b.largest i u a) (is_T e)

-- ---- the first maximum
maximum_best : (s : List Float) → Numbers s → (n : ℕ) → n < length s → Best s (λ i. Unit) (suc n) (maximum_to s (suc n))
unfolding maximum_to
maximum_best s N zero h = cond_elim (Best s (λ i. Unit) 1) (lt (get_or s 0 nan) (get_or s 0 nan)) 0 0 (λ e. one) (λ e. one)
  where
    one : Best s (λ i. Unit) 1 0
    one = best_one s N (λ i. Unit) 0 h tt (λ i w a. not-suc-le-zero w)
maximum_best s N (suc n) h = best_more s N (λ i. Unit) (suc n) (maximum_to s (suc n)) h tt (maximum_best s N n (omega arith))

pub first_maximum_lem : FirstMaximum
first_maximum_lem [] h N = absurd (not-suc-le-zero h)
first_maximum_lem (x ∷ l) h N = let b = maximum_best (x ∷ l) N (length l) (omega arith) in record {
  within = b.within;
  largest = λ i w. b.largest i w tt;
  first = λ i w. b.first i w tt;
}

-- ---- free places
pub free_apart : FreeIsApart
unfolding near_to
free_apart separation [] i k e h = absurd (not-suc-le-zero h)
free_apart separation (place ∷ taken) i zero e h = ltb-false (apart place i) separation (or_false_l (ltb (apart place i) separation) (near_to taken separation i) e)
free_apart separation (place ∷ taken) i (suc k) e h = free_apart separation taken i k (or_false_r (ltb (apart place i) separation) (near_to taken separation i) e) (omega arith)

-- what a scan of the first n places has found
data Scanned (s : List Float) (separation : ℕ) (taken : List ℕ) (n p : ℕ) : Type 0 where
  none : p ≡ length s → ((i : ℕ) → i < n → Free separation taken i → ⊥) → Scanned s separation taken n p
  some : p < n → Free separation taken p → (Numbers s → Best s (Free separation taken) n p) → Scanned s separation taken n p

module _ (s : List Float) (separation : ℕ) (taken : List ℕ) where
  scan_skip : {n p : ℕ} → (Free separation taken n → ⊥) → Scanned s separation taken n p → Scanned s separation taken (suc n) p
  scan_skip {n} {p} f (none e all) = none e (λ i w a. ⊎_elim (λ (u : i ≡ n). f (rw u at a)) (λ (u : i < n). all i u a) (eq-or-lt_of_le (omega arith)))
  scan_skip {n} {p} f (some w a b) = some (omega arith) a (λ N. best_skip s N (Free separation taken) n p f (b N))

  scan_more : {n p : ℕ} → n < length s → Free separation taken n → Scanned s separation taken n p → Scanned s separation taken (suc n) (better s p n)
  scan_more {n} {p} h f (none e all) = rw (eq-eqb p (length s) e) (some (omega arith) f (λ N. best_one s N (Free separation taken) n h f all))
  scan_more {n} {p} h f (some w a b) = rw (ne_eqb p (length s) (λ e. omega arith)) (some
      (cond_elim (λ (q : ℕ). q < suc n) (lt (get_or s p nan) (get_or s n nan)) n p (λ e. omega arith) (λ e. omega arith))
      (cond_elim (Free separation taken) (lt (get_or s p nan) (get_or s n nan)) n p (λ e. f) (λ e. a))
      (λ N. best_more s N (Free separation taken) n p h f (b N)))

  scan : (n : ℕ) → n ≤ length s → Scanned s separation taken n (free_to s separation taken n)
  unfolding free_to
  scan zero h = none refl (λ i w a. not-suc-le-zero w)
  scan (suc n) h = cond_elim (Scanned s separation taken (suc n)) (near_to taken separation n) (free_to s separation taken n) (better s (free_to s separation taken n) n)
      (λ e. scan_skip (λ a. never e a) (scan n (omega arith)))
      (λ e. scan_more (omega arith) e (scan n (omega arith)))

  -- a best free place is free, and the first of the largest of them
  is_free : {p : ℕ} → Scanned s separation taken (length s) p → p < length s → Free separation taken p
  is_free (none e all) h = absurd (omega arith)
  is_free (some w a b) h = a

  is_first : {p : ℕ} → Numbers s → Scanned s separation taken (length s) p → p < length s → FirstFree s separation taken p
  is_first N (none e all) h = absurd (omega arith)
  is_first N (some w a b) h = record { within = h; free = a; largest = (b N).largest; first = (b N).first }

  -- where none was found, none is free
  none_free : {p : ℕ} → Scanned s separation taken (length s) p → p ≡ length s → (i : ℕ) → i < length s → Free separation taken i → ⊥
  none_free (none e all) h i k f = all i k f
  none_free (some w a b) h i k f = omega arith

  -- the scan answers with a place or with the number of scores
  is_within : {p : ℕ} → Scanned s separation taken (length s) p → eqb p (length s) ≡ false → p < length s
  is_within {p} (none e all) h = absurd (eqb-false p (length s) h e)
  is_within (some w a b) h = w

-- ---- peaks
module _ (s : List Float) (separation : ℕ) where
  -- each of the places taken was the best that those before it left free
  abbrev Taken : List ℕ → Type 0
  Taken l = (j : ℕ) → j < length l → (get_or l j 0 ≡ best_free s separation (take j l)) × (get_or l j 0 < length s)

  taken_more : (l : List ℕ) → Taken l → best_free s separation l < length s → Taken (l ++ (best_free s separation l ∷ []))
  taken_more l t w j h = ⊎_elim
      (λ (e : j ≡ length l). rw (e, get_or_at, take_at) (refl, w))
      (λ (u : j < length l). let v : j ≤ length l = omega arith in rw (get_or-append, take-append-le) (t j u))
      (eq-or-lt_of_le (let n = length-append l (best_free s separation l ∷ []) in omega arith))

  few : (k : ℕ) (l : List ℕ) → length (peaks_from s separation k l) ≤ length l + k
  unfolding peaks_from
  few zero l = omega arith
  few (suc k) l = cond_elim (λ (r : List ℕ). length r ≤ length l + suc k) (eqb (best_free s separation l) (length s)) l
      (peaks_from s separation k (l ++ (best_free s separation l ∷ [])))
      (λ e. omega arith)
      (λ e. omega (arith, few k (l ++ (best_free s separation l ∷ [])), length-append l (best_free s separation l ∷ [])))

  peaks_taken : (k : ℕ) (l : List ℕ) → Taken l → Taken (peaks_from s separation k l)
  unfolding peaks_from
  peaks_taken zero l t = t
  peaks_taken (suc k) l t = cond_elim Taken (eqb (best_free s separation l) (length s)) l
      (peaks_from s separation k (l ++ (best_free s separation l ∷ [])))
      (λ e. t)
      (λ e. peaks_taken k (l ++ (best_free s separation l ∷ [])) (taken_more l t (is_within s separation l (scan s separation l (length s) (omega arith)) e)))

  -- where fewer than k were added, none was left
  peaks_stop : (k : ℕ) (l : List ℕ) → length (peaks_from s separation k l) < length l + k → best_free s separation (peaks_from s separation k l) ≡ length s
  unfolding peaks_from
  peaks_stop zero l = λ h. absurd (omega arith)
  peaks_stop (suc k) l = cond_elim (λ (r : List ℕ). length r < length l + suc k → best_free s separation r ≡ length s) (eqb (best_free s separation l) (length s)) l
      (peaks_from s separation k (l ++ (best_free s separation l ∷ [])))
      (λ e h. eqb-true (best_free s separation l) (length s) e)
      (λ e h. peaks_stop k (l ++ (best_free s separation l ∷ [])) (omega (arith, length-append l (best_free s separation l ∷ []))))

  all_taken : Taken (peaks s separation)
  all_taken = peaks_taken candidates_most [] (λ j h. absurd (not-suc-le-zero h))

pub peaks_few : PeaksFew
peaks_few s separation = few s separation candidates_most []

pub peaks_within : PeaksWithin
peaks_within s separation j h = (all_taken s separation j h).1

pub peak_is_best : PeakIsBest
peak_is_best s separation j h = (all_taken s separation j h).0

module _ (s : List Float) (separation j : ℕ) (h : j < length (peaks s separation)) where
  peak_scanned : Scanned s separation (take j (peaks s separation)) (length s) (get_or (peaks s separation) j 0)
  peak_scanned = rw (all_taken s separation j h).0 (scan s separation (take j (peaks s separation)) (length s) (omega arith))

pub peaks_apart : PeaksApart
peaks_apart s separation i j w h =
    let f = is_free s separation (take j (peaks s separation)) (peak_scanned s separation j h) (all_taken s separation j h).1 in
    let v : j ≤ length (peaks s separation) = omega arith in
    rw get_or-take at (free_apart separation (take j (peaks s separation)) (get_or (peaks s separation) j 0) i f (rw length-take-le w))

pub peak_first_largest : PeakFirstLargest
peak_first_largest s separation j N h = is_first s separation (take j (peaks s separation)) N (peak_scanned s separation j h) (all_taken s separation j h).1

pub peaks_exhaust : PeaksExhaust
peaks_exhaust s separation i h = none_free s separation (peaks s separation) (scan s separation (peaks s separation) (length s) (omega arith)) (peaks_stop s separation candidates_most [] h) i
