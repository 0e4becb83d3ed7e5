-- Candidates around peaks are put in one after the other; the ends of a local range are places. Assumes nothing.
use Rattle.std.proofs.Common.{◌≡◌, ℕ, ◌+◌, ◌-◌, ◌*◌, ◌^◌, ◌<◌, ◌≤◌, Bool, true, false, cond, leb, List, ◌∷◌, length, get_or, drop, Float, refl, sym, subst, ◌∙◌, arith, T, min}
use borrow.Author.Tests.{le-leb, lt-leb}
use Rattle.std.specs.Float.Ieee.{le, lt}
use Rattle.std.specs.Float.Ieee.Scale.{finite}
use Rattle.numbers_spec.specs.Arithmetic.{at_most, count_of, real}
use Rattle.numbers_spec.proofs.CountLaws.{count_monotone, count_at_most}
use Rattle.numbers_spec.proofs.Mantissa.{whole_finite}
use Rattle.numbers_spec.proofs.Order.{lt→le, le_self}
use Rattle.matcher_spec.specs.Limits.{frames_most}
use Rattle.std.proofs.lemmas.List.{at_drop_more}
use Rattle.matcher_spec.specs.Candidates.{insert, sort_into}
use Rattle.matcher_spec.specs.Energy.{Bands}
use Rattle.matcher_spec.specs.Search.{candidate_in, candidates_at}
use Rattle.matcher_spec.specs.declared.types.Candidate.{Candidate}
use Rattle.matcher_spec.specs.declared.types.Reference.{Reference}

put_in : (t : Bool) (c : Candidate) (cs found : List Candidate) → sort_into found (cond t (c ∷ cs) cs) ≡ cond t (sort_into (insert c found) cs) (sort_into found cs)
unfolding sort_into
put_in true c cs found = refl
put_in false c cs found = refl

-- p is peak i. What is found around it and the later ones goes into `found`.
module _ (x : Reference) (fine query : Bands) (start : Float) (found : List Candidate) (peaks : List ℕ) (i : ℕ) (h : i < length peaks) {low high : ℕ}
    (l : low ≡ get_or peaks i 0 * 4 - 4) (u : high ≡ min (x.frames - query.count) (get_or peaks i 0 * 4 + 4)) where
  next_peak : sort_into found (candidates_at x fine query start (drop i peaks))
      ≡ cond (leb low high) (sort_into (insert (candidate_in x fine query start low high) found) (candidates_at x fine query start (drop (i + 1) peaks)))
      (sort_into found (candidates_at x fine query start (drop (i + 1) peaks)))
  unfolding candidates_at
  next_peak = rw (l, u)
      (at_drop_more (λ (ps : List ℕ). sort_into found (candidates_at x fine query start ps)) peaks i 0 h
      ∙ put_in (leb (get_or peaks i 0 * 4 - 4) (min (x.frames - query.count) (get_or peaks i 0 * 4 + 4))) (candidate_in x fine query start (get_or peaks i 0 * 4 - 4) (min (x.frames - query.count) (get_or peaks i 0 * 4 + 4)))
      (candidates_at x fine query start (drop (i + 1) peaks)) found)

  -- Either the query has a place there,
  pub peak_in : low ≤ high → sort_into (insert (candidate_in x fine query start low high) found) (candidates_at x fine query start (drop (i + 1) peaks)) ≡ sort_into found (candidates_at x fine query start (drop i peaks))
  peak_in w = sym (rw (le-leb low high w) at next_peak)

  -- or it has none.
  pub peak_out : high < low → sort_into found (candidates_at x fine query start (drop (i + 1) peaks)) ≡ sort_into found (candidates_at x fine query start (drop i peaks))
  peak_out w = sym (rw (lt-leb low high w) at next_peak)

-- ---- the range of a local search
at_most_cap : (cap x : Float) → T (finite cap) → T (le (at_most cap x) cap)
at_most_cap cap x f = go (lt x cap) (lt→le x cap)
  where
    go : (t : Bool) → (T t → T (le x cap)) → T (le (cond t x cap) cap)
    go true h = h tt
    go false h = le_self cap f

-- what is at most m and not below `low` has a count that is so too
pub counts_within : (m : ℕ) (low : Float) {high : Float} (x : Float) → m ≤ frames_most → high ≡ at_most (real m) x → le low high ≡ true → (count_of low ≤ count_of high) × (count_of high ≤ m)
counts_within m low {high} x small e h =
    let fits : m ≤ 2 ^ 53 = omega arith in
    (count_monotone low high (subst T (sym h) tt), rw e (count_at_most m fits (at_most (real m) x) (at_most_cap (real m) x (whole_finite m fits))))
