-- Results: sorting and the 750 rule keep what holds of every candidate, a list once in order stays so when some are dropped, and each kept is far from those before it. Assumes nothing.
use Prim.Native.Nat.{ℕ, zero, suc, ◌+◌, ◌-◌, ◌*◌, ◌^◌, ◌≤◌, ◌<◌}
use native.Mathlib.Nat.{not-suc-le-zero, le_of_eq, zero-mul, zero-add}
use native.Mathlib.Omega.{arith}
use mathlib.Core.Bool.{true, false, ◌&&◌}
use mathlib.Core.List.{List, [], ◌∷◌, ◌++◌, append-nil}
use mathlib.Core.Path.{◌≡◌, refl, sym, ap, ◌∙◌}
use lib.Dec.{T, eqb, leb, ltb}
use lib.ListN.{length, get_or, length-append}
use lib.Seq.{append_snoc}
use lib.IntN.{ℤ, pos}
use lib.Ieee.{Float, nan, inf, fin, binary64, up, down, neg, lt, le, of_bits}
use lib.Ieee.Scale.{finite}
use borrow.Author.Tests.{ltb-true, ltb-false, leb-true, eqb-true}
use Rattle.numbers_spec.specs.Arithmetic.{◌⊖◌, zero⁺, absolute, count_of, real, at_most, magnitude}
use Rattle.numbers_spec.specs.Whole.{whole_below}
use Rattle.numbers_spec.proofs.Order.{le_reflexive, le_transitive, lt→le, not-lt→le}
use Rattle.numbers_spec.proofs.Sums.{sub_not_negative, distance_symmetric}
use Rattle.numbers_spec.proofs.CountLaws.{count_monotone, count_of_real, count_at_most}
use Rattle.matcher_spec.specs.Candidates.{insert, sort_into, sorted, crowded, independent_from, independent, apart_ms, blank, margin_of}
use Rattle.matcher_spec.specs.Timeline.{accepts, regular, valid_values}
use Rattle.matcher_spec.specs.Centring.{radius}
use Rattle.matcher_spec.specs.Energy.{Bands}
use Rattle.matcher_spec.specs.Peaks.{peaks}
use Rattle.matcher_spec.specs.Index.{Matcher}
use Rattle.matcher_spec.specs.Search.{searchable, query_of, query_start, candidate_in, range_low, range_high, candidates_at, place, local_low, local_high, local_found, coarse_scores, separation, whole_found, whole_search, local_search}
use Rattle.matcher_spec.specs.Features.{Features}
use Rattle.matcher_spec.specs.declared.types.Reference.{Reference}
use Rattle.matcher_spec.specs.declared.types.Candidate.{Candidate}
use Rattle.matcher_spec.specs.ResultLaws.{All, Pairs, Scored, NoHigher, Far, From, KeptFrom, SortedByScore, BestFirst, Apart750, AtMostEight, WholeApart, AtMostOne, Searchable, SearchableGives, OfPlaces, WholeFinds, LocalFinds, WholeSorted, MarginLaws}
use Rattle.matcher_spec.proofs.PeakLaws.{peaks_few}
use Rattle.matcher_spec.proofs.Cases.{cond_elim, is_T, is_not_T, or_false_l, or_false_r, and_true_l, and_true_r}
use Rattle.matcher_spec.specs.Limits.{candidates_most}

-- ---- what holds of every candidate, and of each and every later one, element by element
data Every (P : Candidate → Type 0) : List Candidate → Type 0 where
  none : Every P []
  more : {c : Candidate} {l : List Candidate} → P c → Every P l → Every P (c ∷ l)

data Ordered (R : Candidate → Candidate → Type 0) : List Candidate → Type 0 where
  nothing : Ordered R []
  each : {c : Candidate} {l : List Candidate} → Every (R c) l → Ordered R l → Ordered R (c ∷ l)

module _ {P : Candidate → Type 0} where
  all_every : (l : List Candidate) → All P l → Every P l
  all_every [] h = none
  all_every (c ∷ l) h = more (h 0 (omega arith)) (all_every l (λ i w. h (suc i) (omega arith)))

  every_all : {l : List Candidate} → Every P l → All P l
  every_all none i w = absurd (not-suc-le-zero w)
  every_all (more p e) zero w = p
  every_all (more p e) (suc i) w = every_all e i (omega arith)

  every_head : {c : Candidate} {l : List Candidate} → Every P (c ∷ l) → P c
  every_head (more p e) = p

  every_tail : {c : Candidate} {l : List Candidate} → Every P (c ∷ l) → Every P l
  every_tail (more p e) = e

  every_append : {k l : List Candidate} → Every P k → Every P l → Every P (k ++ l)
  every_append none e = e
  every_append (more p d) e = more p (every_append d e)

  every_drop : (k : List Candidate) (c : Candidate) (l : List Candidate) → Every P (k ++ (c ∷ l)) → Every P (k ++ l)
  every_drop [] c l (more p e) = e
  every_drop (d ∷ k) c l (more p e) = more p (every_drop k c l e)

every_map : {P Q : Candidate → Type 0} → ((c : Candidate) → P c → Q c) → {l : List Candidate} → Every P l → Every Q l
every_map f none = none
every_map f (more {c = c} p e) = more (f c p) (every_map f e)

module _ {R : Candidate → Candidate → Type 0} where
  ordered_pairs : {l : List Candidate} → Ordered R l → Pairs R l
  ordered_pairs nothing i j h w = absurd (not-suc-le-zero w)
  ordered_pairs (each e o) i zero h w = absurd (not-suc-le-zero h)
  ordered_pairs (each e o) zero (suc j) h w = every_all e j (omega arith)
  ordered_pairs (each e o) (suc i) (suc j) h w = ordered_pairs o i j (omega arith) (omega arith)

  ordered_drop : (k : List Candidate) (c : Candidate) (l : List Candidate) → Ordered R (k ++ (c ∷ l)) → Ordered R (k ++ l)
  ordered_drop [] c l (each e o) = o
  ordered_drop (d ∷ k) c l (each e o) = each (every_drop k c l e) (ordered_drop k c l o)

  ordered_snoc : {k : List Candidate} {c : Candidate} → Ordered R k → Every (λ d. R d c) k → Ordered R (k ++ (c ∷ []))
  ordered_snoc nothing none = each none nothing
  ordered_snoc (each e o) (more p d) = each (every_append e (more p none)) (ordered_snoc o d)

-- ---- sorting
module _ {P : Candidate → Type 0} where
  insert_every : (c : Candidate) {l : List Candidate} → P c → Every P l → Every P (insert c l)
  unfolding insert
  insert_every c p none = more p none
  insert_every c p (more {c = d} {l = l} q e) = cond_elim (Every P) (lt d.score c.score) (c ∷ d ∷ l) (d ∷ insert c l) (λ u. more p (more q e)) (λ u. more q (insert_every c p e))

  sort_every : {k l : List Candidate} → Every P k → Every P l → Every P (sort_into k l)
  unfolding sort_into
  sort_every d none = d
  sort_every {k = k} d (more {c = c} p e) = sort_every {k = insert c k} (insert_every c p d) e

insert_ordered : (c : Candidate) {l : List Candidate} → Scored c → Every Scored l → Ordered NoHigher l → Ordered NoHigher (insert c l)
unfolding insert
insert_ordered c s a nothing = each none nothing
insert_ordered c s (more n a) (each {c = d} {l = l} e o) = cond_elim (Ordered NoHigher) (lt d.score c.score) (c ∷ d ∷ l) (d ∷ insert c l)
    (λ u. let h = lt→le d.score c.score (is_T u) in each (more h (every_map (λ x q. le_transitive x.score d.score c.score q h) e)) (each e o))
    (λ u. each (insert_every c (not-lt→le d.score c.score n s (is_not_T u)) e) (insert_ordered c s a o))

sort_ordered : {k l : List Candidate} → Every Scored k → Every Scored l → Ordered NoHigher k → Ordered NoHigher (sort_into k l)
unfolding sort_into
sort_ordered a none o = o
sort_ordered {k = k} a (more {c = c} s b) o = sort_ordered {k = insert c k} (insert_every c s a) b (insert_ordered c s a o)

-- ---- the 750 rule
-- what holds of the listed and the rest holds of what is kept
independent_every : {P : Candidate → Type 0} (k l : List Candidate) → Every P k → Every P l → Every P (independent_from k l)
unfolding independent_from
independent_every k [] d e = d
independent_every k (c ∷ l) d (more p e) = cond_elim (Every _) (crowded k c) (independent_from k l) (independent_from (k ++ (c ∷ [])) l)
    (λ u. independent_every k l d e)
    (λ u. independent_every (k ++ (c ∷ [])) l (every_append d (more p none)) e)

-- what is kept is in order if the listed and the rest are
independent_ordered : {R : Candidate → Candidate → Type 0} (k l : List Candidate) → Ordered R (k ++ l) → Ordered R (independent_from k l)
unfolding independent_from
independent_ordered k [] o = rw append-nil at o
independent_ordered k (c ∷ l) o = cond_elim (Ordered _) (crowded k c) (independent_from k l) (independent_from (k ++ (c ∷ [])) l)
    (λ u. independent_ordered k l (ordered_drop k c l o))
    (λ u. independent_ordered (k ++ (c ∷ [])) l (rw append_snoc o))

-- |x| by comparison and |x| by its sign differ only in the sign of a zero, which no comparison sees
absolute_below : (x : Float) (n : ℕ) (d : ℤ) → lt (absolute x) (fin false n d) ≡ lt (magnitude x) (fin false n d)
unfolding lt neg magnitude
absolute_below nan n d = refl
absolute_below (inf true) n d = refl
absolute_below (inf false) n d = refl
absolute_below (fin false m e) n d = cond_elim (λ (x : Float). lt x (fin false n d) ≡ ltb (m * up e * down d) (n * up d * down e)) (lt (fin false m e) zero⁺) (fin true m e) (fin false m e)
    (λ u. absurd (omega (arith, ltb-true (m * up e * 1) (0 * down e) u, zero-mul (down e))))
    (λ u. refl)
absolute_below (fin true m e) n d = cond_elim (λ (x : Float). lt x (fin false n d) ≡ ltb (m * up e * down d) (n * up d * down e)) (lt (fin true m e) zero⁺) (fin false m e) (fin true m e)
    (λ u. refl)
    (λ u. let z : m * up e ≡ 0 = omega (arith, ltb-false 0 (m * up e * 1 + 0 * down e) u) in rw (z, zero-mul, zero-add))

far : (c d : Candidate) → lt (absolute (c.offset_ms ⊖ d.offset_ms)) apart_ms ≡ false → Far c d
unfolding of_bits
far c d u = record {
  ahead = u;
  back = absolute_below (d.offset_ms ⊖ c.offset_ms) 375 (pos 1)
      ∙ ap (λ (x : Float). lt x apart_ms) (distance_symmetric binary64 d.offset_ms c.offset_ms)
      ∙ sym (absolute_below (c.offset_ms ⊖ d.offset_ms) 375 (pos 1))
      ∙ u;
}

crowded_far : (k : List Candidate) (c : Candidate) → crowded k c ≡ false → Every (λ d. Far d c) k
unfolding crowded
crowded_far [] c u = none
crowded_far (d ∷ k) c u =
    let near = lt (absolute (d.offset_ms ⊖ c.offset_ms)) apart_ms in
    more (far d c (or_false_l near (crowded k c) u)) (crowded_far k c (or_false_r near (crowded k c) u))

independent_far : (k l : List Candidate) → Ordered Far k → Ordered Far (independent_from k l)
unfolding independent_from
independent_far k [] o = o
independent_far k (c ∷ l) o = cond_elim (Ordered Far) (crowded k c) (independent_from k l) (independent_from (k ++ (c ∷ [])) l)
    (λ u. independent_far k l o)
    (λ u. independent_far (k ++ (c ∷ [])) l (ordered_snoc o (crowded_far k c u)))

-- ---- any list of candidates
pub kept_from : KeptFrom
kept_from l = every_all {P = From l} (independent_every [] (sorted l) none (sort_every none (all_every l (λ i w. record { place = i; within = w; is = refl }))))

sorted_ordered : (l : List Candidate) → All Scored l → Ordered NoHigher (sorted l)
sorted_ordered l h = sort_ordered none (all_every l h) nothing

pub sorted_by_score : SortedByScore
sorted_by_score l h = ordered_pairs (independent_ordered [] (sorted l) (sorted_ordered l h))

pub apart_750 : Apart750
apart_750 l = ordered_pairs (independent_far [] l nothing)

-- what holds of a list once sorted holds of the list
insert_back : {P : Candidate → Type 0} (c : Candidate) (l : List Candidate) → Every P (insert c l) → P c × Every P l
unfolding insert
insert_back c [] = λ e. (every_head e, none)
insert_back {P} c (d ∷ l) = cond_elim (λ (r : List Candidate). Every P r → P c × Every P (d ∷ l)) (lt d.score c.score) (c ∷ d ∷ l) (d ∷ insert c l)
    (λ u e. (every_head e, every_tail e))
    (λ u e. let r = insert_back c l (every_tail e) in (r.0, more (every_head e) r.1))

sort_back : {P : Candidate → Type 0} (k l : List Candidate) → Every P (sort_into k l) → Every P k × Every P l
unfolding sort_into
sort_back k [] e = (e, none)
sort_back k (c ∷ l) e = let r = sort_back (insert c k) l e in let s = insert_back c k r.0 in (s.1, more s.0 r.1)

-- the first stays the first
first_kept : (c : Candidate) (k l : List Candidate) → (0 < length (independent_from (c ∷ k) l)) × (get_or (independent_from (c ∷ k) l) 0 blank ≡ c)
unfolding independent_from
first_kept c k [] = (omega arith, refl)
first_kept c k (d ∷ l) = cond_elim (λ (r : List Candidate). (0 < length r) × (get_or r 0 blank ≡ c)) (crowded (c ∷ k) d) (independent_from (c ∷ k) l) (independent_from (c ∷ k ++ (d ∷ [])) l)
    (λ u. first_kept c k l)
    (λ u. first_kept c (k ++ (d ∷ [])) l)

-- so the first kept of a list in order is the best of it
best_first_of : (l : List Candidate) → 0 < length l → Every Scored l → Ordered NoHigher l → (0 < length (independent l)) × Every (NoHigher (get_or (independent l) 0 blank)) l
unfolding independent_from crowded
best_first_of [] w s o = absurd (not-suc-le-zero w)
best_first_of (c ∷ l) w (more n s) (each e o) = ((first_kept c [] l).0, rw (first_kept c [] l).1 (more (le_reflexive c.score n) e))

-- ---- lengths
length_insert : (c : Candidate) (l : List Candidate) → length (insert c l) ≡ suc (length l)
unfolding insert
length_insert c [] = refl
length_insert c (d ∷ l) = cond_elim (λ (r : List Candidate). length r ≡ suc (suc (length l))) (lt d.score c.score) (c ∷ d ∷ l) (d ∷ insert c l) (λ u. refl) (λ u. ap suc (length_insert c l))

length_sort : (k l : List Candidate) → length (sort_into k l) ≡ length k + length l
unfolding sort_into
length_sort k [] = omega arith
length_sort k (c ∷ l) = omega (arith, length_sort (insert c k) l, length_insert c k)

length_independent : (k l : List Candidate) → length (independent_from k l) ≤ length k + length l
unfolding independent_from
length_independent k [] = omega arith
length_independent k (c ∷ l) = cond_elim (λ (r : List Candidate). length r ≤ length k + suc (length l)) (crowded k c) (independent_from k l) (independent_from (k ++ (c ∷ [])) l)
    (λ u. omega (arith, length_independent k l))
    (λ u. omega (arith, length_independent (k ++ (c ∷ [])) l, length-append k (c ∷ [])))

pub best_first : BestFirst
best_first l h w =
    let s = all_every {P = Scored} l h in
    let b = best_first_of (sorted l) (rw length_sort (omega arith)) (sort_every none s) (sorted_ordered l h) in
    (b.0, every_all (sort_back [] l b.1).1)

-- ---- the searches
-- the count of what is capped at a whole number is at most that
count_capped : (n : ℕ) (x : Float) → n ≤ 2 ^ 53 → count_of (at_most (real n) x) ≤ n
count_capped n x h = cond_elim (λ (y : Float). count_of y ≤ n) (lt x (real n)) x (real n)
    (λ u. count_at_most n h x (lt→le x (real n) (is_T u)))
    (λ u. le_of_eq (count_of_real n h))

module _ (x : Reference) (fine query : Bands) (start : Float) where
  length_candidates : (ps : List ℕ) → length (candidates_at x fine query start ps) ≤ length ps
  unfolding candidates_at
  length_candidates [] = omega arith
  length_candidates (p ∷ ps) = cond_elim (λ (r : List Candidate). length r ≤ suc (length ps)) (leb (range_low x fine query start p) (range_high x fine query start p))
      (candidate_in x fine query start (range_low x fine query start p) (range_high x fine query start p) ∷ candidates_at x fine query start ps) (candidates_at x fine query start ps)
      (λ u. omega (arith, length_candidates ps))
      (λ u. omega (arith, length_candidates ps))

  -- the places from which and to which a local search goes
  abbrev lowest : Float → ℕ
  lowest lower = count_of (local_low x fine query start lower)

  abbrev highest : Float → ℕ
  highest upper = count_of (local_high x fine query start upper)

  local_cases : (G : List Candidate → Type 0) (lower upper : Float) → G []
      → (T (le (local_low x fine query start lower) (local_high x fine query start upper)) → G (candidate_in x fine query start (lowest lower) (highest upper) ∷ []))
      → G (local_found x fine query start lower upper)
  unfolding local_found
  local_cases G lower upper g h =
      let ordered = le (local_low x fine query start lower) (local_high x fine query start upper) in
      cond_elim G (finite lower && (finite upper && (le lower upper && ordered))) (candidate_in x fine query start (lowest lower) (highest upper) ∷ []) []
      (λ u. h (is_T (and_true_r (le lower upper) ordered (and_true_r (finite upper) (le lower upper && ordered) (and_true_r (finite lower) (finite upper && (le lower upper && ordered)) u)))))
      (λ u. g)

  module _ {P : Candidate → Type 0} (h : (low high : ℕ) → low ≤ high → high ≤ x.frames - query.count → P (candidate_in x fine query start low high)) where
    candidates_every : (ps : List ℕ) → Every P (candidates_at x fine query start ps)
    unfolding candidates_at
    candidates_every [] = none
    candidates_every (p ∷ ps) = cond_elim (Every P) (leb (range_low x fine query start p) (range_high x fine query start p))
        (candidate_in x fine query start (range_low x fine query start p) (range_high x fine query start p) ∷ candidates_at x fine query start ps) (candidates_at x fine query start ps)
        (λ u. more (h (range_low x fine query start p) (range_high x fine query start p) (leb-true (range_low x fine query start p) (range_high x fine query start p) u) (omega arith)) (candidates_every ps))
        (λ u. candidates_every ps)

    local_every : (lower upper : Float) → x.frames ≤ 2 ^ 53 → Every P (local_found x fine query start lower upper)
    local_every lower upper w = local_cases (Every P) lower upper none (λ u. more
        (h (lowest lower) (highest upper)
        (count_monotone (local_low x fine query start lower) (local_high x fine query start upper) u)
        (count_capped (x.frames - query.count) (whole_below (place x fine query start upper)) (omega arith)))
        none)

pub searchable_gives : SearchableGives
unfolding searchable accepts
searchable_gives x w u =
    let r = radius x.hop_ms in
    let long = ltb (2 * r + 16) (length w.times) in
    let valid = valid_values w.values in
    let accepted = eqb w.bands x.bands && regular x.hop_ms w.times in
    let fits = leb (length w.times - 2 * r) x.frames in
    let a = and_true_l accepted (long && (valid && fits)) u in
    let b = and_true_r accepted (long && (valid && fits)) u in
    let c = and_true_r long (valid && fits) b in
    record {
      same_bands = eqb-true w.bands x.bands (and_true_l (eqb w.bands x.bands) (regular x.hop_ms w.times) a);
      on_time_lem = and_true_r (eqb w.bands x.bands) (regular x.hop_ms w.times) a;
      long = ltb-true (2 * r + 16) (length w.times) (and_true_l long (valid && fits) b);
      valid = and_true_l valid fits c;
      fits = leb-true (length w.times - 2 * r) x.frames (and_true_r valid fits c);
    }

-- the candidates of a whole search, before they are sorted
abbrev found : Matcher → Features → List Candidate
found m w =
    let x = m.reference in
    let query = query_of (radius x.hop_ms) w in
    candidates_at x m.fine query (query_start (radius x.hop_ms) w) (peaks (coarse_scores x.bands m.coarse query) (separation x.hop_ms))

-- what holds of no candidates and of those found holds of the result
whole : (G : List Candidate → Type 0) (m : Matcher) (w : Features) → G [] → (Searchable m.reference w → G (independent (sorted (found m w)))) → G (whole_search m w)
unfolding whole_search whole_found
whole G m w g h = cond_elim G (searchable m.reference w) (independent (sorted (found m w))) [] (λ u. h (searchable_gives m.reference w u)) (λ u. g)

found_every : (P : Candidate → Type 0) (m : Matcher) (w : Features) → OfPlaces m.reference m.fine w P → Searchable m.reference w → Every P (found m w)
found_every P m w h s =
    let r = radius m.reference.hop_ms in
    let scores = coarse_scores m.reference.bands m.coarse (query_of r w) in
    candidates_every m.reference m.fine (query_of r w) (query_start r w) {P = P} (h s) (peaks scores (separation m.reference.hop_ms))

pub at_most_eight : AtMostEight
at_most_eight m w = whole (λ (l : List Candidate). length l ≤ candidates_most) m w (omega arith) (λ s.
    let r = radius m.reference.hop_ms in
    let scores = coarse_scores m.reference.bands m.coarse (query_of r w) in
    let few = peaks_few scores (separation m.reference.hop_ms) in
    let c = length_candidates m.reference m.fine (query_of r w) (query_start r w) (peaks scores (separation m.reference.hop_ms)) in
    omega (arith, length_independent [] (sorted (found m w)), length_sort [] (found m w)))

pub whole_apart : WholeApart
whole_apart m w = whole (Pairs Far) m w (λ i j h k. absurd (not-suc-le-zero k)) (λ s. apart_750 (sorted (found m w)))

pub whole_finds : WholeFinds
whole_finds m w P h = whole (All P) m w (λ i k. absurd (not-suc-le-zero k)) (λ s. every_all {P = P} (independent_every [] (sorted (found m w)) none (sort_every none (found_every P m w h s))))

pub whole_sorted : WholeSorted
whole_sorted m w h = whole (Pairs NoHigher) m w (λ i j h k. absurd (not-suc-le-zero k)) (λ s. sorted_by_score (found m w) (every_all {P = Scored} (found_every Scored m w h s)))

-- what holds of no candidates and of what is found in the range holds of a local search
near : (G : List Candidate → Type 0) (x : Reference) (fine : Bands) (w : Features) (lower upper : Float) → G []
    → (Searchable x w → G (local_found x fine (query_of (radius x.hop_ms) w) (query_start (radius x.hop_ms) w) lower upper)) → G (local_search x fine w lower upper)
unfolding local_search
near G x fine w lower upper g h =
    cond_elim G (searchable x w) (local_found x fine (query_of (radius x.hop_ms) w) (query_start (radius x.hop_ms) w) lower upper) [] (λ u. h (searchable_gives x w u)) (λ u. g)

pub at_most_one : AtMostOne
at_most_one x fine w lower upper =
    let r = radius x.hop_ms in
    let few : List Candidate → Type 0 = λ l. length l ≤ 1 in
    near few x fine w lower upper (omega arith) (λ s. local_cases x fine (query_of r w) (query_start r w) few lower upper (omega arith) (λ u. omega arith))

pub local_finds : LocalFinds
local_finds x fine w lower upper P e h =
    let r = radius x.hop_ms in
    near (All P) x fine w lower upper (λ i k. absurd (not-suc-le-zero k)) (λ s. every_all {P = P} (local_every x fine (query_of r w) (query_start r w) {P = P} (h s) lower upper e))

-- ---- the margin
pub margin_laws : MarginLaws
unfolding margin_of
margin_laws = record { of_none = refl; of_one = λ c. refl; not_negative = λ c d l x y h. sub_not_negative binary64 c.score d.score x y h }
