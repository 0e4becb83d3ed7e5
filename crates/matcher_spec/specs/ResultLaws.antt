-- What is proved of a search's result: how many candidates it has, how far apart they are, their order, and that each is a candidate of some places of the reference (document 01, Matcher). Definitions only.
use Rattle.std.specs.Prelude.{ℕ, ◌+◌, ◌-◌, ◌*◌, ◌^◌, ◌≤◌, ◌<◌, true, false, List, [], ◌∷◌, ◌≡◌, T, length, get_or, Float}
use Rattle.std.specs.Float.Ieee.{lt, le}
use Rattle.std.specs.Float.Ieee.Scale.{finite}
use Rattle.numbers_spec.specs.Arithmetic.{◌⊖◌, zero⁺, absolute}
use Rattle.numbers_spec.specs.Values.{Number, NotNegative}
use Rattle.matcher_spec.specs.Timeline.{regular, valid_values}
use Rattle.matcher_spec.specs.Centring.{radius}
use Rattle.matcher_spec.specs.Energy.{Bands}
use Rattle.matcher_spec.specs.Candidates.{sorted, apart_ms, independent, blank, margin_of}
use Rattle.matcher_spec.specs.Index.{Matcher}
use Rattle.matcher_spec.specs.Search.{searchable, query_of, query_start, candidate_in, whole_search, local_search}
use Rattle.matcher_spec.specs.Features.{Features}
use Rattle.matcher_spec.specs.declared.types.Reference.{Reference}
use Rattle.matcher_spec.specs.declared.types.Candidate.{Candidate}
use Rattle.matcher_spec.specs.Limits.{candidates_most}

-- ---- words
-- P holds of every candidate of the list.
abbrev pub All : (Candidate → Type 0) → List Candidate → Type 0
All P l = (i : ℕ) → i < length l → P (get_or l i blank)

-- R holds of each candidate and every later one.
abbrev pub Pairs : (Candidate → Candidate → Type 0) → List Candidate → Type 0
Pairs R l = (i j : ℕ) → i < j → j < length l → R (get_or l i blank) (get_or l j blank)

-- c has a score.
abbrev pub Scored : Candidate → Type 0
Scored c = Number c.score

-- d scores no higher than c.
abbrev pub NoHigher : Candidate → Candidate → Type 0
NoHigher c d = T (le d.score c.score)

-- Their offsets, subtracted in f64 either way, are not less than 750 apart. (A difference that is a NaN is not less than anything; finite offsets have none.)
pub record Far (c d : Candidate) : Type 0 where
  pub ahead : lt (absolute (c.offset_ms ⊖ d.offset_ms)) apart_ms ≡ false
  pub back : lt (absolute (d.offset_ms ⊖ c.offset_ms)) apart_ms ≡ false

-- ---- order and the 750 rule, of any list of candidates
-- Each candidate kept is one of the list.
pub record From (l : List Candidate) (c : Candidate) : Type 0 where
  pub place : ℕ
  pub within : place < length l
  pub is : c ≡ get_or l place blank

abbrev pub KeptFrom : Type 0
KeptFrom = (l : List Candidate) → All (From l) (independent (sorted l))

-- None that scores higher stands behind another, where no score is a NaN.
abbrev pub SortedByScore : Type 0
SortedByScore = (l : List Candidate) → All Scored l → Pairs NoHigher (independent (sorted l))

-- The first is the best of all, also of those that the 750 rule drops.
abbrev pub BestFirst : Type 0
BestFirst = (l : List Candidate) → All Scored l → 0 < length l → (0 < length (independent (sorted l))) × All (NoHigher (get_or (independent (sorted l)) 0 blank)) l

-- Any two are 750 apart.
abbrev pub Apart750 : Type 0
Apart750 = (l : List Candidate) → Pairs Far (independent l)

-- ---- the searches
-- At most 8 candidates, any two 750 apart;
abbrev pub AtMostEight : Type 0
AtMostEight = (m : Matcher) (w : Features) → length (whole_search m w) ≤ candidates_most

abbrev pub WholeApart : Type 0
WholeApart = (m : Matcher) (w : Features) → Pairs Far (whole_search m w)

-- a local search finds one at most.
abbrev pub AtMostOne : Type 0
AtMostOne = (x : Reference) (fine : Bands) (w : Features) (lower upper : Float) → length (local_search x fine w lower upper) ≤ 1

-- What a search that begins knows of its window.
pub record Searchable (x : Reference) (w : Features) : Type 0 where
  pub same_bands : w.bands ≡ x.bands
  pub on_time_lem : regular x.hop_ms w.times ≡ true
  pub long : 2 * radius x.hop_ms + 16 < length w.times
  pub valid : valid_values w.values ≡ true
  pub fits : length w.times - 2 * radius x.hop_ms ≤ x.frames

abbrev pub SearchableGives : Type 0
SearchableGives = (x : Reference) (w : Features) → searchable x w ≡ true → Searchable x w

-- P holds of every candidate of places from `low` to `high` at which the query lies within the reference, for a window that is searched.
abbrev pub OfPlaces : Reference → Bands → Features → (Candidate → Type 0) → Type 0
OfPlaces x fine w P =
    let r = radius x.hop_ms in
    Searchable x w → (low high : ℕ) → low ≤ high → high ≤ x.frames - (query_of r w).count → P (candidate_in x fine (query_of r w) (query_start r w) low high)

-- Then it holds of every candidate found: by a whole search,
abbrev pub WholeFinds : Type 1
WholeFinds = (m : Matcher) (w : Features) (P : Candidate → Type 0) → OfPlaces m.reference m.fine w P → All P (whole_search m w)

-- and by a local one, in a reference of at most 2 ^ 53 frames: up to there a float holds each place.
abbrev pub LocalFinds : Type 1
LocalFinds = (x : Reference) (fine : Bands) (w : Features) (lower upper : Float) (P : Candidate → Type 0) → x.frames ≤ 2 ^ 53 → OfPlaces x fine w P → All P (local_search x fine w lower upper)

-- A whole search lists the best first, where no candidate's score is a NaN.
abbrev pub WholeSorted : Type 0
WholeSorted = (m : Matcher) (w : Features) → OfPlaces m.reference m.fine w Scored → Pairs NoHigher (whole_search m w)

-- ---- the margin
-- None gives 0, a lone candidate's is its score, and of finite scores in order it is not negative.
pub record MarginLaws : Type 0 where
  pub of_none : margin_of [] ≡ zero⁺
  pub of_one : (c : Candidate) → margin_of (c ∷ []) ≡ c.score
  pub not_negative : (c d : Candidate) (l : List Candidate) → T (finite c.score) → T (finite d.score) → NoHigher c d → NotNegative (margin_of (c ∷ d ∷ l))
