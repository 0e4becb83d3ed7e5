-- Whole and local search (document 01, Matcher; matcher.rs, `match_query`). Definitions only.
use Rattle.std.specs.Prelude.{ℕ, ◌+◌, ◌-◌, ◌*◌, ◌/◌, ◌<◌, ◌≤◌, min, max, Bool, true, cond, ◌&&◌, List, [], ◌∷◌, ◌≡◌, leb, ltb, length, get_or, Float}
use Rattle.std.specs.Float.{nan, binary64}
use Rattle.std.specs.Float.Ieee.{le, lt, of_bits}
use Rattle.std.specs.Float.Ieee.Scale.{finite}
use Rattle.numbers_spec.specs.Arithmetic.{◌⊕◌, ◌⊖◌, ◌⊗◌, ◌⊘◌, zero⁺, two, at_least, at_most, count_of, real}
use Rattle.numbers_spec.specs.Logarithm.{half}
use Rattle.numbers_spec.specs.Whole.{whole_above, whole_below}
use Rattle.numbers_spec.specs.Rows.{rows, row}
use Rattle.matcher_spec.specs.Timeline.{accepts, valid_values}
use Rattle.matcher_spec.specs.Centring.{radius, centred, kept, wide_hop}
use Rattle.matcher_spec.specs.Energy.{Bands, with_energies, reduced, reduction, whole_energies}
use Rattle.matcher_spec.specs.Scores.{correlations, score_part}
use Rattle.matcher_spec.specs.Peaks.{first_maximum, peaks}
use Rattle.matcher_spec.specs.Candidates.{sorted, independent, apart_ms}
use Rattle.matcher_spec.specs.Index.{Matcher, lent_bands}
use Rattle.matcher_spec.specs.declared.types.Reference.{Reference}
use Rattle.matcher_spec.specs.declared.types.Candidate.{Candidate}
use Rattle.matcher_spec.specs.Features.{Features}
use Rattle.matcher_spec.specs.Limits.{frames_most, bands_most}

-- ---- the window
-- So many centred frames are too few.
abbrev pub too_few : ℕ
too_few = 16

-- Whether a search begins: an accepted timeline, more than 2R + 16 frames, values that a band may hold, and no more centred frames than the reference has.
unfoldable pub searchable : Reference → Features → Bool
searchable x w =
    let r = radius x.hop_ms in
    accepts x.bands x.hop_ms w.bands w.times
    && (ltb (2 * r + too_few) (length w.times)
    && (valid_values w.values && leb (length w.times - 2 * r) x.frames))

-- Each band of the window, centred and cut.
abbrev pub query_values : ℕ → ℕ → ℕ → List Float → List Float
query_values r bands n values = rows (λ (b : ℕ). kept r (centred r (row n values b))) bands

unfoldable pub query_of : ℕ → Features → Bands
query_of r w = with_energies w.bands (length w.times - 2 * r) (query_values r w.bands (length w.times) w.values)

-- The time of the query's first frame.
abbrev pub query_start : ℕ → Features → Float
query_start r w = get_or w.times r nan

-- ---- a candidate
-- -0.000001 and -0.5
abbrev pub flat : Float
flat = of_bits binary64 0xbeb0c6f7a0b5ed8d

abbrev pub minus_half : Float
minus_half = of_bits binary64 0xbfe0000000000000

-- x brought between -0.5 and 0.5: `clamp`.
abbrev pub clamped : Float → Float
clamped x = cond (lt x minus_half) minus_half (cond (lt half x) half x)

-- The top of the parabola through three scores, as a part of a place: 0 where they are nearly on a line.
unfoldable pub vertex : Float → Float → Float → Float
vertex left centre right =
    let curvature = left ⊖ two ⊗ centre ⊕ right in
    cond (lt curvature flat) (clamped (half ⊗ (left ⊖ right) ⊘ curvature)) zero⁺

-- How far the best place lies beside its frame: 0 at either end of the range.
unfoldable pub fraction : List Float → ℕ → Float
fraction scores peak =
    cond (ltb 0 peak && ltb (peak + 1) (length scores))
    (vertex (get_or scores (peak - 1) nan) (get_or scores peak nan) (get_or scores (peak + 1) nan))
    zero⁺

-- 1,000
abbrev pub recent_ms : Float
recent_ms = of_bits binary64 0x408f400000000000

-- The recent part begins 1,000 / hop frames before the query's end.
abbrev pub recent_from : Float → Bands → ℕ
recent_from hop query = query.count - count_of (recent_ms ⊘ hop)

module _ (x : Reference) (fine query : Bands) (start : Float) where
  -- The candidate of a range of places from `low` on that score so.
  unfoldable pub candidate_of : ℕ → List Float → Candidate
  candidate_of low scores =
      let peak = first_maximum scores in
      let index = low + peak in
      let part = score_part x.bands fine query index in
      record {
        offset_ms = x.start_ms ⊕ (real index ⊕ fraction scores peak) ⊗ x.hop_ms ⊖ start;
        score = get_or scores peak nan;
        first_half_score = part 0 (query.count / 2);
        second_half_score = part (query.count / 2) query.count;
        recent_score = part (recent_from x.hop_ms query) query.count;
      }

  -- The candidate of the places from `low` to `high`, both included.
  unfoldable pub candidate_in : ℕ → ℕ → Candidate
  candidate_in low high =
      candidate_of low (correlations x.bands fine query.count query.values (whole_energies x.bands query) low (high - low + 1))

  -- The last place at which the query lies within the reference.
  abbrev pub maximum_start : ℕ
  maximum_start = x.frames - query.count

  -- ---- whole search
  -- Up to 4 frames (as many as one average has) either side of a peak of the averaged scores are scored again.
  abbrev pub range_low : ℕ → ℕ
  range_low peak = peak * reduction - reduction

  abbrev pub range_high : ℕ → ℕ
  range_high peak = min maximum_start (peak * reduction + reduction)

  unfoldable pub candidates_at : List ℕ → List Candidate
  candidates_at [] = []
  candidates_at (p ∷ ps) = cond (leb (range_low p) (range_high p)) (candidate_in (range_low p) (range_high p) ∷ candidates_at ps) (candidates_at ps)

  -- ---- local search: offsets from `lower` to `upper`, both included
  -- The place of an offset, with its fraction.
  abbrev pub place : Float → Float
  place offset = (start ⊕ offset ⊖ x.start_ms) ⊘ x.hop_ms

  -- The first place that is not before `lower`, at least 0, and the last that is not after `upper` and lies within the reference.
  abbrev pub local_low : Float → Float
  local_low lower = at_least zero⁺ (whole_above (place lower))

  abbrev pub local_high : Float → Float
  local_high upper = at_most (real maximum_start) (whole_below (place upper))

  unfoldable pub local_found : Float → Float → List Candidate
  local_found lower upper =
      cond (finite lower && (finite upper && (le lower upper && le (local_low lower) (local_high upper))))
      (candidate_in (count_of (local_low lower)) (count_of (local_high upper)) ∷ [])
      []

-- ---- the averaged bands
-- The scores of the bands averaged by fours, at every place.
unfoldable pub coarse_scores : ℕ → Bands → Bands → List Float
coarse_scores bands coarse query =
    let small = reduced bands query in
    correlations bands coarse small.count small.values (whole_energies bands small) 0 (coarse.count - small.count + 1)

-- Peaks are 750 / (4 × hop) averaged places apart, at least 1.
unfoldable pub separation : Float → ℕ
separation hop = max 1 (count_of (apart_ms ⊘ (hop ⊗ real reduction)))

-- The candidates of the whole reference for a query that starts at this time.
unfoldable pub whole_found : Matcher → Bands → Float → List Candidate
whole_found m query start =
    let x = m.reference in
    independent (sorted (candidates_at x m.fine query start (peaks (coarse_scores x.bands m.coarse query) (separation x.hop_ms))))

-- ---- the searches
unfoldable pub whole_search : Matcher → Features → List Candidate
whole_search m w =
    let r = radius m.reference.hop_ms in
    cond (searchable m.reference w) (whole_found m (query_of r w) (query_start r w)) []

unfoldable pub local_search : Reference → Bands → Features → Float → Float → List Candidate
local_search x fine w lower upper =
    let r = radius x.hop_ms in
    cond (searchable x w) (local_found x fine (query_of r w) (query_start r w) lower upper) []

-- ---- what a search asks of the sizes
-- A reference within the limits, with a hop of at least 1 and at least one band.
pub record InRange (x : Reference) : Type 0 where
  pub hop : wide_hop x.hop_ms ≡ true
  pub some : 0 < x.bands
  pub few : x.bands ≤ bands_most
  pub short : x.frames ≤ frames_most

-- Working buffers for a window: twice its values; three times its energies, and a score for each frame of the reference.
pub record WorkRoom (x : Reference) (bands frames : ℕ) (work32 work64 : List Float) : Type 0 where
  pub work32_room_lem : 2 * (bands * frames) ≤ length work32
  pub work64_room_lem : 3 * (bands * (frames + 1)) + x.frames ≤ length work64

-- A query of n frames that has a place in a reference within the limits.
pub record QueryFits (x : Reference) (n : ℕ) : Type 0 where
  pub few : x.bands ≤ bands_most
  pub short : x.frames ≤ frames_most
  pub some : 0 < n
  pub within : n ≤ x.frames

-- ---- a query that is filled once for several searches
-- The window's query stands at the fronts of two working buffers: its values in one, its energies in the other.
abbrev pub QueryIn : Reference → Features → List Float → List Float → Type 0
QueryIn x w work32 work64 =
    let r = radius x.hop_ms in
    lent_bands x.bands (length w.times - 2 * r) work32 work64 ≡ query_of r w

-- What filling answers and leaves: whether the window is searchable, and if it is, its query.
pub record FilledQuery (x : Reference) (w : Features) (filled : Bool) (work32 work64 : List Float) : Type 0 where
  pub told : filled ≡ searchable x w
  pub query : filled ≡ true → QueryIn x w work32 work64
