-- What the C calls of the matcher answer and write, for slices of any lengths. Definitions only.
use Rattle.std.specs.Prelude.{ℕ, ◌+◌, ◌*◌, ◌/◌, Bool, cond, ◌&&◌, List, [], ◌∷◌, ◌++◌, eqb, leb, ltb, drop, get_or, length, set, take, Float}
use Rattle.std.specs.Float.Ieee.{le}
use Rattle.std.specs.Float.{nan}
use Rattle.matcher_spec.specs.Candidates.{eight_of, margin_of}
use Rattle.matcher_spec.specs.Index.{Index, accepts_reference, filled, lent, lent_bands, lent_matcher, matcher_of}
use Rattle.matcher_spec.specs.Features.{Features}
use Rattle.matcher_spec.specs.Search.{local_search, whole_search}
use Rattle.matcher_spec.specs.declared.types.Candidate.{Candidate}
use Rattle.matcher_spec.specs.declared.types.Reference.{Reference}
use Rattle.matcher_spec.specs.Limits.{hop_least, hop_most, frames_most, window_most, bands_most, candidates_most}

-- The answer where a slice is too short or a number is out of its range: nothing is written then.
abbrev pub unfit : ℕ
unfit = 255

-- A reference within document 01's limits, of at least one band; the hop is from 1 to 1,000.
unfoldable pub fits_limits : ℕ → ℕ → Float → Bool
fits_limits bands frames hop = ltb 0 bands && (leb bands bands_most && (leb frames frames_most && (le hop_least hop && le hop hop_most)))

-- The lengths of a slice with n values a band and of one with their energies.
unfoldable pub fits_bands : ℕ → ℕ → ℕ → ℕ → Bool
fits_bands bands n values energy = leb (bands * n) values && leb (bands * (n + 1)) energy

-- The lengths of a window's slices and of the working lent (document 01, refusals 10, 11 and 13).
unfoldable pub fits_window : ℕ → ℕ → ℕ → ℕ → ℕ → ℕ → Bool
fits_window frames bands times values work32 work64 =
    leb bands bands_most
    && (leb times window_most && (eqb values (bands * times) && (leb (2 * (bands * times)) work32 && leb (3 * (bands * (times + 1)) + frames) work64)))

-- ---- filling the index
-- Whether the numbers are within their limits, and slices of these lengths long enough.
unfoldable pub fits_fill_lengths : Float → ℕ → ℕ → ℕ → ℕ → ℕ → ℕ → ℕ → Bool
fits_fill_lengths hop bands times values fine coarse fine_energy coarse_energy =
    fits_limits bands times hop
    && (eqb values (bands * times) && (fits_bands bands times fine fine_energy && fits_bands bands (times / 4) coarse coarse_energy))

-- Whether the index can be filled.
abbrev pub fits_fill : Float → ℕ → List Float → List Float → Index → Bool
fits_fill hop bands times values old =
    fits_fill_lengths hop bands (length times) (length values) (length old.fine) (length old.coarse) (length old.fine_energy) (length old.coarse_energy)

-- 1 where the index is filled, 0 where the reference is rejected.
unfoldable pub fill_answer : Float → ℕ → List Float → List Float → Index → ℕ
fill_answer hop bands times values old =
    cond (fits_fill hop bands times values old) (cond (accepts_reference hop bands times values) 1 0) unfit

-- The buffers afterwards: each filled at its front, or as it was.
unfoldable pub filled_buffers : Float → ℕ → List Float → List Float → Index → Index
filled_buffers hop bands times values old =
    let fills = fits_fill hop bands times values old && accepts_reference hop bands times values in
    let m = matcher_of hop bands times values in
    lent
    (filled fills m.fine.values old.fine)
    (filled fills m.coarse.values old.coarse)
    (filled fills m.fine.energy old.fine_energy)
    (filled fills m.coarse.energy old.coarse_energy)

-- ---- searches
-- The numbers of candidates, five each.
unfoldable pub numbers_of : List Candidate → List Float
numbers_of [] = []
numbers_of (c ∷ cs) = c.offset_ms ∷ c.score ∷ c.first_half_score ∷ c.second_half_score ∷ c.recent_score ∷ numbers_of cs

-- How many were found, or that something does not fit.
abbrev pub counted : Bool → List Candidate → ℕ
counted fits found = cond fits (length found) unfit

-- The numbers of 8 candidates, zeros behind the last found, and the old tail.
abbrev pub written : Bool → List Candidate → List Float → List Float
written fits found old = cond fits (numbers_of (eight_of found) ++ drop 40 old) old

abbrev pub reference_of : ℕ → ℕ → Float → Float → Reference
reference_of bands frames start hop = record { bands = bands; frames = frames; start_ms = start; hop_ms = hop }

-- Whether slices of these lengths do for a local search: the reference's limits, the window with the working buffers, the fine half of the index, and 40 numbers.
unfoldable pub fits_local_lengths : Reference → ℕ → ℕ → ℕ → ℕ → ℕ → ℕ → ℕ → ℕ → Bool
fits_local_lengths x fine energy bands times values work32 work64 out =
    fits_limits x.bands x.frames x.hop_ms
    && (fits_window x.frames bands times values work32 work64 && (fits_bands x.bands x.frames fine energy && leb 40 out))

-- Whether a local search fits.
abbrev pub fits_local : Reference → List Float → List Float → Features → ℕ → ℕ → ℕ → Bool
fits_local x fine energy w work32 work64 out =
    fits_local_lengths x (length fine) (length energy) w.bands (length w.times) (length w.values) work32 work64 out

-- Whether a whole search fits: the same, and the coarse half of the index.
unfoldable pub fits_whole : Reference → Index → Features → ℕ → ℕ → ℕ → Bool
fits_whole x index w work32 work64 out =
    fits_local x index.fine index.fine_energy w work32 work64 out
    && fits_bands x.bands (x.frames / 4) (length index.coarse) (length index.coarse_energy)

-- The whole search over the buffers.
abbrev pub found_in : Reference → Index → Features → List Candidate
found_in x index w = whole_search (lent_matcher x index) w

-- The local search over the fine half.
abbrev pub found_near : Reference → List Float → List Float → Features → Float → Float → List Candidate
found_near x fine energy w lower upper = local_search x (lent_bands x.bands x.frames fine energy) w lower upper

-- ---- the margin
-- The candidate that five numbers from i on make.
unfoldable pub candidate_at : List Float → ℕ → Candidate
candidate_at l i =
    record {
      offset_ms = get_or l i nan;
      score = get_or l (i + 1) nan;
      first_half_score = get_or l (i + 2) nan;
      second_half_score = get_or l (i + 3) nan;
      recent_score = get_or l (i + 4) nan;
    }

-- The eight candidates whose numbers a search has written.
unfoldable pub candidates_at : List Float → List Candidate
candidates_at l =
    candidate_at l 0 ∷ candidate_at l 5 ∷ candidate_at l 10 ∷ candidate_at l 15 ∷ candidate_at l 20 ∷ candidate_at l 25 ∷ candidate_at l 30 ∷ candidate_at l 35 ∷ []

-- At most 8 candidates, the numbers of 8, and room for one number.
unfoldable pub fits_margin : ℕ → ℕ → ℕ → Bool
fits_margin numbers count out = leb count candidates_most && (leb 40 numbers && ltb 0 out)

-- 1 where the margin is written.
abbrev pub margin_answer : List Float → ℕ → List Float → ℕ
margin_answer numbers count out = cond (fits_margin (length numbers) count (length out)) 1 unfit

-- The margin of the first candidates before the old tail.
abbrev pub margin_written : List Float → ℕ → List Float → List Float
margin_written numbers count out = cond (fits_margin (length numbers) count (length out)) (set out 0 (margin_of (take count (candidates_at numbers)))) out
