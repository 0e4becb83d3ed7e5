-- The numbers of a candidate are no NaN and lie within 10 ^ 13, where the reference and the query are as specs/ScoreBounds.antt bounds them. Definitions only.
use Rattle.std.specs.Prelude.{ℕ, suc, ◌+◌, ◌≤◌, ◌<◌, List, T, length, Float}
use Rattle.std.specs.Float.{binary64}
use Rattle.std.specs.Float.Ieee.{fits}
use Rattle.numbers_spec.specs.Logarithm.{half}
use Rattle.numbers_spec.specs.Values.{Number, AtMost, Between, Within}
use Rattle.matcher_spec.specs.Energy.{with_energies}
use Rattle.matcher_spec.specs.Search.{vertex, fraction, candidate_of, candidate_in}
use Rattle.matcher_spec.specs.declared.types.Reference.{Reference}
use Rattle.matcher_spec.specs.declared.types.Candidate.{Candidate}
use Rattle.numbers_spec.specs.Rows.{Every}
use Rattle.matcher_spec.specs.ScoreBounds.{Comparable}
use Rattle.matcher_spec.specs.Limits.{hop_least, hop_most, farthest, track_most}

-- What lies within 2 ^ 43 is no NaN, and at most 10 ^ 13.
pub record Modest (x : Float) : Type 0 where
  pub number : Number x
  pub at_most_lem : AtMost track_most x

abbrev pub WithinModest : Type 0
WithinModest = (p : ℕ) (x : Float) → p ≤ 43 → Within 1 p x → Modest x

-- ---- the fraction of a place
-- Of three scores it is within ±0.5, and so finite.
abbrev pub VertexAtMost : Type 0
VertexAtMost = (left centre right : Float) → Within 1 40 left → Within 1 40 centre → Within 1 40 right → AtMost half (vertex left centre right)

abbrev pub FractionAtMost : Type 0
FractionAtMost = (scores : List Float) → Every (Within 1 40) scores → (peak : ℕ) → AtMost half (fraction scores peak)

-- ---- candidates
-- The scores are within ±2 ^ 40, about 1.1 * 10 ^ 12, and the offset, an f64, is within ±2 ^ 41, about 2.2 * 10 ^ 12: all are finite.
pub record SoundCandidate (c : Candidate) : Type 0 where
  pub offset : Within 1 41 c.offset_ms
  pub held : T (fits binary64 c.offset_ms)
  pub score : Within 1 40 c.score
  pub first_half : Within 1 40 c.first_half_score
  pub second_half : Within 1 40 c.second_half_score
  pub recent : Within 1 40 c.recent_score

-- So each is at most 10 ^ 13.
pub record ModestCandidate (c : Candidate) : Type 0 where
  pub offset : Modest c.offset_ms
  pub score : Modest c.score
  pub first_half : Modest c.first_half_score
  pub second_half : Modest c.second_half_score
  pub recent : Modest c.recent_score

abbrev pub SoundModest : Type 0
SoundModest = (c : Candidate) → SoundCandidate c → ModestCandidate c

-- A hop from 1 to 1,000, and starts of the reference and of the query within ±10 ^ 12.
pub record Timed (x : Reference) (start : Float) : Type 0 where
  pub hop : Between hop_least hop_most x.hop_ms
  pub reference_start : Within (farthest) 0 x.start_ms
  pub query_start_lem : Within (farthest) 0 start

-- The candidate of a range of places, one or more, at each of which the query lies within the reference.
abbrev pub CandidateOfSound : Type 0
CandidateOfSound =
    (x : Reference) (n count : ℕ) (values query : List Float) (start : Float) → Comparable x.bands n count values query → 2 ≤ count → Timed x start
    → (low : ℕ) (scores : List Float) → 0 < length scores → low + length scores + count ≤ suc n → Every (Within 1 40) scores
    → SoundCandidate (candidate_of x (with_energies x.bands n values) (with_energies x.bands count query) start low scores)

abbrev pub CandidateInSound : Type 0
CandidateInSound =
    (x : Reference) (n count : ℕ) (values query : List Float) (start : Float) → Comparable x.bands n count values query → 2 ≤ count → Timed x start
    → (low high : ℕ) → low ≤ high → high + count ≤ n
    → SoundCandidate (candidate_in x (with_energies x.bands n values) (with_energies x.bands count query) start low high)
