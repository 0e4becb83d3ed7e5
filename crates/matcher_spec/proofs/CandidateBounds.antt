-- A candidate's numbers are finite and bounded: what specs/CandidateBounds.antt says. Assumes nothing.
use mathlib.Core.Path.{◌≡◌, refl}
use Prim.Native.Nat.{ℕ, suc, ◌+◌, ◌-◌, ◌*◌, ◌/◌, ◌^◌, ◌≤◌, ◌<◌}
use native.Mathlib.Nat.{le_refl}
use native.Mathlib.Omega.{arith}
use mathlib.Core.Bool.{false, cond, ◌&&◌}
use lib.Dec.{T, lit≤, ltb}
use lib.IntN.{pos, negsuc}
use lib.ListN.{length, get_or}
use borrow.Author.Tests.{ltb-true}
use lib.Pow.{pow_mono}
use lib.Count.{count_trailing_zeros}
use lib.Ieee.{Float, nan, inf, fin, binary64, neg, div, lt, eq, le, of_bits, of_fields, round, units, size, span, climb, odd, to_unsigned, is_nan}
use lib.Ieee.Fits.{sub-fits}
use lib.Ieee.Positive.{positive, positive-finite}
use lib.Ieee.Scale.{finite}
use Rattle.numbers_spec.specs.Arithmetic.{◌⊕◌, ◌⊖◌, ◌⊗◌, ◌⊘◌, zero⁺, one, two, real, count_of, magnitude}
use Rattle.numbers_spec.specs.Logarithm.{half}
use Rattle.numbers_spec.proofs.Value.{finite_no_nan}
use Rattle.numbers_spec.specs.Values.{AtMost, size as size_of, Den, Within}
use Rattle.numbers_spec.proofs.Order.{le_self, lt→le, not-lt→le, le_transitive, neg_le, neg_finite, between_at_most, positive_above, positive_not_negative}
use Rattle.numbers_spec.proofs.Products.{div_mono}
use Rattle.numbers_spec.proofs.Within.{add_within, sub_within, mul_within, div_within, le→size, within_at_most, at_most_within}
use Rattle.numbers_spec.proofs.CountLaws.{count_monotone}
use Rattle.numbers_spec.specs.Rows.{tabulate}
use Rattle.matcher_spec.specs.Energy.{with_energies, whole_energies}
use Rattle.matcher_spec.specs.Scores.{correlation_at, correlations}
use Rattle.matcher_spec.specs.Peaks.{first_maximum}
use Rattle.matcher_spec.specs.Search.{flat, minus_half, clamped, vertex, fraction, recent_ms, candidate_of, candidate_in}
use Rattle.matcher_spec.specs.declared.types.Reference.{Reference}
use Rattle.numbers_spec.proofs.RowLaws.{length_tabulate}
use Rattle.matcher_spec.specs.CandidateBounds.{WithinModest, SoundModest, VertexAtMost, FractionAtMost, Timed, CandidateOfSound, CandidateInSound}
use Rattle.matcher_spec.proofs.Cases.{cond_elim, is_T, is_not_T, and_true_r}
use Rattle.matcher_spec.proofs.Bounds.{holds, widened, widened_to}
use Rattle.matcher_spec.proofs.PeakLaws.{first_maximum_lem}
use Rattle.matcher_spec.proofs.RowAccess.{every_tabulate}
use Rattle.matcher_spec.proofs.ScoreBounds.{real_within, correlation_within, score_part_within}
use Rattle.matcher_spec.specs.Limits.{frames_most, hop_least, hop_most, farthest, track_most}

-- ---- bounds
pub within_modest : WithinModest
within_modest p x h X =
    let wide : Within 1 43 x = widened 1 p 1 43 x (omega (arith, pow_mono h)) X in
    record {
      number = finite_no_nan x X.finite_is;
      at_most_lem = le_transitive (magnitude x) (fin false 1 (pos 43)) track_most (within_at_most 1 43 x wide) (unfold le lt eq of_bits of_fields odd count_trailing_zeros in tt);
    }

pub sound_modest : SoundModest
sound_modest c s = record {
  offset = within_modest 41 c.offset_ms (omega arith) s.offset;
  score = within_modest 40 c.score (omega arith) s.score;
  first_half = within_modest 40 c.first_half_score (omega arith) s.first_half;
  second_half = within_modest 40 c.second_half_score (omega arith) s.second_half;
  recent = within_modest 40 c.recent_score (omega arith) s.recent;
}

-- ---- the fraction of a place
half_within : Within 1 0 half
unfolding of_bits of_fields odd count_trailing_zeros
half_within = record { finite_is = tt; small = lit≤ tt }

minus_half_is : neg half ≡ minus_half
unfolding neg of_bits of_fields odd count_trailing_zeros
minus_half_is = refl

half_itself : AtMost half half
unfolding magnitude le lt eq of_bits of_fields odd count_trailing_zeros
half_itself = tt

minus_half_lem : AtMost half minus_half
unfolding magnitude le lt eq of_bits of_fields odd count_trailing_zeros
minus_half_lem = tt

zero_at_most : AtMost half zero⁺
unfolding magnitude le lt eq of_bits of_fields odd count_trailing_zeros
zero_at_most = tt

clamped_at_most : (x : Float) → T (finite x) → AtMost half (clamped x)
clamped_at_most x X =
    let number = finite_no_nan x X in
    cond_elim (AtMost half) (lt x minus_half) minus_half (cond (lt half x) half x)
    (λ u. minus_half_lem)
    (λ u. cond_elim (AtMost half) (lt half x) half x
    (λ v. half_itself)
    (λ v. between_at_most half x (record {
      from = rw minus_half_is (not-lt→le x minus_half number (unfold is_nan of_bits of_fields odd count_trailing_zeros in tt) (is_not_T u));
      to = not-lt→le half x (finite_no_nan half half_within.finite_is) number (is_not_T v);
    })))

-- a y that is below -0.000001 has |y| ≥ 2 ^ -20
curved : (y : Float) → T (finite y) → T (lt y flat) → Den y ≤ size_of y * 2 ^ 20
curved y Y h =
    turned (2 ^ 20) y
    (le→size 19 (neg y) (neg_finite y Y) (le_transitive (fin false 1 (negsuc 19)) (neg flat) (neg y) (unfold le lt eq neg of_bits of_fields odd count_trailing_zeros in tt) (neg_le y flat (lt→le y flat h))))
  where
    turned : (k : ℕ) (y : Float) → Den (neg y) ≤ size_of (neg y) * k → Den y ≤ size_of y * k
    turned k nan h = unfold neg in h
    turned k (inf s) h = unfold neg in h
    turned k (fin s m e) h = unfold neg in h

two_within : Within 2 0 two
two_within = record { finite_is = tt; small = lit≤ tt }

module _ (left centre right : Float) (L : Within 1 40 left) (C : Within 1 40 centre) (R : Within 1 40 right) where
  curvature_within : Within 4 40 (left ⊖ two ⊗ centre ⊕ right)
  curvature_within =
      add_within binary64 3 1 40 (left ⊖ two ⊗ centre) right (holds binary64 4 4 40 (le_refl 4) tt tt)
      (sub_within binary64 1 2 40 left (two ⊗ centre) (holds binary64 3 3 40 (le_refl 3) tt tt) L
      (mul_within binary64 2 1 0 40 two centre (holds binary64 2 2 40 (le_refl 2) tt tt) two_within C)) R

  top_finite : T (lt (left ⊖ two ⊗ centre ⊕ right) flat) → T (finite (half ⊗ (left ⊖ right) ⊘ (left ⊖ two ⊗ centre ⊕ right)))
  top_finite h =
      (div_within binary64 2 40 20 (half ⊗ (left ⊖ right)) (left ⊖ two ⊗ centre ⊕ right) (holds binary64 2 2 60 (le_refl 2) tt tt)
      (mul_within binary64 1 2 0 40 half (left ⊖ right) (holds binary64 2 2 40 (le_refl 2) tt tt) half_within
      (sub_within binary64 1 1 40 left right (holds binary64 2 2 40 (le_refl 2) tt tt) L R))
      curvature_within.finite_is (curved (left ⊖ two ⊗ centre ⊕ right) curvature_within.finite_is h)).finite_is

pub vertex_at_most : VertexAtMost
unfolding vertex
vertex_at_most left centre right L C R =
    let curvature = left ⊖ two ⊗ centre ⊕ right in
    let top = half ⊗ (left ⊖ right) ⊘ curvature in
    cond_elim (AtMost half) (lt curvature flat) (clamped top) zero⁺ (λ u. clamped_at_most top (top_finite left centre right L C R (is_T u))) (λ u. zero_at_most)

pub fraction_at_most : FractionAtMost
unfolding fraction
fraction_at_most scores S peak =
    cond_elim (AtMost half) (ltb 0 peak && ltb (peak + 1) (length scores)) (vertex (get_or scores (peak - 1) nan) (get_or scores peak nan) (get_or scores (peak + 1) nan)) zero⁺
    (λ u.
    let inside = ltb-true (peak + 1) (length scores) (and_true_r (ltb 0 peak) (ltb (peak + 1) (length scores)) u) in
    vertex_at_most (get_or scores (peak - 1) nan) (get_or scores peak nan) (get_or scores (peak + 1) nan) (S (peak - 1) (omega arith)) (S peak (omega arith)) (S (peak + 1) inside))
    (λ u. zero_at_most)

-- ---- a candidate
-- 1,000 is a number above zero, and 1,000 / 1,000 is 1
recent_positive : T (positive recent_ms)
unfolding of_bits of_fields odd count_trailing_zeros
recent_positive = tt

recent_over_itself : recent_ms ⊘ recent_ms ≡ one
unfolding div round units size span climb of_bits of_fields odd count_trailing_zeros
recent_over_itself = refl

one_counts : count_of one ≡ 1
unfolding to_unsigned
one_counts = refl

-- No place and fraction lie more milliseconds behind a reference's start: a frame more than the most, of the largest hop.
abbrev longest : ℕ
longest = suc frames_most * 1000

module _ (x : Reference) (start : Float) (τ : Timed x start) where
  hop_at_most : AtMost hop_most x.hop_ms
  hop_at_most = between_at_most hop_most x.hop_ms
      (record { from = le_transitive (neg hop_most) hop_least x.hop_ms (unfold le lt eq neg of_bits of_fields odd count_trailing_zeros in tt) τ.hop.from; to = τ.hop.to })

  -- 1,000 is 125 × 2^3
  hop_within : Within 125 3 x.hop_ms
  unfolding of_bits of_fields odd count_trailing_zeros
  hop_within = at_most_within 125 3 x.hop_ms hop_at_most

  -- the recent part has a frame at least: the largest hop is recent_ms
  recent_some : 1 ≤ count_of (recent_ms ⊘ x.hop_ms)
  recent_some =
      rw one_counts at
      (count_monotone one (recent_ms ⊘ x.hop_ms)
      (rw (← recent_over_itself)
      (div_mono binary64 recent_ms recent_ms recent_ms x.hop_ms (positive-finite recent_ms recent_positive) (positive-finite recent_ms recent_positive) recent_positive
      (positive_above one x.hop_ms tt hop_within.finite_is τ.hop.from) (positive_not_negative recent_ms recent_positive) (le_self recent_ms (positive-finite recent_ms recent_positive)) τ.hop.to)))

  -- the offset of a place and a fraction
  offset_within : (index : ℕ) (f : Float) → index ≤ frames_most → AtMost half f → Within 1 41 (x.start_ms ⊕ (real index ⊕ f) ⊗ x.hop_ms ⊖ start)
  offset_within index f h F =
      widened_to (farthest + longest + farthest) (farthest + longest + farthest) 0 1 41 _ (le_refl (farthest + longest + farthest)) tt
      (sub_within binary64 (farthest + longest) (farthest) 0 _ start (holds binary64 _ (farthest + longest + farthest) 0 (le_refl (farthest + longest + farthest)) tt tt)
      (add_within binary64 (farthest) longest 0 x.start_ms _ (holds binary64 _ (farthest + longest) 0 (le_refl (farthest + longest)) tt tt) τ.reference_start way)
      τ.query_start_lem)
    where
      beside : Within 1 0 f
      beside = at_most_within 1 0 f (le_transitive (magnitude f) half one F (unfold le lt eq of_bits of_fields odd count_trailing_zeros in tt))

      place : Within (suc frames_most) 0 (real index ⊕ f)
      place = widened_to (index + 1) (suc frames_most) 0 (suc frames_most) 0 (real index ⊕ f) (omega arith) tt (add_within binary64 index 1 0 (real index) f (holds binary64 (index + 1) (suc frames_most) 0 (omega arith) tt tt) (real_within index h) beside)

      way : Within longest 0 ((real index ⊕ f) ⊗ x.hop_ms)
      way = widened_to (suc frames_most * 125) (suc frames_most * 125) 3 longest 0 _ (le_refl (suc frames_most * 125)) tt (mul_within binary64 (suc frames_most) 125 0 3 (real index ⊕ f) x.hop_ms (holds binary64 _ (suc frames_most * 125) 3 (le_refl (suc frames_most * 125)) tt tt) place hop_within)

pub candidate_of_sound : CandidateOfSound
unfolding candidate_of
candidate_of_sound x n count values query start C some τ low scores s h S =
    let peak = first_maximum scores in
    let inside : peak < length scores = (first_maximum_lem scores s (λ i w. finite_no_nan (get_or scores i nan) (S i w).finite_is)).within in
    let recent = recent_some x start τ in
    let part = score_part_within x.bands n count values query C (low + peak) in
    record {
      offset = offset_within x start τ (low + peak) (fraction scores peak) (omega arith) (fraction_at_most scores S peak);
      held = sub-fits binary64 (x.start_ms ⊕ (real (low + peak) ⊕ fraction scores peak) ⊗ x.hop_ms) start;
      score = S peak inside;
      first_half = part 0 (count / 2) (omega arith) (omega arith) (omega arith);
      second_half = part (count / 2) count (omega arith) (omega arith) (omega arith);
      recent = part (count - count_of (recent_ms ⊘ x.hop_ms)) count (omega arith) (omega arith) (omega arith);
    }

pub candidate_in_sound : CandidateInSound
unfolding candidate_in correlations
candidate_in_sound x n count values query start C some τ low high h k =
    candidate_of_sound x n count values query start C some τ low (tabulate score (high - low + 1)) (rw (length_tabulate score) (omega arith)) (rw (length_tabulate score) (omega arith))
    (every_tabulate (Within 1 40) score (high - low + 1) (λ i w. correlation_within x.bands n count values query C (low + i) (omega arith)))
  where
    score : ℕ → Float
    score i = correlation_at x.bands (with_energies x.bands n values) count query (whole_energies x.bands (with_energies x.bands count query)) (low + i)
