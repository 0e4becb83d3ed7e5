-- A track that is supported goes toward what was found, by a part from 0 to 1 of a way of at most 80. What was found lies within 2^41, and so the track stays within 2^42. Assumes nothing.
use mathlib.Core.Path.{◌≡◌, refl, subst}
use mathlib.Core.Bool.{false}
use lib.Dec.{T, lit≤, lit<}
use lib.IntN.{pos}
use lib.Count.{count_trailing_zeros}
use lib.Ieee.{Float, fin, binary64, le, lt, eq, neg, add, sub, mul, div, sum, of_bits, of_fields, odd, round, units, size, span, climb, of_int, to_unsigned, fits}
use lib.Ieee.Positive.{positive}
use lib.Ieee.Scale.{finite}
use Rattle.numbers_spec.specs.Arithmetic.{◌⊕◌, ◌⊖◌, ◌⊘◌, zero⁺, real, at_least}
use Rattle.numbers_spec.specs.Whole.{whole_nearest}
use Rattle.numbers_spec.specs.Exponential.{exp_series, two_to, exp_of}
use Rattle.numbers_spec.specs.Values.{AtMost, NotNegative}
use Rattle.numbers_spec.specs.StepLaws.{Stepped}
use Rattle.numbers_spec.proofs.Order.{le_number, le_transitive, le_self, lt→le, neg_le, neg_finite, absolute_at_most, at_most_finite}
use Rattle.numbers_spec.proofs.Sums.{add_at_most}
use Rattle.numbers_spec.proofs.Products.{div_not_positive}
use Rattle.numbers_spec.proofs.Mantissa.{whole_finite}
use Rattle.numbers_spec.proofs.ExpLaws.{exp_laws}
use Rattle.numbers_spec.proofs.Steps.{one_less, step_toward}
use Rattle.matcher_spec.specs.declared.types.Candidate.{Candidate}
use Rattle.engine_spec.specs.Thresholds.{same_place_ms, gain_ms}
use Rattle.engine_spec.specs.Tracking.{gain, moved_offset}
use Rattle.engine_spec.specs.Windows.{same_place}
use Rattle.engine_spec.specs.Leap.{GainOfNone, GainBetween}
use Rattle.engine_spec.proofs.Tests.{cond_elim}

-- ---- the gain
pub gain_of_none : GainOfNone
unfolding gain exp_of whole_nearest exp_series two_to of_int to_unsigned neg le lt add sub mul div round units size of_bits
gain_of_none = refl

gain_positive : T (positive gain_ms)
unfolding of_bits of_fields odd count_trailing_zeros
gain_positive = tt

-- E of a quotient that is not above zero is from 0 to 1, and so is what it leaves of 1.
pub gain_between : GainBetween
unfolding gain
gain_between dt F h =
    let q = neg dt ⊘ gain_ms in
    let low : T (le q zero⁺) = div_not_positive binary64 (neg dt) gain_ms (neg_finite dt F) gain_positive (le_transitive (neg dt) (neg zero⁺) zero⁺ (neg_le zero⁺ dt h) (unfold neg le lt eq in tt)) in
    let laws = exp_laws q (le_number q zero⁺ low) in
    one_less (exp_of q) (record { from = laws.not_negative; to = laws.at_most_one low })

-- ---- the track after it
-- 2^41, which bounds every candidate's offset, and 2^42
abbrev pub found_most : Float
found_most = fin false 1 (pos 41)

abbrev pub place_most : Float
place_most = fin false 1 (pos 42)

same_place_not_negative : NotNegative same_place_ms
unfolding le lt eq of_bits of_fields odd count_trailing_zeros
same_place_not_negative = tt

same_place_whole : same_place_ms ≡ real 80
unfolding of_int round units size span climb of_bits of_fields odd count_trailing_zeros
same_place_whole = refl

far_finite : T (finite (place_most ⊕ real 80))
unfolding of_int add sum round units size span climb odd count_trailing_zeros
far_finite = tt

-- A step by a way of at most 80, with room for multiples of 2^-46 up to 81, which 53 digits have.
abbrev pub Step : Float → Float → Float → Type 0
Step = Stepped 80 46

pub moved_toward : (best : Candidate) (offset dt : Float) → AtMost found_most best.offset_ms → T (fits binary64 best.offset_ms) → AtMost place_most offset → T (fits binary64 offset)
    → T (same_place best.offset_ms offset) → T (finite dt) → NotNegative dt → Step offset best.offset_ms (moved_offset offset best dt)
unfolding moved_offset
moved_toward best offset dt B best-held O held S F h =
    let way = best.offset_ms ⊖ offset in
    let most : AtMost (real 80) way = subst (λ (b : Float). AtMost b way) same_place_whole (absolute_at_most same_place_ms way same_place_not_negative S) in
    step_toward 80 46 offset best.offset_ms (gain dt) (lit≤ tt) (lit< tt) held best-held (at_most_finite place_most offset tt O) (at_most_finite found_most best.offset_ms tt B)
    (at_most_finite (place_most ⊕ real 80) (offset ⊕ way) far_finite (add_at_most binary64 offset way place_most (real 80) tt (whole_finite 80 (lit≤ tt)) O most)) most (gain_between dt F h)

-- ---- the time since the last evidence
pub since_finite : (x : Float) → T (finite x) → T (finite (at_least zero⁺ x))
since_finite x X = cond_elim (λ (y : Float). T (finite y)) (lt zero⁺ x) x zero⁺ (λ l. X) (λ l. tt)

pub since_not_negative : (x : Float) → NotNegative (at_least zero⁺ x)
since_not_negative x = cond_elim NotNegative (lt zero⁺ x) x zero⁺ (λ l. lt→le zero⁺ x l) (λ l. le_self zero⁺ tt)
