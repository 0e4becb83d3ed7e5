-- Evidence time is finite and within ±10^13, where the hop and the endpoint are in range: the endpoint is within 10^12, and what is trimmed of it is at most 250 frames of at most 1,000. Assumes nothing.
use mathlib.Core.Path.{◌≡◌, refl, sym, subst}
use mathlib.Core.Bool.{true, false, ◌&&◌}
use lib.Dec.{T}
use lib.IntN.{pos}
use lib.Count.{count_trailing_zeros}
use lib.Ieee.{Float, fin, binary64, le, lt, eq, neg, add, mul, div, sum, of_bits, of_fields, odd, round, units, size, span, climb}
use lib.Ieee.Scale.{finite}
use Rattle.numbers_spec.specs.Arithmetic.{◌⊕◌, ◌⊖◌, ◌⊗◌, ◌⊘◌, one, magnitude}
use Rattle.numbers_spec.specs.Whole.{whole_nearest}
use Rattle.numbers_spec.proofs.Value.{finite_no_nan}
use Rattle.numbers_spec.specs.Values.{AtMost, Between}
use Rattle.numbers_spec.proofs.Order.{le_transitive, magnitude_above, at_most_between, between_at_most, at_most_finite}
use Rattle.numbers_spec.proofs.Sums.{sub_at_most}
use Rattle.numbers_spec.proofs.Products.{mul_at_most, div_at_most}
use Rattle.numbers_spec.proofs.WholeLaws.{round_laws}
use Rattle.matcher_spec.specs.Centring.{context_ms, context_frames}
use Rattle.engine_spec.specs.Windows.{Window, endpoint_of, evidence, evidence_at}
use Rattle.engine_spec.specs.Refusals.{within, near, hop_in_range, track_number}
use Rattle.engine_spec.proofs.Tests.{and_l, and_r, and_i, T-is}
use Rattle.matcher_spec.specs.Limits.{hop_most, farthest_ms, track_most}

-- ---- a range that is tested, and a bound
pub bounded : (l x : Float) → within l x ≡ true → AtMost l x
bounded l x e =
    let t = subst T (sym e) tt in
    between_at_most l x (record { from = and_l (le (neg l) x) (le x l) t; to = and_r (le (neg l) x) (le x l) t })

pub in_range : (l x : Float) → AtMost l x → within l x ≡ true
in_range l x h =
    let b = at_most_between l x h in
    T-is (le (neg l) x && le x l) (and_i (le (neg l) x) (le x l) b.from b.to)

-- a wider bound
pub at_most_wider : (b c x : Float) → T (le b c) → AtMost b x → AtMost c x
at_most_wider b c x h X = le_transitive (magnitude x) b c X h

-- ---- the hop
pub hop_between : (hop : Float) → hop_in_range hop ≡ true → Between one hop_most hop
hop_between hop e =
    let t = subst T (sym e) tt in
    record { from = and_l (le one hop) (le hop hop_most) t; to = and_r (le one hop) (le hop hop_most) t }

hop_most_finite : T (finite hop_most)
unfolding of_bits of_fields odd count_trailing_zeros
hop_most_finite = tt

hop_at_most : (hop : Float) → Between one hop_most hop → AtMost hop_most hop
hop_at_most hop h = between_at_most hop_most hop (record { from = le_transitive (neg hop_most) one hop (unfold le lt eq neg of_bits of_fields odd count_trailing_zeros in tt) h.from; to = h.to })

-- ---- the frames trimmed
-- 250
abbrev two_fifty : Float
two_fifty = fin false 125 (pos 1)

-- 250 / 1 is 250, and rounding leaves it and -250
quotient_of_one : context_ms ⊘ one ≡ two_fifty
unfolding div round units size span climb of_bits of_fields odd count_trailing_zeros
quotient_of_one = refl

whole_already : whole_nearest two_fifty ≡ two_fifty
unfolding whole_nearest round units size span climb odd count_trailing_zeros
whole_already = refl

whole_below_zero : whole_nearest (neg two_fifty) ≡ neg two_fifty
unfolding whole_nearest neg round units size span climb odd count_trailing_zeros
whole_below_zero = refl

context_at_most : AtMost context_ms context_ms
unfolding magnitude le lt eq of_bits of_fields odd count_trailing_zeros
context_at_most = tt

context_finite : T (finite context_ms)
unfolding of_bits of_fields odd count_trailing_zeros
context_finite = tt

-- 250 / hop is at most 250 / 1,
quotient_at_most : (hop : Float) → Between one hop_most hop → AtMost two_fifty (context_ms ⊘ hop)
quotient_at_most hop h =
    rw quotient_of_one at
    (div_at_most binary64 context_ms hop context_ms one context_finite tt context_at_most (le_transitive one hop (magnitude hop) h.from (magnitude_above hop (finite_no_nan hop (at_most_finite hop_most hop hop_most_finite (hop_at_most hop h))))))

-- and rounding keeps the order
frames_at_most : (hop : Float) → Between one hop_most hop → AtMost two_fifty (context_frames hop)
unfolding context_frames
frames_at_most hop h =
    let q = at_most_between two_fifty (context_ms ⊘ hop) (quotient_at_most hop h) in
    between_at_most two_fifty (whole_nearest (context_ms ⊘ hop)) (record {
      from = rw whole_below_zero at (round_laws.monotone (neg two_fifty) (context_ms ⊘ hop) q.from);
      to = rw whole_already at (round_laws.monotone (context_ms ⊘ hop) two_fifty q.to);
    })

-- ---- what is trimmed: at most 250,000
trim_at_most : (hop : Float) → Between one hop_most hop → AtMost (two_fifty ⊗ hop_most) (context_frames hop ⊗ hop)
trim_at_most hop h = mul_at_most binary64 (context_frames hop) hop two_fifty hop_most tt hop_most_finite (frames_at_most hop h) (hop_at_most hop h)

most_trim_finite : T (finite (two_fifty ⊗ hop_most))
unfolding mul round units size span climb of_bits of_fields odd count_trailing_zeros
most_trim_finite = tt

pub trimmed_finite : (hop : Float) → hop_in_range hop ≡ true → T (finite (context_frames hop ⊗ hop))
trimmed_finite hop e = at_most_finite (two_fifty ⊗ hop_most) (context_frames hop ⊗ hop) most_trim_finite (trim_at_most hop (hop_between hop e))

-- ---- evidence time
pub farthest_finite : T (finite farthest_ms)
unfolding of_bits of_fields odd count_trailing_zeros
farthest_finite = tt

pub track_most_finite : T (finite track_most)
unfolding of_bits of_fields odd count_trailing_zeros
track_most_finite = tt

-- 10^12 + 250,000 is below 10^13
evidence_room : T (le (farthest_ms ⊕ two_fifty ⊗ hop_most) track_most)
unfolding le lt eq add sum mul round units size span climb of_bits of_fields odd count_trailing_zeros
evidence_room = tt

evidence_at_most : (hop : Float) (w : Window) → hop_in_range hop ≡ true → near (endpoint_of w).0 ≡ true → AtMost track_most (evidence hop w).0
unfolding evidence_at
evidence_at_most hop w e n =
    at_most_wider (farthest_ms ⊕ two_fifty ⊗ hop_most) track_most ((endpoint_of w).0 ⊖ context_frames hop ⊗ hop) evidence_room
    (sub_at_most binary64 (endpoint_of w).0 (context_frames hop ⊗ hop) farthest_ms (two_fifty ⊗ hop_most) farthest_finite most_trim_finite (bounded farthest_ms (endpoint_of w).0 n) (trim_at_most hop (hop_between hop e)))

pub evidence_bound : (hop : Float) (w : Window) → hop_in_range hop ≡ true → near (endpoint_of w).0 ≡ true → T (finite (evidence hop w).0) × (track_number (evidence hop w).0 ≡ true)
evidence_bound hop w e n =
    let b = evidence_at_most hop w e n in
    (at_most_finite track_most (evidence hop w).0 track_most_finite b, in_range track_most (evidence hop w).0 b)
