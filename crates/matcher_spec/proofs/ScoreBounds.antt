-- Energies, dot products and scores of bounded rows: what specs/ScoreBounds.antt says. Assumes nothing.
use mathlib.Core.Path.{◌≡◌, refl, sym, ◌∙◌, subst}
use mathlib.Core.Logic.{⊎_elim}
use Prim.Native.Nat.{ℕ, zero, suc, ◌+◌, ◌-◌, ◌*◌, ◌/◌, ◌^◌, ◌≤◌, ◌<◌}
use native.Mathlib.Nat.{le_trans, le_of_eq, eq-or-lt_of_le}
use native.Mathlib.Omega.{arith}
use mathlib.Core.Bool.{false}
use mathlib.Core.List.{List}
use lib.Dec.{T, lit<, lit≤}
use lib.IntN.{negsuc}
use lib.ListN.{length, get_or, take, drop}
use lib.Count.{count_trailing_zeros}
use lib.Ieee.{Float, nan, fin, binary32, binary64, mul, lt, eq, le, fits, of_bits, of_fields, of_int, round, units, size, span, climb, odd}
use lib.Ieee.Fits.{add-fits, mul-fits}
use lib.Ieee.Scale.{finite}
use Rattle.numbers_spec.specs.Arithmetic.{◌⊖◌, ◌⊗◌, ◌⊘◌, one, real, at_least}
use Rattle.numbers_spec.specs.Logarithm.{smallest_normal}
use Rattle.numbers_spec.specs.Root.{root_from, near_root, root_units, root_of}
use Rattle.numbers_spec.specs.Values.{NotNegative, size as size_of, Den, Within, Holds}
use Rattle.numbers_spec.proofs.Order.{le_self, lt→le, le_transitive, positive_not_negative}
use Rattle.numbers_spec.proofs.Sums.{sub_not_negative, add_grows}
use Rattle.numbers_spec.proofs.Products.{square_not_negative, mul_mono, mul_mono_by}
use Rattle.numbers_spec.proofs.RootLaws.{root_monotone, root_normal}
use Rattle.numbers_spec.proofs.Within.{round_within, add_within, sub_within, mul_within, div_within, le→size, one→size}
use Rattle.numbers_spec.specs.Rows.{row, sum_to}
use Rattle.matcher_spec.specs.Energy.{energy_to, with_energies, whole_energies, zero_f32, ◌+₃₂◌}
use Rattle.matcher_spec.specs.Scores.{product, lane, lanes, onward, dot, thousandth, variance_floor, band_term, term_at, correlation_at, part_term, part_at, score_part}
use Rattle.matcher_spec.specs.ScoreBounds.{Bounded, EnergyWithin, EnergyNotNegative, EnergyGrows, EnergyOfPart, DotWithin, least_weight, Weight, WeightOfEnergy, ProductNormal, RootOfWeights, BoundedBands, Comparable, weight_of, Radicands, RadicandsNormal, TermWithin, PartWithin, CorrelationWithin, ScorePartWithin}
use Rattle.matcher_spec.proofs.Bounds.{holds, widened_to, zero_within, sum_to_within}
use Rattle.matcher_spec.proofs.WholeBounds.{real_mono}
use Rattle.matcher_spec.proofs.Cases.{cond_elim, is_T}
use Rattle.matcher_spec.proofs.RowAccess.{length_part, length_row, energy_at, energies_row, whole_energy_at, every_part}
use Rattle.matcher_spec.specs.Limits.{frames_most, window_most, bands_most}

-- ---- energies
square_within : (v : List Float) → Bounded v → (i : ℕ) → i < length v → Within 1 14 (get_or v i nan ⊗ get_or v i nan)
square_within v B i h = mul_within binary64 1 1 7 7 (get_or v i nan) (get_or v i nan) (holds binary64 1 1 14 (omega arith) tt tt) (B i h) (B i h)

pub energy_within : EnergyWithin
energy_within v B long i h = sum_to_within (λ (k : ℕ). get_or v k nan ⊗ get_or v k nan) i 14 (holds binary64 i frames_most 14 (omega arith) tt tt) (λ k w. square_within v B k (omega arith))

energy_fits : (v : List Float) (i : ℕ) → T (fits binary64 (energy_to v i))
unfolding sum_to
energy_fits v zero = unfold fits in tt
energy_fits v (suc i) = add-fits binary64 (energy_to v i) (get_or v i nan ⊗ get_or v i nan)

one_more : (v : List Float) → Bounded v → length v ≤ frames_most → (i : ℕ) → i < length v → T (le (energy_to v i) (energy_to v (suc i)))
unfolding sum_to
one_more v B long i h =
    add_grows binary64 (energy_to v i) (get_or v i nan ⊗ get_or v i nan) (energy_fits v i) (energy_within v B long i (omega arith)).finite_is (square_within v B i h).finite_is
    (square_not_negative binary64 (get_or v i nan) (B i h).finite_is)

pub energy_grows : EnergyGrows
energy_grows v B long i zero h k = let z : i ≡ 0 = omega arith in rw z (le_self (energy_to v 0) (energy_within v B long 0 k).finite_is)
energy_grows v B long i (suc j) h k = ⊎_elim
    (λ (e : i ≡ suc j). rw e (le_self (energy_to v (suc j)) (energy_within v B long (suc j) k).finite_is))
    (λ (w : i < suc j). le_transitive (energy_to v i) (energy_to v j) (energy_to v (suc j)) (energy_grows v B long i j (omega arith) (omega arith)) (one_more v B long j k))
    (eq-or-lt_of_le h)

pub energy_not_negative : EnergyNotNegative
unfolding sum_to
energy_not_negative v B long i h = energy_grows v B long 0 i (omega arith) h

pub energy_of_part : EnergyOfPart
energy_of_part v B long i j h k =
    let low = energy_within v B long i (le_trans h k) in
    let high = energy_within v B long j k in
    record {
      within = widened_to (j + i) 131070 14 1 31 (energy_to v j ⊖ energy_to v i) (omega arith) tt (sub_within binary64 j i 14 (energy_to v j) (energy_to v i) (holds binary64 (j + i) 131070 14 (omega arith) tt tt) high low);
      not_negative = sub_not_negative binary64 (energy_to v j) (energy_to v i) high.finite_is low.finite_is (energy_grows v B long i j h k);
    }

-- ---- the dot product
zero_f32_lem : Within 0 14 zero_f32
unfolding of_bits of_fields odd
zero_f32_lem = zero_within 14

module _ (l r : List Float) (L : Bounded l) (R : Bounded r) (shorter : length l ≤ length r) (long : length l ≤ frames_most) where
  sum_holds : (n : ℕ) → n ≤ length l → Holds binary32 n 14
  sum_holds n h = holds binary32 n frames_most 14 (le_trans h long) tt tt

  product_within : (i : ℕ) → i < length l → Within 1 14 (product l r i)
  product_within i h = mul_within binary32 1 1 7 7 (get_or l i nan) (get_or r i nan) (holds binary32 1 1 14 (omega arith) tt tt) (L i h) (R i (omega arith))

  plus : (n k : ℕ) (x y : Float) → n + k ≤ length l → Within n 14 x → Within k 14 y → Within (n + k) 14 (x +₃₂ y)
  plus n k x y h X Y = add_within binary32 n k 14 x y (sum_holds (n + k) h) X Y

  -- n values of each lane
  lane_within : (j n : ℕ) → j < 8 → n * 8 ≤ length l → Within n 14 (lane l r j n)
  unfolding lane
  lane_within j zero h k = zero_f32_lem
  lane_within j (suc n) h k =
      rw next (plus n 1 (lane l r j n) (product l r (n * 8 + j)) (omega arith) (lane_within j n h (omega arith)) (product_within (n * 8 + j) (omega arith)))
    where
      next : suc n ≡ n + 1
      next = omega arith

  lanes_within : (n : ℕ) → n * 8 ≤ length l → Within (n * 8) 14 (lanes l r n)
  unfolding lanes
  lanes_within n h =
      rw eight
      (more 7 (omega arith) (omega arith) (more 6 (omega arith) (omega arith) (more 5 (omega arith) (omega arith) (more 4 (omega arith) (omega arith)
      (more 3 (omega arith) (omega arith) (more 2 (omega arith) (omega arith) (more 1 (omega arith) (omega arith) (more 0 (omega arith) (omega arith) zero_f32_lem))))))))
    where
      more : (j : ℕ) {k : ℕ} {s : Float} → j < 8 → k + n ≤ length l → Within k 14 s → Within (k + n) 14 (s +₃₂ lane l r j n)
      more j {k} {s} u w S = plus k n s (lane l r j n) w S (lane_within j n u h)

      eight : n * 8 ≡ 0 + n + n + n + n + n + n + n + n
      eight = omega arith

  onward_within : (from : ℕ) (s : Float) (n : ℕ) → from + n ≤ length l → Within from 14 s → Within (from + n) 14 (onward l r from s n)
  unfolding onward
  onward_within from s zero h S = rw none S
    where
      none : from + 0 ≡ from
      none = omega arith
  onward_within from s (suc n) h S =
      rw next (plus (from + n) 1 (onward l r from s n) (product l r (from + n)) (omega arith) (onward_within from s n (omega arith) S) (product_within (from + n) (omega arith)))
    where
      next : from + suc n ≡ from + n + 1
      next = omega arith

pub dot_within : DotWithin
unfolding dot
dot_within l r L R h k =
    subst (λ (n : ℕ). Within n 14 (onward l r (length l / 8 * 8) (lanes l r (length l / 8)) (length l - length l / 8 * 8))) (whole (length l))
    (onward_within l r L R h k (length l / 8 * 8) (lanes l r (length l / 8)) (length l - length l / 8 * 8) (omega arith) (lanes_within l r L R h k (length l / 8) (omega arith)))
  where
    whole : (n : ℕ) → n / 8 * 8 + (n - n / 8 * 8) ≡ n
    whole n = omega arith

-- ---- counts as floats
pub real_within : (n : ℕ) → n ≤ frames_most → Within n 0 (real n)
unfolding of_int
real_within n h = round_within binary64 false n 0 n 1 (lit< tt) (holds binary64 n frames_most 0 h tt tt) (omega arith)

real_large : (n : ℕ) → 1 ≤ n → T (le one (real n))
real_large n h = unfold of_int round in real_mono 1 n h

-- ---- the root's argument
-- 0.001 is a number from 2 ^ -10 to 1
thousandth_within : Within 1 0 thousandth
unfolding of_bits of_fields odd count_trailing_zeros
thousandth_within = record { finite_is = tt; small = lit≤ tt }

thousandth_not_negative : NotNegative thousandth
unfolding le lt eq of_bits of_fields odd count_trailing_zeros
thousandth_not_negative = tt

one_frame : T (le least_weight (one ⊗ thousandth))
unfolding le lt eq mul round units size span climb of_bits of_fields odd count_trailing_zeros
one_frame = tt

floor_weight : (n : ℕ) → 1 ≤ n → n ≤ frames_most → Weight (variance_floor n)
unfolding variance_floor
floor_weight n h k =
    let w = real_within n k in
    record {
      large = le_transitive least_weight (one ⊗ thousandth) (real n ⊗ thousandth) one_frame
          (mul_mono_by binary64 one (real n) thousandth tt w.finite_is thousandth_within.finite_is thousandth_not_negative (real_large n h));
      within = widened_to (n * 1) frames_most 0 1 31 (real n ⊗ thousandth) (omega arith) tt
          (mul_within binary64 n 1 0 0 (real n) thousandth (holds binary64 (n * 1) frames_most 0 (omega arith) tt tt) w thousandth_within);
    }

pub weight_of_energy : WeightOfEnergy
weight_of_energy n h k e E =
    let floor = variance_floor n in
    let w = floor_weight n h k in
    cond_elim Weight (lt floor e) e floor (λ u. record { large = le_transitive least_weight floor e w.large (lt→le floor e (is_T u)); within = E }) (λ u. w)

-- 2 ^ -20
abbrev least_product : Float
least_product = fin false 1 (negsuc 19)

product_is : least_weight ⊗ least_weight ≡ least_product
unfolding mul round units size span climb odd count_trailing_zeros
product_is = refl

product_large : (x y : Float) → Weight x → Weight y → T (le least_product (x ⊗ y))
product_large x y X Y =
    rw (← product_is)
    (mul_mono binary64 least_weight x least_weight y tt X.within.finite_is tt Y.within.finite_is (positive_not_negative least_weight tt) (positive_not_negative least_weight tt) X.large Y.large)

pub product_normal : ProductNormal
product_normal x y X Y = record {
  held = mul-fits binary64 x y;
  finite_is = (mul_within binary64 1 1 31 31 x y (holds binary64 1 1 62 (omega arith) tt tt) X.within Y.within).finite_is;
  least = le_transitive smallest_normal least_product (x ⊗ y) (unfold le lt eq of_bits of_fields odd count_trailing_zeros in tt) (product_large x y X Y);
}

root_is : root_of least_product ≡ least_weight
unfolding root_of root_units near_root root_from size climb span units odd count_trailing_zeros
root_is = refl

pub root_of_weights : RootOfWeights
root_of_weights x y X Y =
    let n = product_normal x y X Y in
    record {
      finite_is = (root_normal (x ⊗ y) n).normal.finite_is;
      large = rw root_is at (root_monotone least_product (x ⊗ y) (unfold fits in tt) n.held (positive_not_negative least_product tt) (product_large x y X Y));
    }

-- ---- bands
module _ (bands n : ℕ) (values : List Float) (B : BoundedBands bands n values) where
  row_bounded : (b : ℕ) → Bounded (row n values b)
  row_bounded b = every_part (Within 1 7) n (b * n) values B.each

  row_size : (b : ℕ) → b < bands → length (row n values b) ≡ n
  row_size b w = length_row bands n values b B.long w

  part_weight : (k b i j : ℕ) → n ≤ frames_most → 1 ≤ k → k ≤ n → b < bands → i ≤ j → j ≤ n → Weight (weight_of (with_energies bands n values) k b i j)
  part_weight k b i j f s m w h l =
      let p = row_size b w in
      rw (energies_row bands n values B.long b w, energy_at (row n values b) j (omega arith), energy_at (row n values b) i (omega arith))
      (weight_of_energy k s (omega arith) _ (energy_of_part (row n values b) (row_bounded b) (omega arith) i j h (omega arith)).within)

  whole_weight : (b : ℕ) → n ≤ frames_most → 1 ≤ n → b < bands → Weight (at_least (variance_floor n) (get_or (whole_energies bands (with_energies bands n values)) b nan))
  whole_weight b f s w =
      let p = row_size b w in
      rw (whole_energy_at bands n values B.long b w)
      (weight_of_energy n s f _ (widened_to n frames_most 14 1 31 _ f tt (energy_within (row n values b) (row_bounded b) (omega arith) n (omega arith))))

pub radicands : Radicands
unfolding term_at band_term part_at part_term
radicands = record { of_term = λ reference count query whole start b. refl; of_part = λ reference query start low high b. refl }

module _ (bands n count : ℕ) (values query : List Float) (C : Comparable bands n count values query) where
  -- the weights under the roots
  term_weights : (start b : ℕ) → start + count ≤ n → b < bands
      → Weight (at_least (variance_floor count) (get_or (whole_energies bands (with_energies bands count query)) b nan)) × Weight (weight_of (with_energies bands n values) count b start (start + length (row count query b)))
  term_weights start b h w =
      let q = row_size bands count query C.query_bounded b w in (
        whole_weight bands count query C.query_bounded b (omega arith) C.heard w,
        part_weight bands n values C.reference_bounded count b start (start + length (row count query b)) C.frames C.heard (omega arith) w (omega arith) (omega arith),
      )

  part_weights : (start low high b : ℕ) → low < high → high ≤ count → start + high ≤ n → b < bands
      → Weight (weight_of (with_energies bands n values) (high - low) b (start + low) (start + high)) × Weight (weight_of (with_energies bands count query) (high - low) b low high)
  part_weights start low high b u k h w = (
    part_weight bands n values C.reference_bounded (high - low) b (start + low) (start + high) C.frames (omega arith) (omega arith) w (omega arith) h,
    part_weight bands count query C.query_bounded (high - low) b low high (omega arith) (omega arith) (omega arith) w (omega arith) k,
  )

pub radicands_normal : RadicandsNormal
radicands_normal bands n count values query C = record {
  of_term = λ start b h w. let W = term_weights bands n count values query C start b h w in product_normal _ _ W.0 W.1;
  of_part = λ start low high b u k h w. let W = part_weights bands n count values query C start low high b u k h w in product_normal _ _ W.0 W.1;
}

-- ---- what a band adds
-- a dot product over the root of two weights
quotient_within : (l r : List Float) (x y : Float) → Bounded l → Bounded r → length l ≡ length r → length l ≤ window_most → Weight x → Weight y → Within 1 34 (dot l r ⊘ root_of (x ⊗ y))
quotient_within l r x y L R e h X Y =
    let root = root_of_weights x y X Y in
    div_within binary64 1 24 10 (dot l r) (root_of (x ⊗ y)) (holds binary64 1 1 34 (omega arith) tt tt)
    (widened_to (length l) window_most 14 1 24 (dot l r) h tt (dot_within l r L R (le_of_eq e) (omega arith)))
    root.finite_is (le→size 9 (root_of (x ⊗ y)) root.finite_is root.large)

pub term_within : TermWithin
term_within bands n count values query C start b h w =
    let own = row count query b in
    let p = row_size bands n values C.reference_bounded b w in
    let q = row_size bands count query C.query_bounded b w in
    let size : length (take (length own) (drop start (row n values b))) ≡ length own = length_part (length own) start (row n values b) (omega arith) in
    let W = term_weights bands n count values query C start b h w in
    rw radicands.of_term
    (quotient_within _ own _ _ (every_part (Within 1 7) (length own) start (row n values b) (row_bounded bands n values C.reference_bounded b)) (row_bounded bands count query C.query_bounded b) size (omega arith) W.0 W.1)

pub part_within : PartWithin
part_within bands n count values query C start low high b u k h w =
    let size = high - low in
    let p = row_size bands n values C.reference_bounded b w in
    let q = row_size bands count query C.query_bounded b w in
    let ours : length (take size (drop (start + low) (row n values b))) ≡ size = length_part size (start + low) (row n values b) (omega arith) in
    let theirs : length (take size (drop low (row count query b))) ≡ size = length_part size low (row count query b) (omega arith) in
    let W = part_weights bands n count values query C start low high b u k h w in
    rw radicands.of_part
    (quotient_within _ _ _ _ (every_part (Within 1 7) size (start + low) (row n values b) (row_bounded bands n values C.reference_bounded b))
    (every_part (Within 1 7) size low (row count query b) (row_bounded bands count query C.query_bounded b)) (ours ∙ sym theirs) (omega arith) W.0 W.1)

-- ---- scores
-- |y| ≥ 1 of a y that is not below 1
one_within : Within 1 0 one
one_within = record { finite_is = tt; small = lit≤ tt }

module _ (bands : ℕ) (some : 1 ≤ bands) (few : bands ≤ bands_most) where
  bands_finite : T (finite (real bands))
  bands_finite = (real_within bands (omega arith)).finite_is

  bands_large : Den (real bands) ≤ size_of (real bands) * 2 ^ 0
  bands_large = one→size (real bands) bands_finite (real_large bands some)

  bands_hold : Holds binary64 bands 34
  bands_hold = holds binary64 bands bands_most 34 few tt tt

pub correlation_within : CorrelationWithin
unfolding correlation_at
correlation_within bands n count values query C start h =
    widened_to (bands * 1) bands_most 34 1 40 _ (omega arith) tt
    (mul_within binary64 bands 1 34 0 _ (one ⊘ real bands) (holds binary64 (bands * 1) bands_most 34 (omega arith) tt tt)
    (sum_to_within _ bands 34 (bands_hold bands C.some C.few) (λ b w. term_within bands n count values query C start b h w))
    (div_within binary64 1 0 0 one (real bands) (holds binary64 1 1 0 (omega arith) tt tt) one_within (bands_finite bands C.some C.few) (bands_large bands C.some C.few)))

pub score_part_within : ScorePartWithin
unfolding score_part
score_part_within bands n count values query C start low high u k h =
    widened_to bands bands_most 34 1 40 _ C.few tt
    (div_within binary64 bands 34 0 _ (real bands) (bands_hold bands C.some C.few)
    (sum_to_within _ bands 34 (bands_hold bands C.some C.few) (λ b w. part_within bands n count values query C start low high b u k h w))
    (bands_finite bands C.some C.few) (bands_large bands C.some C.few))
