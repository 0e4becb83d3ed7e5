-- Centred values are small: what specs/CentringBounds.antt says. Logs lie from 0 to 91; two prefix sums j frames apart differ by at most 91 * j + 1, since one of them lies beside a whole number and whole numbers add exactly; so a mean lies from 0 to 92. Assumes nothing.
use mathlib.Core.Path.{◌≡◌, refl, sym, ◌∙◌}
use Prim.Native.Nat.{ℕ, zero, suc, ◌+◌, ◌-◌, ◌*◌, ◌/◌, ◌^◌, ◌≤◌, ◌<◌, min}
use native.Mathlib.Nat.{zero-add, add-zero, add-suc}
use native.Mathlib.Omega.{arith}
use mathlib.Core.Bool.{Bool, true, false, true≢false}
use mathlib.Core.List.{List}
use lib.Dec.{T}
use lib.IntN.{pos}
use lib.ListN.{length, get_or, length-take}
use lib.Ieee.{Float, nan, fin, binary32, binary64, round, add, sub, div, neg, of_int, of_bits, fits, le}
use lib.Ieee.Fits.{add-fits, sub-fits, div-fits, and_l, and_r}
use lib.Ieee.Scale.{finite}
use Rattle.numbers_spec.specs.Arithmetic.{◌⊕◌, ◌⊖◌, ◌⊗◌, zero⁺, real, magnitude}
use Rattle.numbers_spec.specs.Logarithm.{log1p_of}
use Rattle.numbers_spec.specs.Narrow.{nearest_f32}
use Rattle.matcher_spec.specs.Centring.{sum_of, mean_around, centred_at, logs, centred, kept}
use Rattle.matcher_spec.specs.Timeline.{valid_value, valid_values}
use Rattle.numbers_spec.specs.Rows.{row, sum_to, Every, F32}
use Rattle.matcher_spec.specs.Energy.{zero_f32, four, ◌+₃₂◌, average, averages}
use Rattle.numbers_spec.proofs.RowLaws.{length_logs, log_at_lem, all_fails}
use Rattle.numbers_spec.specs.LogLaws.{log_most₃₂}
use Rattle.numbers_spec.specs.Values.{AtMost}
use Rattle.numbers_spec.proofs.Order.{between_at_most, le_self, le_transitive}
use Rattle.numbers_spec.proofs.Narrowing.{narrow_mono}
use Rattle.numbers_spec.proofs.Log1p.{log1p_finite}
use Rattle.numbers_spec.proofs.Sums.{add_grows, add_at_most, sub_mono, sub_anti}
use Rattle.numbers_spec.proofs.Products.{div_at_most}
use Rattle.numbers_spec.proofs.Within.{at_most_within}
use Rattle.matcher_spec.proofs.Bounds.{widened_to}
use Rattle.matcher_spec.proofs.WholeBounds.{Upto, beside, real_finite, upto_finite, upto_more, upto_add, upto_mul, upto_real, upto_sub, upto_div}
use Rattle.matcher_spec.proofs.RowAccess.{every_part, every_tabulate, every_rows}
use Rattle.matcher_spec.specs.CentringBounds.{Small, CentredWithin, KeptWithin, AveragesWithin, FineWithin, QueryWithin, AllAveragesWithin}

-- ---- prefix sums of values from 0 to 91
module _ (t : ℕ → Float) (n : ℕ) (short : n ≤ 2 ^ 40) (each : (i : ℕ) → i < n → Upto 91 (t i)) where
  sum_fits : (k : ℕ) → T (fits binary64 (sum_to t k))
  unfolding sum_to
  sum_fits zero = unfold fits in tt
  sum_fits (suc k) = add-fits binary64 (sum_to t k) (t k)

  -- from a sum that is at most c on
  sum_upto : (low c j : ℕ) → low + j ≤ n → c ≤ 2 ^ 50 → Upto c (sum_to t low) → Upto (c + 91 * j) (sum_to t (low + j))
  unfolding sum_to
  sum_upto low c zero l C h = rw (add-zero low) (upto_more c (c + 91 * 0) (sum_to t low) (omega arith) h)
  sum_upto low c (suc j) l C h =
      rw (add-suc low j)
      (upto_more (c + 91 * j + 91) (c + 91 * suc j) (sum_to t (low + j) ⊕ t (low + j)) (omega arith)
      (upto_add (c + 91 * j) 91 (sum_to t (low + j)) (t (low + j)) (omega arith) (omega arith) (sum_upto low c j (omega arith) C h) (each (low + j) (omega arith))))

  sum_whole : (k : ℕ) → k ≤ n → Upto (91 * k) (sum_to t k)
  sum_whole k l = simp zero-add at (sum_upto 0 0 k (omega arith) (omega arith) (unfold sum_to of_int round le in record { from = tt; to = tt }))

  sum_finite : (k : ℕ) → k ≤ n → T (finite (sum_to t k))
  sum_finite k l = upto_finite (91 * k) (sum_to t k) (omega arith) (sum_whole k l)

  sum_grows : (low j : ℕ) → low + j ≤ n → T (le (sum_to t low) (sum_to t (low + j)))
  unfolding sum_to
  sum_grows low zero l = rw (add-zero low) (le_self (sum_to t low) (sum_finite low (omega arith)))
  sum_grows low (suc j) l =
      rw (add-suc low j)
      (le_transitive (sum_to t low) (sum_to t (low + j)) (sum_to t (low + j) ⊕ t (low + j)) (sum_grows low j (omega arith))
      (let v = each (low + j) (omega arith) in add_grows binary64 (sum_to t (low + j)) (t (low + j)) (sum_fits (low + j)) (sum_finite (low + j) (omega arith)) (upto_finite 91 _ (omega arith) v) v.from))

  -- the difference of two
  sums_apart : (low j : ℕ) → low + j ≤ n → Upto (91 * j + 1) (sum_to t (low + j) ⊖ sum_to t low)
  sums_apart low j l =
      let b = beside (91 * low) (sum_to t low) (omega arith) (sum_whole low (omega arith)) in
      let few : b.c ≤ 91 * low = b.few in
      upto_sub b.c (91 * j + 1) (sum_to t (low + j)) (sum_to t low) (omega arith)
      (upto_more (suc b.c + 91 * j) (b.c + (91 * j + 1)) (sum_to t (low + j)) (omega arith) (sum_upto low (suc b.c) j l (omega arith) b.upto))
      (sum_finite low (omega arith)) b.above (sum_grows low j l)

-- ---- the mean around a frame, of values from 0 to 91
narrow_zero : T (le zero⁺ (nearest_f32 zero⁺))
unfolding nearest_f32 round le
narrow_zero = tt

narrow_92 : T (le (nearest_f32 (real 92)) (real 92))
unfolding nearest_f32 of_int round le
narrow_92 = tt

narrow_upto : (x : Float) → Upto 92 x → Upto 92 (nearest_f32 x)
narrow_upto x h = record {
  from = le_transitive zero⁺ (nearest_f32 zero⁺) (nearest_f32 x) narrow_zero (narrow_mono zero⁺ x h.from);
  to = le_transitive (nearest_f32 x) (nearest_f32 (real 92)) (real 92) (narrow_mono x (real 92) h.to) narrow_92;
}

module _ (v : List Float) (short : length v ≤ 2 ^ 40) (each : Every (Upto 91) v) (r i : ℕ) (R : r ≤ 2 ^ 40) (I : i < length v) where
  -- what the frames past an end add
  edge : (k j : ℕ) → k ≤ 2 ^ 41 → j < length v → Upto (k * 91) (real k ⊗ get_or v j nan)
  edge k j K J = upto_mul k 91 (real k) (get_or v j nan) (omega arith) (omega arith) (upto_real k (omega arith)) (each j J)

  mean_upto : Upto 92 (mean_around (sum_of v) (length v) (get_or v 0 nan) (get_or v (length v - 1) nan) r i)
  unfolding mean_around
  mean_upto =
      let n = length v in
      let j = min n (i + r + 1) - (i - r) in
      let whole : i - r + j ≡ min n (i + r + 1) = omega arith in
      let inner = rw whole at (sums_apart (λ (i : ℕ). get_or v i nan) n short each (i - r) j (omega arith)) in
      let first = edge (r - i) 0 (omega arith) (omega arith) in
      let last = edge (i + r + 1 - n) (n - 1) (omega arith) (omega arith) in
      narrow_upto _
      (upto_div 92 (2 * r + 1) _ (omega arith) (omega arith) (omega arith)
      (upto_more (91 * j + 1 + (r - i) * 91 + (i + r + 1 - n) * 91) (92 * (2 * r + 1)) _ (omega arith)
      (upto_add (91 * j + 1 + (r - i) * 91) ((i + r + 1 - n) * 91) _ _ (omega arith) (omega arith)
      (upto_add (91 * j + 1) ((r - i) * 91) _ _ (omega arith) (omega arith) inner first) last)))

-- ---- small values
small : (x : Float) → F32 x → AtMost (real 92) x → Small x
small x F h = record { held = F; most = h; within = widened_to 23 23 2 1 7 x (omega arith) tt (at_most_within 23 2 x (unfold of_int round in h)) }

less_92 : T (le (neg (real 92)) (sub binary32 zero⁺ (real 92)))
unfolding sub neg add of_int round le
less_92 = tt

below_92 : T (le (sub binary32 (real 91) zero⁺) (real 92))
unfolding sub neg add of_int round le
below_92 = tt

difference : (x y : Float) → Upto 91 x → Upto 92 y → Small (sub binary32 x y)
difference x y h k =
    let X = upto_finite 91 x (omega arith) h in
    let Y = upto_finite 92 y (omega arith) k in
    small (sub binary32 x y) (sub-fits binary32 x y)
    (between_at_most (real 92) (sub binary32 x y)
    (record {
      from = le_transitive (neg (real 92)) (sub binary32 x (real 92)) (sub binary32 x y)
          (le_transitive (neg (real 92)) (sub binary32 zero⁺ (real 92)) (sub binary32 x (real 92)) less_92 (sub_mono binary32 zero⁺ x (real 92) tt X (real_finite 92 (omega arith)) h.from))
          (sub_anti binary32 x y (real 92) X Y (real_finite 92 (omega arith)) k.to);
      to = le_transitive (sub binary32 x y) (sub binary32 x zero⁺) (real 92)
          (sub_anti binary32 x zero⁺ y X tt Y k.from)
          (le_transitive (sub binary32 x zero⁺) (sub binary32 (real 91) zero⁺) (real 92) (sub_mono binary32 x (real 91) zero⁺ X (real_finite 91 (omega arith)) tt h.to) below_92);
    }))

-- ---- rows of values that a band may hold
valid_each : (values : List Float) → valid_values values ≡ true → Every (λ x. T (valid_value x)) values
unfolding valid_values
valid_each values h i l = go (valid_value (get_or values i nan)) refl
  where
    go : (b : Bool) → valid_value (get_or values i nan) ≡ b → T b
    go true e = tt
    go false e = absurd (true≢false (sym h ∙ all_fails (λ (i : ℕ). valid_value (get_or values i nan)) (length values) i l e))

log_upto : (w : Float) → F32 w → T (valid_value w) → Upto 91 (log1p_of w)
log_upto w F W =
    let b = log1p_finite w F (and_l (finite w) (le zero⁺ w) W) (and_r (finite w) (le zero⁺ w) W) in
    record { from = b.not_negative; to = le_transitive (log1p_of w) log_most₃₂ (real 91) b.most (unfold of_int round le in tt) }

centred_each : (r : ℕ) (values : List Float) → r ≤ 2 ^ 40 → length values ≤ 2 ^ 40 → Every F32 values → Every (λ x. T (valid_value x)) values → Every Small (centred r values)
unfolding centred centred_at
centred_each r values R L F W =
    let l = logs values in
    let size : length l ≡ length values = length_logs values in
    let each : Every (Upto 91) l = λ i h. rw (log_at_lem values i) (log_upto (get_or values i nan) (F i (omega arith)) (W i (omega arith))) in
    every_tabulate Small (centred_at r l) (length values) (λ i h. difference (get_or l i nan) _ (each i (omega arith)) (mean_upto l (omega arith) each r i R (omega arith)))

pub centred_within : CentredWithin
centred_within r values R L F W = centred_each r values R L F (valid_each values W)

pub kept_within : KeptWithin
kept_within r v h = every_part Small (length v - 2 * r) r v h

-- ---- averages: four values up to 92 add up to at most 368
one_more : (b c x y : Float) → T (finite b) → T (le (b +₃₂ real 92) c) → AtMost b x → AtMost (real 92) y → AtMost c (x +₃₂ y)
one_more b c x y B l h k = le_transitive (magnitude (x +₃₂ y)) (b +₃₂ real 92) c (add_at_most binary32 x y b (real 92) B (real_finite 92 (omega arith)) h k) l

four_most : (x y z w : Float) → AtMost (real 92) x → AtMost (real 92) y → AtMost (real 92) z → AtMost (real 92) w → AtMost (real 92) (div binary32 (zero_f32 +₃₂ x +₃₂ y +₃₂ z +₃₂ w) four)
four_most x y z w hx hy hz hw =
    let whole : (n : ℕ) → Float = λ n. fin false n (pos 0) in
    let sum = zero_f32 +₃₂ x +₃₂ y +₃₂ z +₃₂ w in
    le_transitive (magnitude (div binary32 sum four)) (div binary32 (whole 368) four) (real 92)
    (div_at_most binary32 sum four (whole 368) four tt (unfold of_bits in tt)
    (one_more (whole 276) (whole 368) (zero_f32 +₃₂ x +₃₂ y +₃₂ z) w tt (unfold add of_int round le in tt)
    (one_more (whole 184) (whole 276) (zero_f32 +₃₂ x +₃₂ y) z tt (unfold add of_int round le in tt)
    (one_more (whole 92) (whole 184) (zero_f32 +₃₂ x) y tt (unfold add of_int round le in tt)
    (one_more zero⁺ (whole 92) zero_f32 x tt (unfold add of_int round le in tt) (unfold of_bits magnitude le in tt) hx) hy) hz) hw)
    (unfold of_bits magnitude le in tt))
    (unfold div of_bits of_int round le in tt)

average_small : (v : List Float) (at : ℕ) → at + 3 < length v → Every Small v → Small (average v at)
unfolding average
average_small v at l h =
    small (average v at) (div-fits binary32 _ four)
    (four_most _ _ _ _ (h at (omega arith)).most (h (at + 1) (omega arith)).most (h (at + 2) (omega arith)).most (h (at + 3) (omega arith)).most)

pub averages_within : AveragesWithin
averages_within v h = every_tabulate Small (λ (k : ℕ). average v (k * 4)) (length v / 4) (λ k l. average_small v (k * 4) (omega arith) h)

-- ---- bands
band_each : (r n : ℕ) (values : List Float) (b : ℕ) → r ≤ 2 ^ 40 → n ≤ 2 ^ 40 → Every F32 values → valid_values values ≡ true → Every Small (centred r (row n values b))
band_each r n values b R N F W =
    centred_each r (row n values b) R (rw length-take (omega arith)) (every_part F32 n (b * n) values F) (every_part (λ x. T (valid_value x)) n (b * n) values (valid_each values W))

pub fine_within : FineWithin
fine_within r bands n values R N F W = every_rows Small (λ (b : ℕ). centred r (row n values b)) bands (λ b l. band_each r n values b R N F W)

pub query_within : QueryWithin
query_within r bands n values R N F W =
    every_rows Small (λ (b : ℕ). kept r (centred r (row n values b))) bands (λ b l. kept_within r (centred r (row n values b)) (band_each r n values b R N F W))

pub all_averages_within : AllAveragesWithin
all_averages_within bands n v h = every_rows Small (λ (b : ℕ). averages (row n v b)) bands (λ b l. averages_within (row n v b) (every_part Small n (b * n) v h))
