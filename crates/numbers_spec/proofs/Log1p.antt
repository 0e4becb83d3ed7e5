-- `ln_1p` of an f32 that is finite and not negative: finite, not negative, at most 91. Assumes nothing.
use mathlib.Core.Path.{refl}
use Prim.Native.Nat.{ℕ, ◌+◌, ◌*◌, ◌^◌, ◌≤◌}
use native.Mathlib.Nat.{le_of_lt, zero-mul, one-mul}
use native.Mathlib.Omega.{arith}
use mathlib.Core.Bool.{Bool, true, false, cond}
use lib.IntN.{negsuc}
use lib.Dec.{T, not_T}
use lib.Ieee.{Float, nan, inf, fin, binary32, binary64, up, down, add, mul, div, neg, le, of_bits, of_int, fits, round, is_nan}
use lib.Ieee.Fits.{add-fits}
use lib.Ieee.Scale.{finite}
use Rattle.numbers_spec.specs.Arithmetic.{◌⊕◌, ◌⊘◌, zero⁺, one, two, magnitude}
use Rattle.numbers_spec.specs.Narrow.{nearest_f32}
use Rattle.numbers_spec.specs.Logarithm.{smallest_normal, series_most, log_series, log_twice, log_of, log1p_wide, log1p_of}
use Rattle.numbers_spec.proofs.Value.{finite_no_nan}
use Rattle.numbers_spec.specs.Values.{Normal, AtMost, NotNegative, Between}
use Rattle.numbers_spec.specs.LogLaws.{log_most₃₂, beyond₃₂, log1p_beyond, Log1pFinite, Log1pZeros}
use Rattle.numbers_spec.proofs.Order.{P, N, below→le, le_transitive, not-le→lt, between_finite, between_at_most, at_most_high, at_most_finite, magnitude_above, positive_above}
use Rattle.numbers_spec.proofs.Sums.{add_between}
use Rattle.numbers_spec.proofs.Products.{div_at_most, div_not_negative}
use Rattle.numbers_spec.proofs.Narrowing.{narrow_mono, narrow_fits}
use Rattle.numbers_spec.proofs.Placed.{fits_under}
use Rattle.numbers_spec.proofs.LogSeries.{quarter, five_eighths, twice_at_most, twice_not_negative}
use Rattle.numbers_spec.proofs.LogLaws.{log_not_negative, log_most_lem}

-- ---- a finite f32 is below 2^128
pub f32_most : (w : Float) → T (fits binary32 w) → T (finite w) → T (le w beyond₃₂)
f32_most nan F W = absurd W
f32_most (inf s) F W = absurd W
f32_most (fin s m e) F W = below→le (fin s m e) beyond₃₂ tt tt (signed s (m * up e) (2 ^ 128) (down e) (le_of_lt (fits_under binary32 s m e F)))
  where
    signed : (s : Bool) (a b d : ℕ) → a ≤ b * d → P s a * 1 + 0 * d ≤ 1 * b * d + N s a * 1
    signed true a b d h = rw (one-mul b, zero-mul d) (omega arith)
    signed false a b d h = rw (one-mul b, zero-mul d) (omega arith)

-- ---- 1 + w
module _ (w : Float) (F : T (fits binary32 w)) (W : T (finite w)) (p : NotNegative w) where
  w_between : Between zero⁺ beyond₃₂ w
  w_between = record { from = p; to = f32_most w F W }

  one_more : Between one beyond₃₂ (one ⊕ w)
  one_more = unfold add in add_between binary64 one one zero⁺ beyond₃₂ one w tt tt tt tt (record { from = unfold le in tt; to = unfold le in tt }) w_between

  pub one_more_normal : Normal (one ⊕ w)
  one_more_normal = record { held = add-fits binary64 one w; finite_is = between_finite one beyond₃₂ (one ⊕ w) tt tt one_more; least = le_transitive smallest_normal one (one ⊕ w) (unfold of_bits le in tt) one_more.from }

  -- ---- s = w / (2 + w), up to w = 0.375
  module _ (h : T (le w series_most)) where
    base_between : Between two (two ⊕ beyond₃₂) (two ⊕ w)
    base_between = unfold add in add_between binary64 two two zero⁺ beyond₃₂ two w tt tt tt tt (record { from = unfold le in tt; to = unfold le in tt }) w_between

    base_finite : T (finite (two ⊕ w))
    base_finite = between_finite two (two ⊕ beyond₃₂) (two ⊕ w) tt (unfold add in tt) base_between

    w_at_most : AtMost (fin false 3 (negsuc 2)) w
    unfolding of_bits
    w_at_most = between_at_most (fin false 3 (negsuc 2)) w (record { from = le_transitive (neg (fin false 3 (negsuc 2))) zero⁺ w (unfold neg le in tt) p; to = h })

    ratio_at_most : AtMost quarter (w ⊘ (two ⊕ w))
    ratio_at_most =
        le_transitive (magnitude (w ⊘ (two ⊕ w))) (fin false 3 (negsuc 2) ⊘ two) quarter
        (div_at_most binary64 w (two ⊕ w) (fin false 3 (negsuc 2)) two tt tt w_at_most (le_transitive two (two ⊕ w) (magnitude (two ⊕ w)) base_between.from (magnitude_above (two ⊕ w) (finite_no_nan (two ⊕ w) base_finite))))
        (unfold div le in tt)

    series_between : Between zero⁺ log_most₃₂ (log_twice (w ⊘ (two ⊕ w)))
    series_between =
        let s = w ⊘ (two ⊕ w) in
        let S = at_most_finite quarter s tt ratio_at_most in
        record {
          from = twice_not_negative s S ratio_at_most (div_not_negative binary64 w (two ⊕ w) W (positive_above two (two ⊕ w) tt base_finite base_between.from) p);
          to = le_transitive (log_twice s) five_eighths log_most₃₂ (at_most_high five_eighths (log_twice s) (twice_at_most s S ratio_at_most)) (unfold le in tt);
        }

  -- ---- either way
  wide_between : Between zero⁺ log_most₃₂ (log1p_wide w)
  wide_between = go (le w series_most) series_between
    where
      go : (b : Bool) → (T b → Between zero⁺ log_most₃₂ (log_twice (w ⊘ (two ⊕ w)))) → Between zero⁺ log_most₃₂ (cond b (log_twice (w ⊘ (two ⊕ w))) (log_of (one ⊕ w)))
      go true h = h tt
      go false h = record { from = log_not_negative (one ⊕ w) one_more_normal one_more.from; to = log_most_lem (one ⊕ w) one_more_normal one_more.to }

  narrow_between : Between zero⁺ log_most₃₂ (log1p_of w)
  unfolding log1p_of nearest_f32 round
  narrow_between = record { from = narrow_mono zero⁺ (log1p_wide w) wide_between.from; to = narrow_mono (log1p_wide w) log_most₃₂ wide_between.to }

pub log1p_finite : Log1pFinite
log1p_finite w F W p =
    let b = narrow_between w F W p in
    let L = between_finite zero⁺ log_most₃₂ (log1p_of w) tt tt b in
    record {
      held = unfold log1p_of in narrow_fits (log1p_wide w);
      finite_is = L;
      not_negative = b.from;
      most = b.to;
      below = not-le→lt (log1p_of w) log1p_beyond (finite_no_nan (log1p_of w) L) (unfold is_nan in tt) (not_T (le log1p_beyond (log1p_of w)) (λ (l : T (le log1p_beyond (log1p_of w))). unfold le in le_transitive log1p_beyond (log1p_of w) log_most₃₂ l b.to));
    }

pub log1p_zeros : Log1pZeros
unfolding log1p_of nearest_f32 log_series of_int of_bits le div add mul round
log1p_zeros = record { plus_zero = refl; minus_zero = refl }
