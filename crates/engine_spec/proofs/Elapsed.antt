-- The coast that is shown, 0 where evidence times don't differ, is their difference, also in the sign of a zero. A difference is -0 only of -0 and +0; no evidence time is -0 after one that is +0, as the endpoint of an answer computed anew lies 90 past the one before. Assumes nothing.
use mathlib.Core.Bool.{true, false, not}
use mathlib.Core.Logic.{inl, inr}
use mathlib.Core.Path.{◌≡◌, refl, sym, subst}
use lib.Dec.{T}
use lib.Ieee.{Float, nan, inf, fin, binary64, neg, lt, le, fits, is_nan, of_bits}
use lib.Ieee.Fits.{sub-fits}
use lib.Ieee.Scale.{finite}
use Rattle.numbers_spec.specs.Arithmetic.{◌⊖◌, zero⁺, at_least, magnitude}
use Rattle.numbers_spec.proofs.Value.{finite_no_nan}
use Rattle.numbers_spec.specs.Values.{sided}
use Rattle.numbers_spec.proofs.Order.{le_transitive, le_total, not-lt→le, magnitude_above, between_at_most}
use Rattle.numbers_spec.proofs.Rounding.{sided_number, sided_zero}
use Rattle.numbers_spec.proofs.Sums.{sub_mono, sub_number, sub_sign, distance_symmetric}
use Rattle.engine_spec.specs.Thresholds.{reread_ms}
use Rattle.engine_spec.proofs.Tests.{cond_elim}

-- ---- no value has both signs
one_side : (x : Float) → T (sided false x) → T (sided true x) → ⊥
one_side nan h k = h
one_side (inf true) h k = h
one_side (inf false) h k = k
one_side (fin true m e) h k = h
one_side (fin false m e) h k = k

-- ---- the floor of a difference
floored : (x : Float) → T (fits binary64 x) → T (sided false x) → at_least zero⁺ x ≡ x
floored x f h = cond_elim (λ (y : Float). y ≡ x) (lt zero⁺ x) x zero⁺ (λ _. refl)
    (λ k. sym (sided_zero x f h (not-lt→le zero⁺ x (finite_no_nan zero⁺ tt) (sided_number false x h) k)))

-- ---- the coast
-- x - t has the sign of a negative number: then x is not above t
not_past : (x t : Float) → T (finite x) → T (finite t) → T (sided true (x ⊖ t)) → T (le x t)
not_past x t X U h = elim (le_total x t (finite_no_nan x X) (finite_no_nan t U)) [
  | inl k ↦ k
  | inr k ↦ elim (sub_sign binary64 x t X U k) [
    | inl p ↦ absurd (one_side (x ⊖ t) p h)
    | inr p ↦ le_transitive x zero⁺ t p.1 p.2
  ]
]

-- -0 ≤ +0, and 90 is above 0
neg_zero : T (le (neg zero⁺) zero⁺)
unfolding le neg
neg_zero = tt

reread_above : T (le reread_ms zero⁺) → ⊥
unfolding le of_bits
reread_above h = h

-- The endpoints y and then x, x not less than 90 past y; t is trimmed of them. The time since an evidence time up to y's is shown as it is. Were it -0, x would be no more than t, and y - t would be 0: t, and so x, would not lie 90 past y.
pub coast_is : (x y t from : Float) → T (finite x) → T (finite y) → T (finite t) → T (finite from) → T (finite (x ⊖ t))
    → T (le from (y ⊖ t)) → T (le (y ⊖ t) (x ⊖ t)) → T (not (lt (x ⊖ y) reread_ms)) → at_least zero⁺ ((x ⊖ t) ⊖ from) ≡ (x ⊖ t) ⊖ from
coast_is x y t from X Y U F E h k r = elim (sub_sign binary64 (x ⊖ t) from E F (le_transitive from (y ⊖ t) (x ⊖ t) h k)) [
  | inl p ↦ floored ((x ⊖ t) ⊖ from) (sub-fits binary64 (x ⊖ t) from) p
  | inr p ↦
      let level : T (le (magnitude (y ⊖ t)) zero⁺) = between_at_most zero⁺ (y ⊖ t) (record {
        from = le_transitive (neg zero⁺) zero⁺ (y ⊖ t) neg_zero (le_transitive zero⁺ from (y ⊖ t) p.2 h);
        to = le_transitive (y ⊖ t) (x ⊖ t) zero⁺ k p.1;
      }) in
      let ahead : T (le reread_ms (x ⊖ y)) = not-lt→le (x ⊖ y) reread_ms (sub_number binary64 x y X Y) (unfold is_nan of_bits in tt) r in
      let over : T (le (x ⊖ y) (t ⊖ y)) = sub_mono binary64 x t y X U Y (not_past x t X U p.0) in
      let size : T (le (t ⊖ y) (magnitude (y ⊖ t))) = subst (λ (z : Float). T (le (t ⊖ y) z)) (distance_symmetric binary64 t y) (magnitude_above (t ⊖ y) (sub_number binary64 t y U Y)) in
      absurd (reread_above (le_transitive reread_ms (x ⊖ y) zero⁺ ahead (le_transitive (x ⊖ y) (t ⊖ y) zero⁺ over (le_transitive (t ⊖ y) (magnitude (y ⊖ t)) zero⁺ size level))))
]
