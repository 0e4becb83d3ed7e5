-- `root_of` gives the f64 nearest to the root, keeps the order, and takes positive normals to positive normals. Assumes nothing.
use mathlib.Core.Path.{◌≡◌, refl, sym, ap, ◌∙◌, subst}
use mathlib.Core.Logic.{◌⊎◌, inl, inr}
use Prim.Native.Nat.{ℕ, zero, suc, ◌+◌, ◌*◌, ◌^◌, ◌≤◌, ◌<◌}
use native.Mathlib.Nat.{le_of_suc-le-suc, lt_of_not-le, le_of_mul-le-mul_right, mul-le-mul_right, mul-pos, zero-lt-suc}
use native.Mathlib.Omega.{arith}
use mathlib.Core.Bool.{Bool, true, false}
use lib.Dec.{T, ltb→lt, lt→ltb}
use lib.Pow.{pow_pos}
use lib.Count.{count_trailing_zeros}
use lib.Ieee.{Float, nan, inf, fin, binary64, up, down, size, climb, span, odd, units, of_bits, of_fields, fits, le, lt, eq}
use lib.Ieee.Fits.{up_pos}
use lib.Ieee.Order.{le_of_values}
use lib.Ieee.Positive.{positive, positive-finite, first_pos, value_pos, values_of_le, above_of_le}
use lib.Ieee.Scale.{finite}
use Rattle.numbers_spec.specs.Arithmetic.{zero⁺}
use Rattle.numbers_spec.specs.Root.{root_from, near_root, root_units, root_of}
use Rattle.numbers_spec.specs.Logarithm.{smallest_normal}
use Rattle.numbers_spec.proofs.Value.{finite_no_nan, value_finite}
use Rattle.numbers_spec.proofs.Rooted.{root_value, root_fits, root_closest, root_positive, A}
use Rattle.numbers_spec.specs.Values.{Units}
use Rattle.numbers_spec.specs.RootLaws.{NearestRoot, RootNearest, RootMonotone, smallest_normal_root, RootNormal}
use Rattle.numbers_spec.proofs.Order.{P, N, tested→ordered, ordered→tested, le_transitive, most_of_all, positive_above, positive_not_negative, positive_sign}
use Rattle.numbers_spec.proofs.Placed.{placed, placed_units}

-- ---- the nearest
positive_nearest : (x : Float) → T (fits binary64 x) → T (positive x) → NearestRoot x (root_of x)
positive_nearest x F pos-x =
    let p = placed binary64 x F (positive-finite x pos-x) in
    let d = p.digits in
    let k = p.shift in
    let E : k ≤ 2045 = le_of_suc-le-suc p.reach in
    let u : Units binary64 x false (d * 2 ^ k) = subst (λ (b : Bool). Units binary64 x b (d * 2 ^ k)) (positive_sign x p.sign (d * 2 ^ k) (2 ^ 1074) pos-x p.value) p.value in
    let some : 0 < d * 2 ^ k = value_pos x (d * 2 ^ k) (2 ^ 1074) pos-x (pow_pos 1074) u in
    let D : 0 < d = first_pos d (2 ^ k) some in
    let r = A d k D p.few E in
    subst (λ (v : Float). NearestRoot x v) (root_positive x (d * 2 ^ k) some u)
    (record {
      radicand = d * 2 ^ k;
      root = r;
      of = u;
      value = root_value d k D p.few E;
      held = root_fits d k D p.few E;
      above = λ y n G v l.
          let q = placed_units binary64 y false n G v in
          subst (λ (t : ℕ). 4 * (d * 2 ^ k * 2 ^ 1074) < (r + t) * (r + t)) (sym q.3) ((root_closest d k D p.few E q.0 q.1 q.2).0 (subst (λ (t : ℕ). r < t) q.3 l));
      below = λ y n G v l.
          let q = placed_units binary64 y false n G v in
          subst (λ (t : ℕ). (r + t) * (r + t) < 4 * (d * 2 ^ k * 2 ^ 1074)) (sym q.3) ((root_closest d k D p.few E q.0 q.1 q.2).1 (subst (λ (t : ℕ). t < r) q.3 l));
    })

lt→positive : (x : Float) → T (finite x) → T (lt zero⁺ x) → T (positive x)
unfolding lt
lt→positive nan f h = absurd f
lt→positive (inf t) f h = absurd f
lt→positive (fin true m e) f h = absurd h
lt→positive (fin false m e) f h = lt→ltb 0 m (first_pos m (up e) (pos_of (down e) (m * up e) (ltb→lt (0 * 1 * down e) (m * up e * 1) h)))
  where
    pos_of : (d a : ℕ) → 0 * 1 * d < a * 1 → 0 < a
    pos_of d a k = omega arith

pub root_nearest : RootNearest
root_nearest x F f h = positive_nearest x F (lt→positive x f h)

-- ---- the order
-- the roots of n and m units, whose squares lie under and over the square of twice their middle
in_order : (R Q X Y u : ℕ) → (Q < R → (R + Q) * (R + Q) < 4 * (X * u)) → (Q < R → 4 * (Y * u) < (Q + R) * (Q + R)) → X ≤ Y → R ≤ Q
in_order R Q X Y u h k l = le_of_suc-le-suc (lt_of_not-le (λ (g : suc Q ≤ R). clash (R + Q) (Q + R) (X * u) (Y * u) (plus R Q) (h g) (k g) (mul-le-mul_right u l)))
  where
    plus : (a b : ℕ) → a + b ≡ b + a
    plus a b = omega arith

    clash : (a b x y : ℕ) → a ≡ b → a * a < 4 * x → 4 * y < b * b → x ≤ y → ⊥
    clash a b x y e p q o = let s : a * a ≡ b * b = ap (λ (z : ℕ). z * z) e in omega arith

nearest_mono : (x y r q : Float) → T (positive x) → T (positive y) → NearestRoot x r → NearestRoot y q → T (le x y) → T (le r q)
nearest_mono x y r q X Y n m h =
    le_of_values r q n.root (2 ^ 1074) m.root (2 ^ 1074) (pow_pos 1074) (pow_pos 1074) n.value m.value
    (mul-le-mul_right (2 ^ 1074)
    (in_order n.root m.root n.radicand m.radicand (2 ^ 1074) (n.below q m.root m.held m.value) (m.above r n.root n.held n.value)
    (le_of_mul-le-mul_right (values_of_le x y n.radicand (2 ^ 1074) m.radicand (2 ^ 1074) X Y n.of m.of h) (pow_pos 1074))))

-- what is not negative is a zero, finite and above zero, or infinite
kind : (z : Float) → T (le zero⁺ z) → ((root_of z ≡ z) × T (le z zero⁺)) ⊎ (T (positive z) ⊎ (z ≡ inf false))
unfolding le root_of
kind nan h = absurd h
kind (inf true) h = absurd h
kind (inf false) h = inr (inr refl)
kind (fin s zero e) h = inl (refl, ordered→tested s (0 * up e * 1) false (0 * 1 * down e) (no_more s (up e) (down e)))
  where
    no_more : (s : Bool) (u d : ℕ) → P s (0 * u * 1) + 0 ≤ 0 * 1 * d + N s (0 * u * 1)
    no_more true u d = omega arith
    no_more false u d = omega arith
kind (fin true (suc m) e) h = absurd (none (suc m * up e) (down e) (mul-pos (zero-lt-suc m) (up_pos e)) (tested→ordered false (0 * 1 * down e) true (suc m * up e * 1) h))
  where
    none : (a d : ℕ) → 0 < a → 0 * 1 * d + a * 1 ≤ 0 + 0 → ⊥
    none a d p g = omega arith
kind (fin false (suc m) e) h = inr (inl (lt→ltb 0 (suc m) (zero-lt-suc m)))

not_negative : (r : Float) (n : ℕ) → Units binary64 r false n → T (le zero⁺ r)
not_negative r n u = le_of_values zero⁺ r 0 1 n (2 ^ 1074) (zero-lt-suc 0) (pow_pos 1074) (refl, refl) u (least (2 ^ 1074) n)
  where
    least : (a b : ℕ) → 0 * a ≤ b * 1
    least a b = omega arith

root_of_infinity : root_of (inf false) ≡ inf false
unfolding root_of
root_of_infinity = refl

root_not_negative : (y : Float) → T (fits binary64 y) → T (le zero⁺ y) → T (le zero⁺ (root_of y))
root_not_negative y F h = elim (kind y h) [
  | inl z ↦ subst (λ (v : Float). T (le zero⁺ v)) (sym z.0) h
  | inr (inl p) ↦ let n = positive_nearest y F p in not_negative (root_of y) n.root n.value
  | inr (inr e) ↦ subst (λ (v : Float). T (le zero⁺ v)) (sym (ap root_of e ∙ root_of_infinity)) (unfold le in tt)
]

above_infinity : (y : Float) → T (le (inf false) y) → y ≡ inf false
unfolding le
above_infinity nan h = absurd h
above_infinity (inf true) h = absurd h
above_infinity (inf false) h = refl
above_infinity (fin s m e) h = absurd h

positive_mono : (x y : Float) → T (fits binary64 x) → T (fits binary64 y) → T (positive x) → T (le zero⁺ y) → T (le x y) → T (le (root_of x) (root_of y))
positive_mono x y F G p h k = elim (kind y h) [
  | inl z ↦ absurd (above_of_le x zero⁺ p (le_transitive x y zero⁺ k z.1))
  | inr (inl q) ↦ nearest_mono x y (root_of x) (root_of y) p q (positive_nearest x F p) (positive_nearest y G q) k
  | inr (inr e) ↦
      let n = positive_nearest x F p in
      subst (λ (v : Float). T (le (root_of x) v)) (sym (ap root_of e ∙ root_of_infinity)) (most_of_all (root_of x) (finite_no_nan (root_of x) (value_finite (root_of x) false n.root (2 ^ 1074) n.value)))
]

pub root_monotone : RootMonotone
root_monotone x y F G h k =
    let y_not : T (le zero⁺ y) = le_transitive zero⁺ x y h k in
    elim (kind x h) [
      | inl z ↦ subst (λ (v : Float). T (le v (root_of y))) (sym z.0) (le_transitive x zero⁺ (root_of y) z.1 (root_not_negative y G y_not))
      | inr (inl p) ↦ positive_mono x y F G p y_not k
      | inr (inr e) ↦ subst (λ (v : Float). T (le (root_of x) (root_of v))) (e ∙ sym (above_infinity y (subst (λ (v : Float). T (le v y)) e k))) (subst (λ (v : Float). T (le v v)) (sym (ap root_of e ∙ root_of_infinity)) (unfold le in tt))
    ]

-- ---- the roots of normals
root_of_smallest : root_of smallest_normal ≡ smallest_normal_root
unfolding root_of root_units near_root root_from size climb span units odd count_trailing_zeros of_bits of_fields
root_of_smallest = refl

smallest_positive : T (positive smallest_normal)
unfolding of_bits of_fields odd count_trailing_zeros
smallest_positive = tt

pub root_normal : RootNormal
root_normal x v =
    let p : T (positive x) = positive_above smallest_normal x smallest_positive v.finite_is v.least in
    let n = positive_nearest x v.held p in
    let l : T (le smallest_normal_root (root_of x)) = rw root_of_smallest at (root_monotone smallest_normal x (unfold fits of_bits of_fields odd count_trailing_zeros in tt) v.held (positive_not_negative smallest_normal smallest_positive) v.least) in
    record {
      normal = record {
        held = n.held;
        finite_is = value_finite (root_of x) false n.root (2 ^ 1074) n.value;
        least = le_transitive smallest_normal smallest_normal_root (root_of x) (unfold le lt eq of_bits of_fields odd count_trailing_zeros in tt) l;
      };
      large = l;
    }
