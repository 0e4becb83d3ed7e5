-- `round` gives the value of its format that is nearest, and an infinity from half a unit above the largest value on: in either format, so in a narrowing too. Assumes nothing.
use mathlib.Core.Path.{◌≡◌, sym, ap, ◌∙◌, subst}
use mathlib.Core.Logic.{◌⊎◌, inl, inr}
use Prim.Native.Nat.{ℕ, suc, ◌+◌, ◌-◌, ◌*◌, ◌/◌, ◌%◌, ◌^◌, ◌≤◌, ◌<◌}
use native.Mathlib.Nat.{le_trans, le_of_eq, le_of_suc-le-suc, lt_of_lt_of_le, lt_of_le_of_lt, lt_of_not-le, eq-zero-or-pos, eq-or-lt_of_le, mul-one, mul_comm, mul_assoc, mul-le-mul_right, mul-lt-mul_of_pos_left, mul-lt-mul_of_pos_right, mul-pos, div-lt_iff_lt-mul, le-div_iff_mul-le}
use native.Mathlib.Omega.{arith}
use mathlib.Core.Bool.{Bool, true, false, cond}
use lib.Dec.{T}
use lib.Pow.{pow_pos, pow_mono, pow-lt, pow-add}
use lib.Ieee.{Float, Format, binary32, binary64, prec, emax, low, up, down, hid, top, size, units, round, fits, to_bits}
use lib.Ieee.Digits.{size-lt, size_reaches}
use lib.Ieee.Exact.{units_val}
use lib.Ieee.Fits.{down_pos, two, two-le_pos, reach, round_is, round-fits}
use lib.Ieee.Nearest.{closest}
use lib.Ieee.Scale.{finite}
use Rattle.numbers_spec.specs.Narrow.{nearest_f32}
use Rattle.numbers_spec.proofs.Encode.{spaced, bits_placed, twice_hid, Spread, K-le, K-ge, units_over}
use Rattle.numbers_spec.proofs.Value.{value_finite}
use Rattle.numbers_spec.specs.Values.{Units}
use Rattle.numbers_spec.specs.Nearest.{NearestTo, RoundNearest, twice_edge, FiniteBelow, RoundOverflow, NarrowNearest, NarrowOverflow}
use Rattle.numbers_spec.proofs.Placed.{reach_is, placed_units}
use Rattle.numbers_spec.proofs.Multiples.{Halves, closest_halves, Nearer, multiple_nearer, lower_nearer, few_kept, all_kept, near_signed, tie_signed}

-- ---- small things
-- the bits of a number whose last digits are k's
even_bits : (f : Format) (s : Bool) (d k : ℕ) → k % 2 ≡ 0 → (cond s (top f) 0 + (d * hid f + k)) % 2 ≡ 0
even_bits binary32 true d k h = omega arith
even_bits binary32 false d k h = omega arith
even_bits binary64 true d k h = omega arith
even_bits binary64 false d k h = omega arith

odd_times : (x q w : ℕ) → x ≡ 2 * q → 0 < q → (x - 1) * w + w ≡ 2 * (q * w)
odd_times x q w e Q = let z : suc (x - 1) * w ≡ 2 * q * w = ap (λ (y : ℕ). y * w) (one x q e Q) in omega arith
  where
    one : (y p : ℕ) → y ≡ 2 * p → 0 < p → suc (y - 1) ≡ 2 * p
    one y p g h = omega arith

none : (d b : ℕ) → d ≡ 0 → b < d → ⊥
none d b e g = omega arith

one_more : (p b d : ℕ) → 2 ≤ p → b < d → p + b ≤ p - 1 + d
one_more p b d h g = omega arith

-- ---- a / c in units is N / c. `round` drops D digits, so U / c is the unit in which it keeps the number K
module _ (f : Format) (a c : ℕ) (C : 0 < c) where
  abbrev N : ℕ
  N = a * 2 ^ low f

  abbrev D : ℕ
  D = size (N / c) - prec f

  abbrev U : ℕ
  U = c * 2 ^ D

  abbrev K : ℕ
  K = closest N U

  U_pos : 0 < U
  U_pos = mul-pos C (pow_pos D)

  -- the result in units
  abbrev R : ℕ
  R = K * 2 ^ D

  round_units : (s : Bool) → round f s a c ≡ units f s K D
  round_units s = round_is f s a c

  halves : Halves N U K
  halves = closest_halves N U U_pos

  spread : Spread f a c D
  spread = ((div-lt_iff_lt-mul C).0 (lt_of_lt_of_le (size-lt (N / c)) (pow_mono (cover (size (N / c)) (prec f)))), kept (eq-zero-or-pos D))
    where
      cover : (z p : ℕ) → z ≤ p + (z - p)
      cover z p = omega arith

      inside : (z p : ℕ) → 2 ≤ p → 0 < z - p → p - 1 + (z - p) < z
      inside z p h g = omega arith

      kept : (D ≡ 0) ⊎ (0 < D) → (D ≡ 0) ⊎ (2 ^ (prec f - 1 + D) * c ≤ N)
      kept (inl e) = inl e
      kept (inr g) = inr ((le-div_iff_mul-le C).0 (size_reaches (N / c) (prec f - 1 + D) (inside (size (N / c)) (prec f) (two f) g)))

  turned : (t : ℕ) → t * 2 ^ D * c ≡ t * U
  turned t = mul_assoc t (2 ^ D) c ∙ ap (λ (x : ℕ). t * x) (mul_comm (2 ^ D) c)

  -- every value of the format is q * 2 ^ j units
  value_nearer : (q j : ℕ) → q < 2 ^ prec f → Nearer N (R * c) K (q * 2 ^ j * c)
  value_nearer q j Q = subst (λ (x : ℕ). Nearer N x K (q * 2 ^ j * c)) (sym (turned K)) (elim spread.1 [
    | inl e ↦ multiple (q * 2 ^ j) (sym (mul-one (q * 2 ^ j)) ∙ ap (λ (x : ℕ). q * 2 ^ j * 2 ^ x) (sym e))
    | inr l ↦ elim (spaced (prec f) q j D (two-le_pos (prec f) (two f)) Q) [
      | inl t ↦ multiple t.0 t.1
      | inr g ↦
          lower_nearer N U K (hid f) (q * 2 ^ j * c) U_pos halves
          (le_trans (le_of_eq (sym (turned (hid f)) ∙ ap (λ (x : ℕ). x * c) (sym (pow-add 2 (prec f - 1) D)))) l)
          (lt_of_lt_of_le (mul-lt-mul_of_pos_right g C) (le_of_eq (turned (hid f))))
    ]
  ])
    where
      multiple : (t : ℕ) → q * 2 ^ j ≡ t * 2 ^ D → Nearer N (K * U) K (q * 2 ^ j * c)
      multiple t e = subst (λ (x : ℕ). Nearer N (K * U) K x) (sym (ap (λ (x : ℕ). x * c) e ∙ turned t)) (multiple_nearer N U K t U_pos halves)

  -- ---- the nearest value
  module _ (s : Bool) (F : T (finite (round f s a c))) where
    own : Units f (round f s a c) s R
    own = subst (λ (v : Float). Units f v s R) (sym (round_units s)) (units_val f s K D (lt_of_not-le (λ g. subst (λ (v : Float). T (finite v)) (round_units s ∙ units_over f s K D g) F)))

    last_digit : K % 2 ≡ 0 → to_bits f (round f s a c) % 2 ≡ 0
    last_digit e = ap (λ (b : ℕ). b % 2) (bits_placed f K D s (K-le f a c D C spread) (K-ge f a c D C spread) (round f s a c) own) ∙ even_bits f s D K e

    zero_nearer : Nearer N (R * c) K (0 * c)
    zero_nearer = value_nearer 0 0 (pow_pos (prec f))

    units_nearer : (y : Float) (t : Bool) (n : ℕ) → T (fits f y) → Units f y t n → Nearer N (R * c) K (n * c)
    units_nearer y t n G u = let q = placed_units f y t n G u in subst (λ (x : ℕ). Nearer N (R * c) K (x * c)) (sym q.3) (value_nearer q.0 q.1 q.2)

    nearest_to : NearestTo f s a c (round f s a c)
    nearest_to = record {
      held = round-fits f s a c;
      size = R;
      value = own;
      nearest = λ y t n G u. near_signed N c R K n C (units_nearer y t n G u) zero_nearer s t;
      tie = λ y t n G u e. elim (tie_signed N c R K n C (units_nearer y t n G u) zero_nearer s t e) [ inl g ↦ inl g | inr g ↦ inr (last_digit g) ];
    }

  -- ---- overflow: B digits are the most that a finite result drops, W is what U is then, and Q * W stands for 2 ^ (emax + 1)
  abbrev B : ℕ
  B = 2 * emax f - 1

  abbrev W : ℕ
  W = c * 2 ^ B

  abbrev Q : ℕ
  Q = 2 ^ prec f

  W-pos : 0 < W
  W-pos = mul-pos C (pow_pos B)

  -- the edge, twice and in units and times c, is one W short of 2 ^ (emax + 1)
  edge_is : twice_edge f * c * 2 ^ low f + W ≡ 2 * (Q * W)
  edge_is = ap (λ (x : ℕ). x + W) regroup ∙ odd_times (2 ^ (prec f + 1)) Q W (pow-add 2 (prec f) 1 ∙ mul_comm Q 2) (pow_pos (prec f))
    where
      E : ℕ
      E = emax f - (prec f - 1)

      sum : (p e : ℕ) → 2 ≤ p → p ≤ suc e → e - (p - 1) + (e + p - 2) ≡ 2 * e - 1
      sum p e h g = omega arith

      regroup : (2 ^ (prec f + 1) - 1) * 2 ^ E * c * 2 ^ low f ≡ (2 ^ (prec f + 1) - 1) * W
      regroup =
          mul_assoc ((2 ^ (prec f + 1) - 1) * 2 ^ E) c (2 ^ low f)
          ∙ ap (λ (x : ℕ). (2 ^ (prec f + 1) - 1) * 2 ^ E * x) (mul_comm c (2 ^ low f))
          ∙ mul_assoc (2 ^ (prec f + 1) - 1) (2 ^ E) (2 ^ low f * c)
          ∙ ap (λ (x : ℕ). (2 ^ (prec f + 1) - 1) * x) (sym (mul_assoc (2 ^ E) (2 ^ low f) c) ∙ ap (λ (x : ℕ). x * c) (sym (pow-add 2 E (low f)) ∙ ap (λ (x : ℕ). 2 ^ x) (sum (prec f) (emax f) (two f) (reach f))) ∙ mul_comm (2 ^ B) c)

  under_edge : a * 2 < twice_edge f * c → 2 * N + W < 2 * (Q * W)
  under_edge h = less (twice_edge f * c) (2 ^ low f) W (2 * (Q * W)) edge_is (mul-lt-mul_of_pos_right h (pow_pos (low f)))
    where
      less : (t l w x : ℕ) → t * l + w ≡ x → a * 2 * l < t * l → 2 * (a * l) + w < x
      less t l w x e g = omega arith

  over_edge : twice_edge f * c ≤ a * 2 → 2 * (Q * W) ≤ 2 * N + W
  over_edge h = more (twice_edge f * c) (2 ^ low f) W (2 * (Q * W)) edge_is (mul-le-mul_right (2 ^ low f) h)
    where
      more : (t l w x : ℕ) → t * l + w ≡ x → t * l ≤ a * 2 * l → x ≤ 2 * (a * l) + w
      more t l w x e g = omega arith

  turned_W : (p : ℕ) → 2 ^ (p + B) * c ≡ 2 ^ p * W
  turned_W p = ap (λ (x : ℕ). x * c) (pow-add 2 p B) ∙ mul_assoc (2 ^ p) (2 ^ B) c ∙ ap (λ (x : ℕ). 2 ^ p * x) (mul_comm (2 ^ B) c)

  drops_under : 2 * N + W < 2 * (Q * W) → D ≤ B
  drops_under h = le_of_suc-le-suc (lt_of_not-le (λ (g : suc B ≤ D). elim spread.1 [
    | inl e ↦ none D B e g
    | inr l ↦ clash N (Q * W) W h (le_trans (le_of_eq (sym (turned_W (prec f)))) (le_trans (mul-le-mul_right c (pow_mono (one_more (prec f) B D (two f) g))) l))
  ]))
    where
      clash : (n q w : ℕ) → 2 * n + w < 2 * q → q ≤ n → ⊥
      clash n q w g l = omega arith

  kept_under : a * 2 < twice_edge f * c → R < 2 ^ (low f + suc (emax f))
  kept_under h = lt_of_lt_of_le (elim (eq-or-lt_of_le (drops_under (under_edge h))) [
    | inl e ↦
        lt_of_lt_of_le (mul-lt-mul_of_pos_right (few_kept N U K Q halves (subst (λ (x : ℕ). 2 * N + c * 2 ^ x < 2 * (Q * (c * 2 ^ x))) (sym e) (under_edge h))) (pow_pos D))
        (le_of_eq (ap (λ (x : ℕ). Q * 2 ^ x) e))
    | inr l ↦ lt_of_le_of_lt (mul-le-mul_right (2 ^ D) (K-le f a c D C spread)) (mul-lt-mul_of_pos_left (pow-lt l) (pow_pos (prec f)))
  ]) (le_of_eq (sym (reach_is f)))

  drops_over : 2 * (Q * W) ≤ 2 * N + W → B ≤ D
  drops_over h = le_of_suc-le-suc (lt_of_not-le (λ (g : suc D ≤ B).
      clash N (hid f) Q W h (twice_hid (prec f) (two f)) (pow_pos (prec f - 1)) W-pos (lt_of_lt_of_le spread.0 (le_trans (mul-le-mul_right c (pow_mono (one_more (prec f) D B (two f) g))) (le_of_eq (turned_W (prec f - 1)))))))
    where
      clash : (n h q w : ℕ) → 2 * (q * w) ≤ 2 * n + w → q ≡ 2 * h → 0 < h → 0 < w → n < h * w → ⊥
      clash n h q w g e H P l =
          let z : q * w ≡ 2 * h * w = ap (λ (x : ℕ). x * w) e in
          let y : 1 * w ≤ h * w = mul-le-mul_right w H in
          omega arith

  kept_over : twice_edge f * c ≤ a * 2 → 2 ^ (low f + suc (emax f)) ≤ R
  kept_over h = le_trans (le_of_eq (reach_is f)) (elim (eq-or-lt_of_le (drops_over (over_edge h))) [
    | inl e ↦
        le_trans (le_of_eq (ap (λ (x : ℕ). Q * 2 ^ x) e))
        (mul-le-mul_right (2 ^ D) (all_kept N U K Q (hid f) U_pos (twice_hid (prec f) (two f)) halves (subst (λ (x : ℕ). 2 * (Q * (c * 2 ^ x)) ≤ 2 * N + c * 2 ^ x) e (over_edge h))))
    | inr l ↦ elim (K-ge f a c D C spread) [
      | inl z ↦ absurd (none D B z l)
      | inr g ↦ le_trans (le_of_eq (sym (pow-add 2 (prec f) B))) (le_trans (pow_mono (one_more (prec f) B D (two f) l)) (le_trans (le_of_eq (pow-add 2 (prec f - 1) D)) (mul-le-mul_right (2 ^ D) g)))
    ]
  ])

  finite_below : (s : Bool) → FiniteBelow f s a c (round f s a c)
  finite_below s = record {
    under = λ h. subst (λ (v : Float). T (finite v)) (sym (round_units s)) (value_finite (units f s K D) s R (2 ^ low f) (units_val f s K D (kept_under h)));
    over = λ h. round_units s ∙ units_over f s K D (kept_over h);
  }

-- ---- the theorems
pub round_nearest : RoundNearest
round_nearest f s a c C F = nearest_to f a c C s F

pub round_overflow : RoundOverflow
round_overflow f s a c C = finite_below f a c C s

pub narrow_nearest : NarrowNearest
unfolding nearest_f32
narrow_nearest s m e F = round_nearest binary32 s (m * up e) (down e) (down_pos e) F

pub narrow_overflow : NarrowOverflow
unfolding nearest_f32
narrow_overflow s m e = round_overflow binary32 s (m * up e) (down e) (down_pos e)
