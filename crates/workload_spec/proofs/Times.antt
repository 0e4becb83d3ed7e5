-- Times of a load: i × hop rounded once lies so near to i × hop, at every frame that a reference may have, that each step is the hop but for millionths of a millisecond. So the timeline is regular. Assumes nothing.
use mathlib.Core.Path.{◌≡◌, refl, sym, ap, subst, ◌∙◌}
use Prim.Native.Nat.{ℕ, suc, ◌+◌, ◌*◌, ◌^◌, ◌≤◌, ◌<◌}
use native.Mathlib.Nat.{le_trans, le_of_eq, le-suc, lt_irrefl, add-zero, suc-mul, mul-pos, mul_assoc, one-mul, mul_right_comm, mul-le-mul, mul-le-mul_right}
use native.Mathlib.Omega.{arith}
use mathlib.Core.Bool.{Bool, true, false, true≢false}
use lib.Dec.{T, lit<, lit≤}
use lib.Count.{count_trailing_zeros}
use lib.Pow.{pow_pos}
use lib.Ieee.{Float, nan, inf, fin, binary64, low, prec, up, down, odd, round, le, of_bits, of_fields, of_int}
use lib.Ieee.Back.{round_whole}
use lib.Ieee.Fits.{down_pos, mul-fits, sub-fits}
use lib.Ieee.Scale.{finite, round_same}
use Rattle.numbers_spec.specs.Arithmetic.{◌⊖◌, ◌⊗◌, real}
use Rattle.numbers_spec.specs.Values.{Units, InUnits, Near, Within}
use Rattle.numbers_spec.proofs.Order.{P, N, between_finite}
use Rattle.numbers_spec.proofs.Rounding.{Is, Rounded}
use Rattle.numbers_spec.proofs.ExactValues.{mul_value}
use Rattle.numbers_spec.proofs.Within.{round_within}
use Rattle.numbers_spec.proofs.Multiples.{apart}
use Rattle.numbers_spec.proofs.Distances.{gap, U, plus, minus, in_units, units_le, sub_units, moves_units, near_of}
use Rattle.matcher_spec.specs.Limits.{hop_least, hop_most}
use Rattle.engine_spec.proofs.Tests.{and_l, and_r}
use Rattle.workload_spec.specs.Load.{load_time}
use Rattle.workload_spec.specs.LoadLaws.{Hop}

-- ---- a hop in units of 2 ^ -1074
pub record InRange (hop : Float) : Type 0 where
  pub size : ℕ
  pub is : Units binary64 hop false size
  pub most : size ≤ 1000 * U

one_units : InUnits hop_least
one_units = record { sign = false; size = U; is = (refl, refl) }

most_units : InUnits hop_most
unfolding of_bits of_fields odd count_trailing_zeros
most_units = record { sign = false; size = 1000 * U; is = (refl, refl) }

most_finite : T (finite hop_most)
unfolding of_bits of_fields odd count_trailing_zeros
most_finite = tt

pub in_range : (hop : Float) → Hop hop → InRange hop
unfolding one_units most_units
in_range hop h =
    let low = and_l (le hop_least hop) (le hop hop_most) h.range in
    let high = and_r (le hop_least hop) (le hop hop_most) h.range in
    let u = in_units hop h.held (between_finite hop_least hop_most hop tt most_finite (record { from = low; to = high })) in
    go u.sign u.size u.is (units_le one_units u low) (units_le u most_units high)
  where
    none : (u a : ℕ) → 0 < u → u + a ≤ 0 → ⊥
    none u a h k = lt_irrefl 0 (omega arith)

    plain : (a b : ℕ) → a + 0 ≤ b + 0 → a ≤ b
    plain a b h = omega arith

    go : (s : Bool) (a : ℕ) → Units binary64 hop s a → U + N s a ≤ P s a + 0 → P s a + 0 ≤ 1000 * U + N s a → InRange hop
    go true a v x y = absurd (none U a (pow_pos (low binary64)) x)
    go false a v x y = record { size = a; is = v; most = plain a (1000 * U) y }

-- ---- distances without subtraction
-- They are told in parts of a millisecond, 2 ^ 21 of it.
abbrev pub parts : ℕ
parts = 2 * 2 ^ 20

sides : (a b u : ℕ) → parts * apart a b ≤ u → (parts * a ≤ parts * b + u) × (parts * b ≤ parts * a + u)
sides a b u h = (omega arith, omega arith)

apart_most : (a b u : ℕ) → parts * a ≤ parts * b + u → parts * b ≤ parts * a + u → parts * apart a b ≤ u
apart_most a b u h k = omega arith

-- ---- a time in units
-- The times of so many frames are known to 2 ^ -21: more frames than a reference may have.
abbrev pub enough : ℕ
enough = 2 ^ 20

module _ {hop : Float} (r : InRange hop) where
  abbrev pub h : ℕ
  h = r.size

  -- the time of frame i is i × hop, rounded once
  pub exact : (i : ℕ) → i ≤ 2 ^ prec binary64 → load_time hop i ≡ round binary64 false (i * h) U
  unfolding load_time of_int
  exact i few = go hop r.is
    where
      go : (x : Float) → Units binary64 x false h → real i ⊗ x ≡ round binary64 false (i * h) U
      go nan v = absurd v
      go (inf s) v = absurd v
      go (fin true m e) v = absurd (true≢false v.0)
      go (fin false m e) v =
          mul_value binary64 (real i) false i 1 m e (lit< tt) (round_whole binary64 false i few)
          ∙ round_same binary64 false (i * (m * up e)) (1 * down e) (i * h) U (mul-pos (lit< tt) (down_pos e)) (pow_pos (low binary64)) (over (m * up e) (down e) U v.1)
        where
          over : (a d u : ℕ) → a * u ≡ h * d → i * a * u ≡ i * h * (1 * d)
          over a d u e = mul_assoc i a u ∙ ap (λ (n : ℕ). i * n) e ∙ sym (mul_assoc i h d) ∙ ap (λ (n : ℕ). i * h * n) (sym (one-mul d))

  -- i × hop is at most 2 ^ 30
  time_most : (i : ℕ) → i ≤ enough → i * h ≤ 1 * 2 ^ 30 * U
  time_most i few = le_trans (mul-le-mul few r.most) (wide U)
    where
      wide : (u : ℕ) → 2 ^ 20 * (1000 * u) ≤ 1 * 2 ^ 30 * u
      wide u = omega arith

  pub time_within : (i : ℕ) → i ≤ enough → Within 1 30 (load_time hop i)
  time_within i few =
      rw (exact i (le_trans few (lit≤ tt)))
      (round_within binary64 false 1 30 (i * h) U (pow_pos (low binary64)) (record { few = lit< tt; room = lit< tt }) (time_most i few))

  pub time_units : (i : ℕ) → i ≤ enough → InUnits (load_time hop i)
  unfolding load_time
  time_units i few = in_units (load_time hop i) (mul-fits binary64 (real i) hop) (time_within i few).finite_is

  -- a time is i × hop but for 2 ^ -21
  time_near : (i : ℕ) (few : i ≤ enough) → parts * gap (i * h) 0 (plus (time_units i few)) (minus (time_units i few)) ≤ U
  time_near i few =
      moves_units (i * h) 0 rounded (time_units i few) 20 (2 ^ 50) (lit≤ tt) (lit< tt) (le_trans (mul-le-mul_right (2 ^ 20) (time_most i few)) (le_of_eq (scaled U)))
    where
      scaled : (u : ℕ) → 1 * 2 ^ 30 * u * 2 ^ 20 ≡ 2 ^ 50 * u
      scaled u = omega arith

      rounded : Rounded binary64 (i * h) 0 U (load_time hop i)
      rounded = record { sign = false; size = i * h; is = add-zero (i * h); rounded = exact i (le_trans few (lit≤ tt)) }

  abbrev pub hop_units : InUnits hop
  hop_units = record { sign = false; size = h; is = r.is }

  -- ---- a step
  abbrev pub step_to : ℕ → Float
  step_to i = load_time hop (suc i) ⊖ load_time hop i

  module _ (i : ℕ) (few : suc i ≤ enough) where
    abbrev pub next : InUnits (load_time hop (suc i))
    next = time_units (suc i) few

    abbrev pub this : InUnits (load_time hop i)
    this = time_units i (le_trans (le-suc i) few)

    next_near : parts * gap (i * h + h) 0 (plus next) (minus next) ≤ U
    next_near = subst (λ (a : ℕ). parts * gap a 0 (plus next) (minus next) ≤ U) (suc-mul i h) (time_near (suc i) few)

    this_near : parts * gap (i * h) 0 (plus this) (minus this) ≤ U
    this_near = time_near i (le_trans (le-suc i) few)

    difference : Rounded binary64 (plus next + minus this) (minus next + plus this) U (step_to i)
    difference = sub_units next this

    step_most : difference.size ≤ 1002 * U
    step_most = sizes difference.sign difference.size (plus next) (minus next) (plus this) (minus this) (i * h) U difference.is next_near this_near r.most
      where
        sizes : (s : Bool) (n p₁ m₁ p₀ m₀ a u : ℕ) → Is s n (p₁ + m₀) (m₁ + p₀) → parts * gap (a + h) 0 p₁ m₁ ≤ u → parts * gap a 0 p₀ m₀ ≤ u → h ≤ 1000 * u → n ≤ 1002 * u
        sizes true n p₁ m₁ p₀ m₀ a u e x y z = omega arith
        sizes false n p₁ m₁ p₀ m₀ a u e x y z = omega arith

    step_within : Within 1 10 (step_to i)
    step_within = rw difference.rounded (round_within binary64 difference.sign 1 10 difference.size U (pow_pos (low binary64)) (record { few = lit< tt; room = lit< tt }) (le_trans step_most (wide U)))
      where
        wide : (u : ℕ) → 1002 * u ≤ 1 * 2 ^ 10 * u
        wide u = omega arith

    pub step_units : InUnits (step_to i)
    step_units = in_units (step_to i) (sub-fits binary64 _ _) step_within.finite_is

    -- a step is the hop but for 3 × 2 ^ -21
    pub step_near : Near 3 parts (step_to i) hop
    step_near =
        near_of 3 parts step_units hop_units
        (three (plus next) (minus next) (plus this) (minus this) (plus step_units) (minus step_units) (i * h) U
        (moves_units _ _ difference step_units 20 (1002 * 2 ^ 20) (lit≤ tt) (lit< tt) (le_trans (mul-le-mul_right (2 ^ 20) step_most) (le_of_eq (mul_right_comm 1002 U (2 ^ 20)))))
        next_near this_near)
      where
        three : (p₁ m₁ p₀ m₀ p m a u : ℕ) → parts * gap (p₁ + m₀) (m₁ + p₀) p m ≤ u → parts * gap (a + h) 0 p₁ m₁ ≤ u → parts * gap a 0 p₀ m₀ ≤ u → parts * gap p m h 0 ≤ 3 * u
        three p₁ m₁ p₀ m₀ p m a u x y z =
            let i = sides _ _ u x in
            let j = sides _ _ u y in
            let k = sides _ _ u z in
            apart_most (p + 0) (h + m) (3 * u) (omega arith) (omega arith)
