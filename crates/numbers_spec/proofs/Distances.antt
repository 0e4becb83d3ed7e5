-- Exact distances, in units of 2 ^ -1074, of which every f64 and every sum of two is a whole number: what rounding changes, and what bounds a distance. Assumes nothing.
use mathlib.Core.Path.{◌≡◌, refl, sym, ap, ◌∙◌, subst}
use mathlib.Core.Logic.{inl, inr}
use Prim.Native.Nat.{ℕ, suc, ◌+◌, ◌-◌, ◌*◌, ◌^◌, ◌≤◌, ◌<◌, zero-le}
use native.Mathlib.Nat.{le_trans, le_of_eq, lt_of_lt_of_le, zero-mul, mul-zero, mul_assoc, mul_comm, mul_right_comm, mul-sub, mul-add, add-mul, mul-pos, mul-le-mul_left, mul-le-mul_right, le_of_mul-le-mul_right}
use native.Mathlib.Omega.{arith}
use mathlib.Core.Bool.{Bool, true, false, not}
use lib.Dec.{T}
use lib.Pow.{pow_pos, pow-add}
use lib.Ieee.{Float, nan, inf, fin, Format, binary64, prec, low, up, down, round, neg, sub, le, fits}
use lib.Ieee.Fits.{round-fits}
use lib.Ieee.Nearest.{closest}
use lib.Ieee.Order.{round_mono}
use lib.Ieee.Scale.{finite}
use Rattle.numbers_spec.specs.Arithmetic.{◌⊕◌, ◌⊖◌}
use Rattle.numbers_spec.specs.Values.{Units, Den, distance, OnStretch, InUnits, Near}
use Rattle.numbers_spec.specs.Nearest.{NearestTo}
use Rattle.numbers_spec.specs.StepLaws.{RoundMoves, NearWider, NearInF64}
use Rattle.numbers_spec.proofs.Value.{value_finite, same_fraction}
use Rattle.numbers_spec.proofs.Order.{P, N, Pos, Neg, den_pos, le→below, between_finite}
use Rattle.numbers_spec.proofs.Rounding.{Is, Rounded, rounded_same, magnitude_round}
use Rattle.numbers_spec.proofs.Placed.{placed, units_one}
use Rattle.numbers_spec.proofs.Sums.{add_rounded}
use Rattle.numbers_spec.proofs.ExactValues.{dyadic_exact}
use Rattle.numbers_spec.proofs.Multiples.{Halves, closest_halves, few_kept, apart}
use Rattle.numbers_spec.proofs.Nearest.{round_nearest}

-- ---- distances
distance_same : (s : Bool) (a b : ℕ) → distance s a s b ≡ apart a b
distance_same true a b = refl
distance_same false a b = refl

apart_times : (a b u : ℕ) → apart (a * u) (b * u) ≡ apart a b * u
apart_times a b u = rw (mul_comm a u, mul_comm b u, ← mul-sub u a b, ← mul-sub u b a, mul_comm (apart a b) u, mul-add u (a - b) (b - a))

distance_times : (s : Bool) (a : ℕ) (t : Bool) (b u : ℕ) → distance s (a * u) t (b * u) ≡ distance s a t b * u
distance_times true a true b u = apart_times a b u
distance_times false a false b u = apart_times a b u
distance_times true a false b u = sym (add-mul a b u)
distance_times false a true b u = sym (add-mul a b u)

-- |(p - q) - (p' - q')|, and so the distance of ±a and ±b
abbrev pub gap : ℕ → ℕ → ℕ → ℕ → ℕ
gap p q p' q' = apart (p + q') (p' + q)

distance_is : (s : Bool) (a : ℕ) (t : Bool) (b : ℕ) → distance s a t b ≡ gap (P s a) (N s a) (P t b) (N t b)
distance_is true a true b = omega arith
distance_is true a false b = omega arith
distance_is false a true b = omega arith
distance_is false a false b = omega arith

-- ---- what rounding changes: no more than the nearest multiple of 2 ^ -t does
-- so many units are 2 ^ -t
split : (f : Format) (t : ℕ) → t ≤ low f → 2 ^ (low f - t) * 2 ^ t ≡ 2 ^ low f
split f t h = sym (pow-add 2 (low f - t) t) ∙ ap (λ (k : ℕ). 2 ^ k) (back (low f) h)
  where
    back : (l : ℕ) → t ≤ l → l - t + t ≡ l
    back l h = omega arith

multiple_units : (f : Format) (s : Bool) (q t : ℕ) → q < 2 ^ prec f → t ≤ low f → Units f (round f s q (2 ^ t)) s (q * 2 ^ (low f - t))
multiple_units f s q t Q h =
    same_fraction (round f s q (2 ^ t)) s q (2 ^ t) (q * 2 ^ (low f - t)) (2 ^ low f) (pow_pos t) (mul_assoc q (2 ^ (low f - t)) (2 ^ t) ∙ ap (λ (x : ℕ). q * x) (split f t h)) (dyadic_exact f s q t Q h)

pub round_moves : RoundMoves
round_moves f s a c t r n C h R l u =
    let k = closest (a * 2 ^ t) c in
    let z = closest_halves (a * 2 ^ t) c C in
    let w = round_nearest f s a c C (value_finite (round f s a c) s n (2 ^ low f) u) in
    let few : k < suc r = few_kept (a * 2 ^ t) c k (suc r) z (omega arith) in
    let near = w.nearest (round f s k (2 ^ t)) s (k * 2 ^ (low f - t)) (round-fits f s k (2 ^ t)) (multiple_units f s k t (lt_of_lt_of_le few R) h) in
    halved (2 ^ t) (2 ^ (low f - t)) (2 ^ low f) k (split f t h) z
    (subst (λ (m : ℕ). distance s (a * 2 ^ low f) s (m * c) ≤ distance s (a * 2 ^ low f) s (k * 2 ^ (low f - t) * c)) (units_one f (round f s a c) s s w.size n w.value u).1 near)
  where
    halved : (v m w k : ℕ) → m * v ≡ w → Halves (a * v) c k → distance s (a * w) s (n * c) ≤ distance s (a * w) s (k * m * c) → 2 * v * distance s (a * w) s (n * c) ≤ w * c
    halved v m w k e z g =
        let d = apart (a * v) (k * c) in
        let x : distance s (a * w) s (k * m * c) ≡ d * m = distance_same s (a * w) (k * m * c) ∙ rw (← apart_times (a * v) (k * c) m, ← e, mul_right_comm k m c, mul_comm m v, mul_assoc a v m) in
        shown d (distance s (a * w) s (n * c)) (mul-le-mul_left (2 * v) (le_trans g (le_of_eq x))) (mul-le-mul_right (m * v) (let x = z.low in let y = z.high in omega arith)) (ap (λ (u : ℕ). u * c) (sym e))
      where
        shown : (d n : ℕ) → 2 * v * n ≤ 2 * v * (d * m) → 2 * d * (m * v) ≤ c * (m * v) → w * c ≡ m * v * c → 2 * v * n ≤ w * c
        shown d n y j i = omega arith

-- ---- f64 in units
abbrev pub U : ℕ
U = 2 ^ low binary64

-- a value is plus - minus units, of which one is 0
abbrev pub plus : {x : Float} → InUnits x → ℕ
plus u = P u.sign u.size

abbrev pub minus : {x : Float} → InUnits x → ℕ
minus u = N u.sign u.size

pub in_units : (x : Float) → T (fits binary64 x) → T (finite x) → InUnits x
in_units x F X = let p = placed binary64 x F X in record { sign = p.sign; size = p.digits * 2 ^ p.shift; is = p.value }

pub units_finite : {x : Float} → InUnits x → T (finite x)
units_finite {x} u = value_finite x u.sign u.size U u.is

-- over the value's own denominator
parts : (x : Float) (u : InUnits x) → (Pos x * U ≡ plus u * Den x) × (Neg x * U ≡ minus u * Den x)
parts nan u = absurd u.is
parts (inf t) u = absurd u.is
parts (fin true m e) u = subst (λ (t : Bool). (0 * U ≡ P t u.size * down e) × (m * up e * U ≡ N t u.size * down e)) u.is.0 (zero-mul U ∙ sym (zero-mul (down e)), u.is.1)
parts (fin false m e) u = subst (λ (t : Bool). (m * up e * U ≡ P t u.size * down e) × (0 * U ≡ N t u.size * down e)) u.is.0 (u.is.1, zero-mul U ∙ sym (zero-mul (down e)))

-- a / d + b / c over w, where these are a' / w and b' / w
mixed : (a d b c w a' b' : ℕ) → a * w ≡ a' * d → b * w ≡ b' * c → (a * c + b * d) * w ≡ (a' + b') * (d * c)
mixed a d b c w a' b' h k =
    let x : a * w * c ≡ a' * d * c = ap (λ (z : ℕ). z * c) h in
    let y : b * w * d ≡ b' * c * d = ap (λ (z : ℕ). z * d) k in
    omega arith

-- the order, a sum and a difference
module _ {x y : Float} (u : InUnits x) (v : InUnits y) where
  positive : 0 < Den x * Den y
  positive = mul-pos (den_pos x) (den_pos y)

  pub units_le : T (le x y) → plus u + minus v ≤ plus v + minus u
  units_le h =
      le_of_mul-le-mul_right {k = Den x * Den y}
      (le_trans (le_of_eq (sym (mixed (Pos x) (Den x) (Neg y) (Den y) U (plus u) (minus v) (parts x u).0 (parts y v).1)))
      (le_trans (mul-le-mul_right U (le→below x y (units_finite u) (units_finite v) h))
      (le_of_eq (mixed (Pos y) (Den y) (Neg x) (Den x) U (plus v) (minus u) (parts y v).0 (parts x u).1 ∙ ap (λ (z : ℕ). (plus v + minus u) * z) (mul_comm (Den y) (Den x))))))
      positive

  pub add_units : Rounded binary64 (plus u + plus v) (minus u + minus v) U (x ⊕ y)
  add_units =
      rounded_same binary64 _ _ (Den x * Den y) _ _ U (x ⊕ y) positive (pow_pos (low binary64))
      (mixed (Pos x) (Den x) (Pos y) (Den y) U (plus u) (plus v) (parts x u).0 (parts y v).0) (mixed (Neg x) (Den x) (Neg y) (Den y) U (minus u) (minus v) (parts x u).1 (parts y v).1)
      (add_rounded binary64 x y (units_finite u) (units_finite v))

neg_units : (x : Float) (u : InUnits x) → Units binary64 (neg x) (not u.sign) u.size
unfolding neg
neg_units nan u = u.is
neg_units (inf t) u = u.is
neg_units (fin t m e) u = (ap not u.is.0, u.is.1)

turned : (s : Bool) (a : ℕ) → (P (not s) a ≡ N s a) × (N (not s) a ≡ P s a)
turned true a = (refl, refl)
turned false a = (refl, refl)

pub sub_units : {x y : Float} (u : InUnits x) (v : InUnits y) → Rounded binary64 (plus u + minus v) (minus u + plus v) U (x ⊖ y)
unfolding sub
sub_units {x} {y} u v = let t = turned v.sign v.size in rw (t.0, t.1) at (add_units {y = neg y} u (record { sign = not v.sign; size = v.size; is = neg_units y v }))

-- ---- what is rounded: no value is nearer to it, and with room for multiples of 2 ^ -t it moves by half of 2 ^ -t at most
module _ (d : Bool) (n : ℕ) (s : Bool) (a : ℕ) (u : Units binary64 (round binary64 d n U) s a) where
  nearest : NearestTo binary64 d n U (round binary64 d n U)
  nearest = round_nearest binary64 d n U (pow_pos (low binary64)) (value_finite (round binary64 d n U) s a U u)

  same : (d ≡ s) × (nearest.size ≡ a)
  same = units_one binary64 (round binary64 d n U) d s nearest.size a nearest.value u

  nearest_at : {y : Float} → T (fits binary64 y) → (v : InUnits y) → distance d n s a ≤ distance d n v.sign v.size
  nearest_at {y} F v =
      subst (λ (e : Bool). distance d n e a ≤ distance d n v.sign v.size) same.0
      (subst (λ (k : ℕ). distance d n d k ≤ distance d n v.sign v.size) same.1
      (le_of_mul-le-mul_right {k = U} (rw (distance_times d n d nearest.size U, distance_times d n v.sign v.size U) at (nearest.nearest y v.sign v.size F v.is)) (pow_pos (low binary64))))

  moves_at : (t k : ℕ) → t ≤ low binary64 → k < 2 ^ prec binary64 → n * 2 ^ t ≤ k * U → 2 * 2 ^ t * distance d n s a ≤ U
  moves_at t k h K l =
      subst (λ (e : Bool). 2 * 2 ^ t * distance d n e a ≤ U) same.0
      (le_of_mul-le-mul_right {k = U}
      (rw (distance_times d n d a U, ← mul_assoc (2 * 2 ^ t) (distance d n d a) U) at (round_moves binary64 d n U t k a (pow_pos (low binary64)) h K l (subst (λ (e : Bool). Units binary64 (round binary64 d n U) e a) (sym same.0) u)))
      (pow_pos (low binary64)))

-- the same of what is p - q units
gap_is : (s : Bool) (n p q p' q' : ℕ) → Is s n p q → gap (P s n) (N s n) p' q' ≡ gap p q p' q'
gap_is true n p q p' q' i = omega arith
gap_is false n p q p' q' i = omega arith

module _ (p q : ℕ) {z : Float} (r : Rounded binary64 p q U z) where
  gap_from : {y : Float} (v : InUnits y) → distance r.sign r.size v.sign v.size ≡ gap p q (plus v) (minus v)
  gap_from v = distance_is r.sign r.size v.sign v.size ∙ gap_is r.sign r.size p q (plus v) (minus v) r.is

  of_rounded : (w : InUnits z) → Units binary64 (round binary64 r.sign r.size U) w.sign w.size
  of_rounded w = subst (λ (y : Float). Units binary64 y w.sign w.size) r.rounded w.is

  pub nearest_units : (w : InUnits z) {y : Float} → T (fits binary64 y) → (v : InUnits y) → gap p q (plus w) (minus w) ≤ gap p q (plus v) (minus v)
  nearest_units w F v = rw (← gap_from w, ← gap_from v) (nearest_at r.sign r.size w.sign w.size (of_rounded w) F v)

  pub moves_units : (w : InUnits z) (t k : ℕ) → t ≤ low binary64 → k < 2 ^ prec binary64 → r.size * 2 ^ t ≤ k * U → 2 * 2 ^ t * gap p q (plus w) (minus w) ≤ U
  moves_units w t k h K l = rw (← gap_from w) (moves_at r.sign r.size w.sign w.size (of_rounded w) t k h K l)

-- ---- bounds of distances
pub near_of : (n d : ℕ) {x y : Float} (u : InUnits x) (v : InUnits y) → d * gap (plus u) (minus u) (plus v) (minus v) ≤ n * U → Near n d x y
near_of n d u v h = record { from = u; to = v; near = rw (distance_is u.sign u.size v.sign v.size) h }

pub near_wider : NearWider
near_wider n d n' d' x y D h k = record { from = k.from; to = k.to; near = wide _ U k.near }
  where
    wide : (g u : ℕ) → d * g ≤ n * u → d' * g ≤ n' * u
    wide g u l = le_of_mul-le-mul_right {k = d} (let a : d * g * d' ≤ n * u * d' = mul-le-mul_right d' l in let b : n * d' * u ≤ n' * d * u = mul-le-mul_right u h in omega arith) D

pub near_in_f64 : NearInF64
near_in_f64 n d x y D k =
    let u = k.from in
    let v = k.to in
    let r = sub_units u v in
    rw (r.rounded, magnitude_round binary64 r.sign r.size U)
    (round_mono binary64 r.size U n d (pow_pos (low binary64)) D (le_trans (le_of_eq (mul_comm r.size d ∙ ap (λ (g : ℕ). d * g) (sizes r.sign r.size u.sign u.size v.sign v.size r.is))) k.near))
  where
    sizes : (e : Bool) (n : ℕ) (s : Bool) (a : ℕ) (t : Bool) (b : ℕ) → Is e n (P s a + N t b) (N s a + P t b) → n ≡ distance s a t b
    sizes true n s a t b i = rw (distance_is s a t b) (omega arith)
    sizes false n s a t b i = rw (distance_is s a t b) (omega arith)

pub near_self : (n d : ℕ) {x : Float} → InUnits x → Near n d x x
near_self n d u = near_of n d u u (none (plus u) (minus u))
  where
    none : (a b : ℕ) → d * gap a b a b ≤ n * U
    none a b = let e : gap a b a b ≡ 0 = omega arith in rw (e, mul-zero d) zero-le

-- What lies between two values is finite, and no further from the second than the first.
pub stretch_finite : (x y z : Float) → T (finite x) → T (finite y) → OnStretch x y z → T (finite z)
stretch_finite x y z X Y (inl h) = between_finite x y z X Y h
stretch_finite x y z X Y (inr h) = between_finite y x z Y X h

pub closer : (n d : ℕ) (x y z : Float) → InUnits z → Near n d x y → OnStretch x y z → Near n d z y
closer n d x y z w k o = near_of n d w v (le_trans (mul-le-mul_left d (inner o)) (rw (distance_is u.sign u.size v.sign v.size) at k.near))
  where
    u : InUnits x
    u = k.from

    v : InUnits y
    v = k.to

    inner : OnStretch x y z → gap (plus w) (minus w) (plus v) (minus v) ≤ gap (plus u) (minus u) (plus v) (minus v)
    inner (inl h) = let a = units_le u w h.from in let b = units_le w v h.to in omega arith
    inner (inr h) = let a = units_le v w h.from in let b = units_le w u h.to in omega arith
