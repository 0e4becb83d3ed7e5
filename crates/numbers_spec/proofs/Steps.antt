-- A step from one value toward another by a part of the way: it stays between the two but for the rounding of the way and of the sum. Assumes nothing.
use mathlib.Core.Path.{◌≡◌, refl, ap}
use mathlib.Core.Logic.{◌⊎◌, inl, inr}
use Prim.Native.Nat.{ℕ, suc, ◌+◌, ◌*◌, ◌^◌, ◌≤◌, ◌<◌}
use native.Mathlib.Nat.{le_trans, le_of_eq, le_of_lt, lt_irrefl, lt_of_le_of_lt, lt_of_not-le, mul-one, mul-pos, mul_right_comm, mul-le-mul_left, mul-le-mul_right, le_of_mul-le-mul_right, pow-suc}
use native.Mathlib.Omega.{arith}
use mathlib.Core.Bool.{Bool, true, false}
use lib.Dec.{T, lit<}
use lib.IntN.{pos}
use lib.Pow.{pow_pos}
use lib.Count.{count_trailing_zeros}
use lib.Ieee.{Float, nan, inf, fin, binary64, prec, low, odd, round, units, size, span, climb, neg, sum, add, sub, lt, eq, le, of_int, fits}
use lib.Ieee.Back.{round_whole}
use lib.Ieee.Fits.{add-fits, sub-fits}
use lib.Ieee.Order.{round_mono}
use lib.Ieee.Scale.{finite}
use Rattle.numbers_spec.specs.Arithmetic.{◌⊕◌, ◌⊖◌, ◌⊗◌, zero⁺, one, real, magnitude}
use Rattle.numbers_spec.specs.Values.{Units, size as size_of, Den, AtMost, OnStretch, InUnits, Near, Beside}
use Rattle.numbers_spec.specs.StepLaws.{OneLess, MulPart, StepToward}
use Rattle.numbers_spec.proofs.Value.{finite_no_nan, same_fraction}
use Rattle.numbers_spec.proofs.Order.{P, N, Pos, Neg, den_pos, no_negative_part, no_positive_part, le→below, le_self, le_total, le_transitive, between_finite, at_most_between, between_at_most, at_most_finite}
use Rattle.numbers_spec.proofs.Rounding.{Rounded, rounded_mono, magnitude_round}
use Rattle.numbers_spec.proofs.Sums.{own_rounded, add_mono, add_grows, add_falls, sub_anti}
use Rattle.numbers_spec.proofs.Products.{mul_rounded, mul_not_negative}
use Rattle.numbers_spec.proofs.Within.{within_at_most, at_most_within}
use Rattle.numbers_spec.proofs.Multiples.{apart}
use Rattle.numbers_spec.proofs.Mantissa.{whole_finite}
use Rattle.numbers_spec.proofs.Distances.{gap, U, plus, minus, in_units, units_finite, units_le, add_units, sub_units, nearest_units, moves_units, near_of, near_self, stretch_finite, closer}

-- ---- parts
one_less_one : T (le zero⁺ (one ⊖ one))
unfolding le lt eq neg sub add sum round units size span climb odd count_trailing_zeros
one_less_one = tt

one_less_zero : T (le (one ⊖ zero⁺) one)
unfolding le lt eq neg sub add sum round units size span climb odd count_trailing_zeros
one_less_zero = tt

pub one_less : OneLess
one_less p b =
    let F : T (finite p) = between_finite zero⁺ one p tt tt b in
    record {
      from = le_transitive zero⁺ (one ⊖ one) (one ⊖ p) one_less_one (sub_anti binary64 one p one tt F tt b.to);
      to = le_transitive (one ⊖ p) (one ⊖ zero⁺) one (sub_anti binary64 one zero⁺ p tt tt F b.from) one_less_zero;
    }

-- over whole numbers: 0 ≤ g ≤ 1 is no minus and Pos g ≤ Den g, and d has one sign
ahead : (a c p d : ℕ) → a ≤ c → (a * p + 0 * 0) * d + 0 * (c * d) ≤ p * (c * d) + (a * 0 + 0 * p) * d
ahead a c p d h = let x : a * (p * d) ≤ c * (p * d) = mul-le-mul_right (p * d) h in omega arith

back : (a c n d : ℕ) → a ≤ c → 0 * (c * d) + (a * n + 0 * 0) * d ≤ (a * 0 + 0 * n) * d + n * (c * d)
back a c n d h = let x : a * (n * d) ≤ c * (n * d) = mul-le-mul_right (n * d) h in omega arith

pub mul_part : MulPart
mul_part g d F D b = elim (le_total zero⁺ d (finite_no_nan zero⁺ tt) (finite_no_nan d D)) [
  | inl h ↦ inl (record {
    from = mul_not_negative binary64 g d G D b.from h;
    to = rounded_mono binary64 _ _ _ _ _ _ (g ⊗ d) d C (den_pos d) product own (rw (none, no_negative_part d D h) (ahead (Pos g) (Den g) (Pos d) (Den d) few));
  })
  | inr h ↦ inr (record {
    from = rounded_mono binary64 _ _ _ _ _ _ d (g ⊗ d) (den_pos d) C own product (rw (none, no_positive_part d D h) (back (Pos g) (Den g) (Neg d) (Den d) few));
    to = rounded_mono binary64 _ _ _ _ _ _ (g ⊗ d) zero⁺ C (lit< tt) product (own_rounded binary64 zero⁺ (unfold fits in tt) tt) (rw (none, no_positive_part d D h) (omega arith));
  })
]
  where
    G : T (finite g)
    G = between_finite zero⁺ one g tt tt b

    C : 0 < Den g * Den d
    C = mul-pos (den_pos g) (den_pos d)

    none : Neg g ≡ 0
    none = no_negative_part g G b.from

    few : Pos g ≤ Den g
    few = let x = le→below g one G tt b.to in let y = none in omega arith

    product : Rounded binary64 (Pos g * Pos d + Neg g * Neg d) (Pos g * Neg d + Neg g * Pos d) (Den g * Den d) (g ⊗ d)
    product = mul_rounded binary64 g d G D

    own : Rounded binary64 (Pos d) (Neg d) (Den d) d
    own = own_rounded binary64 d F D

-- ---- a step
-- A sum moves from x with what is added.
add_part : (x y z : Float) → T (fits binary64 x) → T (finite x) → T (finite y) → T (finite z) → OnStretch zero⁺ y z → OnStretch x (x ⊕ y) (x ⊕ z)
add_part x y z F X Y Z (inl h) = inl (record { from = add_grows binary64 x z F X Z h.from; to = add_mono binary64 x x z y X X Z Y (le_self x X) h.to })
add_part x y z F X Y Z (inr h) = inr (record { from = add_mono binary64 x x y z X X Y Z (le_self x X) h.from; to = add_falls binary64 x z F X Z h.to })

-- What lies on the stretch from o to a value that near to b lies that near to the stretch from o to b.
beside_of : (n d : ℕ) (o b far x : Float) → InUnits x → T (finite o) → Near n d far b → OnStretch o far x → Beside n d o b x
beside_of n d o b far x w O k h = go h (le_total x b (finite_no_nan x (units_finite w)) (finite_no_nan b B))
  where
    B : T (finite b)
    B = units_finite k.to

    end : OnStretch o b b
    end = elim (le_total o b (finite_no_nan o O) (finite_no_nan b B)) [ inl l ↦ inl (record { from = l; to = le_self b B }) | inr l ↦ inr (record { from = le_self b B; to = l }) ]

    go : OnStretch o far x → T (le x b) ⊎ T (le b x) → Beside n d o b x
    go (inl h) (inl l) = record { place = x; on = inl (record { from = h.from; to = l }); near = near_self n d w }
    go (inl h) (inr l) = record { place = b; on = end; near = closer n d far b x w k (inr (record { from = l; to = h.to })) }
    go (inr h) (inl l) = record { place = b; on = end; near = closer n d far b x w k (inl (record { from = h.from; to = l })) }
    go (inr h) (inr l) = record { place = x; on = inr (record { from = l; to = h.to }); near = near_self n d w }

-- whole numbers in units: none is below the one before it
whole_units : (m : ℕ) → m ≤ 2 ^ prec binary64 → InUnits (real m)
unfolding of_int
whole_units m h = record { sign = false; size = m * U; is = same_fraction (round binary64 false m 1) false m 1 (m * U) U (lit< tt) (mul-one (m * U)) (round_whole binary64 false m h) }

not_below : (m : ℕ) → m < 2 ^ prec binary64 → T (le (real (suc m)) (real m)) → ⊥
unfolding whole_units
not_below m M h = more U (pow_pos (low binary64)) (units_le (whole_units (suc m) M) (whole_units m (le_of_lt M)) h)
  where
    more : (u : ℕ) → 0 < u → suc m * u + 0 ≤ m * u + 0 → ⊥
    more u h l = lt_irrefl 0 (omega arith)

magnitude_units : (x : Float) → InUnits x → InUnits (magnitude x)
unfolding magnitude
magnitude_units x u = record { sign = false; size = u.size; is = positive x u.is }
  where
    positive : (x : Float) → Units binary64 x u.sign u.size → Units binary64 (magnitude x) false u.size
    positive nan v = v
    positive (inf t) v = v
    positive (fin t m e) v = (refl, v.1)

size_is : (s : Bool) (a : ℕ) → P s a + N s a ≡ a
size_is true a = omega arith
size_is false a = omega arith

-- ±a is no larger than ±b and what they are apart
sizes : (s : Bool) (a : ℕ) (t : Bool) (b : ℕ) → a ≤ b + gap (P s a) (N s a) (P t b) (N t b)
sizes true a true b = omega arith
sizes true a false b = omega arith
sizes false a true b = omega arith
sizes false a false b = omega arith

-- a bound 2 ^ p in units
size_of_lem : (x : Float) (u : InUnits x) → size_of x * U ≡ u.size * Den x
size_of_lem nan u = absurd u.is
size_of_lem (inf s) u = absurd u.is
size_of_lem (fin s m e) u = u.is.1

units_within : (p : ℕ) {x : Float} (u : InUnits x) → u.size ≤ 2 ^ p * U → AtMost (fin false 1 (pos p)) x
units_within p {x} u h = within_at_most 1 p x (record { finite_is = units_finite u; small = le_of_mul-le-mul_right {k = U} (lin (2 ^ p) U (Den x) (size_of x) u.size (size_of_lem x u) h) (pow_pos (low binary64)) })
  where
    lin : (q w d a n : ℕ) → a * w ≡ n * d → n ≤ q * w → a * w ≤ 1 * q * d * w
    lin q w d a n e h = let x : n * d ≤ q * w * d = mul-le-mul_right d h in omega arith

within_units : (p : ℕ) {x : Float} (u : InUnits x) → AtMost (fin false 1 (pos p)) x → u.size ≤ 2 ^ p * U
within_units p {x} u h = le_of_mul-le-mul_right {k = Den x} (lin (2 ^ p) U (Den x) (size_of x) u.size (size_of_lem x u) (at_most_within 1 p x h).small) (den_pos x)
  where
    lin : (q w d a n : ℕ) → a * w ≡ n * d → a ≤ 1 * q * d → n * d ≤ q * w * d
    lin q w d a n e h = let x : a * w ≤ 1 * q * d * w = mul-le-mul_right w h in omega arith

stretch_at_most : (c x y z : Float) → AtMost c x → AtMost c y → OnStretch x y z → AtMost c z
stretch_at_most c x y z X Y (inl h) = between_at_most c z (record { from = le_transitive (neg c) x z (at_most_between c x X).from h.from; to = le_transitive z y c h.to (at_most_between c y Y).to })
stretch_at_most c x y z X Y (inr h) = between_at_most c z (record { from = le_transitive (neg c) y z (at_most_between c y Y).from h.from; to = le_transitive z x c h.to (at_most_between c x X).to })

-- The way w is e from b - o, and the sum of o and w is rounded to f, to which b is no nearer: so f is at most 2 * e from b, and 3 * e more than w from o.
far_b : (p n p' n' pw nw pf nf : ℕ) → gap (p + pw) (n + nw) pf nf ≤ gap (p + pw) (n + nw) p' n' → gap pf nf p' n' ≤ 2 * gap (p' + n) (n' + p) pw nw
far_b p n p' n' pw nw pf nf h = go (gap (p' + n) (n' + p) pw nw) (le_trans h (le_of_eq (swap (p + pw + n') (p' + (n + nw)) (p' + n + nw) (pw + (n' + p)) (omega arith) (omega arith)))) (le_of_eq refl)
  where
    swap : (a b c d : ℕ) → a ≡ d → b ≡ c → apart a b ≡ apart c d
    swap a b c d h k = omega arith

    go : (e : ℕ) → gap (p + pw) (n + nw) pf nf ≤ e → gap (p' + n) (n' + p) pw nw ≤ e → gap pf nf p' n' ≤ 2 * e
    go e h k = omega arith

far_o : (p n p' n' pw nw pf nf : ℕ) → gap pf nf p' n' ≤ 2 * gap (p' + n) (n' + p) pw nw → gap pf nf p n ≤ 3 * gap (p' + n) (n' + p) pw nw + (pw + nw)
far_o p n p' n' pw nw pf nf h = omega arith

module _ (m t : ℕ) {o b : Float} (small : t ≤ low binary64) (room : suc m * 2 ^ t < 2 ^ prec binary64) (few : m < 2 ^ prec binary64) (held : T (fits binary64 b)) (O : InUnits o) (B : InUnits b) (W : InUnits (b ⊖ o)) (F : InUnits (o ⊕ (b ⊖ o))) (most : AtMost (real m) (b ⊖ o)) where
  abbrev way : Float
  way = b ⊖ o

  abbrev far : Float
  far = o ⊕ way

  difference : Rounded binary64 (plus B + minus O) (minus B + plus O) U way
  difference = sub_units B O

  -- the exact way is below m + 1, since it is rounded to at most m; the rounded one is at most m
  exact_most : difference.size ≤ suc m * U
  exact_most = le_of_lt (lt_of_not-le (λ (h : suc m * U ≤ difference.size).
      not_below m few
      (le_transitive (real (suc m)) (magnitude way) (real m)
      (rw (difference.rounded, magnitude_round binary64 difference.sign difference.size U) (unfold of_int in round_mono binary64 (suc m) 1 difference.size U (lit< tt) (pow_pos (low binary64)) (rw (mul-one difference.size) h)))
      most)))

  way_most : plus W + minus W ≤ m * U
  unfolding magnitude_units whole_units
  way_most = plain (plus W + minus W) W.size (m * U) (size_is W.sign W.size) (units_le (magnitude_units way W) (whole_units m (le_of_lt few)) most)
    where
      plain : (w a u : ℕ) → w ≡ a → a + 0 ≤ u + 0 → w ≤ u
      plain w a u h k = omega arith

  -- how far the way is from b - o
  abbrev off : ℕ
  off = gap (plus B + minus O) (minus B + plus O) (plus W) (minus W)

  off_most : 2 * 2 ^ t * off ≤ U
  off_most = moves_units _ _ difference W t (suc m * 2 ^ t) small room (le_trans (mul-le-mul_right (2 ^ t) exact_most) (le_of_eq (mul_right_comm (suc m) U (2 ^ t))))

  far_off : gap (plus F) (minus F) (plus B) (minus B) ≤ 2 * off
  far_off = far_b (plus O) (minus O) (plus B) (minus B) (plus W) (minus W) (plus F) (minus F) (nearest_units _ _ (add_units O W) F held B)

  far_near : Near 2 (2 * 2 ^ t) far b
  far_near = near_of 2 (2 * 2 ^ t) F B (twice (2 * 2 ^ t) _ off U far_off off_most)
    where
      twice : (v g e u : ℕ) → g ≤ 2 * e → v * e ≤ u → v * g ≤ 2 * u
      twice v g e u h k = let x : v * g ≤ v * (2 * e) = mul-le-mul_left v h in omega arith

  far_moved : Near (m * (2 * 2 ^ t) + 3) (2 * 2 ^ t) far o
  far_moved =
      near_of (m * (2 * 2 ^ t) + 3) (2 * 2 ^ t) F O
      (added (2 * 2 ^ t) _ off (plus W + minus W) U (far_o (plus O) (minus O) (plus B) (minus B) (plus W) (minus W) (plus F) (minus F) far_off) off_most way_most)
    where
      added : (v g e w u : ℕ) → g ≤ 3 * e + w → v * e ≤ u → w ≤ m * u → v * g ≤ (m * v + 3) * u
      added v g e w u h k l = let x : v * g ≤ v * (3 * e + w) = mul-le-mul_left v h in let y : v * w ≤ v * (m * u) = mul-le-mul_left v l in omega arith

  far_stays : (p : ℕ) → AtMost (fin false 1 (pos p)) b → AtMost (fin false 1 (pos (suc p))) far
  far_stays p h =
      units_within (suc p) F
      (room_of (2 ^ p) (2 ^ suc p) (2 ^ t) U off _ F.size B.size (pow-suc 2 p) (pow_pos p) (pow_pos t) (sizes F.sign F.size B.sign B.size) far_off off_most (within_units p B h))
    where
      room_of : (q q' v u e g f b : ℕ) → q' ≡ q * 2 → 0 < q → 0 < v → f ≤ b + g → g ≤ 2 * e → 2 * v * e ≤ u → b ≤ q * u → f ≤ q' * u
      room_of q q' v u e g f b s a c h k l r =
          let x : 1 * e ≤ v * e = mul-le-mul_right e c in
          let y : 1 * u ≤ q * u = mul-le-mul_right u a in
          let z : q' * u ≡ q * 2 * u = ap (λ (k : ℕ). k * u) s in
          omega arith

pub step_toward : StepToward
step_toward m t o b g small room O B o-finite b-finite far_finite most G =
    let way = b ⊖ o in
    let far = o ⊕ way in
    let new = o ⊕ g ⊗ way in
    let few : m < 2 ^ prec binary64 = lt_of_le_of_lt (below m (2 ^ t) (pow_pos t)) room in
    let W : T (finite way) = at_most_finite (real m) way (whole_finite m (le_of_lt few)) most in
    let part = mul_part g way (sub-fits binary64 b o) W G in
    let on : OnStretch o far new = add_part o way (g ⊗ way) O o-finite W (stretch_finite zero⁺ way (g ⊗ way) tt W part) part in
    let p = in_units o O o-finite in
    let q = in_units b B b-finite in
    let w = in_units way (sub-fits binary64 b o) W in
    let f = in_units far (add-fits binary64 o way) far_finite in
    let x = in_units new (add-fits binary64 o (g ⊗ way)) (stretch_finite o far new o-finite far_finite on) in
    record {
      moved = closer _ _ far o new x (far_moved m t small room few B p q w f most) (other o far new on);
      beside = beside_of 2 (2 * 2 ^ t) o b far new x o-finite (far_near m t small room few B p q w f most) on;
      stays = λ k u v. stretch_at_most (fin false 1 (pos (suc k))) o far new u (far_stays m t small room few B p q w f most k v) on;
    }
  where
    below : (m v : ℕ) → 0 < v → m ≤ suc m * v
    below m v h = let x : suc m * 1 ≤ suc m * v = mul-le-mul_left (suc m) h in omega arith

    other : (x y z : Float) → OnStretch x y z → OnStretch y x z
    other x y z (inl h) = inr h
    other x y z (inr h) = inl h
