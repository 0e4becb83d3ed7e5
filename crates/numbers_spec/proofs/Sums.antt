-- Sums and differences: they keep the order, x + y ≥ x for y ≥ 0, x - x is +0, |x - y| is |y - x|, and |x ± y| is at most |x| + |y|. Assumes nothing.
use mathlib.Core.Path.{◌≡◌, refl, sym, ap, ap₂, ◌∙◌, subst}
use mathlib.Core.Logic.{inl, inr}
use Prim.Native.Nat.{ℕ, ◌+◌, ◌-◌, ◌*◌, ◌≤◌, ◌<◌}
use native.Mathlib.Nat.{lt_irrefl, le_trans, le_of_eq, mul_comm, mul_assoc, mul_left_comm, mul-le-mul_right, mul-pos, add-mul}
use native.Mathlib.Omega.{arith}
use mathlib.Core.Bool.{Bool, true, false, not, cond}
use lib.Dec.{T, ltb, ltb→lt, nltb→le}
use lib.Ieee.{Float, nan, inf, fin, Format, up, down, round, sum, add, sub, neg, le, fits}
use lib.Ieee.Fits.{down_pos}
use lib.Ieee.Order.{round_mono}
use lib.Ieee.Scale.{finite}
use Rattle.numbers_spec.specs.Arithmetic.{zero⁺, magnitude}
use Rattle.numbers_spec.specs.Values.{Number, sided, Den, AtMost}
use Rattle.numbers_spec.specs.FloatLaws.{AddMonotone, AddGrows, AddFalls, SubMonotone, SubAntitone, SubSelf, SubNotNegative, SubNumber, SubSign, DistanceSymmetric, AddNotNegative, AddAtMost, SubAtMost, AddBetween}
use Rattle.numbers_spec.proofs.Order.{P, N, P-mul, N-mul, Pos, Neg, den_pos, no_negative_part, no_positive_part, times, tested→ordered, below→le, le→below, le_self, le_transitive, neg_le, neg_finite, between_finite, magnitude_finite, magnitude_neg, at_most_finite}
use Rattle.numbers_spec.proofs.Rounding.{Is, Rounded, rounded_mono, is_own, zeros, round_sided, sided_number, magnitude_round, is_le}
use Rattle.numbers_spec.proofs.Placed.{round_own}

-- ---- a sum is a signed fraction, rounded
pub sum_rounded : (f : Format) (s : Bool) (a : ℕ) (t : Bool) (b c : ℕ) → Rounded f (P s a + P t b) (N s a + N t b) c (sum f s a t b c)
unfolding sum
sum_rounded f true a true b c = record { sign = true; size = a + b; is = omega arith; rounded = refl }
sum_rounded f false a false b c = record { sign = false; size = a + b; is = omega arith; rounded = refl }
sum_rounded f false a true b c = go (ltb a b) (ltb→lt a b) (nltb→le a b)
  where
    go : (x : Bool) → (T x → a < b) → (T (not x) → b ≤ a) → Rounded f (a + 0) (0 + b) c (cond x (round f true (b - a) c) (round f false (a - b) c))
    go true h k = let l = h tt in record { sign = true; size = b - a; is = omega arith; rounded = refl }
    go false h k = let l = k tt in record { sign = false; size = a - b; is = omega arith; rounded = refl }
sum_rounded f true a false b c = go (ltb a b) (ltb→lt a b) (nltb→le a b)
  where
    side : (y : Bool) → (T y → b < a) → (T (not y) → a ≤ b) → b ≤ a → Rounded f (0 + b) (a + 0) c (round f y (a - b) c)
    side true h k l = record { sign = true; size = a - b; is = omega arith; rounded = refl }
    side false h k l = let m = k tt in record { sign = false; size = a - b; is = omega arith; rounded = refl }

    go : (x : Bool) → (T x → a < b) → (T (not x) → b ≤ a) → Rounded f (0 + b) (a + 0) c (cond x (round f false (b - a) c) (round f (ltb b a) (a - b) c))
    go true h k = let l = h tt in record { sign = false; size = b - a; is = omega arith; rounded = refl }
    go false h k = side (ltb b a) (ltb→lt b a) (nltb→le b a) (k tt)

pub add_rounded : (f : Format) (x k : Float) → T (finite x) → T (finite k) → Rounded f (Pos x * Den k + Pos k * Den x) (Neg x * Den k + Neg k * Den x) (Den x * Den k) (add f x k)
unfolding add
add_rounded f nan k p q = absurd p
add_rounded f (inf s) k p q = absurd p
add_rounded f (fin s m e) nan p q = absurd q
add_rounded f (fin s m e) (inf t) p q = absurd q
add_rounded f (fin s m e) (fin t n d) p q =
    rw (← P-mul s (m * up e) (down d), ← P-mul t (n * up d) (down e), ← N-mul s (m * up e) (down d), ← N-mul t (n * up d) (down e))
    (sum_rounded f s (m * up e * down d) t (n * up d * down e) (down e * down d))

-- ---- it grows with both its parts
out : (a b c d e f : ℕ) → (a * d + b * c) * (e * f) ≡ a * e * (d * f) + b * f * (c * e)
out a b c d e f = add-mul (a * d) (b * c) (e * f) ∙ ap₂ ◌+◌ (simp (mul_assoc, mul_left_comm)) (simp (mul_assoc, mul_comm, mul_left_comm))

joined : (a b c d g h k l : ℕ) → a + b ≤ c + d → g + h ≤ k + l → a + g + (b + h) ≤ c + k + (d + l)
joined a b c d g h k l x y = omega arith

lin : (px nx dx px' nx' dx' py ny dy py' ny' dy' : ℕ) → px * dx' + nx' * dx ≤ px' * dx + nx * dx' → py * dy' + ny' * dy ≤ py' * dy + ny * dy'
    → (px * dy + py * dx) * (dx' * dy') + (nx' * dy' + ny' * dx') * (dx * dy) ≤ (px' * dy' + py' * dx') * (dx * dy) + (nx * dy + ny * dx) * (dx' * dy')
lin px nx dx px' nx' dx' py ny dy py' ny' dy' h k =
    rw (out px py dx dy dx' dy', out nx' ny' dx' dy' dx dy, out px' py' dx' dy' dx dy, out nx ny dx dy dx' dy', mul_comm dy' dy, mul_comm dx' dx)
    (joined _ _ _ _ _ _ _ _ (times (px * dx') (nx' * dx) (px' * dx) (nx * dx') (dy * dy') h) (times (py * dy') (ny' * dy) (py' * dy) (ny * dy') (dx * dx') k))

pub add_mono : AddMonotone
add_mono f x x' y y' X X' Y Y' h k =
    rounded_mono f _ _ _ _ _ _ (add f x y) (add f x' y') (mul-pos (den_pos x) (den_pos y)) (mul-pos (den_pos x') (den_pos y')) (add_rounded f x y X Y) (add_rounded f x' y' X' Y')
    (lin (Pos x) (Neg x) (Den x) (Pos x') (Neg x') (Den x') (Pos y) (Neg y) (Den y) (Pos y') (Neg y') (Den y') (le→below x x' X X' h) (le→below y y' Y Y' k))

pub sub_mono : SubMonotone
unfolding sub
sub_mono f x y k X Y K h = add_mono f x y (neg k) (neg k) X Y (neg_finite k K) (neg_finite k K) h (le_self (neg k) (neg_finite k K))

pub sub_anti : SubAntitone
unfolding sub
sub_anti f z x y Z X Y h = add_mono f z z (neg y) (neg x) Z Z (neg_finite y Y) (neg_finite x X) (le_self z Z) (neg_le x y h)

-- ---- x - x
ltb_self : (a : ℕ) → ltb a a ≡ false
ltb_self a = go (ltb a a) (ltb→lt a a)
  where
    go : (b : Bool) → (T b → a < a) → b ≡ false
    go true h = absurd (lt_irrefl a (h tt))
    go false h = refl

sub_self_nat : (a : ℕ) → a - a ≡ 0
sub_self_nat a = omega arith

pub sub_self : SubSelf
unfolding sub add neg sum
sub_self f nan h = absurd h
sub_self f (inf s) h = absurd h
sub_self f (fin true m e) h = rw (ltb_self (m * up e * down e), sub_self_nat (m * up e * down e)) (zeros f false (down e * down e) (mul-pos (down_pos e) (down_pos e)))
sub_self f (fin false m e) h = rw (ltb_self (m * up e * down e), sub_self_nat (m * up e * down e)) (zeros f false (down e * down e) (mul-pos (down_pos e) (down_pos e)))

pub sub_not_negative : SubNotNegative
sub_not_negative f x y X Y h = rw (← sub_self f x X) (sub_anti f x y x X Y X h)

zero_plus_zero : (f : Format) → add f zero⁺ zero⁺ ≡ zero⁺
unfolding add sum
zero_plus_zero f = zeros f false 1 (omega arith)

pub add_not_negative : AddNotNegative
add_not_negative f x y X Y p q = rw (← zero_plus_zero f) (add_mono f zero⁺ x zero⁺ y tt X tt Y p q)

pub add_between : AddBetween
add_between f l u l' u' x y L U L' U' b c =
    let X = between_finite l u x L U b in
    let Y = between_finite l' u' y L' U' c in
    record { from = add_mono f l x l' y L X L' Y b.from c.from; to = add_mono f x u y u' X U Y U' b.to c.to }

-- ---- |x - y| is |y - x|
same_size : (s t : Bool) (n k p q p' q' : ℕ) → Is s n p q → Is t k p' q' → p ≡ q' → q ≡ p' → n ≡ k
same_size true true n k p q p' q' h l u v = omega arith
same_size true false n k p q p' q' h l u v = omega arith
same_size false true n k p q p' q' h l u v = omega arith
same_size false false n k p q p' q' h l u v = omega arith

neg_pos : (x : Float) → T (finite x) → (Pos (neg x) ≡ Neg x) × (Neg (neg x) ≡ Pos x) × (Den (neg x) ≡ Den x)
unfolding neg
neg_pos nan h = absurd h
neg_pos (inf s) h = absurd h
neg_pos (fin true m e) h = (refl, refl, refl)
neg_pos (fin false m e) h = (refl, refl, refl)

finite_distance : (f : Format) (x y : Float) → T (finite x) → T (finite y) → magnitude (sub f x y) ≡ magnitude (sub f y x)
unfolding sub
finite_distance f x y X Y =
    let a = add_rounded f x (neg y) X (neg_finite y Y) in
    let b = add_rounded f y (neg x) Y (neg_finite x X) in
    let u = neg_pos x X in
    let v = neg_pos y Y in
    ap magnitude a.rounded ∙ magnitude_round f a.sign a.size (Den x * Den (neg y))
    ∙ ap (λ (n : ℕ). round f false n (Den x * Den (neg y))) (same_size a.sign b.sign a.size b.size _ _ _ _ a.is b.is (rw (u.1, v.0, u.2, v.2) (plus _ _)) (rw (u.0, v.1, u.2, v.2) (plus _ _)))
    ∙ ap (λ (c : ℕ). round f false b.size c) (rw (u.2, v.2) (mul_comm (Den x) (Den y)))
    ∙ sym (magnitude_round f b.sign b.size (Den y * Den (neg x))) ∙ ap magnitude (sym b.rounded)
  where
    plus : (a b : ℕ) → a + b ≡ b + a
    plus a b = omega arith

pub distance_symmetric : DistanceSymmetric
unfolding sub add neg magnitude
distance_symmetric f nan nan = refl
distance_symmetric f nan (inf t) = refl
distance_symmetric f nan (fin t n d) = refl
distance_symmetric f (inf s) nan = refl
distance_symmetric f (inf true) (inf true) = refl
distance_symmetric f (inf true) (inf false) = refl
distance_symmetric f (inf false) (inf true) = refl
distance_symmetric f (inf false) (inf false) = refl
distance_symmetric f (inf s) (fin t n d) = refl
distance_symmetric f (fin s m e) nan = refl
distance_symmetric f (fin s m e) (inf t) = refl
distance_symmetric f (fin s m e) (fin t n d) = finite_distance f (fin s m e) (fin t n d) tt tt

-- ---- |x + y| is at most |x| + |y|
triangle : (f : Format) (x y : Float) → T (finite x) → T (finite y) → AtMost (add f (magnitude x) (magnitude y)) (add f x y)
triangle f nan y X Y = absurd X
triangle f (inf s) y X Y = absurd X
triangle f (fin s m e) nan X Y = absurd Y
triangle f (fin s m e) (inf t) X Y = absurd Y
triangle f (fin s m e) (fin t n d) X Y = unfold add sum magnitude in
    let a = m * up e * down d in
    let b = n * up d * down e in
    let c = down e * down d in
    let C = mul-pos (down_pos e) (down_pos d) in
    let z = sum_rounded f s a t b c in
    rw (z.rounded, magnitude_round f z.sign z.size c) (round_mono f z.size c (a + b) c C C (mul-le-mul_right c (le_trans (is_le z.sign z.size _ _ z.is) (le_of_eq (whole s t a b)))))
  where
    whole : (s t : Bool) (a b : ℕ) → P s a + P t b + (N s a + N t b) ≡ a + b
    whole true true a b = omega arith
    whole true false a b = omega arith
    whole false true a b = omega arith
    whole false false a b = omega arith

pub add_at_most : AddAtMost
add_at_most f x y b c B C h k =
    let X = at_most_finite b x B h in
    let Y = at_most_finite c y C k in
    le_transitive (magnitude (add f x y)) (add f (magnitude x) (magnitude y)) (add f b c) (triangle f x y X Y) (add_mono f (magnitude x) b (magnitude y) c (magnitude_finite x X) B (magnitude_finite y Y) C h k)

pub sub_at_most : SubAtMost
unfolding sub
sub_at_most f x y b c B C h k = add_at_most f x (neg y) b c B C h (rw magnitude_neg k)

-- ---- the sign of a difference
pub sub_number : SubNumber
unfolding sub
sub_number f x y X Y =
    let r = add_rounded f x (neg y) X (neg_finite y Y) in
    subst (λ (z : Float). Number z) (sym r.rounded) (sided_number r.sign _ (round_sided f r.sign r.size _))

not_before : (a b : ℕ) → a ≤ b → ltb b a ≡ false
not_before a b h = go (ltb b a) (ltb→lt b a)
  where
    go : (x : Bool) → (T x → b < a) → x ≡ false
    go true f = absurd (lt_irrefl 0 (let k = f tt in omega arith))
    go false f = refl

either_sided : (f : Format) (b : Bool) (m n c : ℕ) → T (sided false (cond b (round f false m c) (round f false n c)))
either_sided f true m n c = round_sided f false m c
either_sided f false m n c = round_sided f false n c

pub sub_sign : SubSign
unfolding sub add neg sum le
sub_sign f nan y X Y h = absurd X
sub_sign f (inf s) y X Y h = absurd X
sub_sign f (fin s m e) nan X Y h = absurd Y
sub_sign f (fin s m e) (inf t) X Y h = absurd Y
sub_sign f (fin true m e) (fin false n d) X Y h = inr (tt, below→le (fin true m e) zero⁺ tt tt (omega arith), below→le zero⁺ (fin false n d) tt tt (omega arith))
sub_sign f (fin false m e) (fin true n d) X Y h = inl (round_sided f false (m * up e * down d + n * up d * down e) (down e * down d))
sub_sign f (fin false m e) (fin false n d) X Y h =
    let a = m * up e * down d in
    let b = n * up d * down e in
    let z = tested→ordered false b false a h in
    inl (rw (not_before b a (omega arith)) (round_sided f false (a - b) (down e * down d)))
sub_sign f (fin true m e) (fin true n d) X Y h =
    let a = m * up e * down d in
    let b = n * up d * down e in
    let z = tested→ordered true b true a h in
    inl (rw (not_before a b (omega arith)) (either_sided f (ltb a b) (b - a) (a - b) (down e * down d)))

-- ---- a value is its own rounded value, so adding what is not negative does not lower it, nor does what is not above 0 raise it
pub own_rounded : (f : Format) (x : Float) → T (fits f x) → T (finite x) → Rounded f (Pos x) (Neg x) (Den x) x
own_rounded f nan F X = absurd X
own_rounded f (inf s) F X = absurd X
own_rounded f (fin s m e) F X = record { sign = s; size = m * up e; is = is_own s (m * up e); rounded = sym (round_own f s m e F) }

pub add_grows : AddGrows
add_grows f x y F X Y p =
    rounded_mono f _ _ _ _ _ _ x (add f x y) (den_pos x) (mul-pos (den_pos x) (den_pos y)) (own_rounded f x F X) (add_rounded f x y X Y)
    (rw (no_negative_part y Y p) (lin (Pos x) (Neg x) (Den x) (Pos y) (Den y)))
  where
    lin : (a n c b d : ℕ) → a * (c * d) + (n * d + 0 * c) * c ≤ (a * d + b * c) * c + n * (c * d)
    lin a n c b d = omega arith

pub add_falls : AddFalls
add_falls f x y F X Y p =
    rounded_mono f _ _ _ _ _ _ (add f x y) x (mul-pos (den_pos x) (den_pos y)) (den_pos x) (add_rounded f x y X Y) (own_rounded f x F X)
    (rw (no_positive_part y Y p) (lin (Pos x) (Neg x) (Den x) (Neg y) (Den y)))
  where
    lin : (a n c b d : ℕ) → (a * d + 0 * c) * c + n * (c * d) ≤ a * (c * d) + (n * d + b * c) * c
    lin a n c b d = omega arith
