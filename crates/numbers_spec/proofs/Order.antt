-- The order of floats: over whole numbers, it is that of (Pos - Neg) / Den; it is transitive, total but for NaN, and turned by negation; and |x| ≤ b is -b ≤ x ≤ b. Assumes nothing.
use mathlib.Core.Path.{◌≡◌, refl, sym}
use mathlib.Core.Logic.{◌⊎◌, inl, inr}
use Prim.Native.Nat.{ℕ, ◌+◌, ◌*◌, ◌≤◌, ◌<◌}
use native.Mathlib.Nat.{le_refl, eq-or-lt_of_le, eq-zero-or-pos, mul_right_comm, mul-le-mul_right, le_of_mul-le-mul_right, zero-mul, add-mul}
use native.Mathlib.Omega.{arith}
use mathlib.Core.Bool.{Bool, true, false, cond, not, ◌&&◌, ◌||◌}
use lib.IntN.{ℤ}
use lib.Dec.{T, lit<, ltb, eqb, ltb→lt, lt→ltb, nltb→le, eqb→eq, T_not, not_T}
use lib.Ieee.{Float, nan, inf, fin, up, down, neg, lt, eq, le, below, level, is_nan}
use lib.Ieee.Fits.{down_pos, eq→eqb, and_i, and_l, and_r}
use lib.Ieee.Exact.{HasValue}
use lib.Ieee.Positive.{positive, above, above_of_le}
use lib.Ieee.Scale.{finite}
use Rattle.numbers_spec.specs.Arithmetic.{zero⁺, magnitude}
use Rattle.numbers_spec.proofs.Sign.{neg_neg}
use Rattle.numbers_spec.proofs.Value.{finite_no_nan}
use Rattle.numbers_spec.specs.Values.{Number, Den, AtMost, NotNegative, Between, Monotone}
use Rattle.numbers_spec.specs.FloatLaws.{LeNumber, LeTransitive, LeReflexive, LeSelf, LeTotal, LtGivesLe, LeForbidsLt, NotLtGivesLe, NotLeGivesLt, BetweenFinite, NegAntitone, NegFinite, MagnitudeNeg, MagnitudeAbove, PositiveAbove, PositiveNotNegative, AtMostGivesBetween, BetweenGivesAtMost, AbsoluteAtMost, AtMostFinite}

-- ---- ±a as P - N
abbrev pub P : Bool → ℕ → ℕ
P true a = 0
P false a = a

abbrev pub N : Bool → ℕ → ℕ
N true a = a
N false a = 0

or_l : (a b : Bool) → T a → T (a || b)
or_l true b t = tt
or_l false b t = absurd t

or_r : (a b : Bool) → T b → T (a || b)
or_r true b t = tt
or_r false b t = t

or_split : (a b : Bool) → T (a || b) → T a ⊎ T b
or_split true b t = inl tt
or_split false b t = inr t

-- ±a ≤ ±b, as `le` tests it and over whole numbers
pub tested→ordered : (s : Bool) (a : ℕ) (t : Bool) (b : ℕ) → T (below s a t b || level s a t b) → P s a + N t b ≤ P t b + N s a
tested→ordered false a false b h = elim (or_split (ltb a b) (eqb a b && (true || eqb a 0)) h) [
  | inl u ↦ let x = ltb→lt a b u in omega arith
  | inr u ↦ let x = eqb→eq a b (and_l (eqb a b) true u) in omega arith
]
tested→ordered false a true b h = let x = eqb→eq a b (and_l (eqb a b) (eqb a 0) h) in let y = eqb→eq a 0 (and_r (eqb a b) (eqb a 0) h) in omega arith
tested→ordered true a false b h = omega arith
tested→ordered true a true b h = elim (or_split (ltb b a) (eqb a b && (true || eqb a 0)) h) [
  | inl u ↦ let x = ltb→lt b a u in omega arith
  | inr u ↦ let x = eqb→eq a b (and_l (eqb a b) true u) in omega arith
]

pub ordered→tested : (s : Bool) (a : ℕ) (t : Bool) (b : ℕ) → P s a + N t b ≤ P t b + N s a → T (below s a t b || level s a t b)
ordered→tested false a false b h = elim (eq-or-lt_of_le {n = a} {m = b} (omega arith)) [
  | inl u ↦ or_r (ltb a b) (eqb a b && true) (and_i (eqb a b) true (eq→eqb u) tt)
  | inr u ↦ or_l (ltb a b) (eqb a b && true) (lt→ltb a b u)
]
ordered→tested false a true b h = let x : a ≡ 0 = omega arith in let y : a ≡ b = omega arith in and_i (eqb a b) (eqb a 0) (eq→eqb y) (eq→eqb x)
ordered→tested true a false b h = elim (eq-zero-or-pos (a + b)) [
  | inl z ↦ let x : a ≡ 0 = omega arith in let y : a ≡ b = omega arith in or_r (ltb 0 (a + b)) (eqb a b && eqb a 0) (and_i (eqb a b) (eqb a 0) (eq→eqb y) (eq→eqb x))
  | inr p ↦ or_l (ltb 0 (a + b)) (eqb a b && eqb a 0) (lt→ltb 0 (a + b) p)
]
ordered→tested true a true b h = elim (eq-or-lt_of_le {n = b} {m = a} (omega arith)) [
  | inl u ↦ or_r (ltb b a) (eqb a b && true) (and_i (eqb a b) true (eq→eqb (sym u)) tt)
  | inr u ↦ or_l (ltb b a) (eqb a b && true) (lt→ltb b a u)
]

-- ---- a finite value is (Pos - Neg) / Den
abbrev pub Pos : Float → ℕ
Pos nan = 0
Pos (inf s) = 0
Pos (fin s m e) = P s (m * up e)

abbrev pub Neg : Float → ℕ
Neg nan = 0
Neg (inf s) = 0
Neg (fin s m e) = N s (m * up e)

pub den_pos : (x : Float) → 0 < Den x
den_pos nan = lit< tt
den_pos (inf s) = lit< tt
den_pos (fin s m e) = down_pos e

pub P-mul : (s : Bool) (a k : ℕ) → P s (a * k) ≡ P s a * k
P-mul true a k = sym (zero-mul k)
P-mul false a k = refl

pub N-mul : (s : Bool) (a k : ℕ) → N s (a * k) ≡ N s a * k
N-mul true a k = refl
N-mul false a k = sym (zero-mul k)

-- the order of finite values, over whole numbers
abbrev pub Below : Float → Float → Type 0
Below x y = Pos x * Den y + Neg y * Den x ≤ Pos y * Den x + Neg x * Den y

pub le→below : (x y : Float) → T (finite x) → T (finite y) → T (le x y) → Below x y
unfolding le
le→below nan y p q h = absurd p
le→below (inf s) y p q h = absurd p
le→below (fin s m e) nan p q h = absurd q
le→below (fin s m e) (inf t) p q h = absurd q
le→below (fin s m e) (fin t n d) p q h =
    let x = P-mul s (m * up e) (down d) in
    let y = P-mul t (n * up d) (down e) in
    let u = N-mul s (m * up e) (down d) in
    let v = N-mul t (n * up d) (down e) in
    let z = tested→ordered s (m * up e * down d) t (n * up d * down e) h in
    omega arith

pub below→le : (x y : Float) → T (finite x) → T (finite y) → Below x y → T (le x y)
unfolding le
below→le nan y p q h = absurd p
below→le (inf s) y p q h = absurd p
below→le (fin s m e) nan p q h = absurd q
below→le (fin s m e) (inf t) p q h = absurd q
below→le (fin s m e) (fin t n d) p q h =
    let x = P-mul s (m * up e) (down d) in
    let y = P-mul t (n * up d) (down e) in
    let u = N-mul s (m * up e) (down d) in
    let v = N-mul t (n * up d) (down e) in
    ordered→tested s (m * up e * down d) t (n * up d * down e) (omega arith)

-- of values that are not negative
pub cross : (m : ℕ) (e : ℤ) (n : ℕ) (d : ℤ) → T (le (fin false m e) (fin false n d)) → m * up e * down d ≤ n * up d * down e
unfolding le
cross m e n d h = let z = tested→ordered false (m * up e * down d) false (n * up d * down e) h in omega arith

-- a sum of whole numbers, multiplied through
pub times : (a b c d e : ℕ) → a + b ≤ c + d → a * e + b * e ≤ c * e + d * e
times a b c d e h = rw (← add-mul a b e, ← add-mul c d e) (mul-le-mul_right e h)

-- ---- transitive
through : (px nx dx py ny dy pz nz dz : ℕ) → 0 < dy → px * dy + ny * dx ≤ py * dx + nx * dy → py * dz + nz * dy ≤ pz * dy + ny * dz → px * dz + nz * dx ≤ pz * dx + nx * dz
through px nx dx py ny dy pz nz dz D h k =
    le_of_mul-le-mul_right
    (rw (add-mul (px * dz) (nz * dx) dy, add-mul (pz * dx) (nx * dz) dy)
    (cancel (px * dz * dy) (nz * dx * dy) (pz * dx * dy) (nx * dz * dy) (px * dy * dz) (ny * dx * dz) (py * dx * dz) (nx * dy * dz) (py * dz * dx) (nz * dy * dx) (pz * dy * dx) (ny * dz * dx)
    (times (px * dy) (ny * dx) (py * dx) (nx * dy) dz h) (times (py * dz) (nz * dy) (pz * dy) (ny * dz) dx k)
    (mul_right_comm px dy dz) (mul_right_comm nz dy dx) (mul_right_comm pz dy dx) (mul_right_comm nx dy dz) (mul_right_comm ny dx dz) (mul_right_comm py dx dz)))
    D
  where
    cancel : (a b c d e f g h i j k l : ℕ) → e + f ≤ g + h → i + j ≤ k + l → e ≡ a → j ≡ b → k ≡ c → h ≡ d → f ≡ l → g ≡ i → a + b ≤ c + d
    cancel a b c d e f g h i j k l x y p q r s t u = omega arith

pub le_transitive : LeTransitive
unfolding le
le_transitive nan y z h k = absurd h
le_transitive (inf s) nan z h k = absurd h
le_transitive (inf s) (inf t) nan h k = absurd k
le_transitive (fin s m e) nan z h k = absurd h
le_transitive (inf true) (inf true) (inf true) h k = tt
le_transitive (inf true) (inf true) (inf false) h k = tt
le_transitive (inf true) (inf false) (inf true) h k = absurd k
le_transitive (inf true) (inf false) (inf false) h k = tt
le_transitive (inf false) (inf true) (inf t) h k = absurd h
le_transitive (inf false) (inf false) (inf true) h k = absurd k
le_transitive (inf false) (inf false) (inf false) h k = tt
le_transitive (inf true) (inf t) (fin u n d) h k = tt
le_transitive (inf false) (inf true) (fin u n d) h k = absurd h
le_transitive (inf false) (inf false) (fin u n d) h k = absurd k
le_transitive (inf true) (fin t n d) nan h k = absurd k
le_transitive (inf true) (fin t n d) (inf true) h k = absurd k
le_transitive (inf true) (fin t n d) (inf false) h k = tt
le_transitive (inf true) (fin t n d) (fin u o c) h k = tt
le_transitive (inf false) (fin t n d) z h k = absurd h
le_transitive (fin s m e) (inf true) z h k = absurd h
le_transitive (fin s m e) (inf false) nan h k = absurd k
le_transitive (fin s m e) (inf false) (inf true) h k = absurd k
le_transitive (fin s m e) (inf false) (inf false) h k = tt
le_transitive (fin s m e) (inf false) (fin u o c) h k = absurd k
le_transitive (fin s m e) (fin t n d) nan h k = absurd k
le_transitive (fin s m e) (fin t n d) (inf true) h k = absurd k
le_transitive (fin s m e) (fin t n d) (inf false) h k = tt
le_transitive (fin s m e) (fin t n d) (fin u o c) h k =
    below→le (fin s m e) (fin u o c) tt tt
    (through (P s (m * up e)) (N s (m * up e)) (down e) (P t (n * up d)) (N t (n * up d)) (down d) (P u (o * up c)) (N u (o * up c)) (down c) (down_pos d) (le→below (fin s m e) (fin t n d) tt tt h) (le→below (fin t n d) (fin u o c) tt tt k))

-- ---- reflexive and total, but for a NaN
pub le_reflexive : LeReflexive
le_reflexive nan h = absurd (unfold is_nan in h)
le_reflexive (inf true) h = unfold le in tt
le_reflexive (inf false) h = unfold le in tt
le_reflexive (fin s m e) h = below→le (fin s m e) (fin s m e) tt tt (le_refl _)

pub le_self : LeSelf
le_self x h = le_reflexive x (finite_no_nan x h)

pub le_number : LeNumber
le_number nan y h = absurd (unfold le in h)
le_number (inf s) y h = unfold is_nan in tt
le_number (fin s m e) y h = unfold is_nan in tt

pub lt→le : LtGivesLe
unfolding le
lt→le x y h = or_l (lt x y) (eq x y) h

pub le→not-lt : LeForbidsLt
unfolding le lt
le→not-lt nan y h = tt
le→not-lt (inf s) nan h = tt
le→not-lt (inf true) (inf true) h = tt
le→not-lt (inf true) (inf false) h = absurd h
le→not-lt (inf false) (inf t) h = tt
le→not-lt (inf true) (fin t n d) h = absurd h
le→not-lt (inf false) (fin t n d) h = tt
le→not-lt (fin s m e) nan h = tt
le→not-lt (fin s m e) (inf true) h = tt
le→not-lt (fin s m e) (inf false) h = absurd h
le→not-lt (fin s m e) (fin t n d) h = flip s (m * up e * down d) t (n * up d * down e) (tested→ordered t (n * up d * down e) s (m * up e * down d) h)
  where
    flip : (s : Bool) (a : ℕ) (t : Bool) (b : ℕ) → P t b + N s a ≤ P s a + N t b → T (not (below s a t b))
    flip false a false b h = not_T (ltb a b) (λ l. let x = ltb→lt a b l in omega arith)
    flip false a true b h = tt
    flip true a false b h = not_T (ltb 0 (a + b)) (λ l. let x = ltb→lt 0 (a + b) l in omega arith)
    flip true a true b h = not_T (ltb b a) (λ l. let x = ltb→lt b a l in omega arith)

pub not-lt→le : NotLtGivesLe
not-lt→le nan y X Y h = absurd (unfold is_nan in X)
not-lt→le (inf s) nan X Y h = absurd (unfold is_nan in Y)
not-lt→le (fin s m e) nan X Y h = absurd (unfold is_nan in Y)
not-lt→le (inf true) (inf true) X Y h = unfold le in tt
not-lt→le (inf true) (inf false) X Y h = absurd (unfold lt in h)
not-lt→le (inf false) (inf true) X Y h = unfold le in tt
not-lt→le (inf false) (inf false) X Y h = unfold le in tt
not-lt→le (inf true) (fin t n d) X Y h = absurd (unfold lt in h)
not-lt→le (inf false) (fin t n d) X Y h = unfold le in tt
not-lt→le (fin s m e) (inf true) X Y h = unfold le in tt
not-lt→le (fin s m e) (inf false) X Y h = absurd (unfold lt in h)
not-lt→le (fin s m e) (fin t n d) X Y h = unfold le in ordered→tested t (n * up d * down e) s (m * up e * down d) (flip s (m * up e * down d) t (n * up d * down e) (unfold lt in h))
  where
    flip : (s : Bool) (a : ℕ) (t : Bool) (b : ℕ) → T (not (below s a t b)) → P t b + N s a ≤ P s a + N t b
    flip false a false b h = let x = nltb→le a b h in omega arith
    flip false a true b h = omega arith
    flip true a false b h = let x = nltb→le 0 (a + b) h in omega arith
    flip true a true b h = let x = nltb→le b a h in omega arith

pub not-le→lt : NotLeGivesLt
not-le→lt x y X Y h = go (lt x y) (not-lt→le x y X Y)
  where
    go : (b : Bool) → (T (not b) → T (le y x)) → T b
    go true k = tt
    go false k = T_not (le y x) h (k tt)

pub le_total : LeTotal
le_total x y X Y = go (lt x y) (lt→le x y) (not-lt→le x y X Y)
  where
    go : (b : Bool) → (T b → T (le x y)) → (T (not b) → T (le y x)) → T (le x y) ⊎ T (le y x)
    go true h k = inl (h tt)
    go false h k = inr (k tt)

-- ---- from one infinity to the other
least_of_all : (x : Float) → Number x → T (le (inf true) x)
unfolding is_nan le
least_of_all nan h = h
least_of_all (inf true) h = tt
least_of_all (inf false) h = tt
least_of_all (fin s m e) h = tt

pub most_of_all : (x : Float) → Number x → T (le x (inf false))
unfolding is_nan le
most_of_all nan h = h
most_of_all (inf true) h = tt
most_of_all (inf false) h = tt
most_of_all (fin s m e) h = tt

-- a function that keeps infinities, gives no NaN for a finite value, and keeps the order of those, keeps it everywhere
pub monotone_of_finite : (g : Float → Float) → ((s : Bool) → g (inf s) ≡ inf s) → ((x : Float) → T (finite x) → Number (g x)) → ((x y : Float) → T (finite x) → T (finite y) → T (le x y) → T (le (g x) (g y))) → Monotone g
monotone_of_finite g i n k nan y h = absurd (unfold le in h)
monotone_of_finite g i n k (inf s) nan h = absurd (unfold le in h)
monotone_of_finite g i n k (inf s) (inf t) h = rw (i s, i t) h
monotone_of_finite g i n k (inf true) (fin t o d) h = rw (i true) (least_of_all (g (fin t o d)) (n (fin t o d) tt))
monotone_of_finite g i n k (inf false) (fin t o d) h = absurd (unfold le in h)
monotone_of_finite g i n k (fin s m e) nan h = absurd (unfold le in h)
monotone_of_finite g i n k (fin s m e) (inf true) h = absurd (unfold le in h)
monotone_of_finite g i n k (fin s m e) (inf false) h = rw (i false) (most_of_all (g (fin s m e)) (n (fin s m e) tt))
monotone_of_finite g i n k (fin s m e) (fin t o d) h = k (fin s m e) (fin t o d) tt tt h

-- ---- between
finite_between : (l x u : Float) → T (finite l) → T (finite u) → T (le l x) → T (le x u) → T (finite x)
unfolding le
finite_between nan x u L U h k = absurd L
finite_between (inf s) x u L U h k = absurd L
finite_between (fin s m e) nan u L U h k = absurd h
finite_between (fin s m e) (fin t n d) u L U h k = tt
finite_between (fin s m e) (inf true) u L U h k = absurd h
finite_between (fin s m e) (inf false) nan L U h k = absurd U
finite_between (fin s m e) (inf false) (inf t) L U h k = absurd U
finite_between (fin s m e) (inf false) (fin t n d) L U h k = absurd k

pub between_finite : BetweenFinite
between_finite l u x L U b = finite_between l x u L U b.from b.to

pub wider : (l u l' u' x : Float) → T (le l' l) → T (le u u') → Between l u x → Between l' u' x
wider l u l' u' x h k b = record { from = le_transitive l' l x h b.from; to = le_transitive x u u' b.to k }

-- ---- negation
pub neg_le : NegAntitone
unfolding le neg
neg_le nan y h = absurd h
neg_le (inf s) nan h = absurd h
neg_le (inf true) (inf true) h = tt
neg_le (inf true) (inf false) h = tt
neg_le (inf false) (inf true) h = absurd h
neg_le (inf false) (inf false) h = tt
neg_le (inf true) (fin t n d) h = tt
neg_le (inf false) (fin t n d) h = absurd h
neg_le (fin s m e) nan h = absurd h
neg_le (fin s m e) (inf true) h = absurd h
neg_le (fin s m e) (inf false) h = tt
neg_le (fin s m e) (fin t n d) h = turn s t (m * up e * down d) (n * up d * down e) h
  where
    turn : (s t : Bool) (a b : ℕ) → T (below s a t b || level s a t b) → T (below (not t) b (not s) a || level (not t) b (not s) a)
    turn s t a b h = ordered→tested (not t) b (not s) a (flip s t (tested→ordered s a t b h))
      where
        flip : (s t : Bool) → P s a + N t b ≤ P t b + N s a → P (not t) b + N (not s) a ≤ P (not s) a + N (not t) b
        flip true true h = omega arith
        flip true false h = omega arith
        flip false true h = omega arith
        flip false false h = omega arith

pub neg_finite : NegFinite
unfolding neg
neg_finite nan h = absurd h
neg_finite (inf s) h = absurd h
neg_finite (fin s m e) h = tt

-- ---- |x|
pub magnitude_finite : (x : Float) → T (finite x) → T (finite (magnitude x))
unfolding magnitude
magnitude_finite nan X = X
magnitude_finite (inf s) X = absurd X
magnitude_finite (fin s m e) X = tt

pub magnitude_neg : MagnitudeNeg
unfolding magnitude neg
magnitude_neg nan = refl
magnitude_neg (inf s) = refl
magnitude_neg (fin s m e) = refl

pub magnitude_not_negative : (x : Float) → Number x → NotNegative (magnitude x)
magnitude_not_negative nan h = absurd (unfold is_nan in h)
magnitude_not_negative (inf s) h = unfold magnitude le in tt
magnitude_not_negative (fin s m e) h = unfold magnitude in below→le zero⁺ (fin false m e) tt tt (omega arith)

-- x ≤ |x|
pub magnitude_above : MagnitudeAbove
magnitude_above nan h = absurd (unfold is_nan in h)
magnitude_above (inf true) h = unfold magnitude le in tt
magnitude_above (inf false) h = unfold magnitude le in tt
magnitude_above (fin true m e) h = unfold magnitude in below→le (fin true m e) (fin false m e) tt tt (omega arith)
magnitude_above (fin false m e) h = unfold magnitude in le_self (fin false m e) tt

at_most_number : (b x : Float) → AtMost b x → Number x
at_most_number b nan h = absurd (unfold magnitude le in h)
at_most_number b (inf s) h = unfold is_nan in tt
at_most_number b (fin s m e) h = unfold is_nan in tt

pub at_most_high : (b x : Float) → AtMost b x → T (le x b)
at_most_high b x h = le_transitive x (magnitude x) b (magnitude_above x (at_most_number b x h)) h

pub at_most_between : AtMostGivesBetween
at_most_between b x h = record {
  from = rw neg_neg at (neg_le (neg x) b (at_most_high b (neg x) (rw magnitude_neg h)));
  to = at_most_high b x h;
}

pub between_at_most : BetweenGivesAtMost
unfolding magnitude neg
between_at_most b nan i = i.to
between_at_most b (inf false) i = i.to
between_at_most b (fin false m e) i = i.to
between_at_most b (inf true) i = rw neg_neg at (neg_le (neg b) (inf true) i.from)
between_at_most b (fin true m e) i = rw neg_neg at (neg_le (neg b) (fin true m e) i.from)

pub absolute_at_most : AbsoluteAtMost
absolute_at_most b x B = go (lt x zero⁺) (lt→le x zero⁺) (λ h l. not-lt→le x zero⁺ (le_number x b h) (unfold is_nan in tt) l)
  where
    down : T (le (neg b) zero⁺)
    down = le_transitive (neg b) (neg zero⁺) zero⁺ (neg_le zero⁺ b B) (unfold neg le in tt)

    go : (c : Bool) → (T c → T (le x zero⁺)) → (T (le x b) → T (not c) → T (le zero⁺ x)) → T (le (cond c (neg x) x) b) → AtMost b x
    go true l k h = rw magnitude_neg at (between_at_most b (neg x) (record { from = le_transitive (neg b) (neg zero⁺) (neg x) (neg_le zero⁺ b B) (neg_le x zero⁺ (l tt)); to = h }))
    go false l k h = between_at_most b x (record { from = le_transitive (neg b) zero⁺ x down (k h tt); to = h })

pub at_most_finite : AtMostFinite
unfolding magnitude le
at_most_finite b nan B h = absurd h
at_most_finite nan (inf s) B h = absurd B
at_most_finite (inf t) (inf s) B h = absurd B
at_most_finite (fin t n d) (inf s) B h = absurd h
at_most_finite b (fin s m e) B h = tt

-- ---- values that are not negative, and positive ones
pub no_negative_part : (x : Float) → T (finite x) → NotNegative x → Neg x ≡ 0
no_negative_part nan X h = absurd X
no_negative_part (inf s) X h = absurd X
no_negative_part (fin false m e) X h = refl
no_negative_part (fin true m e) X h = let z = le→below zero⁺ (fin true m e) tt tt h in omega arith

pub no_positive_part : (x : Float) → T (finite x) → T (le x zero⁺) → Pos x ≡ 0
no_positive_part nan X h = absurd X
no_positive_part (inf s) X h = absurd X
no_positive_part (fin true m e) X h = refl
no_positive_part (fin false m e) X h = let z = le→below (fin false m e) zero⁺ tt tt h in omega arith

-- what is not below a positive value
pub positive_above : PositiveAbove
positive_above l y L Y h = go y Y (above_of_le l y L h)
  where
    go : (y : Float) → T (finite y) → T (above y) → T (positive y)
    go nan Y a = absurd Y
    go (inf s) Y a = absurd Y
    go (fin true m e) Y a = absurd a
    go (fin false m e) Y a = a

pub positive_not_negative : PositiveNotNegative
positive_not_negative nan Y = absurd Y
positive_not_negative (inf s) Y = absurd Y
positive_not_negative (fin true m e) Y = absurd Y
positive_not_negative (fin false m e) Y = below→le zero⁺ (fin false m e) tt tt (omega arith)

pub positive_sign : (x : Float) (s : Bool) (a c : ℕ) → T (positive x) → HasValue x s a c → s ≡ false
positive_sign nan s a c p v = absurd p
positive_sign (inf t) s a c p v = absurd p
positive_sign (fin true m e) s a c p v = absurd p
positive_sign (fin false m e) s a c p v = sym v.0
