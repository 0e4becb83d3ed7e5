-- Differences of floats in units of 2 ^ -1074: exact where they have no more digits than the format keeps, and below what they are rounded below. Assumes nothing.
use mathlib.Core.Path.{◌≡◌, refl, sym, ap, ◌∙◌, subst}
use mathlib.Core.Logic.{inl, inr}
use Prim.Native.Nat.{ℕ, ◌+◌, ◌-◌, ◌*◌, ◌^◌, ◌≤◌, ◌<◌}
use native.Mathlib.Nat.{lt_of_not-le, not-le_of_lt, eq-or-lt_of_le, mul_right_comm, mul_assoc, one-mul, mul-pos, mul-le-mul_right, le_of_mul-le-mul_right}
use native.Mathlib.Omega.{arith}
use mathlib.Core.Bool.{Bool, true, false, not, cond, true≢false}
use lib.Dec.{T, ltb, ltb→lt, nltb→le}
use lib.Pow.{pow-add, pow_pos, pow-lt}
use lib.IntN.{ℤ}
use lib.Ieee.{Float, nan, inf, fin, Format, binary64, prec, low, up, down, round, fits, lt, add, neg, sub}
use lib.Ieee.Exact.{HasValue, round_exact}
use lib.Ieee.Fits.{down_pos, two, two-le_pos}
use lib.Ieee.Order.{transfer}
use lib.Ieee.Scale.{finite, overflow, round_same}
use Rattle.numbers_spec.specs.Arithmetic.{at_least, magnitude}
use Rattle.numbers_spec.specs.Values.{Units}
use Rattle.numbers_spec.proofs.ExactValues.{rounded_above}
use Rattle.numbers_spec.proofs.Order.{P, N}
use Rattle.numbers_spec.proofs.Placed.{placed}
use Rattle.numbers_spec.proofs.Rounding.{Is, Rounded, magnitude_round}
use Rattle.numbers_spec.proofs.Sums.{sum_rounded}

-- ±a - ±b is ±n
abbrev pub Minus : Bool → ℕ → Bool → ℕ → Bool → ℕ → Type 0
Minus s a t b r n = Is r n (P s a + N t b) (N s a + P t b)

pub in_units : (x : Float) → T (fits binary64 x) → T (finite x) → (s : Bool) × (n : ℕ) × Units binary64 x s n
in_units x F h = let p = placed binary64 x F h in (p.sign, p.digits * 2 ^ p.shift, p.value)

pub sub_finite : (x y : Float) → T (finite (sub binary64 x y)) → T (finite x) × T (finite y)
unfolding sub add neg
sub_finite nan y h = absurd h
sub_finite (inf s) nan h = absurd h
sub_finite (inf true) (inf true) h = absurd h
sub_finite (inf true) (inf false) h = absurd h
sub_finite (inf false) (inf true) h = absurd h
sub_finite (inf false) (inf false) h = absurd h
sub_finite (inf s) (fin t n d) h = absurd h
sub_finite (fin s m e) nan h = absurd h
sub_finite (fin s m e) (inf t) h = absurd h
sub_finite (fin s m e) (fin t n d) h = (tt, tt)

-- ---- a difference in units, rounded
-- a rounded fraction, written over another denominator
rescaled : (f : Format) (p q c p' q' l : ℕ) (z : Float) → 0 < c → 0 < l → p * l ≡ p' * c → q * l ≡ q' * c → Rounded f p q c z → Rounded f p' q' l z
rescaled f p q c p' q' l z C L h k v = go v.sign v.size v.is v.rounded
  where
    part : (n p q p' q' : ℕ) → n + q ≡ p → p * l ≡ p' * c → q * l ≡ q' * c → (p' - q' + q' ≡ p') × (n * l ≡ (p' - q') * c)
    part n p q p' q' i h k =
        let x : (n + q) * l ≡ p * l = ap (λ (y : ℕ). y * l) i in
        let g : q' ≤ p' = le_of_mul-le-mul_right (omega arith) C in
        let b : p' - q' + q' ≡ p' = omega arith in
        let w : (p' - q' + q') * c ≡ p' * c = ap (λ (y : ℕ). y * c) b in
        (b, omega arith)

    go : (r : Bool) (n : ℕ) → Is r n p q → z ≡ round f r n c → Rounded f p' q' l z
    go true n i e = let y = part n q p q' p' i k h in record { sign = true; size = q' - p'; is = y.0; rounded = e ∙ round_same f true n c (q' - p') l C L y.1 }
    go false n i e = let y = part n p q p' q' i h k in record { sign = false; size = p' - q'; is = y.0; rounded = e ∙ round_same f false n c (p' - q') l C L y.1 }

sub_rounded : (f : Format) (x y : Float) (s : Bool) (a : ℕ) (t : Bool) (b l : ℕ) → 0 < l → HasValue x s a l → HasValue y t b l → Rounded f (P s a + N t b) (N s a + P t b) l (sub f x y)
unfolding sub add neg
sub_rounded f nan y s a t b l L X Y = absurd X
sub_rounded f (inf u) y s a t b l L X Y = absurd X
sub_rounded f (fin u m e) nan s a t b l L X Y = absurd Y
sub_rounded f (fin u m e) (inf v) s a t b l L X Y = absurd Y
sub_rounded f (fin u m e) (fin v n d) s a t b l L X Y =
    rw (← X.0, ← Y.0)
    (rescaled f _ _ (down e * down d) _ _ l _ (mul-pos (down_pos e) (down_pos d)) L
    (over u v _ _ _ _ left right).0 (over u v _ _ _ _ left right).1
    (sum_rounded f u (m * up e * down d) (not v) (n * up d * down e) (down e * down d)))
  where
    left : m * up e * down d * l ≡ a * (down e * down d)
    left = mul_right_comm (m * up e) (down d) l ∙ ap (λ (y : ℕ). y * down d) X.1 ∙ mul_assoc a (down e) (down d)

    right : n * up d * down e * l ≡ b * (down e * down d)
    right = mul_right_comm (n * up d) (down e) l ∙ ap (λ (y : ℕ). y * down e) Y.1 ∙ mul_right_comm b (down d) (down e) ∙ mul_assoc b (down e) (down d)

    over : (s t : Bool) (A B a b : ℕ) → A * l ≡ a * (down e * down d) → B * l ≡ b * (down e * down d)
        → ((P s A + P (not t) B) * l ≡ (P s a + N t b) * (down e * down d)) × ((N s A + N (not t) B) * l ≡ (N s a + P t b) * (down e * down d))
    over true true A B a b h k = (omega arith, omega arith)
    over true false A B a b h k = (omega arith, omega arith)
    over false true A B a b h k = (omega arith, omega arith)
    over false false A B a b h k = (omega arith, omega arith)

-- ---- where rounding changes nothing
exact : (f : Format) (s : Bool) (n m k : ℕ) → n ≡ m * 2 ^ k → m ≤ 2 ^ prec f → n < overflow f → HasValue (round f s n (2 ^ low f)) s n (2 ^ low f)
exact f s n m k e few fine = elim (eq-or-lt_of_le few) [
  | inl t ↦ by 1 (prec f + k) (pow-lt {i = 0} (two-le_pos (prec f) (two f))) (e ∙ ap (λ (x : ℕ). x * 2 ^ k) t ∙ sym (pow-add 2 (prec f) k) ∙ sym (one-mul (2 ^ (prec f + k))))
  | inr l ↦ by m k l e
]
  where
    by : (q j : ℕ) → q < 2 ^ prec f → n ≡ q * 2 ^ j → HasValue (round f s n (2 ^ low f)) s n (2 ^ low f)
    by q j small is = round_exact f s n (2 ^ low f) q j (pow_pos (low f)) small (subst (λ (x : ℕ). x < overflow f) is fine) (ap (λ (x : ℕ). x * 2 ^ low f) is)

one_size : (r z : Bool) (n w p q : ℕ) → Is r n p q → Is z w p q → w ≡ n
one_size true true n w p q h k = omega arith
one_size true false n w p q h k = omega arith
one_size false true n w p q h k = omega arith
one_size false false n w p q h k = omega arith

rounded_exact : (f : Format) (p q : ℕ) (d : Float) (r : Bool) (n m k : ℕ) → Rounded f p q (2 ^ low f) d → Is r n p q → n ≡ m * 2 ^ k → m ≤ 2 ^ prec f → n < overflow f
    → (z : Bool) × (Is z n p q × Units f d z n)
rounded_exact f p q d r n m k v i e few fine =
    let w : v.size ≡ n = one_size r v.sign n v.size p q i v.is in
    (v.sign, (subst (λ (x : ℕ). Is v.sign x p q) w v.is, rw (v.rounded, w) (exact f v.sign n m k e few fine)))

-- the sign of a zero is not told
pub sub_exact : (x y : Float) (s : Bool) (a : ℕ) (t : Bool) (b : ℕ) (r : Bool) (n m k : ℕ) → Units binary64 x s a → Units binary64 y t b → Minus s a t b r n → n ≡ m * 2 ^ k → m ≤ 2 ^ 53 → n < 2 ^ 2098
    → (z : Bool) × (Minus s a t b z n × Units binary64 (sub binary64 x y) z n)
sub_exact x y s a t b r n m k X Y d e few fine = rounded_exact binary64 _ _ (sub binary64 x y) r n m k (sub_rounded binary64 x y s a t b (2 ^ low binary64) (pow_pos (low binary64)) X Y) d e few fine

-- ---- what is rounded below a value of the format lies below it
magnitude_value : (x : Float) (r : Bool) (n c : ℕ) → HasValue x r n c → (m : ℕ) × (e : ℤ) × (magnitude x ≡ fin false m e) × (m * up e * c ≡ n * down e)
unfolding magnitude
magnitude_value nan r n c v = absurd v
magnitude_value (inf t) r n c v = absurd v
magnitude_value (fin t m e) r n c v = (m, e, refl, v.1)

rounded_back : (f : Format) (p q : ℕ) (d : Float) (r : Bool) (n m k : ℕ) → Rounded f p q (2 ^ low f) d → Units f d r n → n < m * 2 ^ k → m ≤ 2 ^ prec f → m * 2 ^ k < overflow f
    → (z : Bool) × (w : ℕ) × (Is z w p q × (w < m * 2 ^ k))
rounded_back f p q d r n m k v R h few fine =
    let o = magnitude_value d r n (2 ^ low f) R in
    let is : round f false v.size (2 ^ low f) ≡ fin false o.0 o.1 = sym (magnitude_round f v.sign v.size (2 ^ low f)) ∙ ap magnitude (sym v.rounded) ∙ o.2 in (
      v.sign,
      v.size,
      (
        v.is,
        lt_of_not-le (λ (g : m * 2 ^ k ≤ v.size). not-le_of_lt h
            (le_of_mul-le-mul_right
            (subst (λ (x : ℕ). m * 2 ^ k * down o.1 ≤ x) o.3
            (rounded_above f v.size (2 ^ low f) (m * 2 ^ k) (2 ^ low f) (pow_pos (low f)) (pow_pos (low f)) (exact f false (m * 2 ^ k) m k refl few fine) o.0 o.1 is (mul-le-mul_right (2 ^ low f) g)))
            (down_pos o.1))),
      ),
    )

pub sub_back : (x y : Float) (s : Bool) (a : ℕ) (t : Bool) (b : ℕ) (r : Bool) (n m k : ℕ) → Units binary64 x s a → Units binary64 y t b → Units binary64 (sub binary64 x y) r n → n < m * 2 ^ k → m ≤ 2 ^ 53 → m * 2 ^ k < 2 ^ 2098
    → (z : Bool) × (w : ℕ) × (Minus s a t b z w × (w < m * 2 ^ k))
sub_back x y s a t b r n m k X Y R h few fine = rounded_back binary64 _ _ (sub binary64 x y) r n m k (sub_rounded binary64 x y s a t b (2 ^ low binary64) (pow_pos (low binary64)) X Y) R h few fine

-- ---- from a comparison
-- the larger of x and -x is x's size
size_under : (r : Bool) (m : ℕ) (e : ℤ) (n : ℕ) (d : ℤ) → lt (at_least (neg (fin r m e)) (fin r m e)) (fin false n d) ≡ true → m * up e * down d < n * up d * down e
unfolding lt neg
size_under true m e n d h = ltb→lt _ _ (subst T (sym h) tt)
size_under false m e n d h = go (ltb 0 (m * up e * down e + m * up e * down e)) (nltb→le 0 (m * up e * down e + m * up e * down e)) (subst T (sym h) tt)
  where
    none : (a k : ℕ) → 0 < k → a * k + a * k ≤ 0 → a ≤ 0
    none a k K h = le_of_mul-le-mul_right {n = 0} (omega arith) K

    at_zero : (x k y : ℕ) → x ≤ 0 → 0 < x * k + y → x * k < y
    at_zero x k y h g = let z : x * k ≤ 0 * k = mul-le-mul_right k h in omega arith

    go : (b : Bool) → (T (not b) → m * up e * down e + m * up e * down e ≤ 0) → T (lt (cond b (fin false m e) (fin true m e)) (fin false n d)) → m * up e * down d < n * up d * down e
    go true k g = ltb→lt _ _ g
    go false k g = at_zero (m * up e) (down d) (n * up d * down e) (none (m * up e) (down e) (down_pos e) (k tt)) (ltb→lt _ _ g)

-- the larger of d and -d is below t: d is finite, and its size is below too
pub under : (d t : Float) (n : ℕ) → T (fits binary64 d) → Units binary64 t false n → lt (at_least (neg d) d) t ≡ true → (r : Bool) × (w : ℕ) × (Units binary64 d r w × (w < n))
under d nan n F U h = absurd U
under d (inf t) n F U h = absurd U
under d (fin true o c) n F U h = absurd (true≢false U.0)
under nan (fin false o c) n F U h = absurd (true≢false (sym (unfold lt neg in h)))
under (inf true) (fin false o c) n F U h = absurd (true≢false (sym (unfold lt neg in h)))
under (inf false) (fin false o c) n F U h = absurd (true≢false (sym (unfold lt neg in h)))
under (fin s m e) (fin false o c) n F U h =
    let l = 2 ^ low binary64 in
    let L = pow_pos (low binary64) in
    let u = in_units (fin s m e) F tt in (
      u.0,
      u.1,
      (u.2, lt_of_not-le (λ (g : n ≤ u.1). not-le_of_lt (size_under s m e o c h) (transfer (o * up c) (m * up e) (down c) (down e) n u.1 l l L L U.1 u.2.1 (mul-le-mul_right l g)))),
    )
