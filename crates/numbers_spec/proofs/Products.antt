-- Products and quotients: of values that are not negative they keep the order, and |x × y| and |x / y| are at most the bounds' product and quotient. Assumes nothing.
use mathlib.Core.Path.{◌≡◌, refl, ap, ◌∙◌, subst}
use Prim.Native.Nat.{ℕ, zero, suc, ◌+◌, ◌*◌, ◌≤◌, ◌<◌}
use native.Mathlib.Nat.{le_trans, le_of_eq, lt_irrefl, mul_assoc, mul_comm, mul_left_comm, mul-le-mul, mul-pos, zero-mul, mul-zero, zero-add, add-zero}
use native.Mathlib.Omega.{arith}
use mathlib.Core.Bool.{Bool, true, false, cond}
use lib.IntN.{ℤ, pos}
use lib.Dec.{T, eqb, eqb-suc-zero, eqb→eq, ltb→lt}
use lib.Ieee.{Float, nan, inf, fin, Format, up, down, unlike, round, mul, div, le, is_nan}
use lib.Ieee.Fits.{up_pos, down_pos}
use lib.Ieee.Positive.{positive, positive-finite}
use lib.Ieee.Scale.{finite}
use Rattle.numbers_spec.specs.Arithmetic.{zero⁺, magnitude}
use Rattle.numbers_spec.proofs.Value.{finite_no_nan}
use Rattle.numbers_spec.specs.Values.{Number, Den, AtMost, NotNegative, Monotone}
use Rattle.numbers_spec.specs.FloatLaws.{MulMonotone, MulMonotoneBy, MulMonotoneByPositive, MulNumber, DivMonotone, MulNotNegative, DivNotNegative, DivNotPositive, SquareNotNegative, MulAtMost, DivAtMost, MulBetween, MulBetweenBy}
use Rattle.numbers_spec.proofs.Order.{P, N, Pos, Neg, den_pos, times, le→below, le_self, le_transitive, monotone_of_finite, between_finite, magnitude_finite, magnitude_not_negative, at_most_finite, no_negative_part, positive_above, positive_not_negative}
use Rattle.numbers_spec.proofs.Rounding.{Is, Rounded, rounded_mono, zeros, round_sided, sided_number, sided_not_negative, sided_not_positive, magnitude_round}

-- ---- a product is a signed fraction, rounded
pub mul_rounded : (f : Format) (x y : Float) → T (finite x) → T (finite y) → Rounded f (Pos x * Pos y + Neg x * Neg y) (Pos x * Neg y + Neg x * Pos y) (Den x * Den y) (mul f x y)
unfolding mul
mul_rounded f nan y X Y = absurd X
mul_rounded f (inf s) y X Y = absurd X
mul_rounded f (fin s m e) nan X Y = absurd Y
mul_rounded f (fin s m e) (inf t) X Y = absurd Y
mul_rounded f (fin s m e) (fin t n d) X Y = record { sign = unlike s t; size = m * up e * (n * up d); is = signs s t (m * up e) (n * up d); rounded = refl }
  where
    signs : (s t : Bool) (a b : ℕ) → Is (unlike s t) (a * b) (P s a * P t b + N s a * N t b) (P s a * N t b + N s a * P t b)
    signs true true a b = omega arith
    signs true false a b = omega arith
    signs false true a b = omega arith
    signs false false a b = omega arith

mul_finite_number : (f : Format) (x y : Float) → T (finite x) → T (finite y) → Number (mul f x y)
mul_finite_number f x y X Y = let z = mul_rounded f x y X Y in rw z.rounded (sided_number z.sign _ (round_sided f z.sign z.size (Den x * Den y)))

regroup : (a b c d : ℕ) → a * b * (c * d) ≡ a * c * (b * d)
regroup a b c d = simp (mul_assoc, mul_left_comm)

-- ---- it grows with its factors
pub mul_mono_by : MulMonotoneBy
mul_mono_by f x x' k X X' K p h =
    rounded_mono f _ _ _ _ _ _ (mul f x k) (mul f x' k) (mul-pos (den_pos x) (den_pos k)) (mul-pos (den_pos x') (den_pos k)) (mul_rounded f x k X K) (mul_rounded f x' k X' K)
    (rw (no_negative_part k K p) (spread (Pos x) (Neg x) (Den x) (Pos x') (Neg x') (Den x') (Pos k) (Den k) (le→below x x' X X' h)))
  where
    spread : (a n d a' n' d' b c : ℕ) → a * d' + n' * d ≤ a' * d + n * d' → (a * b + n * 0) * (d' * c) + (a' * 0 + n' * b) * (d * c) ≤ (a' * b + n' * 0) * (d * c) + (a * 0 + n * b) * (d' * c)
    spread a n d a' n' d' b c h = rw (first a n b d' c, second a' n' b d c, first a' n' b d c, second a n b d' c) (times (a * d') (n' * d) (a' * d) (n * d') (b * c) h)
      where
        first : (a n b d c : ℕ) → (a * b + n * 0) * (d * c) ≡ a * d * (b * c)
        first a n b d c = simp (mul-zero, add-zero) (regroup a b d c)

        second : (a n b d c : ℕ) → (a * 0 + n * b) * (d * c) ≡ n * d * (b * c)
        second a n b d c = simp (mul-zero, zero-add) (regroup n b d c)

below_parts : (x x' : Float) → T (finite x) → T (finite x') → NotNegative x → NotNegative x' → T (le x x') → Pos x * Den x' ≤ Pos x' * Den x
below_parts x x' X X' p p' h = plain (Pos x * Den x') (Pos x' * Den x) (Neg x) (Neg x') (Den x) (Den x') (no_negative_part x X p) (no_negative_part x' X' p') (le→below x x' X X' h)
  where
    plain : (a b n n' d d' : ℕ) → n ≡ 0 → n' ≡ 0 → a + n' * d ≤ b + n * d' → a ≤ b
    plain a b n n' d d' u v h = let y : n' * d ≡ 0 = ap (λ (k : ℕ). k * d) v ∙ zero-mul d in let z : n * d' ≡ 0 = ap (λ (k : ℕ). k * d') u ∙ zero-mul d' in omega arith

pub mul_mono : MulMonotone
mul_mono f x x' y y' X X' Y Y' p q h k =
    let p' : NotNegative x' = le_transitive zero⁺ x x' p h in
    let q' : NotNegative y' = le_transitive zero⁺ y y' q k in
    rounded_mono f _ _ _ _ _ _ (mul f x y) (mul f x' y') (mul-pos (den_pos x) (den_pos y)) (mul-pos (den_pos x') (den_pos y')) (mul_rounded f x y X Y) (mul_rounded f x' y' X' Y')
    (rw (no_negative_part x X p, no_negative_part y Y q, no_negative_part x' X' p', no_negative_part y' Y' q')
    (spread (Pos x * Pos y) (Pos x' * Pos y') (Pos x) (Pos y) (Pos x') (Pos y') (Den x * Den y) (Den x' * Den y')
    (le_trans (le_of_eq (regroup (Pos x) (Pos y) (Den x') (Den y'))) (le_trans (mul-le-mul (below_parts x x' X X' p p' h) (below_parts y y' Y Y' q q' k)) (le_of_eq (regroup (Pos x') (Den x) (Pos y') (Den y)))))))
  where
    spread : (n n' a b a' b' c c' : ℕ) → n * c' ≤ n' * c → (n + 0 * 0) * c' + (a' * 0 + 0 * b') * c ≤ (n' + 0 * 0) * c + (a * 0 + 0 * b) * c'
    spread n n' a b a' b' c c' h = simp (mul-zero, zero-mul) (omega arith)

zero_times_zero : (f : Format) → mul f zero⁺ zero⁺ ≡ fin false 0 (pos 0)
unfolding mul
zero_times_zero f = zeros f false 1 (omega arith)

pub mul_not_negative : MulNotNegative
mul_not_negative f x y X Y p q = rw (← zero_times_zero f) (mul_mono f zero⁺ x zero⁺ y tt X tt Y (unfold le in tt) (unfold le in tt) p q)

pub square_not_negative : SquareNotNegative
unfolding mul
square_not_negative f nan X = absurd X
square_not_negative f (inf s) X = absurd X
square_not_negative f (fin true m e) X = sided_not_negative _ (round_sided f false (m * up e * (m * up e)) (down e * down e))
square_not_negative f (fin false m e) X = sided_not_negative _ (round_sided f false (m * up e * (m * up e)) (down e * down e))

-- ---- by a positive k, which is no zero and no infinity
module _ (f : Format) (k : Float) (K : T (positive k)) where
  keeps_infinite : (s : Bool) → mul f (inf s) k ≡ inf s
  keeps_infinite s = go k K
    where
      go : (k : Float) → T (positive k) → mul f (inf s) k ≡ inf s
      go nan K = absurd K
      go (inf t) K = absurd K
      go (fin true n d) K = absurd K
      go (fin false zero d) K = absurd K
      go (fin false (suc n) d) K = unfold mul in rw (eqb-suc-zero n) (ap inf (same s))
        where
          same : (s : Bool) → unlike s false ≡ s
          same true = refl
          same false = refl

  by_positive_mono : Monotone (λ x. mul f x k)
  by_positive_mono =
      monotone_of_finite (λ x. mul f x k) keeps_infinite (λ x X. mul_finite_number f x k X (positive-finite k K))
      (λ x y X Y h. mul_mono_by f x y k X Y (positive-finite k K) (positive_not_negative k K) h)

pub mul_mono_by_positive : MulMonotoneByPositive
mul_mono_by_positive f x y k K h = by_positive_mono f k K x y h

pub mul_number : MulNumber
mul_number f nan k K h = absurd (unfold is_nan in h)
mul_number f (inf s) k K h = rw (keeps_infinite f k K s) (unfold is_nan in tt)
mul_number f (fin s m e) k K h = mul_finite_number f (fin s m e) k tt (positive-finite k K)

pub mul_between : MulBetween
mul_between f l u l' u' x y L U L' U' p q b c =
    let X = between_finite l u x L U b in
    let Y = between_finite l' u' y L' U' c in
    record {
      from = mul_mono f l x l' y L X L' Y p q b.from c.from;
      to = mul_mono f x u y u' X U Y U' (le_transitive zero⁺ l x p b.from) (le_transitive zero⁺ l' y q c.from) b.to c.to;
    }

pub mul_between_by : MulBetweenBy
mul_between_by f l u x k L U K p b =
    let X = between_finite l u x L U b in
    record { from = mul_mono_by f l x k L X K p b.from; to = mul_mono_by f x u k X U K p b.to }

-- ---- |x × y|
magnitude_mul : (f : Format) (x y : Float) → T (finite x) → T (finite y) → magnitude (mul f x y) ≡ mul f (magnitude x) (magnitude y)
magnitude_mul f nan y X Y = absurd X
magnitude_mul f (inf s) y X Y = absurd X
magnitude_mul f (fin s m e) nan X Y = absurd Y
magnitude_mul f (fin s m e) (inf t) X Y = absurd Y
magnitude_mul f (fin s m e) (fin t n d) X Y = unfold mul in rw (magnitude_round f (unlike s t) (m * up e * (n * up d)) (down e * down d)) (unfold magnitude in refl)

pub mul_at_most : MulAtMost
mul_at_most f x y b c B C h k =
    let X = at_most_finite b x B h in
    let Y = at_most_finite c y C k in
    rw (magnitude_mul f x y X Y)
    (mul_mono f (magnitude x) b (magnitude y) c (magnitude_finite x X) B (magnitude_finite y Y) C (magnitude_not_negative x (finite_no_nan x X)) (magnitude_not_negative y (finite_no_nan y Y)) h k)

-- ---- quotients by a positive value
div_is : (f : Format) (s : Bool) (m : ℕ) (e : ℤ) (t : Bool) (n : ℕ) (d : ℤ) → 0 < n → div f (fin s m e) (fin t n d) ≡ round f (unlike s t) (m * up e * down d) (n * up d * down e)
unfolding div
div_is f s m e t n d N = go (eqb n 0) (eqb→eq n 0)
  where
    go : (z : Bool) → (T z → n ≡ 0) → cond z (cond (eqb m 0) nan (inf (unlike s t))) (round f (unlike s t) (m * up e * down d) (n * up d * down e)) ≡ round f (unlike s t) (m * up e * down d) (n * up d * down e)
    go true q = absurd (lt_irrefl 0 (subst (λ (k : ℕ). 0 < k) (q tt) N))
    go false q = refl

div_rounded : (f : Format) (x y : Float) → T (finite x) → T (positive y) → Rounded f (Pos x * Den y) (Neg x * Den y) (Pos y * Den x) (div f x y)
div_rounded f nan y X Y = absurd X
div_rounded f (inf s) y X Y = absurd X
div_rounded f (fin s m e) nan X Y = absurd Y
div_rounded f (fin s m e) (inf t) X Y = absurd Y
div_rounded f (fin s m e) (fin true n d) X Y = absurd Y
div_rounded f (fin s m e) (fin false n d) X Y = rw (div_is f s m e false n d (ltb→lt 0 n Y)) (record { sign = unlike s false; size = m * up e * down d; is = signs s (m * up e) (down d); rounded = refl })
  where
    signs : (s : Bool) (a k : ℕ) → Is (unlike s false) (a * k) (P s a * k) (N s a * k)
    signs true a k = omega arith
    signs false a k = omega arith

positive_part : (y : Float) → T (positive y) → 0 < Pos y
positive_part nan Y = absurd Y
positive_part (inf t) Y = absurd Y
positive_part (fin true n d) Y = absurd Y
positive_part (fin false n d) Y = mul-pos (ltb→lt 0 n Y) (up_pos d)

pub div_mono : DivMonotone
div_mono f x x' y y' X X' Y Y' p h k =
    let p' : NotNegative x' = le_transitive zero⁺ x x' p h in
    rounded_mono f _ _ _ _ _ _ (div f x y) (div f x' y') (mul-pos (positive_part y Y) (den_pos x)) (mul-pos (positive_part y' Y') (den_pos x')) (div_rounded f x y X Y) (div_rounded f x' y' X' Y')
    (rw (no_negative_part x X p, no_negative_part x' X' p')
    (spread (Pos x) (Den x) (Pos x') (Den x') (Pos y) (Den y) (Pos y') (Den y') (below_parts x x' X X' p p' h)
    (below_parts y' y (positive-finite y' Y') (positive-finite y Y) (positive_not_negative y' Y') (positive_not_negative y Y) k)))
  where
    spread : (a d a' d' b e b' e' : ℕ) → a * d' ≤ a' * d → b' * e ≤ b * e' → a * e * (b' * d') + 0 * e' * (b * d) ≤ a' * e' * (b * d) + 0 * e * (b' * d')
    spread a d a' d' b e b' e' h k = simp zero-mul (go (a * e * (b' * d')) (a' * e' * (b * d)) (le_trans (le_of_eq (swap a e b' d')) (le_trans (mul-le-mul h k) (le_of_eq (swap a' d b e')))))
      where
        swap : (a b c d : ℕ) → a * b * (c * d) ≡ a * d * (c * b)
        swap a b c d = simp (mul_assoc, mul_comm, mul_left_comm)

        go : (u v : ℕ) → u ≤ v → u + 0 ≤ v + 0
        go u v h = omega arith

zero_over : (f : Format) (y : Float) → T (positive y) → div f zero⁺ y ≡ zero⁺
zero_over f nan Y = absurd Y
zero_over f (inf t) Y = absurd Y
zero_over f (fin true n d) Y = absurd Y
zero_over f (fin false n d) Y = div_is f false 0 (pos 0) false n d (ltb→lt 0 n Y) ∙ rw (zero-mul (down d)) (zeros f false (n * up d * 1) (mul-pos (positive_part (fin false n d) Y) (omega arith)))

pub div_not_negative : DivNotNegative
div_not_negative f x y X Y p = rw (← zero_over f y Y) (div_mono f zero⁺ x y y tt X Y Y (le_self zero⁺ tt) p (le_self y (positive-finite y Y)))

pub div_not_positive : DivNotPositive
div_not_positive f nan y X Y h = absurd X
div_not_positive f (inf s) y X Y h = absurd X
div_not_positive f (fin s m e) nan X Y h = absurd Y
div_not_positive f (fin s m e) (inf t) X Y h = absurd Y
div_not_positive f (fin s m e) (fin true n d) X Y h = absurd Y
div_not_positive f (fin true m e) (fin false n d) X Y h =
    rw (div_is f true m e false n d (ltb→lt 0 n Y)) (sided_not_positive _ (round_sided f true (m * up e * down d) (n * up d * down e)))
div_not_positive f (fin false m e) (fin false n d) X Y h =
    let z = le→below (fin false m e) zero⁺ tt tt h in
    let w : m * up e ≡ 0 = omega arith in
    let N = ltb→lt 0 n Y in
    rw (div_is f false m e false n d N, w, zero-mul (down d), zeros f false (n * up d * down e) (mul-pos (mul-pos N (up_pos d)) (down_pos e))) (le_self zero⁺ tt)

-- ---- |x / y|
magnitude_div : (f : Format) (x y : Float) → T (finite x) → T (finite y) → T (positive (magnitude y)) → magnitude (div f x y) ≡ div f (magnitude x) (magnitude y)
magnitude_div f nan y X Y p = absurd X
magnitude_div f (inf s) y X Y p = absurd X
magnitude_div f (fin s m e) nan X Y p = absurd Y
magnitude_div f (fin s m e) (inf t) X Y p = absurd Y
magnitude_div f (fin s m e) (fin t n d) X Y p =
    unfold magnitude in
    let N = ltb→lt 0 n p in
    rw (div_is f s m e t n d N, div_is f false m e false n d N) (magnitude_round f (unlike s t) (m * up e * down d) (n * up d * down e))

pub div_at_most : DivAtMost
div_at_most f x y b c B C h k = go y k
  where
    X : T (finite x)
    X = at_most_finite b x B h

    b_not : NotNegative b
    b_not = le_transitive zero⁺ (magnitude x) b (magnitude_not_negative x (finite_no_nan x X)) h

    finite_y : (y : Float) → T (finite y) → T (le c (magnitude y)) → AtMost (div f b c) (div f x y)
    finite_y y Y k =
        let p = positive_above c (magnitude y) C (magnitude_finite y Y) k in
        rw (magnitude_div f x y X Y p) (div_mono f (magnitude x) b (magnitude y) c (magnitude_finite x X) B p C (magnitude_not_negative x (finite_no_nan x X)) h k)

    -- x / ±infinity is ±0
    infinite_y : (x : Float) (t : Bool) → T (finite x) → AtMost (div f b c) (div f x (inf t))
    infinite_y nan t X = absurd X
    infinite_y (inf s) t X = absurd X
    infinite_y (fin s m e) t X = unfold div magnitude in div_not_negative f b c B C b_not

    go : (y : Float) → T (le c (magnitude y)) → AtMost (div f b c) (div f x y)
    go nan k = absurd (no c k)
      where
        no : (c : Float) → T (le c (magnitude nan)) → ⊥
        no nan k = unfold magnitude le in k
        no (inf s) k = unfold magnitude le in k
        no (fin s m e) k = unfold magnitude le in k
    go (inf t) k = infinite_y x t X
    go (fin t n d) k = finite_y (fin t n d) tt k
