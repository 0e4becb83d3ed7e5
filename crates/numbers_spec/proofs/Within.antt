-- Bounds n * 2 ^ p: sums, differences, products, quotients and running sums of values within them are finite and bounded again, since rounding keeps the order. Assumes nothing.
use mathlib.Core.Path.{◌≡◌, refl, sym, ap, ◌∙◌, subst}
use Prim.Native.Nat.{ℕ, suc, ◌+◌, ◌*◌, ◌^◌, ◌≤◌, ◌<◌}
use native.Mathlib.Nat.{le_trans, le_of_eq, lt_irrefl, mul-one, mul_comm, mul_assoc, mul_left_comm, mul_right_comm, mul-le-mul_right, mul-le-mul, mul-pos, le_of_mul-le-mul_right, add-mul, zero-mul, zero-add, mul-lt-mul_of_pos_right, lt_of_le_of_lt, lt_of_lt_of_le}
use native.Mathlib.Omega.{arith}
use mathlib.Core.Bool.{Bool, true, false, cond, true≢false}
use mathlib.Core.List.{List}
use lib.ListN.{length}
use lib.IntN.{pos}
use lib.Dec.{T, lit<, eqb, eqb→eq}
use lib.Pow.{pow-add, pow_pos}
use lib.Ieee.{Float, nan, inf, fin, Format, emax, low, up, down, unlike, round, add, sub, mul, div, neg, le}
use lib.Ieee.Fits.{down_pos}
use lib.Ieee.Exact.{HasValue, round_exact}
use lib.Ieee.Order.{round_mono}
use lib.Ieee.Positive.{first_pos}
use lib.Ieee.Scale.{finite}
use Rattle.numbers_spec.specs.Arithmetic.{zero⁺, one, magnitude}
use Rattle.numbers_spec.proofs.Sign.{neg_round}
use Rattle.numbers_spec.specs.Values.{sided, size, Den, Within, Holds, Each, nothing, each, running}
use Rattle.numbers_spec.specs.FloatLaws.{AddWithin, SubWithin, MulWithin, DivWithin, LeGivesSize, OneGivesSize, RoundWithin, WithinGivesAtMost, AtMostGivesWithin, RunningWithin, SumWithin}
use Rattle.numbers_spec.proofs.Order.{Pos, Neg, den_pos, tested→ordered, below→le, le→below, cross}
use Rattle.numbers_spec.proofs.Rounding.{round_sided, is_le}
use Rattle.numbers_spec.proofs.Sums.{add_rounded}

-- ---- a fraction not above n * 2 ^ p, rounded
-- a value that is not negative and lies under one of size B
under : (B : ℕ) (x y : Float) → T (sided false x) → T (le x y) → HasValue y false B 1 → T (finite x) × (size x ≤ B * Den x)
unfolding le
under B nan y u h k = absurd u
under B (inf true) y u h k = absurd u
under B (inf false) nan u h k = absurd h
under B (inf false) (inf t) u h k = absurd k
under B (inf false) (fin t n d) u h k = absurd h
under B (fin true m e) y u h k = absurd u
under B (fin false m e) nan u h k = absurd h
under B (fin false m e) (inf t) u h k = absurd k
under B (fin false m e) (fin true n d) u h k = absurd (true≢false k.0)
under B (fin false m e) (fin false n d) u h k =
    let z : m * up e * down d + 0 ≤ n * up d * down e + 0 = tested→ordered false (m * up e * down d) false (n * up d * down e) h in
    let v : n * up d ≡ B * down d = sym (mul-one (n * up d)) ∙ k.1 in
    (tt, le_of_mul-le-mul_right (le_trans (plain _ _ z) (le_of_eq (ap (λ (x : ℕ). x * down e) v ∙ mul_right_comm B (down d) (down e)))) (down_pos d))
  where
    plain : (a b : ℕ) → a + 0 ≤ b + 0 → a ≤ b
    plain a b h = omega arith

round_plain : (f : Format) (n p a c : ℕ) → 0 < c → Holds f n p → a ≤ n * 2 ^ p * c → Within n p (round f false a c)
round_plain f n p a c C H h =
    let B = n * 2 ^ p in
    let sh : n * 2 ^ (p + low f) ≡ B * 2 ^ low f = ap (λ (x : ℕ). n * x) (pow-add 2 p (low f)) ∙ sym (mul_assoc n (2 ^ p) (2 ^ low f)) in
    let room : n * 2 ^ (p + low f) < 2 ^ (low f + suc (emax f)) = subst (λ (x : ℕ). x < 2 ^ (low f + suc (emax f))) (sym sh) (subst (λ (x : ℕ). B * 2 ^ low f < x) (mul_comm (2 ^ suc (emax f)) (2 ^ low f) ∙ sym (pow-add 2 (low f) (suc (emax f)))) (mul-lt-mul_of_pos_right H.room (pow_pos (low f)))) in
    let v : HasValue (round f false B 1) false B 1 = round_exact f false B 1 n (p + low f) (lit< tt) H.few room (sym sh ∙ sym (mul-one (n * 2 ^ (p + low f)))) in
    let r = under B (round f false a c) (round f false B 1) (round_sided f false a c) (round_mono f a c B 1 C (lit< tt) (le_trans (le_of_eq (mul-one a)) h)) v in
    record { finite_is = r.0; small = r.1 }

neg_within : (n p : ℕ) (x : Float) → Within n p x → Within n p (neg x)
unfolding neg
neg_within n p nan h = h
neg_within n p (inf s) h = absurd h.finite_is
neg_within n p (fin s m e) h = record { finite_is = tt; small = h.small }

pub round_within : RoundWithin
round_within f false n p a c C H h = round_plain f n p a c C H h
round_within f true n p a c C H h = rw (← neg_round f a c) (neg_within n p (round f false a c) (round_plain f n p a c C H h))

-- ---- sums
parts : (x : Float) → Pos x + Neg x ≡ size x
parts nan = refl
parts (inf s) = refl
parts (fin true m e) = omega arith
parts (fin false m e) = omega arith

pub add_within : AddWithin
add_within f n n' p x y H X Y =
    let z = add_rounded f x y X.finite_is Y.finite_is in
    rw z.rounded
    (round_within f z.sign (n + n') p z.size (Den x * Den y) (mul-pos (den_pos x) (den_pos y)) H
    (le_trans (is_le z.sign z.size _ _ z.is) (le_trans (le_of_eq (gather (Pos x) (Neg x) (Den x) (Pos y) (Neg y) (Den y)))
    (total (Pos x + Neg x) (Pos y + Neg y) (Den x) (Den y) (n * 2 ^ p) (n' * 2 ^ p) ((n + n') * 2 ^ p) (subst (λ (k : ℕ). k ≤ n * 2 ^ p * Den x) (sym (parts x)) X.small) (subst (λ (k : ℕ). k ≤ n' * 2 ^ p * Den y) (sym (parts y)) Y.small) (add-mul n n' (2 ^ p))))))
  where
    gather : (px nx dx py ny dy : ℕ) → px * dy + py * dx + (nx * dy + ny * dx) ≡ (px + nx) * dy + (py + ny) * dx
    gather px nx dx py ny dy = omega arith

    total : (a b dx dy A B C : ℕ) → a ≤ A * dx → b ≤ B * dy → C ≡ A + B → a * dy + b * dx ≤ C * (dx * dy)
    total a b dx dy A B C h k e =
        let u : a * dy ≤ A * (dx * dy) = le_trans (mul-le-mul_right dy h) (le_of_eq (mul_assoc A dx dy)) in
        let v : b * dx ≤ B * (dx * dy) = le_trans (mul-le-mul_right dx k) (le_of_eq (mul_assoc B dy dx ∙ ap (λ (x : ℕ). B * x) (mul_comm dy dx))) in
        rw e (le_trans (add_le _ _ _ _ u v) (le_of_eq (sym (add-mul A B (dx * dy)))))
      where
        add_le : (a b c d : ℕ) → a ≤ c → b ≤ d → a + b ≤ c + d
        add_le a b c d h k = omega arith

pub sub_within : SubWithin
unfolding sub
sub_within f n n' p x y H X Y = add_within f n n' p x (neg y) H X (neg_within n' p y Y)

-- ---- products and quotients
pub mul_within : MulWithin
unfolding mul
mul_within f n n' p p' nan y H X Y = absurd X.finite_is
mul_within f n n' p p' (inf s) y H X Y = absurd X.finite_is
mul_within f n n' p p' (fin s m e) nan H X Y = absurd Y.finite_is
mul_within f n n' p p' (fin s m e) (inf t) H X Y = absurd Y.finite_is
mul_within f n n' p p' (fin s m e) (fin t k d) H X Y =
    round_within f (unlike s t) (n * n') (p + p') (m * up e * (k * up d)) (down e * down d) (mul-pos (down_pos e) (down_pos d)) H
    (le_trans (mul-le-mul X.small Y.small) (le_of_eq (regroup n (2 ^ p) (down e) n' (2 ^ p') (down d) ∙ ap (λ (x : ℕ). n * n' * x * (down e * down d)) (sym (pow-add 2 p p')))))
  where
    regroup : (a b c d e f : ℕ) → a * b * c * (d * e * f) ≡ a * d * (b * e) * (c * f)
    regroup a b c d e f = simp (mul_assoc, mul_left_comm)

pub div_within : DivWithin
unfolding div
div_within f n p k nan y H X Y h = absurd X.finite_is
div_within f n p k (inf s) y H X Y h = absurd X.finite_is
div_within f n p k (fin s m e) nan H X Y h = absurd Y
div_within f n p k (fin s m e) (inf t) H X Y h = absurd Y
div_within f n p k (fin s m e) (fin t o d) H X Y h = go (eqb o 0) (eqb→eq o 0)
  where
    Z : 0 < o * up d
    Z = first_pos (o * up d) (2 ^ k) (lt_of_lt_of_le (down_pos d) h)

    bound : m * up e * down d ≤ n * 2 ^ (p + k) * (o * up d * down e)
    bound =
        le_trans (mul-le-mul X.small h)
        (le_of_eq (regroup n (2 ^ p) (down e) (o * up d) (2 ^ k) ∙ ap (λ (x : ℕ). n * x * (o * up d * down e)) (sym (pow-add 2 p k))))
      where
        regroup : (a b c d e : ℕ) → a * b * c * (d * e) ≡ a * (b * e) * (d * c)
        regroup a b c d e = simp (mul_assoc, mul_comm, mul_left_comm)

    zero_size : (o u : ℕ) → o ≡ 0 → 0 < o * u → ⊥
    zero_size o u e h = lt_irrefl 0 (subst (λ (x : ℕ). 0 < x) (ap (λ (x : ℕ). x * u) e ∙ zero-mul u) h)

    go : (b : Bool) → (T b → o ≡ 0) → Within n (p + k) (cond b (cond (eqb m 0) nan (inf (unlike s t))) (round f (unlike s t) (m * up e * down d) (o * up d * down e)))
    go true q = absurd (zero_size o (up d) (q tt) Z)
    go false q = round_within f (unlike s t) n (p + k) (m * up e * down d) (o * up d * down e) (mul-pos Z (down_pos e)) H bound

pub le→size : LeGivesSize
unfolding le
le→size k nan Y h = absurd Y
le→size k (inf s) Y h = absurd Y
le→size k (fin true m e) Y h = absurd (lt_irrefl 0 (let z = tested→ordered false (1 * 1 * down e) true (m * up e * 2 ^ suc k) h in let d = down_pos e in omega arith))
le→size k (fin false m e) Y h =
    let z : 1 * 1 * down e + 0 ≤ m * up e * 2 ^ suc k + 0 = tested→ordered false (1 * 1 * down e) false (m * up e * 2 ^ suc k) h in
    omega arith

pub one→size : OneGivesSize
one→size nan Y h = absurd Y
one→size (inf s) Y h = absurd Y
one→size (fin true m e) Y h = let z = le→below one (fin true m e) tt tt h in let d = down_pos e in omega arith
one→size (fin false m e) Y h = let z = le→below one (fin false m e) tt tt h in omega arith

-- ---- the same bound as a float
pub within_at_most : WithinGivesAtMost
within_at_most n p nan X = absurd X.finite_is
within_at_most n p (inf s) X = absurd X.finite_is
within_at_most n p (fin s m e) X = unfold magnitude in below→le (fin false m e) (fin false n (pos p)) tt tt (let k = X.small in omega arith)

pub at_most_within : AtMostGivesWithin
unfolding magnitude
at_most_within n p nan h = absurd (unfold le in h)
at_most_within n p (inf s) h = absurd (unfold le in h)
at_most_within n p (fin s m e) h = record { finite_is = tt; small = let k = cross m e n (pos p) h in omega arith }

-- ---- running sums: what the prefix sums, the dot product's lanes and the sum over the bands are
running_within_from : (p : ℕ) (f : Format) (n : ℕ) (s : Float) (l : List Float) → Holds f (n + length l) p → Within n p s → Each p l → Within (n + length l) p (running f s l)
running_within_from p f n s l H S nothing = subst (λ (k : ℕ). Within k p s) (plus_zero n) S
  where
    plus_zero : (n : ℕ) → n ≡ n + 0
    plus_zero n = omega arith
running_within_from p f n s l H S (each {x = x} {l = k} h t) =
    subst (λ (j : ℕ). Within j p (running f (add f s x) k)) (shift n (length k))
    (running_within_from p f (n + 1) (add f s x) k (subst (λ (j : ℕ). Holds f j p) (sym (shift n (length k))) H)
    (add_within f n 1 p s x (record { few = lt_of_le_of_lt (less n (length k)) H.few; room = lt_of_le_of_lt (mul-le-mul_right (2 ^ p) (less n (length k))) H.room }) S h) t)
  where
    shift : (n m : ℕ) → n + 1 + m ≡ n + suc m
    shift n m = omega arith

    less : (n m : ℕ) → n + 1 ≤ n + suc m
    less n m = omega arith

pub running_within : RunningWithin
running_within f n p = running_within_from p f n

pub sum_within : SumWithin
sum_within f p l H h =
    subst (λ (j : ℕ). Within j p (running f zero⁺ l)) (zero-add (length l))
    (running_within f 0 p zero⁺ l (subst (λ (j : ℕ). Holds f j p) (sym (zero-add (length l))) H) (record { finite_is = tt; small = omega arith }) h)
