-- `numbers::exponential::two_to` meets its contract. Assumes nothing.
use Rattle.std.proofs.Common.{◌≡◌, ℕ, ◌+◌, ◌-◌, ◌*◌, ◌/◌, ◌^◌, ◌<◌, ◌≤◌, Bool, true, false, cond, ◌&&◌, ◌||◌, T, eqb, ltb, pos, sym, refl, ap, ◌∙◌, subst, true≢false, le_trans, le_of_eq, lt_of_lt_of_le, le-add_right, lt_of_le_of_lt, le_of_lt, div-lt_iff_lt-mul, mul-lt-mul_of_pos_right, mul-pos, one-mul, le-add_left, arith, lit<, lit≤, eqb→eq, ltb→lt, lt→ltb}
use mathlib.Core.Bool.{false≢true}
use native.Mathlib.Nat.{min-le_left}
use lib.Ieee.{Float, nan, inf, fin, binary64, up, down, add, lt, le, of_bits, to_unsigned}
use lib.Ieee.Fits.{down_pos, and_r}
use Rattle.numbers_spec.specs.Arithmetic.{one}
use Rattle.numbers_spec.specs.Exponential.{two_to}
use Rattle.numbers_spec.proofs.Rooted.{no_nan_bits}
use Rattle.numbers.proofs.exponential.two_to.Goals as goal
use Rattle.numbers.proofs.exponential.two_to.Goals.{else-field-via-then-field+else-field-2, else-field-via-else-field}

-- a ≤ b, as `le` tests it
le_nat : (a b : ℕ) → T (ltb a b || (eqb a b && true)) → a ≤ b
le_nat a b t = go (ltb a b) (eqb a b) (ltb→lt a b) (eqb→eq a b) t
  where
    go : (x y : Bool) → (T x → a < b) → (T y → a ≡ b) → T (x || (y && true)) → a ≤ b
    go true y h g u = le_of_lt (h tt)
    go false true h g u = le_of_eq (g tt)
    go false false h g u = absurd u

holds : (b : Bool) → b ≡ true → T b
holds b e = subst T (sym e) tt

pos_sum : (a b : ℕ) → 0 < b → T (ltb 0 (a + b))
pos_sum a b h = lt→ltb 0 (a + b) (lt_of_lt_of_le h (le-add_left b a))

zero_no : (a b : ℕ) → 0 < a → T (eqb a b && (false || eqb a 0)) → ⊥
zero_no a b h t = no a h (eqb→eq a 0 (and_r (eqb a b) (eqb a 0) t))
  where
    no : (x : ℕ) → 0 < x → x ≡ 0 → ⊥
    no x k e = omega arith

above : (u : Float) → le one u ≡ true → T (lt (fin true 1 (pos 0)) u)
unfolding le lt
above nan h = absurd (false≢true h)
above (inf true) h = absurd (false≢true h)
above (inf false) h = tt
above (fin true m e) h = absurd (zero_no (1 * down e) (m * up e * 1) (subst (λ (x : ℕ). 0 < x) (sym (one-mul (down e))) (down_pos e)) (holds _ h))
above (fin false m e) h = lt→ltb 0 (1 * down e + m * up e * 1) (lt_of_lt_of_le (subst (λ (x : ℕ). 0 < x) (sym (one-mul (down e))) (down_pos e)) (le-add_right (1 * down e) (m * up e * 1)))

most : (u : Float) → le u (fin false 1023 (pos 1)) ≡ true → to_unsigned 64 u ≤ 2046
unfolding le to_unsigned
most nan h = lit≤ tt
most (inf true) h = lit≤ tt
most (inf false) h = absurd (false≢true h)
most (fin true m e) h = lit≤ tt
most (fin false m e) h = le_trans (min-le_left (m * up e / down e) (2 ^ 64 - 1)) (cut (m * up e) (down e) (down_pos e) (le_nat (m * up e * 1) (2046 * down e) (holds _ h)))
  where
    cut : (a d : ℕ) → 0 < d → a * 1 ≤ 2046 * d → a / d ≤ 2046
    cut a d D k = under (a / d) ((div-lt_iff_lt-mul D).1 (less a d D k))
      where
        less : (x y : ℕ) → 0 < y → x * 1 ≤ 2046 * y → x < 2047 * y
        less x y p q = omega arith

        under : (x : ℕ) → x < 2047 → x ≤ 2046
        under x p = omega arith

below : (u : Float) → le u (fin false 1023 (pos 1)) ≡ true → T (lt u (fin false 1 (pos 64)))
unfolding le lt
below nan h = absurd (false≢true h)
below (inf true) h = tt
below (inf false) h = absurd (false≢true h)
below (fin true m e) h = pos_sum (m * up e * 1) (2 ^ 64 * down e) (mul-pos (lit< tt) (down_pos e))
below (fin false m e) h = lt→ltb (m * up e * 1) (2 ^ 64 * down e) (lt_of_le_of_lt (le_nat (m * up e * 1) (2046 * down e) (holds _ h)) (mul-lt-mul_of_pos_right (lit< tt) (down_pos e)))

small : (n t : ℕ) → n ≡ t → t ≤ 2046 → n * 4503599627370496 ≤ 9218868437227405312
small n t e h = omega arith

-- by the two tests
abbrev by : Bool → Bool → ℕ → Float
by a b n = cond (a && b) (of_bits binary64 (n * 4503599627370496)) nan

opened : (k : Float) → two_to k ≡ by (le one (add binary64 k (of_bits binary64 0x408ff80000000000))) (le (add binary64 k (of_bits binary64 0x408ff80000000000)) (of_bits binary64 0x409ff80000000000)) (to_unsigned 64 (add binary64 k (of_bits binary64 0x408ff80000000000)))
unfolding two_to
opened k = refl

inside : (a b : Bool) (n t : ℕ) → a ≡ true → b ≡ true → n ≡ t → of_bits binary64 (n * 4503599627370496) ≡ by a b t
inside true true n t p q e = ap (λ (x : ℕ). of_bits binary64 (x * 4503599627370496)) e
inside true false n t p q e = absurd (false≢true q)
inside false b n t p q e = absurd (false≢true p)

outside : (a b : Bool) (t : ℕ) → (a && b) ≡ false → nan ≡ by a b t
outside a b t e = ap (λ (x : Bool). cond x (of_bits binary64 (t * 4503599627370496)) nan) (sym e)

first_no : (a b : Bool) → a ≡ false → (a && b) ≡ false
first_no true b e = absurd (true≢false e)
first_no false b e = refl

second_no : (a b : Bool) → b ≡ false → (a && b) ≡ false
second_no true b e = e
second_no false b e = refl

pub truncating_f64_to_u64-requires : goal.truncating_f64_to_u64-requires
unfolding of_bits
truncating_f64_to_u64-requires c = record { lower_bound = above _ c.if-field.true; upper_bound = below _ c.if-field-2.true }

pub overflow_mul-result : goal.overflow_mul-result
unfolding of_bits
overflow_mul-result c =
    omega (arith, small c.truncating_f64_to_u64.result _ c.truncating_f64_to_u64.ensures (most _ c.if-field-2.true))

pub float_from_bits-result : goal.float_from_bits-result
unfolding of_bits
float_from_bits-result c =
    no_nan_bits (c.truncating_f64_to_u64.result * 4503599627370496) (small c.truncating_f64_to_u64.result _ c.truncating_f64_to_u64.ensures (most _ c.if-field-2.true))

pub returns-then-field-2 : goal.returns-then-field-2
unfolding of_bits
returns-then-field-2 c =
    let k = c.args.k in
    inside _ _ c.truncating_f64_to_u64.result _ c.if-field.true c.if-field-2.true c.truncating_f64_to_u64.ensures ∙ sym (opened k)

pub returns : goal.returns
unfolding of_bits
returns c =
    let u = add binary64 c.args.k (of_bits binary64 0x408ff80000000000) in
    let l = le one u in
    let m = le u (of_bits binary64 0x409ff80000000000) in
    outside l m (to_unsigned 64 u)
    (elim c.else-field.branch [ else-field-via-then-field+else-field-2 w ↦ second_no l m w.if-field-2.false | else-field-via-else-field w ↦ first_no l m w.if-field.false ])
    ∙ sym (opened c.args.k)
