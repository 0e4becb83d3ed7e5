-- Whole numbers as floats: their sums, differences, products and quotients are exact; and bounds by them, of values that are not negative. Assumes nothing.
use mathlib.Core.Path.{◌≡◌, refl, sym, ap, ◌∙◌, subst}
use mathlib.Core.Logic.{inl, inr}
use Prim.Native.Nat.{ℕ, zero, suc, ◌+◌, ◌-◌, ◌*◌, ◌^◌, ◌≤◌, ◌<◌}
use native.Mathlib.Nat.{lt_irrefl, zero-mul, mul-pos, mul-one, mul_assoc, mul_comm, mul_left_comm}
use native.Mathlib.Omega.{arith}
use mathlib.Core.Bool.{true, false, true≢false}
use lib.Dec.{T, lit<}
use borrow.Author.Tests.{le-ltb, ne_eqb}
use lib.IntN.{ℤ}
use lib.Ieee.{Float, nan, inf, fin, binary64, up, down, round, sum, add, sub, mul, div, neg, of_int, le}
use lib.Ieee.Back.{round_whole}
use lib.Ieee.Exact.{HasValue}
use lib.Ieee.Fits.{down_pos}
use lib.Ieee.Order.{round_mono}
use lib.Ieee.Positive.{positive, positive_of_value}
use lib.Ieee.Scale.{finite, round_same}
use Rattle.numbers_spec.specs.Arithmetic.{◌⊕◌, ◌⊖◌, ◌⊗◌, ◌⊘◌, zero⁺, real}
use Rattle.numbers_spec.proofs.Value.{finite_no_nan}
use Rattle.numbers_spec.specs.Values.{Between}
use Rattle.numbers_spec.proofs.Order.{le_self, le_total, le_transitive, between_finite}
use Rattle.numbers_spec.proofs.Sums.{add_mono, add_not_negative, sub_mono, sub_anti, sub_not_negative}
use Rattle.numbers_spec.proofs.Products.{mul_mono, mul_not_negative, div_mono, div_not_negative}

-- ---- whole numbers are added, subtracted, multiplied and divided exactly
-- n as a float, in its one way of writing
record Written (n : ℕ) : Type 0 where
  digits : ℕ
  power : ℤ
  is : real n ≡ fin false digits power
  value : digits * up power ≡ n * down power

written : (n : ℕ) → n ≤ 2 ^ 53 → Written n
written n h = go (real n) refl (unfold of_int in round_whole binary64 false n h)
  where
    go : (x : Float) → real n ≡ x → HasValue x false n 1 → Written n
    go nan e v = absurd v
    go (inf s) e v = absurd v
    go (fin true m p) e v = absurd (true≢false v.0)
    go (fin false m p) e v = record { digits = m; power = p; is = e; value = let w = v.1 in omega arith }

module _ (a b : ℕ) (A : a ≤ 2 ^ 53) (B : b ≤ 2 ^ 53) where
  p : Written a
  p = written a A

  q : Written b
  q = written b B

  -- both over one denominator
  abbrev c : ℕ
  c = down p.power * down q.power

  C : 0 < c
  C = mul-pos (down_pos p.power) (down_pos q.power)

  left : p.digits * up p.power * down q.power ≡ a * c
  left = rw p.value (mul_assoc a (down p.power) (down q.power))

  right : q.digits * up q.power * down p.power ≡ b * c
  right = rw q.value (mul_assoc b (down q.power) (down p.power) ∙ ap (λ (k : ℕ). b * k) (mul_comm (down q.power) (down p.power)))

  pub real_add : real a ⊕ real b ≡ real (a + b)
  real_add = rw (p.is, q.is) (unfold add sum of_int in rw (left, right) (round_same binary64 false (a * c + b * c) c (a + b) 1 C (lit< tt) (omega arith)))

  pub real_sub : (k : ℕ) → a ≡ b + k → real a ⊖ real b ≡ real k
  real_sub k h =
      rw (p.is, q.is)
      (unfold sub neg add sum of_int in rw (left, right, le-ltb (a * c) (b * c) (less c).0) (round_same binary64 false (a * c - b * c) c k 1 C (lit< tt) (less c).1))
    where
      less : (c : ℕ) → (b * c ≤ a * c) × ((a * c - b * c) * 1 ≡ k * c)
      less c = let z : a * c ≡ (b + k) * c = ap (λ (i : ℕ). i * c) h in (omega arith, omega arith)

  pub real_mul : real a ⊗ real b ≡ real (a * b)
  real_mul = rw (p.is, q.is) (unfold mul of_int in rw (p.value, q.value) (round_same binary64 false (a * down p.power * (b * down q.power)) c (a * b) 1 C (lit< tt) (simp (mul_assoc, mul_left_comm, mul-one))))

  pub real_div : (k : ℕ) → a ≡ k * b → 0 < b → real a ⊘ real b ≡ real k
  real_div k h D =
      rw (p.is, q.is)
      (unfold div of_int in rw (ne_eqb q.digits 0 some, left, right) (round_same binary64 false (a * c) (b * c) k 1 (mul-pos D C) (lit< tt) (mul-one (a * c) ∙ ap (λ (x : ℕ). x * c) h ∙ mul_assoc k b c)))
    where
      some : q.digits ≡ 0 → ⊥
      some z = lt_irrefl 0 (subst (λ (x : ℕ). 0 < x) (sym q.value ∙ ap (λ (x : ℕ). x * up q.power) z ∙ zero-mul (up q.power)) (mul-pos D (down_pos q.power)))

pub real_finite : (n : ℕ) → n ≤ 2 ^ 53 → T (finite (real n))
real_finite n h = rw (written n h).is tt

pub real_mono : (a b : ℕ) → a ≤ b → T (le (real a) (real b))
unfolding of_int
real_mono a b h = round_mono binary64 a 1 b 1 (lit< tt) (lit< tt) (omega arith)

-- ---- values from 0 to a whole number
abbrev pub Upto : ℕ → Float → Type 0
Upto n x = Between zero⁺ (real n) x

pub upto_finite : (n : ℕ) (x : Float) → n ≤ 2 ^ 53 → Upto n x → T (finite x)
upto_finite n x N h = between_finite zero⁺ (real n) x tt (real_finite n N) h

pub upto_more : (a b : ℕ) (x : Float) → a ≤ b → Upto a x → Upto b x
upto_more a b x l h = record { from = h.from; to = le_transitive x (real a) (real b) h.to (real_mono a b l) }

module _ (a b : ℕ) (x y : Float) (A : a ≤ 2 ^ 53) (B : b ≤ 2 ^ 53) (h : Upto a x) (k : Upto b y) where
  X : T (finite x)
  X = upto_finite a x A h

  Y : T (finite y)
  Y = upto_finite b y B k

  pub upto_add : Upto (a + b) (x ⊕ y)
  upto_add = record {
    from = add_not_negative binary64 x y X Y h.from k.from;
    to = rw (← real_add a b A B) (add_mono binary64 x (real a) y (real b) X (real_finite a A) Y (real_finite b B) h.to k.to);
  }

  pub upto_mul : Upto (a * b) (x ⊗ y)
  upto_mul = record {
    from = mul_not_negative binary64 x y X Y h.from k.from;
    to = rw (← real_mul a b A B) (mul_mono binary64 x (real a) y (real b) X (real_finite a A) Y (real_finite b B) h.from k.from h.to k.to);
  }

pub upto_real : (k : ℕ) → k ≤ 2 ^ 53 → Upto k (real k)
upto_real k K = record { from = unfold of_int round in real_mono 0 k (omega arith); to = le_self (real k) (real_finite k K) }

-- a difference, where x is at most k above a whole number that y reaches
pub upto_sub : (c k : ℕ) (x y : Float) → c + k ≤ 2 ^ 53 → Upto (c + k) x → T (finite y) → T (le (real c) y) → T (le y x) → Upto k (x ⊖ y)
upto_sub c k x y C h Y l g =
    let X = upto_finite (c + k) x C h in
    let U = real_finite (c + k) C in
    record {
      from = sub_not_negative binary64 x y X Y g;
      to = le_transitive (x ⊖ y) (real (c + k) ⊖ y) (real k) (sub_mono binary64 x (real (c + k)) y X U Y h.to)
          (rw (real_sub (c + k) c C (omega arith) k refl) at (sub_anti binary64 (real (c + k)) (real c) y U (real_finite c (omega arith)) Y l));
    }

-- a quotient by a whole number
pub real_positive : (n : ℕ) → 0 < n → n ≤ 2 ^ 53 → T (positive (real n))
unfolding of_int
real_positive n N h = positive_of_value (real n) n 1 (round_whole binary64 false n h) N

pub upto_div : (n k : ℕ) (x : Float) → 0 < k → k ≤ 2 ^ 53 → n * k ≤ 2 ^ 53 → Upto (n * k) x → Upto n (x ⊘ real k)
upto_div n k x C K N h =
    let X = upto_finite (n * k) x N h in
    let D = real_positive k C K in
    record {
      from = div_not_negative binary64 x (real k) X D h.from;
      to = rw (real_div (n * k) k N K n refl C) at (div_mono binary64 x (real (n * k)) (real k) (real k) X (real_finite (n * k) N) D D h.from h.to (le_self (real k) (real_finite k K)));
    }

-- ---- the whole numbers beside a value
pub record Beside (n : ℕ) (x : Float) : Type 0 where
  pub c : ℕ
  pub few : c ≤ n
  pub above : T (le (real c) x)
  pub upto : Upto (suc c) x

pub beside : (n : ℕ) (x : Float) → n ≤ 2 ^ 53 → Upto n x → Beside n x
beside zero x N h = record { c = 0; few = omega arith; above = unfold of_int round in h.from; upto = upto_more 0 1 x (omega arith) h }
beside (suc n) x N h =
    elim (le_total x (real n) (finite_no_nan x (upto_finite (suc n) x N h)) (finite_no_nan (real n) (real_finite n (omega arith)))) [
      | inl l ↦ let b = beside n x (omega arith) (record { from = h.from; to = l }) in record { c = b.c; few = let k = b.few in omega arith; above = b.above; upto = b.upto }
      | inr l ↦ record { c = n; few = omega arith; above = l; upto = h }
    ]
