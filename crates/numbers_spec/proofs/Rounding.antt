-- Signed fractions rounded: `round` keeps the order of (p - q) / c for all signs, and gives its own side of zero. Assumes nothing.
use mathlib.Core.Path.{◌≡◌, refl, ap, ◌∙◌}
use Prim.Native.Nat.{ℕ, zero, suc, ◌+◌, ◌-◌, ◌*◌, ◌^◌, ◌≤◌, ◌<◌}
use native.Mathlib.Nat.{lt_irrefl, zero-mul, le_of_mul-le-mul_right}
use native.Mathlib.Omega.{arith}
use mathlib.Core.Bool.{Bool, true, false, beq, cond}
use lib.IntN.{pos}
use lib.Dec.{T, lit<, ltb}
use lib.Ieee.{Float, nan, inf, fin, Format, binary32, binary64, prec, emax, low, odd, units, round, le, fits, is_nan}
use lib.Ieee.Back.{whole_unique}
use lib.Ieee.Fits.{round_is}
use lib.Ieee.Order.{round_mono}
use lib.Ieee.Scale.{round_same}
use Rattle.numbers_spec.specs.Arithmetic.{zero⁺, magnitude}
use Rattle.numbers_spec.proofs.Sign.{neg_round}
use Rattle.numbers_spec.specs.Values.{NotNegative, sided}
use Rattle.numbers_spec.specs.FloatLaws.{SidedNumber, SidedZero}
use Rattle.numbers_spec.proofs.Order.{P, N, below→le, cross, le_transitive, neg_le, magnitude_neg}

-- ---- x lies on the side s of zero, and is no NaN
beq_refl : (s : Bool) → T (beq s s)
beq_refl true = tt
beq_refl false = tt

odd_sided : (d : ℕ) (s : Bool) (q k l : ℕ) → T (sided s (odd d s q k l))
unfolding odd
odd_sided d s zero k l = beq_refl s
odd_sided d s (suc q) k l = beq_refl s

units_sided : (f : Format) (s : Bool) (q k : ℕ) → T (sided s (units f s q k))
unfolding units
units_sided f s q k = go (ltb (q * 2 ^ k) (2 ^ (low f + suc (emax f))))
  where
    go : (b : Bool) → T (sided s (cond b (odd (suc (prec f)) s q k (low f)) (inf s)))
    go true = odd_sided (suc (prec f)) s q k (low f)
    go false = beq_refl s

pub round_sided : (f : Format) (s : Bool) (a c : ℕ) → T (sided s (round f s a c))
round_sided f s a c = rw (round_is f s a c) (units_sided f s _ _)

pub sided_number : SidedNumber
unfolding is_nan
sided_number s nan h = h
sided_number s (inf t) h = tt
sided_number s (fin t m e) h = tt

pub sided_not_negative : (x : Float) → T (sided false x) → NotNegative x
unfolding le
sided_not_negative nan h = absurd h
sided_not_negative (inf true) h = absurd h
sided_not_negative (inf false) h = tt
sided_not_negative (fin true m e) h = absurd h
sided_not_negative (fin false m e) h = below→le zero⁺ (fin false m e) tt tt (omega arith)

pub sided_not_positive : (x : Float) → T (sided true x) → T (le x zero⁺)
unfolding le
sided_not_positive nan h = absurd h
sided_not_positive (inf true) h = tt
sided_not_positive (inf false) h = absurd h
sided_not_positive (fin true m e) h = below→le (fin true m e) zero⁺ tt tt (omega arith)
sided_not_positive (fin false m e) h = absurd h

pub sided_zero : SidedZero
sided_zero nan f h k = absurd h
sided_zero (inf true) f h k = absurd h
sided_zero (inf false) f h k = absurd (unfold le in k)
sided_zero (fin true m e) f h k = absurd h
sided_zero (fin false m e) f h k = let z = cross m e 0 (pos 0) k in whole_unique binary64 (fin false m e) zero⁺ false 0 f (unfold fits in tt) (refl, omega arith) (refl, refl)

-- ---- what is rounded, by its size
plain : (x : Float) → T (sided false x) → magnitude x ≡ x
unfolding magnitude
plain nan h = refl
plain (inf true) h = absurd h
plain (inf false) h = refl
plain (fin true m e) h = absurd h
plain (fin false m e) h = refl

pub magnitude_round : (f : Format) (s : Bool) (n c : ℕ) → magnitude (round f s n c) ≡ round f false n c
magnitude_round f false n c = plain (round f false n c) (round_sided f false n c)
magnitude_round f true n c = rw (← neg_round f n c, magnitude_neg) (plain (round f false n c) (round_sided f false n c))

at_one : (f : Format) (s : Bool) → round f s 0 1 ≡ fin s 0 (pos 0)
unfolding round
at_one binary32 true = refl
at_one binary32 false = refl
at_one binary64 true = refl
at_one binary64 false = refl

pub zeros : (f : Format) (s : Bool) (c : ℕ) → 0 < c → round f s 0 c ≡ fin s 0 (pos 0)
zeros f s c C = round_same f s 0 c 0 1 C (lit< tt) (simp zero-mul) ∙ at_one f s

zero_le_zero : T (le zero⁺ (fin true 0 (pos 0)))
unfolding le
zero_le_zero = tt

-- ---- a signed fraction rounded: r and n are the sign and the size of (p - q) / c
abbrev pub Is : Bool → ℕ → ℕ → ℕ → Type 0
Is true n p q = n + p ≡ q
Is false n p q = n + q ≡ p

zero_of : (n c r : ℕ) → 0 < c → n * c + r ≡ 0 → n ≡ 0
zero_of zero c r C h = refl
zero_of (suc n) c r C h = absurd (lt_irrefl 0 (omega arith))

pub signed_mono : (f : Format) (r : Bool) (n p q c : ℕ) (r' : Bool) (n' p' q' c' : ℕ) → 0 < c → 0 < c' → Is r n p q → Is r' n' p' q' → p * c' + q' * c ≤ p' * c + q * c' → T (le (round f r n c) (round f r' n' c'))
signed_mono f false n p q c false n' p' q' c' C C' h k l = round_mono f n c n' c' C C' (lin n p q c n' p' q' c' h k l)
  where
    lin : (n p q c n' p' q' c' : ℕ) → n + q ≡ p → n' + q' ≡ p' → p * c' + q' * c ≤ p' * c + q * c' → n * c' ≤ n' * c
    lin n p q c n' p' q' c' h k l = let x : (n + q) * c' ≡ p * c' = ap (λ (z : ℕ). z * c') h in let y : (n' + q') * c ≡ p' * c = ap (λ (z : ℕ). z * c) k in omega arith
signed_mono f true n p q c true n' p' q' c' C C' h k l =
    rw (← neg_round f n c, ← neg_round f n' c') (neg_le (round f false n' c') (round f false n c) (round_mono f n' c' n c C' C (lin n p q c n' p' q' c' h k l)))
  where
    lin : (n p q c n' p' q' c' : ℕ) → n + p ≡ q → n' + p' ≡ q' → p * c' + q' * c ≤ p' * c + q * c' → n' * c ≤ n * c'
    lin n p q c n' p' q' c' h k l = let x : (n + p) * c' ≡ q * c' = ap (λ (z : ℕ). z * c') h in let y : (n' + p') * c ≡ q' * c = ap (λ (z : ℕ). z * c) k in omega arith
signed_mono f true n p q c false n' p' q' c' C C' h k l =
    le_transitive (round f true n c) zero⁺ (round f false n' c') (sided_not_positive _ (round_sided f true n c)) (sided_not_negative _ (round_sided f false n' c'))
signed_mono f false n p q c true n' p' q' c' C C' h k l =
    let x : (n + q) * c' ≡ p * c' = ap (λ (z : ℕ). z * c') h in
    let y : (n' + p') * c ≡ q' * c = ap (λ (z : ℕ). z * c) k in
    let s : n * c' + n' * c ≡ 0 = omega arith in
    let a : n ≡ 0 = zero_of n c' (n' * c) C' s in
    let b : n' ≡ 0 = zero_of n' c (n * c') C (omega arith) in
    rw (a, b) (rw (zeros f false c C, zeros f true c' C') zero_le_zero)

-- z is (p - q) / c, rounded
pub record Rounded (f : Format) (p q c : ℕ) (z : Float) : Type 0 where
  pub sign : Bool
  pub size : ℕ
  pub is : Is sign size p q
  pub rounded : z ≡ round f sign size c

pub rounded_mono : (f : Format) (p q c p' q' c' : ℕ) (z z' : Float) → 0 < c → 0 < c' → Rounded f p q c z → Rounded f p' q' c' z' → p * c' + q' * c ≤ p' * c + q * c' → T (le z z')
rounded_mono f p q c p' q' c' z z' C C' u v h = rw (u.rounded, v.rounded) (signed_mono f u.sign u.size p q c v.sign v.size p' q' c' C C' u.is v.is h)

-- the same fraction over another denominator
pub rounded_same : (f : Format) (p q c p' q' c' : ℕ) (z : Float) → 0 < c → 0 < c' → p * c' ≡ p' * c → q * c' ≡ q' * c → Rounded f p q c z → Rounded f p' q' c' z
rounded_same f p q c p' q' c' z C C' h k r = go r.sign r.size r.is r.rounded
  where
    -- n is a - b over the one denominator, and a' - b' over the other
    other : (n a b a' b' : ℕ) → n + b ≡ a → a * c' ≡ a' * c → b * c' ≡ b' * c → (a' - b' + b' ≡ a') × (n * c' ≡ (a' - b') * c)
    other n a b a' b' i h k =
        let x : (n + b) * c' ≡ a * c' = ap (λ (y : ℕ). y * c') i in
        let l : b' ≤ a' = le_of_mul-le-mul_right {k = c} (omega arith) C in
        let e : a' - b' + b' ≡ a' = omega arith in
        let y : (a' - b' + b') * c ≡ a' * c = ap (λ (y : ℕ). y * c) e in
        (e, omega arith)

    go : (s : Bool) (n : ℕ) → Is s n p q → z ≡ round f s n c → Rounded f p' q' c' z
    go true n i e = let o = other n q p q' p' i k h in record { sign = true; size = q' - p'; is = o.0; rounded = e ∙ round_same f true n c (q' - p') c' C C' o.1 }
    go false n i e = let o = other n p q p' q' i h k in record { sign = false; size = p' - q'; is = o.0; rounded = e ∙ round_same f false n c (p' - q') c' C C' o.1 }

pub is_own : (s : Bool) (n : ℕ) → Is s n (P s n) (N s n)
is_own true n = omega arith
is_own false n = omega arith

pub is_le : (s : Bool) (n p q : ℕ) → Is s n p q → n ≤ p + q
is_le true n p q h = omega arith
is_le false n p q h = omega arith
