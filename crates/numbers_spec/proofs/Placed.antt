-- A finite value of a format in units of its smallest value: digits * 2 ^ shift, with no more digits than the format keeps. Assumes nothing.
use mathlib.Core.Path.{◌≡◌, refl, sym, ap, ◌∙◌, subst}
use Prim.Native.Nat.{ℕ, zero, suc, ◌+◌, ◌-◌, ◌*◌, ◌%◌, ◌^◌, ◌≤◌, ◌<◌}
use native.Mathlib.Nat.{le_refl, mul-le-mul, le_of_eq, le_of_suc-le-suc, lt_of_lt_of_le, lt_of_not-le, not-le_of_lt, mul-one, one-mul, mul_comm, mul_assoc, mul_right_comm, mul-lt-mul_of_pos_right, lt_of_mul-lt-mul_right, eq_of_mul-eq-mul_right, zero-mul, mul-pos}
use native.Mathlib.Omega.{arith}
use mathlib.Core.Bool.{Bool, true, false, not, ◌&&◌}
use lib.Dec.{T, ltb, leb, eqb, ltb→lt, leb→le, nltb→le}
use lib.IntN.{ℤ, pos, negsuc}
use lib.Pow.{pow_pos, pow-lt, pow_mono, pow-add}
use lib.Ieee.{Float, nan, inf, fin, Format, prec, emax, low, up, down, round, fits}
use lib.Ieee.Exact.{round_exact}
use lib.Ieee.Fits.{two, down_pos, and_l, and_r, round-fits}
use lib.Ieee.Scale.{finite}
use Rattle.numbers_spec.proofs.Encode.{emax_pos, same_value}
use Rattle.numbers_spec.proofs.Value.{value_finite, same_fraction}
use Rattle.numbers_spec.specs.Values.{Units}

-- x is ±digits * 2 ^ shift units
pub record Placed (f : Format) (x : Float) : Type 0 where
  pub sign : Bool
  pub digits : ℕ
  pub shift : ℕ
  pub few : digits < 2 ^ prec f
  pub reach : shift < 2 * emax f
  pub value : Units f x sign (digits * 2 ^ shift)

-- the format's values lie below 2 ^ prec * 2 ^ (2 * emax - 1) units
pub reach_is : (f : Format) → 2 ^ (low f + suc (emax f)) ≡ 2 ^ prec f * 2 ^ (2 * emax f - 1)
reach_is f = ap (λ (y : ℕ). 2 ^ y) (sum (prec f) (emax f) (two f) (emax_pos f)) ∙ pow-add 2 (prec f) (2 * emax f - 1)
  where
    sum : (p e : ℕ) → 2 ≤ p → 0 < 2 * e → e + p - 2 + suc e ≡ p + (2 * e - 1)
    sum p e P E = omega arith

-- ---- 2 ^ e is 2 ^ j units
shifted : (e : ℤ) (l : ℕ) → down e ≤ 2 ^ l → (j : ℕ) × (up e * 2 ^ l ≡ 2 ^ j * down e)
shifted (pos k) l h = (k + l, sym (pow-add 2 k l) ∙ sym (mul-one (2 ^ (k + l))))
shifted (negsuc k) l h = (l - suc k, one-mul (2 ^ l) ∙ ap (λ (x : ℕ). 2 ^ x) (sym (back l (suc k) within)) ∙ pow-add 2 (l - suc k) (suc k))
  where
    back : (a b : ℕ) → b ≤ a → a - b + b ≡ a
    back a b g = omega arith

    within : suc k ≤ l
    within = le_of_suc-le-suc (lt_of_not-le (λ (g : suc l ≤ suc k). not-le_of_lt (pow-lt g) h))

-- ---- no shift of 2 * emax or more is needed
module _ (f : Format) (s : Bool) (x : Float) (m j : ℕ) (M : m < 2 ^ prec f) (U : m * 2 ^ j < 2 ^ (low f + suc (emax f))) (own : Units f x s (m * 2 ^ j)) where
  abbrev top : ℕ
  top = 2 * emax f - 1

  placed_under : Placed f x
  placed_under = go (ltb j (2 * emax f)) (ltb→lt j (2 * emax f)) (nltb→le j (2 * emax f))
    where
      back : (e : ℕ) → 0 < 2 * e → 2 * e ≤ j → j - (2 * e - 1) + (2 * e - 1) ≡ j
      back e E h = omega arith

      less : (e : ℕ) → 0 < 2 * e → 2 * e - 1 < 2 * e
      less e E = omega arith

      split : 2 * emax f ≤ j → m * 2 ^ j ≡ m * 2 ^ (j - top) * 2 ^ top
      split h = ap (λ (y : ℕ). m * y) (ap (λ (y : ℕ). 2 ^ y) (sym (back (emax f) (emax_pos f) h)) ∙ pow-add 2 (j - top) top) ∙ sym (mul_assoc m (2 ^ (j - top)) (2 ^ top))

      go : (b : Bool) → (T b → j < 2 * emax f) → (T (not b) → 2 * emax f ≤ j) → Placed f x
      go true h g = record { sign = s; digits = m; shift = j; few = M; reach = h tt; value = own }
      go false h g = record {
        sign = s;
        digits = m * 2 ^ (j - top);
        shift = top;
        few = lt_of_mul-lt-mul_right (2 ^ top) (subst (λ (y : ℕ). y < 2 ^ prec f * 2 ^ top) (split (g tt)) (lt_of_lt_of_le U (le_of_eq (reach_is f))));
        reach = less (emax f) (emax_pos f);
        value = subst (λ (y : ℕ). Units f x s y) (split (g tt)) own;
      }

-- ---- what fitting says of the digits and of the size
pub fits_few : (f : Format) (s : Bool) (m : ℕ) (e : ℤ) → T (fits f (fin s m e)) → m < 2 ^ prec f
unfolding fits
fits_few f s zero e F = pow_pos (prec f)
fits_few f s (suc m) e F =
    let a = eqb (suc m % 2) 1 in
    let b = ltb (suc m) (2 ^ prec f) in
    let c = leb (down e) (2 ^ low f) in
    ltb→lt (suc m) (2 ^ prec f) (and_r a b (and_l (a && b) c (and_l (a && b && c) _ F)))

pub fits_under : (f : Format) (s : Bool) (m : ℕ) (e : ℤ) → T (fits f (fin s m e)) → m * up e < 2 ^ suc (emax f) * down e
unfolding fits
fits_under f s zero e F = rw (zero-mul (up e)) (mul-pos (pow_pos (suc (emax f))) (down_pos e))
fits_under f s (suc m) e F = ltb→lt (suc m * up e) (2 ^ suc (emax f) * down e) (and_r (eqb (suc m % 2) 1 && ltb (suc m) (2 ^ prec f) && leb (down e) (2 ^ low f)) _ F)

fits_down : (f : Format) (s : Bool) (m : ℕ) (e : ℤ) → T (fits f (fin s (suc m) e)) → down e ≤ 2 ^ low f
unfolding fits
fits_down f s m e F =
    let a = eqb (suc m % 2) 1 && ltb (suc m) (2 ^ prec f) in
    let b = leb (down e) (2 ^ low f) in
    leb→le (down e) (2 ^ low f) (and_r a b (and_l (a && b) _ F))

-- ---- every finite value of the format is so
pub placed : (f : Format) (x : Float) → T (fits f x) → T (finite x) → Placed f x
unfolding fits
placed f nan F h = absurd h
placed f (inf s) F h = absurd h
placed f (fin s zero e) F h = record { sign = s; digits = 0; shift = 0; few = pow_pos (prec f); reach = emax_pos f; value = (refl, ap (λ (y : ℕ). y * 2 ^ low f) (zero-mul (up e)) ∙ zero-mul (2 ^ low f) ∙ sym (zero-mul (down e))) }
placed f (fin s (suc m) e) F h = placed_under f s (fin s (suc m) e) (suc m) j.0 (fits_few f s (suc m) e F) under value
  where
    j : (j : ℕ) × (up e * 2 ^ low f ≡ 2 ^ j * down e)
    j = shifted e (low f) (fits_down f s m e F)

    is : suc m * up e * 2 ^ low f ≡ suc m * 2 ^ j.0 * down e
    is = mul_assoc (suc m) (up e) (2 ^ low f) ∙ ap (λ (y : ℕ). suc m * y) j.1 ∙ sym (mul_assoc (suc m) (2 ^ j.0) (down e))

    value : Units f (fin s (suc m) e) s (suc m * 2 ^ j.0)
    value = (refl, is)

    under : suc m * 2 ^ j.0 < 2 ^ (low f + suc (emax f))
    under =
        lt_of_mul-lt-mul_right (down e)
        (subst (λ (y : ℕ). y < 2 ^ (low f + suc (emax f)) * down e) is
        (lt_of_lt_of_le (mul-lt-mul_of_pos_right (fits_under f s (suc m) e F) (pow_pos (low f)))
        (le_of_eq (mul_right_comm (2 ^ suc (emax f)) (down e) (2 ^ low f) ∙ ap (λ (y : ℕ). y * down e) (mul_comm (2 ^ suc (emax f)) (2 ^ low f) ∙ sym (pow-add 2 (low f) (suc (emax f))))))))

-- ---- the units of a value are one number
pub units_one : (f : Format) (x : Float) (s t : Bool) (a b : ℕ) → Units f x s a → Units f x t b → (s ≡ t) × (a ≡ b)
units_one f nan s t a b h k = absurd h
units_one f (inf u) s t a b h k = absurd h
units_one f (fin u m e) s t a b h k = (sym h.0 ∙ k.0, eq_of_mul-eq-mul_right (down e) (down_pos e) a b (sym h.1 ∙ k.1))

-- n units are a number of no more digits than the format keeps, times a power of two
pub placed_units : (f : Format) (y : Float) (t : Bool) (n : ℕ) → T (fits f y) → Units f y t n → (q : ℕ) × (j : ℕ) × (q < 2 ^ prec f) × (n ≡ q * 2 ^ j)
placed_units f y t n F U = let p = placed f y F (value_finite y t n (2 ^ low f) U) in (p.digits, p.shift, p.few, (units_one f y t p.sign n (p.digits * 2 ^ p.shift) U p.value).1)

-- ---- a value of a format is its own rounded value
pub round_own : (f : Format) (s : Bool) (m : ℕ) (e : ℤ) → T (fits f (fin s m e)) → round f s (m * up e) (down e) ≡ fin s m e
round_own f s m e F =
    let p = placed f (fin s m e) F tt in
    let n = p.digits * 2 ^ p.shift in
    let under : n < 2 ^ (low f + suc (emax f)) = rw reach_is (lt_of_lt_of_le (mul-lt-mul_of_pos_right p.few (pow_pos p.shift)) (mul-le-mul (le_refl (2 ^ prec f)) (pow_mono (let h = p.reach in omega arith)))) in
    same_value f (round f s (m * up e) (down e)) (fin s m e) s n (round-fits f s (m * up e) (down e)) F
    (same_fraction (round f s (m * up e) (down e)) s (m * up e) (down e) n (2 ^ low f) (down_pos e) (sym p.value.1)
    (round_exact f s (m * up e) (down e) p.digits p.shift (down_pos e) p.few under p.value.1))
    (refl, p.value.1)
