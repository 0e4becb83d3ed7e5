-- The pattern of a rounded number, by how many digits it drops: what the code adds up is `to_bits` of `round`. Assumes nothing.
use Rattle.std.proofs.Common.{◌≡◌, ℕ, ◌+◌, ◌-◌, ◌*◌, ◌^◌, ◌<◌, ◌≤◌, Bool, true, false, cond, not, T, sym, ap, ◌∙◌, subst, arith, pow_pos}
use lib.Ieee.{Float, nan, inf, fin, binary32, round, to_bits, of_bits, nan_bits, is_nan, up, down}
use lib.Ieee.Fits.{round-fits, down_pos}
use lib.Ieee.Bits.{to_bits-lt, of_bits-to_bits, nan_bits_is}
use lib.Ieee.Exact.{HasValue}
use lib.Ieee.Scale.{round_same}
use lib.Ieee.Nearest.{closest}
use Rattle.numbers.specs.Parts.{Dropped}
use Rattle.numbers_spec.specs.Narrow.{nearest_f32}
use Rattle.numbers_spec.proofs.Encode.{Spread, round_bits, round_bits_over, round_no_nan, K-le}
use Rattle.numbers.proofs.narrow.Drop.{kept}

spread : (sig exp r : ℕ) → Dropped sig exp r → Spread binary32 (sig * 2 ^ exp) (2 ^ 1074) r
spread sig exp r d = (d.below, d.least)

pub sign_le : (s : Bool) (a : ℕ) → a ≡ cond s 2147483648 0 → a ≤ 2147483648
sign_le true a h = omega arith
sign_le false a h = omega arith

pub over : (s : Bool) (sig exp r a : ℕ) → Dropped sig exp r → 253 < r → a ≡ cond s 2147483648 0 → a + 2139095040 ≡ to_bits binary32 (round binary32 s (sig * 2 ^ exp) (2 ^ 1074))
over s sig exp r a d h e = ap (λ (x : ℕ). x + 2139095040) e ∙ sym (round_bits_over binary32 (sig * 2 ^ exp) (2 ^ 1074) r (pow_pos 1074) (spread sig exp r d) s h)

pub under : (s : Bool) (sig exp r a k : ℕ) → Dropped sig exp r → r ≤ 253 → a ≡ cond s 2147483648 0 → k ≡ closest sig (2 ^ (925 + r - exp))
    → a + (r * 8388608 + k) ≡ to_bits binary32 (round binary32 s (sig * 2 ^ exp) (2 ^ 1074))
under s sig exp r a k d h e q =
    ap (λ (x : ℕ). x + (r * 8388608 + k)) e
    ∙ ap (λ (x : ℕ). cond s 2147483648 0 + (r * 8388608 + x)) (q ∙ sym (kept sig exp r d.gap))
    ∙ sym (round_bits binary32 (sig * 2 ^ exp) (2 ^ 1074) r (pow_pos 1074) (spread sig exp r d) s (up r h))
  where
    up : (x : ℕ) → x ≤ 253 → x < 254
    up x g = omega arith

-- what is kept has no more than 24 digits
pub few : (sig exp r k : ℕ) → Dropped sig exp r → k ≡ closest sig (2 ^ (925 + r - exp)) → k ≤ 16777216
few sig exp r k d q = subst (λ (x : ℕ). x ≤ 16777216) (kept sig exp r d.gap ∙ sym q) (K-le binary32 (sig * 2 ^ exp) (2 ^ 1074) r (pow_pos 1074) (spread sig exp r d))

-- ---- the float of such a pattern
pub by_value : (x : Float) (s : Bool) (a c : ℕ) → 0 < c → HasValue x s a c → round binary32 s a c ≡ nearest_f32 x
unfolding nearest_f32
by_value nan s a c C h = absurd h
by_value (inf t) s a c C h = absurd h
by_value (fin t m e) s a c C h = round_same binary32 s a c (m * up e) (down e) C (down_pos e) (sym h.1) ∙ ap (λ (b : Bool). round binary32 b (m * up e) (down e)) (sym h.0)

pub fits_32 : (n : ℕ) (v : Float) → n ≡ to_bits binary32 v → T (lib.Ieee.fits binary32 v) → n < 4294967296
fits_32 n v e F = subst (λ (k : ℕ). k < 4294967296) (sym e) (to_bits-lt binary32 v F)

pub back : (n : ℕ) (v : Float) → n ≡ to_bits binary32 v → T (lib.Ieee.fits binary32 v) → of_bits binary32 n ≡ v
back n v e F = ap (of_bits binary32) e ∙ of_bits-to_bits binary32 v F

pub no_nan : (n : ℕ) (s : Bool) (a c : ℕ) → n ≡ to_bits binary32 (round binary32 s a c) → T (not (nan_bits binary32 n))
no_nan n s a c e =
    let v = round binary32 s a c in
    subst (λ (b : Bool). T (not b)) (sym (nan_bits_is binary32 n ∙ ap is_nan (back n v e (round-fits binary32 s a c)) ∙ round_no_nan binary32 s a c)) tt
