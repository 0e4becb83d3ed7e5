-- Values that rounding does not change, and bounds by them: a fraction q / 2^t is its own rounded value, a value rounded to whole lies within a half of it, and what two values of one sign differ by bounds their rounded difference. Assumes nothing.
use mathlib.Core.Path.{◌≡◌, refl, sym, ap, ◌∙◌, subst}
use Prim.Native.Nat.{ℕ, suc, ◌+◌, ◌-◌, ◌*◌, ◌^◌, ◌≤◌, ◌<◌}
use native.Mathlib.Nat.{lt_of_lt_of_le, mul_assoc, mul-mul-mul_comm, mul-pos}
use native.Mathlib.Omega.{arith}
use mathlib.Core.Bool.{Bool, true, false, not, true≢false}
use lib.IntN.{ℤ}
use lib.Dec.{T}
use lib.Pow.{pow-add, pow_pos, pow_mono, shl_lt}
use lib.Ieee.{Float, nan, inf, fin, Format, prec, emax, low, up, down, unlike, round, neg, add, sub, mul, le}
use lib.Ieee.Fits.{reach, down_pos}
use lib.Ieee.Exact.{HasValue, round_exact}
use lib.Ieee.Order.{round_mono, transfer}
use lib.Ieee.Scale.{round_same}
use Rattle.numbers_spec.specs.Values.{AtMost}
use Rattle.numbers_spec.proofs.Order.{P, N, cross}
use Rattle.numbers_spec.proofs.Rounding.{Is, magnitude_round}
use Rattle.numbers_spec.proofs.Sums.{sum_rounded}

-- ---- a fraction q / 2^t of a format
pub dyadic_exact : (f : Format) (s : Bool) (q t : ℕ) → q < 2 ^ prec f → t ≤ low f → HasValue (round f s q (2 ^ t)) s q (2 ^ t)
dyadic_exact f s q t small h =
    round_exact f s q (2 ^ t) q (low f - t) (pow_pos t) small
    (lt_of_lt_of_le (shl_lt (prec f) (low f - t) small) (pow_mono (room f)))
    (ap (λ (x : ℕ). q * x) (ap (λ (x : ℕ). 2 ^ x) (split (low f) h) ∙ pow-add 2 (low f - t) t) ∙ sym (mul_assoc q (2 ^ (low f - t)) (2 ^ t)))
  where
    split : (l : ℕ) → t ≤ l → l ≡ l - t + t
    split l h = omega arith

    room : (f : Format) → prec f + (low f - t) ≤ low f + suc (emax f)
    room f = let x = reach f in omega arith

-- ---- a product by a fixed positive value
pub mul_value : (f : Format) (x : Float) (s : Bool) (a c o : ℕ) (g : ℤ) → 0 < c → HasValue x s a c → mul f x (fin false o g) ≡ round f s (a * (o * up g)) (c * down g)
unfolding mul
mul_value f nan s a c o g C v = absurd v
mul_value f (inf t) s a c o g C v = absurd v
mul_value f (fin t m e) s a c o g C v =
    ap (λ (r : Bool). round f r (m * up e * (o * up g)) (down e * down g)) (plain t ∙ v.0)
    ∙ round_same f s (m * up e * (o * up g)) (down e * down g) (a * (o * up g)) (c * down g) (mul-pos (down_pos e) (down_pos g)) (mul-pos C (down_pos g))
    (mul-mul-mul_comm (m * up e) (o * up g) c (down g) ∙ ap (λ (x : ℕ). x * (o * up g * down g)) v.1 ∙ sym (mul-mul-mul_comm a (o * up g) (down e) (down g)))
  where
    plain : (t : Bool) → unlike t false ≡ t
    plain true = refl
    plain false = refl

-- ---- a rounded fraction lies on the same side of an exact value as the fraction itself
module _ (f : Format) (a c b d : ℕ) (C : 0 < c) (D : 0 < d) (v : HasValue (round f false b d) false b d) (m : ℕ) (e : ℤ) (is : round f false a c ≡ fin false m e) where
  pub rounded_below : a * d ≤ b * c → m * up e * d ≤ b * down e
  rounded_below h = go (round f false b d) v (subst (λ (x : Float). T (le x (round f false b d))) is (round_mono f a c b d C D h))
    where
      go : (y : Float) → HasValue y false b d → T (le (fin false m e) y) → m * up e * d ≤ b * down e
      go nan w k = absurd w
      go (inf t) w k = absurd w
      go (fin true n g) w k = absurd (true≢false w.0)
      go (fin false n g) w k = transfer (m * up e) b (down e) d (m * up e) (n * up g) (down e) (down g) (down_pos e) (down_pos g) refl (sym w.1) (cross m e n g k)

  pub rounded_above : b * c ≤ a * d → b * down e ≤ m * up e * d
  rounded_above h = go (round f false b d) v (subst (λ (x : Float). T (le (round f false b d) x)) is (round_mono f b d a c D C h))
    where
      go : (y : Float) → HasValue y false b d → T (le y (fin false m e)) → b * down e ≤ m * up e * d
      go nan w k = absurd w
      go (inf t) w k = absurd w
      go (fin true n g) w k = absurd (true≢false w.0)
      go (fin false n g) w k = transfer b (m * up e) d (down e) (n * up g) (m * up e) (down g) (down e) (down_pos g) (down_pos e) (sym w.1) refl (cross n g m e k)

-- ---- the difference of two values of one sign
pub sub_near : (f : Format) (s : Bool) (m : ℕ) (e : ℤ) (n : ℕ) (d : ℤ) (u v : ℕ) → 0 < v → m * up e * down d * v ≤ n * up d * down e * v + u * (down e * down d) → n * up d * down e * v ≤ m * up e * down d * v + u * (down e * down d)
    → AtMost (round f false u v) (sub f (fin s m e) (fin s n d))
unfolding sub neg add
sub_near f s m e n d u v pv h k =
    let c = down e * down d in
    let z = sum_rounded f s (m * up e * down d) (not s) (n * up d * down e) c in
    rw (z.rounded, magnitude_round f z.sign z.size c)
    (round_mono f z.size c u v (mul-pos (down_pos e) (down_pos d)) pv (gap s z.sign z.size (m * up e * down d) (n * up d * down e) (u * c) z.is h k))
  where
    gap : (s r : Bool) (q a b w : ℕ) → Is r q (P s a + P (not s) b) (N s a + N (not s) b) → a * v ≤ b * v + w → b * v ≤ a * v + w → q * v ≤ w
    gap true true q a b w i h k = let x : (q + b) * v ≡ a * v = ap (λ (y : ℕ). y * v) (omega arith) in omega arith
    gap true false q a b w i h k = let x : (q + a) * v ≡ b * v = ap (λ (y : ℕ). y * v) (omega arith) in omega arith
    gap false true q a b w i h k = let x : (q + a) * v ≡ b * v = ap (λ (y : ℕ). y * v) (omega arith) in omega arith
    gap false false q a b w i h k = let x : (q + b) * v ≡ a * v = ap (λ (y : ℕ). y * v) (omega arith) in omega arith
