-- A number whose digits are the nearest to a root is the root. Assumes nothing.
use mathlib.Core.Path.{◌≡◌, sym, ap, ◌∙◌, subst}
use mathlib.Core.Logic.{◌⊎◌, inl, inr}
use Prim.Native.Nat.{ℕ, ◌+◌, ◌-◌, ◌*◌, ◌/◌, ◌%◌, ◌^◌, ◌≤◌, ◌<◌}
use native.Mathlib.Nat.{le_trans, le_of_eq, le_antisymm, le_of_suc-le-suc, lt_of_lt_of_le, lt_of_le_of_lt, not-le_of_lt, add-le-add, mul_assoc, mul-one, mul-pos, mul-le-mul, mul-le-mul_right, le_of_mul-le-mul_right, lt_of_mul-lt-mul_right, eq_of_mul-eq-mul_right}
use native.Mathlib.Omega.{arith}
use mathlib.Core.Bool.{Bool, true, false, not}
use lib.Dec.{T, ltb, ltb→lt, nltb→le, lit<, lit≤}
use lib.Pow.{pow-add, pow_pos}
use lib.Ieee.{Float, binary64, fits, of_bits}
use Rattle.numbers_spec.specs.Values.{Units}
use Rattle.numbers_spec.proofs.Placed.{placed_units}
use Rattle.numbers_spec.specs.Root.{NearRoot, root_of, root_units}
use Rattle.numbers_spec.proofs.Encode.{spaced}
use Rattle.numbers_spec.proofs.NearRoots.{near_unique}
use Rattle.numbers_spec.proofs.Rooted.{Z, none_left, root_bits_is, root_fits, root_positive, read_back}

-- ---- x by a significand of 53 digits: its root has the place i, and o says whether the exponent is odd
module _ (x : Float) (sig exp i o : ℕ) (lo : 2 ^ 52 ≤ sig) (hi : sig < 2 ^ 53) (I : i ≤ 1501) (O : o ≤ 1) (at : exp + 1022 ≡ i + i + o) (X : Units binary64 x false (sig * 2 ^ exp)) where
  sig_pos : 0 < sig
  sig_pos = omega arith

  exp_le : exp ≤ 2045
  exp_le = omega arith

  whole : Z sig exp sig_pos hi exp_le ≡ 0
  whole = none_left sig exp sig_pos hi exp_le lo

  half : (z : ℕ) → z ≡ 0 → i ≡ (exp + 52 - z) / 2 + 485
  half z h = omega arith

  rest : o ≡ (exp + 52 - 0) % 2
  rest = omega arith

  -- the digits under the root are those that `root` has
  same : (z : ℕ) → z ≡ 0 → sig * 2 ^ (52 + o) ≡ sig * 2 ^ z * 2 ^ (52 + (exp + 52 - z) % 2)
  same z h =
      subst (λ (k : ℕ). sig * 2 ^ (52 + o) ≡ sig * 2 ^ k * 2 ^ (52 + (exp + 52 - k) % 2)) (sym h)
      (ap (λ (k : ℕ). sig * 2 ^ (52 + k)) rest ∙ ap (λ (k : ℕ). k * 2 ^ (52 + (exp + 52 - 0) % 2)) (sym (mul-one sig)))

  rooted : (c : ℕ) → NearRoot (sig * 2 ^ (52 + o)) c → of_bits binary64 (i * 2 ^ 52 + c) ≡ root_of x
  rooted c near =
      read_back (i * 2 ^ 52 + c) (root_units (sig * 2 ^ exp))
      (ap (λ (k : ℕ). k * 2 ^ 52 + c) (half _ whole)
      ∙ root_bits_is sig exp sig_pos hi exp_le c (subst (λ (k : ℕ). NearRoot k c) (same _ whole) near))
      (root_fits sig exp sig_pos hi exp_le)
      ∙ root_positive x (sig * 2 ^ exp) (mul-pos sig_pos (pow_pos exp)) X

-- ---- n * 2 ^ k units of an f64, with 2 ^ 52 * 2 ^ m ≤ n: n is a multiple of 2 ^ m
parted : (a m k : ℕ) → a * 2 ^ (m + k) ≡ a * 2 ^ m * 2 ^ k
parted a m k = ap (λ (y : ℕ). a * y) (pow-add 2 m k) ∙ sym (mul_assoc a (2 ^ m) (2 ^ k))

multiple : (x : Float) → T (fits binary64 x) → (n k m : ℕ) → Units binary64 x false (n * 2 ^ k) → 2 ^ 52 * 2 ^ m ≤ n → (t : ℕ) × (n ≡ t * 2 ^ m) × (2 ^ 52 ≤ t)
multiple x F n k m X h = let p = placed_units binary64 x false (n * 2 ^ k) F X in go p.0 p.1 p.3 (spaced 53 p.0 p.1 (m + k) (lit< tt) p.2)
  where
    go : (q i : ℕ) → n * 2 ^ k ≡ q * 2 ^ i → ((t : ℕ) × (q * 2 ^ i ≡ t * 2 ^ (m + k))) ⊎ (q * 2 ^ i < 2 ^ 52 * 2 ^ (m + k)) → (t : ℕ) × (n ≡ t * 2 ^ m) × (2 ^ 52 ≤ t)
    go q i e (inl s) =
        let is : n ≡ s.0 * 2 ^ m = eq_of_mul-eq-mul_right (2 ^ k) (pow_pos k) n (s.0 * 2 ^ m) (e ∙ s.1 ∙ parted s.0 m k) in
        (s.0, is, le_of_mul-le-mul_right (le_trans h (le_of_eq is)) (pow_pos m))
    go q i e (inr l) = absurd (not-le_of_lt (lt_of_mul-lt-mul_right (2 ^ k) (lt_of_le_of_lt (le_of_eq e) (lt_of_lt_of_le l (le_of_eq (parted (2 ^ 52) m k))))) h)

module _ (x : Float) (F : T (fits binary64 x)) (j c n : ℕ) (J : 537 ≤ j) (J' : j ≤ 1500) (lo : 2 ^ 52 < c) (hi : c ≤ 2 ^ 53) (X : Units binary64 x false (n * 2 ^ (j + j - 1074))) (near : NearRoot n c) where
  abbrev k : ℕ
  k = j + j - 1074

  least : 2 ^ 52 * 2 ^ 52 ≤ n
  least = go (c * c) (mul-le-mul_right c lo) near.above
    where
      go : (s : ℕ) → 4503599627370497 * c ≤ s → s < n + c → 20282409603651670423947251286016 ≤ n
      go s a b = omega arith

  most : n ≤ 2 ^ 53 * 2 ^ 53 + 2 ^ 53
  most = le_trans near.below (add-le-add (mul-le-mul hi hi) hi)

  -- below 2 ^ 106: the place is j
  below : (o : ℕ) → o ≤ 1 → 2 ^ 52 * 2 ^ (52 + o) ≤ n → n < 2 ^ 53 * 2 ^ (52 + o) → of_bits binary64 (j * 2 ^ 52 + c) ≡ root_of x
  below o O l h = go (multiple x F n k (52 + o) X l)
    where
      go : ((t : ℕ) × (n ≡ t * 2 ^ (52 + o)) × (2 ^ 52 ≤ t)) → of_bits binary64 (j * 2 ^ 52 + c) ≡ root_of x
      go (t, is, big) =
          rooted x t (52 + o + k) j o big (lt_of_mul-lt-mul_right (2 ^ (52 + o)) (lt_of_le_of_lt (le_of_eq (sym is)) h)) (omega arith) O (omega arith)
          (subst (λ (y : ℕ). Units binary64 x false y) (ap (λ (y : ℕ). y * 2 ^ k) is ∙ sym (parted t (52 + o) k)) X)
          c (subst (λ (y : ℕ). NearRoot y c) is near)

  -- from there on n is 2 ^ 106: the digits are 2 ^ 52, one place up
  above : 2 ^ 52 * 2 ^ 54 ≤ n → of_bits binary64 (j * 2 ^ 52 + c) ≡ root_of x
  above l = go (multiple x F n k 54 X l)
    where
      go : ((t : ℕ) × (n ≡ t * 2 ^ 54) × (2 ^ 52 ≤ t)) → of_bits binary64 (j * 2 ^ 52 + c) ≡ root_of x
      go (t, is, big) =
          let few : t < 4503599627370497 = lt_of_mul-lt-mul_right (2 ^ 54) (lt_of_le_of_lt (le_trans (le_of_eq (sym is)) most) (lit< tt)) in
          let n_is : n ≡ 2 ^ 52 * 2 ^ 54 = is ∙ ap (λ (y : ℕ). y * 2 ^ 54) (le_antisymm (le_of_suc-le-suc few) big) in
          let c_is : c ≡ 2 ^ 53 = near_unique (2 ^ 52 * 2 ^ 54) c (2 ^ 53) (subst (λ (y : ℕ). NearRoot y c) n_is near) (record { above = lit< tt; below = lit≤ tt }) in
          ap (of_bits binary64) (carried c c_is)
          ∙ rooted x (2 ^ 52) (54 + k) (j + 1) 0 (lit≤ tt) (lit< tt) (omega arith) (lit≤ tt) (omega arith)
          (subst (λ (y : ℕ). Units binary64 x false y) (ap (λ (y : ℕ). y * 2 ^ k) n_is ∙ sym (parted (2 ^ 52) 54 k)) X)
          (2 ^ 52) (record { above = lit< tt; below = lit≤ tt })
        where
          carried : (d : ℕ) → d ≡ 9007199254740992 → j * 4503599627370496 + d ≡ (j + 1) * 4503599627370496 + 4503599627370496
          carried d e = omega arith

  by_size : of_bits binary64 (j * 2 ^ 52 + c) ≡ root_of x
  by_size = go (ltb n (2 ^ 53 * 2 ^ 52)) (ltb→lt n (2 ^ 53 * 2 ^ 52)) (nltb→le n (2 ^ 53 * 2 ^ 52)) (ltb n (2 ^ 53 * 2 ^ 53)) (ltb→lt n (2 ^ 53 * 2 ^ 53)) (nltb→le n (2 ^ 53 * 2 ^ 53))
    where
      go : (a : Bool) → (T a → n < 2 ^ 53 * 2 ^ 52) → (T (not a) → 2 ^ 53 * 2 ^ 52 ≤ n) → (b : Bool) → (T b → n < 2 ^ 53 * 2 ^ 53) → (T (not b) → 2 ^ 53 * 2 ^ 53 ≤ n) → of_bits binary64 (j * 2 ^ 52 + c) ≡ root_of x
      go true h g b h' g' = below 0 (lit≤ tt) least (h tt)
      go false h g true h' g' = below 1 (lit≤ tt) (g tt) (h' tt)
      go false h g false h' g' = above (g' tt)

pub settled : (x : Float) → T (fits binary64 x) → (j c n : ℕ) → 537 ≤ j → j ≤ 1500 → 2 ^ 52 < c → c ≤ 2 ^ 53 → Units binary64 x false (n * 2 ^ (j + j - 1074)) → NearRoot n c → of_bits binary64 (j * 2 ^ 52 + c) ≡ root_of x
settled = by_size
