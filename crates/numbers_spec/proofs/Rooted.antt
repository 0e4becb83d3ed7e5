-- The root of a value, by its bits. Assumes nothing.
use mathlib.Core.Path.{◌≡◌, refl, sym, ap, ◌∙◌, subst}
use mathlib.Core.Logic.{inr}
use Prim.Native.Nat.{ℕ, zero, suc, ◌+◌, ◌-◌, ◌*◌, ◌/◌, ◌%◌, ◌^◌, ◌≤◌, ◌<◌}
use native.Mathlib.Nat.{le_trans, le_of_eq, le_of_suc-le-suc, lt_irrefl, lt_of_lt_of_le, lt_of_le_of_lt, lt_of_not-le, not-le_of_lt, mul_assoc, mul_comm, mul-pos, zero-mul, zero-add, zero-lt-suc, mul-le-mul_right, mul-div_cancel, mod-eq_of_lt, pow-succ'}
use native.Mathlib.Omega.{arith}
use mathlib.Core.Bool.{Bool, true, false, not, cond, true≢false, false≢true}
use lib.Dec.{T, ltb, ltb→lt, nltb→le, not_T, lit<, lit≤}
use lib.Pow.{pow_pos, pow_mono, pow-lt, pow-add, shl_lt}
use lib.Count.{count_leading_zeros, leading_length}
use lib.Ieee.{Float, nan, inf, fin, binary64, up, down, size, odd, units, fits, is_nan, nan_bits, to_bits, of_bits, le, lt}
use lib.Ieee.Fits.{odd-fits, inf-fits, down_pos, up_pos}
use lib.Ieee.Bits.{nan_bits_above, of_bits-to_bits, nan_bits_is}
use lib.Ieee.Exact.{HasValue}
use lib.Ieee.Scale.{finite}
use Rattle.numbers_spec.specs.Root.{NearRoot, near_root, root_units, root_of}
use Rattle.numbers_spec.proofs.Encode.{size_is, units_bits}
use Rattle.numbers_spec.proofs.Closest.{next_above, next_below}
use Rattle.numbers_spec.proofs.NearRoots.{near_unique, near_root_is, no_more}

-- ---- patterns and tests that are no NaN's
pub no_nan_bits : (n : ℕ) → n ≤ 9218868437227405312 → T (not (nan_bits binary64 n))
no_nan_bits n h =
    subst (λ (b : Bool). T (not b)) (sym (nan_bits_above binary64 n))
    (not_T (ltb 9218868437227405312 (n % 9223372036854775808)) (λ t. no (n % 9223372036854775808) n (mod-eq_of_lt (small n h)) h (ltb→lt 9218868437227405312 (n % 9223372036854775808) t)))
  where
    small : (k : ℕ) → k ≤ 9218868437227405312 → k < 9223372036854775808
    small k a = omega arith

    no : (r k : ℕ) → r ≡ k → k ≤ 9218868437227405312 → 9218868437227405312 < r → ⊥
    no r k e a b = omega arith

pub le_no_nan : (y r : Float) → le y r ≡ true → T (not (is_nan r))
unfolding le is_nan
le_no_nan nan nan h = absurd (false≢true h)
le_no_nan (inf s) nan h = absurd (false≢true h)
le_no_nan (fin s m e) nan h = absurd (false≢true h)
le_no_nan y (inf s) h = tt
le_no_nan y (fin s m e) h = tt

-- ---- the nearest whole number to the root of a number of 105 or 106 digits has 53
grow : (a b : ℕ) → a ≤ b → a * a + a ≤ b * b + b
grow a b h = native.Mathlib.Nat.add-le-add (native.Mathlib.Nat.mul-le-mul h h) h

pub digits_le : (n c : ℕ) → n < 2 ^ 106 → NearRoot n c → c ≤ 9007199254740992
digits_le n c h p = le_of_suc-le-suc (lt_of_not-le (λ (g : 9007199254740993 ≤ c). no_more n c 9007199254740992 p.above (le_trans (native.Mathlib.Nat.le_of_lt h) (lit≤ tt)) g))

pub digits_ge : (n c : ℕ) → 2 ^ 104 ≤ n → NearRoot n c → 4503599627370496 ≤ c
digits_ge n c h p = le_of_suc-le-suc (lt_of_not-le (λ (g : suc c ≤ 4503599627370496). not-le_of_lt (lt_of_lt_of_le (lt_of_le_of_lt (grow c 4503599627370495 (le_of_suc-le-suc g)) (lit< tt)) h) p.below))

-- ---- units that fit
units_fits : (q k : ℕ) → q ≤ 2 ^ 53 → T (fits binary64 (units binary64 false q k))
unfolding units
units_fits q k a = go (ltb (q * 2 ^ k) (2 ^ 2098)) (ltb→lt (q * 2 ^ k) (2 ^ 2098))
  where
    go : (b : Bool) → (T b → q * 2 ^ k < 2 ^ 2098) → T (fits binary64 (cond b (odd 54 false q k 1074) (inf false)))
    go true h = odd-fits binary64 54 false q k (lt_of_le_of_lt a (lit< tt)) a (h tt)
    go false h = inf-fits binary64 false

units_no_nan : (q k : ℕ) → is_nan (units binary64 false q k) ≡ false
unfolding units is_nan odd
units_no_nan q k = go (ltb (q * 2 ^ k) (2 ^ 2098)) q
  where
    go : (b : Bool) (p : ℕ) → is_nan (cond b (odd 54 false p k 1074) (inf false)) ≡ false
    go true zero = refl
    go true (suc p) = refl
    go false p = refl

-- ---- the code's numbers
pow_lt_back : (a b : ℕ) → 2 ^ a < 2 ^ b → a < b
pow_lt_back a b h = lt_of_not-le (λ (g : b ≤ a). not-le_of_lt h (pow_mono g))

half_of : (p q s : ℕ) → p ≡ 2 * q → p ≤ 2 * s + 1 → q ≤ s
half_of p q s e h = omega arith

module _ (sig exp : ℕ) (P : 0 < sig) (S : sig < 2 ^ 53) (E : exp ≤ 2045) where
  pub wide : sig < 2 ^ 64
  wide = lt_of_lt_of_le S (lit≤ tt)

  abbrev pub M : ℕ
  M = (leading_length 64 sig wide).0

  abbrev pub Z : ℕ
  Z = count_leading_zeros 64 sig - 11

  M-pos : 0 < M
  M-pos = go M (leading_length 64 sig wide).2
    where
      go : (m : ℕ) → sig < 2 ^ m → 0 < m
      go zero h = absurd (no sig P h)
        where
          no : (x : ℕ) → 0 < x → x < 1 → ⊥
          no x a b = omega arith
      go (suc m) h = zero-lt-suc m

  M-le : M ≤ 53
  M-le = cut M (pow_lt_back M 54 (few (2 ^ M) sig (leading_length 64 sig wide).3 S))
    where
      cut : (m : ℕ) → m < 54 → m ≤ 53
      cut m h = omega arith

      few : (p s : ℕ) → p ≤ 2 * s + 1 → s < 9007199254740992 → p < 18014398509481984
      few p s h l = omega arith

  pub zeros_ge : 11 ≤ count_leading_zeros 64 sig
  zeros_ge = ge (count_leading_zeros 64 sig) M (leading_length 64 sig wide).1 M-le
    where
      ge : (z m : ℕ) → z + m ≡ 64 → m ≤ 53 → 11 ≤ z
      ge z m e h = omega arith

  Z-is : Z + M ≡ 53
  Z-is = at (count_leading_zeros 64 sig) M (leading_length 64 sig wide).1 M-le
    where
      at : (z m : ℕ) → z + m ≡ 64 → m ≤ 53 → z - 11 + m ≡ 53
      at z m e h = omega arith

  pub Z-le : Z ≤ 52
  Z-le = at Z M Z-is M-pos
    where
      at : (z m : ℕ) → z + m ≡ 53 → 0 < m → z ≤ 52
      at z m e h = omega arith

  low_half : 2 ^ (M - 1) ≤ sig
  low_half = half_of (2 ^ M) (2 ^ (M - 1)) sig (ap (λ (x : ℕ). 2 ^ x) (up' M M-pos) ∙ pow-succ' 2 (M - 1)) (leading_length 64 sig wide).3
    where
      up' : (k : ℕ) → 0 < k → k ≡ suc (k - 1)
      up' k g = omega arith

  abbrev pub F : ℕ
  F = sig * 2 ^ Z

  pub F-lt : F < 2 ^ 53
  F-lt = subst (λ (x : ℕ). F < 2 ^ x) (swap M Z Z-is) (shl_lt M Z (leading_length 64 sig wide).2)
    where
      swap : (m z : ℕ) → z + m ≡ 53 → m + z ≡ 53
      swap m z e = omega arith

  pub F-ge : 2 ^ 52 ≤ F
  F-ge = le_trans (le_of_eq (ap (λ (x : ℕ). 2 ^ x) (sym (less M Z Z-is M-pos)) ∙ pow-add 2 (M - 1) Z)) (mul-le-mul_right (2 ^ Z) low_half)
    where
      less : (m z : ℕ) → z + m ≡ 53 → 0 < m → m - 1 + z ≡ 52
      less m z e h = omega arith

  -- the shift loses nothing
  pub full_is : (sig * 2 ^ Z) % 2 ^ 64 ≡ F
  full_is = mod-eq_of_lt (lt_of_lt_of_le F-lt (lit≤ tt))

  -- a significand of 53 digits is not moved
  pub none_left : 2 ^ 52 ≤ sig → Z ≡ 0
  none_left h = go Z F-lt
    where
      go : (z : ℕ) → sig * 2 ^ z < 2 ^ 53 → z ≡ 0
      go zero g = refl
      go (suc z) g = absurd (not-le_of_lt g (le_trans (le_of_eq (pow-succ' 2 52 ∙ mul_comm 2 (2 ^ 52))) (native.Mathlib.Nat.mul-le-mul h (pow_mono {i = 1} {j = suc z} (zero-lt-suc z)))))

  abbrev pub C : ℕ
  C = exp + 52 - Z

  C-is : C ≡ exp + M - 1
  C-is = at exp Z M Z-is M-pos
    where
      at : (e z m : ℕ) → z + m ≡ 53 → 0 < m → e + 52 - z ≡ e + m - 1
      at e z m a b = omega arith

  n_size : size (sig * 2 ^ exp) ≡ M + exp
  n_size =
      size_is (sig * 2 ^ exp) (M - 1 + exp)
      (le_trans (le_of_eq (pow-add 2 (M - 1) exp)) (mul-le-mul_right (2 ^ exp) low_half))
      (subst (λ (x : ℕ). sig * 2 ^ exp < 2 ^ x) (one M exp M-pos) (shl_lt M exp (leading_length 64 sig wide).2))
      ∙ sym (one M exp M-pos)
    where
      one : (m e : ℕ) → 0 < m → m + e ≡ suc (m - 1 + e)
      one m e h = omega arith

  abbrev pub K : ℕ
  K = C / 2 + 485

  K-is : (size (sig * 2 ^ exp) + 1075) / 2 - 53 ≡ K
  K-is = ap (λ (x : ℕ). (x + 1075) / 2 - 53) n_size ∙ at M exp M-pos ∙ ap (λ (x : ℕ). x / 2 + 485) (sym C-is)
    where
      at : (m e : ℕ) → 0 < m → (m + e + 1075) / 2 - 53 ≡ (e + m - 1) / 2 + 485
      at m e h = omega arith

  K-lt : K < 2046
  K-lt = at exp Z E
    where
      at : (e z : ℕ) → e ≤ 2045 → (e + 52 - z) / 2 + 485 < 2046
      at e z h = omega arith

  abbrev pub N : ℕ
  N = F * 2 ^ (52 + C % 2)

  whole : sig * 2 ^ exp * 2 ^ 1074 ≡ N * (2 ^ K * 2 ^ K)
  whole =
      mul_assoc sig (2 ^ exp) (2 ^ 1074)
      ∙ ap (λ (x : ℕ). sig * x) (sym (pow-add 2 exp 1074) ∙ ap (λ (x : ℕ). 2 ^ x) (sum exp Z C Z-le refl) ∙ pow-add 2 (Z + (52 + C % 2)) (K + K) ∙ ap (λ (x : ℕ). x * 2 ^ (K + K)) (pow-add 2 Z (52 + C % 2)))
      ∙ sym (mul_assoc sig (2 ^ Z * 2 ^ (52 + C % 2)) (2 ^ (K + K)))
      ∙ ap (λ (x : ℕ). x * 2 ^ (K + K)) (sym (mul_assoc sig (2 ^ Z) (2 ^ (52 + C % 2))))
      ∙ ap (λ (x : ℕ). N * x) (pow-add 2 K K)
    where
      sum : (e z c : ℕ) → z ≤ 52 → c ≡ e + 52 - z → e + 1074 ≡ z + (52 + c % 2) + (c / 2 + 485 + (c / 2 + 485))
      sum e z c h g = omega arith

  N-is : sig * 2 ^ exp * 2 ^ 1074 / (2 ^ K * 2 ^ K) ≡ N
  N-is = ap (λ (x : ℕ). x / (2 ^ K * 2 ^ K)) whole ∙ mul-div_cancel N (mul-pos (pow_pos K) (pow_pos K))

  parity : C % 2 ≤ 1
  parity = at C
    where
      at : (c : ℕ) → c % 2 ≤ 1
      at c = omega arith

  N-lt : N < 2 ^ 106
  N-lt = lt_of_lt_of_le (shl_lt 53 (52 + C % 2) F-lt) (pow_mono (at (C % 2) parity))
    where
      at : (r : ℕ) → r ≤ 1 → 53 + (52 + r) ≤ 106
      at r h = omega arith

  N-ge : 2 ^ 104 ≤ N
  N-ge = le_trans (pow_mono (at (C % 2))) (le_trans (le_of_eq (pow-add 2 52 (52 + C % 2))) (mul-le-mul_right (2 ^ (52 + C % 2)) F-ge))
    where
      at : (r : ℕ) → 104 ≤ 52 + (52 + r)
      at r = omega arith

  opened : root_units (sig * 2 ^ exp) ≡ units binary64 false (near_root N) K
  unfolding root_units
  opened =
      ap (λ (k : ℕ). units binary64 false (near_root (sig * 2 ^ exp * 2 ^ 1074 / (2 ^ k * 2 ^ k))) k) K-is
      ∙ ap (λ (n : ℕ). units binary64 false (near_root n) K) N-is

  root_near : NearRoot N (near_root N)
  root_near = near_root_is N (lt_of_lt_of_le (lit< tt) N-ge) N-lt

  pub root_bits_is : (c : ℕ) → NearRoot N c → K * 4503599627370496 + c ≡ to_bits binary64 (root_units (sig * 2 ^ exp))
  root_bits_is c h =
      let e : near_root N ≡ c = near_unique N (near_root N) c root_near h in
      sym (zero-add (K * 4503599627370496 + c))
      ∙ sym (units_bits binary64 c K false (digits_le N c N-lt h) (inr (digits_ge N c N-ge h)) K-lt)
      ∙ ap (λ (x : ℕ). to_bits binary64 (units binary64 false x K)) (sym e)
      ∙ ap (to_bits binary64) (sym opened)

  pub c_le : (c : ℕ) → NearRoot N c → c ≤ 9007199254740992
  c_le c h = digits_le N c N-lt h

  pub root_fits : T (fits binary64 (root_units (sig * 2 ^ exp)))
  root_fits = subst (λ (v : Float). T (fits binary64 v)) (sym opened) (units_fits (near_root N) K (digits_le N (near_root N) N-lt root_near))

  pub root_no_nan : is_nan (root_units (sig * 2 ^ exp)) ≡ false
  root_no_nan = ap is_nan opened ∙ units_no_nan (near_root N) K

  -- the root's size in units of 2 ^ -1074
  abbrev pub A : ℕ
  A = near_root N * 2 ^ K

  pub root_value : HasValue (root_units (sig * 2 ^ exp)) false A (2 ^ 1074)
  root_value =
      subst (λ (v : Float). HasValue v false A (2 ^ 1074)) (sym opened)
      (lib.Ieee.Exact.units_val binary64 false (near_root N) K (lt_of_le_of_lt (mul-le-mul_right (2 ^ K) (digits_le N (near_root N) N-lt root_near)) (lt_of_le_of_lt (le_of_eq (sym (pow-add 2 53 K))) (pow-lt (few exp Z E)))))
    where
      few : (e z : ℕ) → e ≤ 2045 → 53 + ((e + 52 - z) / 2 + 485) < 2098
      few e z g = omega arith

  pub root_closest : (q j : ℕ) → q < 2 ^ 53
      → (A < q * 2 ^ j → 4 * (sig * 2 ^ exp * 2 ^ 1074) < (A + q * 2 ^ j) * (A + q * 2 ^ j)) × (q * 2 ^ j < A → (A + q * 2 ^ j) * (A + q * 2 ^ j) < 4 * (sig * 2 ^ exp * 2 ^ 1074))
  root_closest q j Q =
      let D = digits_ge N (near_root N) N-ge root_near in (
        λ h. subst (λ (x : ℕ). 4 * x < (A + q * 2 ^ j) * (A + q * 2 ^ j)) (sym whole) (next_above N (near_root N) K root_near D N-ge q j Q h),
        λ h. subst (λ (x : ℕ). (A + q * 2 ^ j) * (A + q * 2 ^ j) < 4 * x) (sym whole) (next_below N (near_root N) K root_near D N-ge q j Q h),
      )

-- ---- `root_of` by the value
no_zero : (a d : ℕ) → 0 < a → 0 < d → 0 ≡ a * d → ⊥
no_zero a d A D e = lt_irrefl 0 (subst (λ (x : ℕ). 0 < x) (sym e) (mul-pos A D))

nothing : (e : lib.IntN.ℤ) → 0 * up e * 2 ^ 1074 ≡ 0
nothing e = ap (λ (x : ℕ). x * 2 ^ 1074) (zero-mul (up e)) ∙ zero-mul (2 ^ 1074)

pub root_positive : (x : Float) (a : ℕ) → 0 < a → HasValue x false a (2 ^ 1074) → root_units a ≡ root_of x
unfolding root_of
root_positive nan a A h = absurd h
root_positive (inf t) a A h = absurd h
root_positive (fin true m e) a A h = absurd (true≢false h.0)
root_positive (fin false zero e) a A h = absurd (no_zero a (down e) A (down_pos e) (sym (nothing e) ∙ h.1))
root_positive (fin false (suc m) e) a A h = ap root_units (sym (ap (λ (x : ℕ). x / down e) h.1 ∙ mul-div_cancel a (down_pos e)))

-- ---- the tests of `root`
abbrev origin : Float
origin = fin false 0 (lib.IntN.pos 0)

no_below : (a : ℕ) → ltb 0 a ≡ false → 0 < a → ⊥
no_below a h k = not-le_of_lt k (nltb→le 0 a (subst (λ (b : Bool). T (not b)) (sym h) tt))

size_pos : (m : ℕ) (e : lib.IntN.ℤ) → 0 < suc m * up e * 1
size_pos m e = mul-pos (mul-pos (zero-lt-suc m) (up_pos e)) (lit< tt)

-- above zero, and not infinite
pub finite_above : (x : Float) → lt origin x ≡ true → lt x (inf false) ≡ true → T (finite x)
unfolding lt
finite_above nan h k = absurd (false≢true h)
finite_above (inf true) h k = absurd (false≢true h)
finite_above (inf false) h k = absurd (false≢true k)
finite_above (fin s m e) h k = tt

pub plus_above : (x : Float) (s : Bool) (a : ℕ) → lt origin x ≡ true → HasValue x s a (2 ^ 1074) → s ≡ false
unfolding lt
plus_above nan s a h v = absurd v
plus_above (inf t) s a h v = absurd v
plus_above (fin true m e) s a h v = absurd (false≢true h)
plus_above (fin false m e) s a h v = sym v.0

pub some_above : (x : Float) (s : Bool) (a : ℕ) → lt origin x ≡ true → HasValue x s a (2 ^ 1074) → a ≡ 0 → ⊥
unfolding lt
some_above nan s a h v z = v
some_above (inf t) s a h v z = v
some_above (fin true m e) s a h v z = false≢true h
some_above (fin false zero e) s a h v z = lt_irrefl 0 (lt_of_le_of_lt Prim.Native.Nat.zero-le (subst (λ (k : ℕ). 0 * 1 * down e < k) (ap (λ (k : ℕ). k * 1) (zero-mul (up e))) (ltb→lt (0 * 1 * down e) (0 * up e * 1) (subst T (sym h) tt))))
some_above (fin false (suc m) e) s a h v z = no_zero (suc m * up e) (2 ^ 1074) (mul-pos (zero-lt-suc m) (up_pos e)) (pow_pos 1074) (sym (zero-mul (down e)) ∙ ap (λ (k : ℕ). k * down e) (sym z) ∙ sym v.1)

pub root_infinite : (x : Float) → lt origin x ≡ true → lt x (inf false) ≡ false → x ≡ root_of x
unfolding root_of lt
root_infinite nan h k = refl
root_infinite (inf true) h k = absurd (false≢true h)
root_infinite (inf false) h k = refl
root_infinite (fin s m e) h k = absurd (true≢false k)

pub root_below : (x : Float) → lt x origin ≡ true → nan ≡ root_of x
unfolding root_of lt
root_below nan h = refl
root_below (inf true) h = refl
root_below (inf false) h = absurd (false≢true h)
root_below (fin true zero e) h = absurd (lt_irrefl 0 (subst (λ (k : ℕ). 0 < k) (simp (zero-mul)) (ltb→lt 0 (0 * up e * 1 + 0 * 1 * down e) (subst T (sym h) tt))))
root_below (fin true (suc m) e) h = refl
root_below (fin false m e) h = absurd (no_less (m * up e * 1) (ltb→lt (m * up e * 1) (0 * 1 * down e) (subst T (sym h) tt)))
  where
    no_less : (a : ℕ) → a < 0 * 1 * down e → ⊥
    no_less a k = not-le_of_lt (subst (λ (z : ℕ). a < z) (zero-mul (down e)) k) Prim.Native.Nat.zero-le

-- a zero and a NaN
pub root_level : (x : Float) → lt origin x ≡ false → lt x origin ≡ false → x ≡ root_of x
unfolding root_of lt
root_level nan h k = refl
root_level (inf true) h k = absurd (true≢false k)
root_level (inf false) h k = absurd (true≢false h)
root_level (fin s zero e) h k = refl
root_level (fin true (suc m) e) h k = absurd (no_below (suc m * up e * 1 + 0 * 1 * down e) k (lt_of_lt_of_le (size_pos m e) (native.Mathlib.Nat.le-add_right _ _)))
root_level (fin false (suc m) e) h k = absurd (no_below (suc m * up e * 1) (subst (λ (z : ℕ). ltb z (suc m * up e * 1) ≡ false) (zero-mul (down e)) h) (size_pos m e))

-- ---- reading the pattern back
pub read_back : (n : ℕ) (v : Float) → n ≡ to_bits binary64 v → T (fits binary64 v) → of_bits binary64 n ≡ v
read_back n v e F = ap (of_bits binary64) e ∙ of_bits-to_bits binary64 v F

pub reads_no_nan : (n : ℕ) (v : Float) → n ≡ to_bits binary64 v → T (fits binary64 v) → is_nan v ≡ false → T (not (nan_bits binary64 n))
reads_no_nan n v e F k = subst (λ (b : Bool). T (not b)) (sym (nan_bits_is binary64 n ∙ ap is_nan (read_back n v e F) ∙ k)) tt
