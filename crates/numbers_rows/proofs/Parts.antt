-- A number of the range in two halves, and the products of them: all are exact. Assumes nothing.
use mathlib.Core.Path.{◌≡◌, refl, sym, ap, ◌∙◌, subst}
use mathlib.Core.Logic.{inl, inr}
use Prim.Native.Nat.{ℕ, suc, ◌+◌, ◌-◌, ◌*◌, ◌/◌, ◌%◌, ◌^◌, ◌≤◌, ◌<◌}
use native.Mathlib.Nat.{le_trans, lt_of_lt_of_le, lt_of_le_of_lt, le_of_lt, eq-or-lt_of_le, one-mul, mul_assoc, mul-mul-mul_comm, mul-le-mul, mul-pos, eq_of_mul-eq-mul_right}
use native.Mathlib.Omega.{arith}
use mathlib.Core.Bool.{Bool, true, false, not}
use lib.Dec.{T, leb, leb→le, nleb→lt, lit<, lit≤, not_T}
use lib.Pow.{pow-add, pow_pos, pow_mono, shl_lt}
use lib.Ieee.{Float, nan, inf, fin, binary64, up, down, unlike, odd, round, mul, of_bits, of_fields, sub}
use lib.Ieee.Bits.{is_false}
use lib.Ieee.Exact.{HasValue, odd_sign, round_exact}
use lib.Ieee.Fits.{down_pos}
use lib.Ieee.Scale.{round_same}
use Rattle.numbers_spec.proofs.Value.{at_some, by_fields, same_fraction}
use Rattle.numbers_spec.specs.Values.{Units}
use Rattle.numbers_rows.proofs.Differences.{Minus, sub_exact}

regroup : (a b c d : ℕ) → a + b ≡ c + d → 2 ^ a * 2 ^ b ≡ 2 ^ c * 2 ^ d
regroup a b c d e = sym (pow-add 2 a b) ∙ ap (λ (k : ℕ). 2 ^ k) e ∙ pow-add 2 c d

-- ---- the value of a pattern, by its digits C and by how far they are shifted
module _ (j C : ℕ) (J : j ≤ 1501) (lo : 2 ^ 52 ≤ C) (hi : C < 2 ^ 53) where
  abbrev B : ℕ
  B = j * 2 ^ 52 + C

  digits : 4503599627370496 + B % 4503599627370496 ≡ C
  digits = omega arith

  field : B / 4503599627370496 % 2048 ≡ suc j
  field = omega arith

  plus : leb 9223372036854775808 B ≡ false
  plus = is_false (leb 9223372036854775808 B) (not_T (leb 9223372036854775808 B) (λ t. no (leb→le 9223372036854775808 B t)))
    where
      no : 9223372036854775808 ≤ B → ⊥
      no h = omega arith

  placed_under : Units binary64 (of_bits binary64 B) false (C * 2 ^ j)
  placed_under =
      let t = B % 4503599627370496 in
      let is : odd 53 false (4503599627370496 + t) j 1074 ≡ of_bits binary64 B =
      sym (at_some false t j (omega arith)) ∙ (λ i. of_fields binary64 (sym plus i) (sym field i) t) ∙ sym (by_fields B) in
      subst (λ (n : ℕ). Units binary64 (of_bits binary64 B) false (n * 2 ^ j)) digits
      (subst (λ (y : Float). Units binary64 y false ((4503599627370496 + t) * 2 ^ j)) is (odd_sign 53 false (4503599627370496 + t) j 1074))

-- 2 ^ 53 is 2 ^ 52, shifted by one more
placed : (j C : ℕ) → j ≤ 1500 → 2 ^ 52 ≤ C → C ≤ 2 ^ 53 → Units binary64 (of_bits binary64 (j * 2 ^ 52 + C)) false (C * 2 ^ j)
placed j C J lo hi = elim (eq-or-lt_of_le hi) [
  | inl e ↦ subst (λ (n : ℕ). Units binary64 (of_bits binary64 (j * 2 ^ 52 + n)) false (n * 2 ^ j)) (sym e)
      (subst (λ (b : ℕ). Units binary64 (of_bits binary64 b) false (2 ^ 53 * 2 ^ j)) carry
      (subst (λ (n : ℕ). Units binary64 (of_bits binary64 (suc j * 2 ^ 52 + 2 ^ 52)) false n) shift
      (placed_under (suc j) (2 ^ 52) (omega arith) (lit≤ tt) (lit< tt))))
  | inr l ↦ placed_under j C (omega arith) lo l
]
  where
    carry : suc j * 2 ^ 52 + 2 ^ 52 ≡ j * 2 ^ 52 + 2 ^ 53
    carry = omega arith

    shift : 2 ^ 52 * 2 ^ suc j ≡ 2 ^ 53 * 2 ^ j
    shift = regroup 52 (suc j) 53 j (omega arith)

-- a pattern without digits below the leading one
power : (j : ℕ) → j ≤ 1500 → Units binary64 (of_bits binary64 (j * 2 ^ 52 + 2 ^ 52)) false (1 * 2 ^ (j + 52))
power j J = subst (λ (n : ℕ). Units binary64 (of_bits binary64 (j * 2 ^ 52 + 2 ^ 52)) false n) (regroup 52 j 0 (j + 52) (omega arith)) (placed j (2 ^ 52) J (lit≤ tt) (lit≤ tt))

-- ---- exact products, of any signs
times : (x y : Float) (s t : Bool) (a b d : ℕ) → 0 < d → HasValue x s a d → HasValue y t b d → mul binary64 x y ≡ round binary64 (unlike s t) (a * b) (d * d)
unfolding mul
times nan y s t a b d D h k = absurd h
times (inf u) y s t a b d D h k = absurd h
times (fin u m e) nan s t a b d D h k = absurd k
times (fin u m e) (inf v) s t a b d D h k = absurd k
times (fin u m e) (fin v n g) s t a b d D h k =
    (λ i. round binary64 (unlike (h.0 i) (k.0 i)) (m * up e * (n * up g)) (down e * down g))
    ∙ round_same binary64 (unlike s t) (m * up e * (n * up g)) (down e * down g) (a * b) (d * d) (mul-pos (down_pos e) (down_pos g)) (mul-pos D D)
    (mul-mul-mul_comm (m * up e) (n * up g) d d ∙ (λ i. h.1 i * k.1 i) ∙ mul-mul-mul_comm a (down e) b (down g))

-- a number up to 2 ^ 53 has no more digits than the format keeps: 2 ^ 53 itself has one, shifted by 53
few : (n k : ℕ) → n ≤ 2 ^ 53 → (q : ℕ) × (l : ℕ) × (q < 2 ^ 53) × (n * 2 ^ k ≡ q * 2 ^ l)
few n k h = elim (eq-or-lt_of_le h) [
  | inl e ↦ (1, 53 + k, lit< tt, ap (λ (x : ℕ). x * 2 ^ k) e ∙ regroup 53 k 0 (53 + k) (omega arith))
  | inr l ↦ (n, k, l, refl)
]

rounded : (s : Bool) (a n k : ℕ) → n ≤ 2 ^ 53 → k ≤ 2044 → a ≡ n * 2 ^ k * 2 ^ 1074 → Units binary64 (round binary64 s a (2 ^ 1074 * 2 ^ 1074)) s (n * 2 ^ k)
rounded s a n k h K e =
    let w = few n k h in
    let L = 2 ^ 1074 in
    let D = mul-pos (pow_pos 1074) (pow_pos 1074) in
    let same : n * 2 ^ k * (L * L) ≡ a * L = sym (mul_assoc (n * 2 ^ k) L L) ∙ ap (λ (x : ℕ). x * L) (sym e) in
    same_fraction (round binary64 s a (L * L)) s a (L * L) (n * 2 ^ k) L D same
    (round_exact binary64 s a (L * L) w.0 w.1 D w.2
    (subst (λ (x : ℕ). x < 2 ^ 2098) w.3 (lt_of_lt_of_le (shl_lt 54 k (lt_of_le_of_lt h (lit< tt))) (pow_mono (room k K))))
    (sym same ∙ ap (λ (x : ℕ). x * (L * L)) w.3))
  where
    room : (i : ℕ) → i ≤ 2044 → 54 + i ≤ 2098
    room i g = omega arith

product : (x y : Float) (s t r : Bool) (a i b j n k : ℕ) → Units binary64 x s (a * 2 ^ i) → Units binary64 y t (b * 2 ^ j) → unlike s t ≡ r → a * b ≡ n → i + j ≡ k + 1074 → n ≤ 2 ^ 53 → k ≤ 2044
    → Units binary64 (mul binary64 x y) r (n * 2 ^ k)
product x y s t r a i b j n k X Y u e g h K =
    subst (λ (z : Float). Units binary64 z r (n * 2 ^ k))
    (sym (times x y s t (a * 2 ^ i) (b * 2 ^ j) (2 ^ 1074) (pow_pos 1074) X Y ∙ ap (λ (v : Bool). round binary64 v (a * 2 ^ i * (b * 2 ^ j)) (2 ^ 1074 * 2 ^ 1074)) u))
    (rounded r (a * 2 ^ i * (b * 2 ^ j)) n k h K
    (mul-mul-mul_comm a (2 ^ i) b (2 ^ j) ∙ ap (λ (x : ℕ). x * (2 ^ i * 2 ^ j)) e ∙ ap (λ (x : ℕ). n * x) (regroup i j k 1074 g) ∙ sym (mul_assoc n (2 ^ k) (2 ^ 1074))))

plain : (t : Bool) → unlike false t ≡ t
plain true = refl
plain false = refl

alike : (t : Bool) → unlike t t ≡ false
alike true = refl
alike false = refl

-- ---- c - h as a sign and a size
cut : (c h : ℕ) → c ≤ h + 2 ^ 26 → h ≤ c + 2 ^ 26 → (r : Bool) × (n : ℕ) × Minus false c false h r n × (n ≤ 2 ^ 26)
cut c h lo hi = go (leb h c) (leb→le h c) (nleb→lt h c)
  where
    over : h ≤ c → (c - h) + (0 + h) ≡ c + 0
    over g = omega arith

    beyond : c < h → (h - c) + (c + 0) ≡ 0 + h
    beyond g = omega arith

    go : (b : Bool) → (T b → h ≤ c) → (T (not b) → c < h) → (r : Bool) × (n : ℕ) × Minus false c false h r n × (n ≤ 2 ^ 26)
    go true g l = (false, c - h, over (g tt), omega arith)
    go false g l = (true, h - c, beyond (l tt), omega arith)

scale : (r : Bool) (c h n w : ℕ) → Minus false c false h r n → Minus false (c * w) false (h * w) r (n * w)
scale true c h n w e = let x : (n + (c + 0)) * w ≡ (0 + h) * w = ap (λ (k : ℕ). k * w) e in omega arith
scale false c h n w e = let x : (n + (0 + h)) * w ≡ (c + 0) * w = ap (λ (k : ℕ). k * w) e in omega arith

unscale : (r : Bool) (c h n w : ℕ) → 0 < w → Minus false (c * w) false (h * w) r (n * w) → Minus false c false h r n
unscale true c h n w W e = eq_of_mul-eq-mul_right w W (n + (c + 0)) (0 + h) (omega arith)
unscale false c h n w W e = eq_of_mul-eq-mul_right w W (n + (0 + h)) (c + 0) (omega arith)

-- 2.0
abbrev pub two : Float
two = of_bits binary64 0x4000_0000_0000_0000

module _ (j c : ℕ) (lo : 2 ^ 52 < c) (hi : c ≤ 2 ^ 53) (J : 537 ≤ j) (J' : j ≤ 1500) where
  abbrev b : ℕ
  b = j * 2 ^ 52 + c

  -- s is c * 2 ^ j units, and a unit of s squared is 2 ^ K units
  abbrev K : ℕ
  K = j + j - 1074

  abbrev s : Float
  s = of_bits binary64 b

  -- s without its 27 last digits, rounded
  abbrev H : ℕ
  H = (c + 67108864) / 134217728

  abbrev high : Float
  high = of_bits binary64 ((b + 67108864) / 134217728 * 134217728)

  abbrev low : Float
  low = sub binary64 s high

  abbrev unit : Float
  unit = of_bits binary64 ((b - 234187180623265793) / 4503599627370496 * 4503599627370496)

  pub record Halves : Type 0 where
    pub sign : Bool
    pub rest : ℕ
    -- c - H * 2 ^ 27 is ±rest
    pub is : Minus false c false (H * 2 ^ 27) sign rest
    pub rest_le : rest ≤ 2 ^ 26
    pub H-ge : 2 ^ 25 ≤ H
    pub H-le : H ≤ 2 ^ 26
    pub high_high : Units binary64 (mul binary64 high high) false (H * H * 2 ^ 54 * 2 ^ K)
    pub high_low : Units binary64 (mul binary64 (mul binary64 two high) low) sign (H * rest * 2 ^ 28 * 2 ^ K)
    pub low_low : Units binary64 (mul binary64 low low) false (rest * rest * 2 ^ K)
    pub bound : Units binary64 (mul binary64 unit s) false (c * 2 ^ K)

  H-from : 2 ^ 25 ≤ H
  H-from = omega arith

  H-to : H ≤ 2 ^ 26
  H-to = omega arith

  K-is : j + j ≡ K + 1074
  K-is = omega arith

  -- ---- the values of the patterns
  s_is : Units binary64 s false (c * 2 ^ j)
  s_is = placed j c J' (omega arith) hi

  high_is : Units binary64 high false (H * 2 ^ 27 * 2 ^ j)
  high_is = subst (λ (n : ℕ). Units binary64 (of_bits binary64 n) false (H * 2 ^ 27 * 2 ^ j)) same (placed j (H * 2 ^ 27) J' (omega arith) (omega arith))
    where
      same : j * 2 ^ 52 + H * 2 ^ 27 ≡ (b + 67108864) / 134217728 * 134217728
      same = omega arith

  -- the last digit of s, or of the numbers below where it is a power of two
  unit_is : Units binary64 unit false (1 * 2 ^ j)
  unit_is = subst (λ (n : ℕ). Units binary64 (of_bits binary64 n) false (1 * 2 ^ j)) same (subst (λ (n : ℕ). Units binary64 (of_bits binary64 ((j - 52) * 2 ^ 52 + 2 ^ 52)) false (1 * 2 ^ n)) down (power (j - 52) (omega arith)))
    where
      down : j - 52 + 52 ≡ j
      down = omega arith

      same : (j - 52) * 2 ^ 52 + 2 ^ 52 ≡ (b - 234187180623265793) / 4503599627370496 * 4503599627370496
      same = omega arith

  -- its digits are those of H
  high_at : Units binary64 high false (H * 2 ^ (27 + j))
  high_at = subst (λ (n : ℕ). Units binary64 high false n) (mul_assoc H (2 ^ 27) (2 ^ j) ∙ ap (λ (w : ℕ). H * w) (sym (pow-add 2 27 j))) high_is

  -- ---- the products
  -- the factors of 2 that the halves lack, apart from those of the unit
  apart : (x : Float) (t : Bool) (n i : ℕ) → Units binary64 x t (n * 2 ^ (i + K)) → Units binary64 x t (n * 2 ^ i * 2 ^ K)
  apart x t n i h = subst (λ (k : ℕ). Units binary64 x t k) (ap (λ (w : ℕ). n * w) (pow-add 2 i K) ∙ sym (mul_assoc n (2 ^ i) (2 ^ K))) h

  square : Units binary64 (mul binary64 high high) false (H * H * 2 ^ 54 * 2 ^ K)
  square =
      apart (mul binary64 high high) false (H * H) 54
      (product high high false false false H (27 + j) H (27 + j) (H * H) (54 + K) high_at high_at refl refl (omega arith) (le_trans (mul-le-mul H-to H-to) (lit≤ tt)) (omega arith))

  twice : Units binary64 (mul binary64 two high) false (H * 2 ^ (j + 28))
  twice = product two high false false false 1 1075 H (27 + j) H (j + 28) (power 1023 (lit≤ tt)) high_at refl (one-mul H) (omega arith) (le_trans H-to (lit≤ tt)) (omega arith)

  pub halves : Halves
  halves =
      let d = cut c (H * 2 ^ 27) (omega arith) (omega arith) in
      let n = d.1 in
      let R : n ≤ 2 ^ 26 = d.3 in
      let m : n < 2 ^ 53 = lt_of_le_of_lt R (lit< tt) in
      let l = sub_exact s high false (c * 2 ^ j) false (H * 2 ^ 27 * 2 ^ j) d.0 (n * 2 ^ j) n j s_is high_is (scale d.0 c (H * 2 ^ 27) n (2 ^ j) d.2) refl (le_of_lt m) (lt_of_lt_of_le (shl_lt 53 j m) (pow_mono room)) in
      let z = l.0 in
      let low_is = l.1.1 in
      record {
        sign = z;
        rest = n;
        is = unscale z c (H * 2 ^ 27) n (2 ^ j) (pow_pos j) l.1.0;
        rest_le = R;
        H-ge = H-from;
        H-le = H-to;
        high_high = square;
        high_low = apart (mul binary64 (mul binary64 two high) low) z (H * n) 28
            (product (mul binary64 two high) low false z z H (j + 28) n j (H * n) (28 + K) twice low_is (plain z) refl (omega arith) (le_trans (mul-le-mul H-to R) (lit≤ tt)) (omega arith));
        low_low = product low low z z false n j n j (n * n) K low_is low_is (alike z) refl K-is (le_trans (mul-le-mul R R) (lit≤ tt)) (omega arith);
        bound = product unit s false false false 1 j c j c K unit_is s_is refl (one-mul c) K-is hi (omega arith);
      }
    where
      room : 53 + j ≤ 2098
      room = omega arith
