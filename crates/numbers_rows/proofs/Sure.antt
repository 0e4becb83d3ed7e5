-- What the test of `is_root` says: x lies so near to the square of s that s is the root of x. Assumes nothing.
use mathlib.Core.Path.{◌≡◌, sym, ap, ◌∙◌, subst}
use mathlib.Core.Logic.{◌⊎◌, inl, inr}
use Prim.Native.Nat.{ℕ, ◌+◌, ◌-◌, ◌*◌, ◌/◌, ◌^◌, ◌≤◌, ◌<◌}
use native.Mathlib.Nat.{lt_trans, not-le_of_lt, zero-add, mul-le-mul, mul-le-mul_right, lt_of_mul-lt-mul_right, mul_assoc}
use native.Mathlib.Omega.{arith}
use mathlib.Core.Bool.{Bool, true, false}
use lib.Dec.{T, lit<, lit≤}
use lib.Pow.{pow-add, pow-lt, pow_pos, shl_lt}
use lib.Ieee.{Float, binary64, fits, lt, mul, neg, of_bits, sub, to_bits}
use lib.Ieee.Fits.{sub-fits}
use Rattle.numbers_spec.specs.Arithmetic.{at_least}
use Rattle.numbers_spec.specs.Root.{NearRoot, root_of}
use Rattle.numbers_spec.proofs.Encode.{spaced}
use Rattle.numbers_spec.proofs.Value.{value_finite}
use Rattle.numbers_spec.specs.Values.{Units}
use Rattle.numbers_spec.proofs.Order.{P, N, P-mul, N-mul}
use Rattle.numbers_spec.proofs.Placed.{placed_units}
use Rattle.numbers_rows.specs.Rows.{Ranged}
use Rattle.numbers_rows.proofs.Differences.{Minus, in_units, sub_finite, sub_exact, sub_back, under}
use Rattle.numbers_rows.proofs.Gaps.{reach, parts_of, square, second_lt, first_lt, sign_plus, first_multiple, second_multiple, kept, P-lt, N-lt, joined, nearest}
use Rattle.numbers_rows.proofs.Parts.{halves, two}
use Rattle.numbers_rows.proofs.Range.{ranged_bits}
use Rattle.numbers_rows.proofs.Settled.{settled}

-- ---- the differences themselves: hh, hl and ll are the parts of s squared, in units of 2 ^ K
module _ (x hh hl ll : Float) (F : T (fits binary64 x)) (h l c K : ℕ) (σ : Bool) where
  abbrev w : ℕ
  w = 2 ^ K

  abbrev d₁ : Float
  d₁ = sub binary64 x hh

  abbrev d₂ : Float
  d₂ = sub binary64 d₁ hl

  abbrev d₃ : Float
  d₃ = sub binary64 d₂ ll

  -- what the test gives
  record Small : Type 0 where
    sign : Bool
    size : ℕ
    is : Units binary64 d₃ sign size
    size_lt : size < c * w

  -- powers beside w
  raise : (a k : ℕ) → a * 2 ^ (k + K) ≡ a * 2 ^ k * w
  raise a k = ap (λ (z : ℕ). a * z) (pow-add 2 k K) ∙ sym (mul_assoc a (2 ^ k) w)

  module _ (hh-is : Units binary64 hh false (h * h * 2 ^ 54 * w)) (hl_is : Units binary64 hl σ (h * l * 2 ^ 28 * w)) (ll-is : Units binary64 ll false (l * l * w))
      (h-ge : 2 ^ 25 ≤ h) (h_le : h ≤ 2 ^ 26) (l_le : l ≤ 2 ^ 26) (c_le : c ≤ 2 ^ 53) (K-le : K ≤ 1926) (small : Small) where
    few : (m : ℕ) → m ≤ 9007199254740992 → m < 18014398509481984
    few m M = omega arith

    room : (k n : ℕ) → k ≤ 100 → n ≤ 1926 → 54 + (k + n) < 2098
    room k n a b = omega arith

    w_pos : 0 < w
    w_pos = pow_pos K

    fine : (m k : ℕ) → m ≤ 2 ^ 53 → k ≤ 100 → m * 2 ^ (k + K) < 2 ^ 2098
    fine m k M k-le = lt_trans (shl_lt 54 (k + K) (few m M)) (pow-lt (room k K k-le K-le))

    bound_fine : c * 2 ^ K < 2 ^ 2098
    bound_fine = subst (λ (k : ℕ). c * 2 ^ k < 2 ^ 2098) (zero-add K) (fine c 0 c_le (lit≤ tt))

    -- ---- back: each difference is bounded by the one after it
    second : (s : Bool) × (a : ℕ) × (Units binary64 d₂ s a × (a < 2 ^ 54 * w))
    second =
        let u = in_units d₂ (sub-fits binary64 d₁ hl) (sub_finite d₂ ll (value_finite d₃ _ _ _ small.is)).0 in
        let b = sub_back d₂ ll u.0 u.1 false (l * l * w) small.sign small.size c K u.2 ll-is small.is small.size_lt c_le bound_fine in
        (u.0, u.1, (u.2, second_lt u.1 b.1 c (l * l) w (reach u.0 u.1 false (l * l * w) b.0 b.1 b.2.0) b.2.1 c_le (mul-le-mul l_le l_le) w_pos))

    first : (s : Bool) × (a : ℕ) × (Units binary64 d₁ s a × (a < 2 ^ 81 * w))
    first =
        let u = in_units d₁ (sub-fits binary64 x hh) (sub_finite d₁ hl (value_finite d₂ _ _ _ second.2.0)).0 in
        let b = sub_back d₁ hl u.0 u.1 σ (h * l * 2 ^ 28 * w) second.0 second.1 1 (54 + K) u.2 hl_is second.2.0 (subst (λ (k : ℕ). second.1 < k) (sym (raise 1 54)) second.2.1) (lit≤ tt) (fine 1 54 (lit≤ tt) (lit≤ tt)) in
        (u.0, u.1, (u.2, first_lt u.1 b.1 (h * l * 2 ^ 28) w (reach u.0 u.1 σ (h * l * 2 ^ 28 * w) b.0 b.1 b.2.0) (subst (λ (k : ℕ). b.1 < k) (raise 1 54) b.2.1) (mul-le-mul_right 268435456 (mul-le-mul h_le l_le)) w_pos))

    -- x is not negative, and a multiple of 2 ^ 51 units of s squared
    record Under : Type 0 where
      part : ℕ
      is : Units binary64 x false (part * 2 ^ 51 * w)
      sign : Bool
      size : ℕ
      apart : Minus false (part * 2 ^ 51 * w) false (h * h * 2 ^ 54 * w) sign size
      size_lt : size < 2 ^ 81 * w

    large : (a : ℕ) (r : Bool) (n : ℕ) → Units binary64 x false a → 2 ^ 103 * w ≤ a → Minus false a false (h * h * 2 ^ 54 * w) r n → n < 2 ^ 81 * w → Under
    large a r n X A d k = let p = placed_units binary64 x false a F X in go p.0 p.1 p.3 (spaced 53 p.0 p.1 (51 + K) (lit< tt) p.2)
      where
        go : (q i : ℕ) → a ≡ q * 2 ^ i → ((t : ℕ) × (q * 2 ^ i ≡ t * 2 ^ (51 + K))) ⊎ (q * 2 ^ i < 2 ^ 52 * 2 ^ (51 + K)) → Under
        go q i e (inl (t, f)) =
            let is : a ≡ t * 2 ^ 51 * w = e ∙ f ∙ raise t 51 in
            record {
              part = t;
              is = subst (λ (z : ℕ). Units binary64 x false z) is X;
              sign = r;
              size = n;
              apart = subst (λ (z : ℕ). Minus false z false (h * h * 2 ^ 54 * w) r n) is d;
              size_lt = k;
            }
        go q i e (inr f) = absurd (not-le_of_lt (subst (λ (z : ℕ). a < z) (raise (2 ^ 52) 51) (subst (λ (z : ℕ). z < 2 ^ 52 * 2 ^ (51 + K)) (sym e) f)) A)

    given : Under
    given =
        let u = in_units x F (sub_finite x hh (value_finite d₁ _ _ _ first.2.0)).0 in
        let b = sub_back x hh u.0 u.1 false (h * h * 2 ^ 54 * w) first.0 first.1 1 (81 + K) u.2 hh-is first.2.0 (subst (λ (k : ℕ). first.1 < k) (sym (raise 1 81)) first.2.1) (lit≤ tt) (fine 1 81 (lit≤ tt) (lit≤ tt)) in
        let n_lt : b.1 < 2 ^ 81 * w = subst (λ (k : ℕ). b.1 < k) (raise 1 81) b.2.1 in
        let p = sign_plus u.0 u.1 (h * h * 2 ^ 54) b.0 b.1 w b.2.0 n_lt (mul-le-mul_right 18014398509481984 (mul-le-mul h-ge h-ge)) w_pos in
        large u.1 b.0 b.1 (subst (λ (s : Bool). Units binary64 x s u.1) p.0 u.2) p.1 (subst (λ (s : Bool). Minus s u.1 false (h * h * 2 ^ 54 * w) b.0 b.1) p.0 b.2.0) n_lt

    -- ---- forth: the first two differences are exact
    -- the second difference is exact where the first one is n units, a multiple of 2 ^ 51
    second_from : (s : Bool) (n m : ℕ) → Units binary64 d₁ s n → n ≡ m * 2 ^ 51 * w → (r : Bool) (a : ℕ) → Units binary64 d₂ r a → a < 2 ^ 54 * w
        → (z : Bool) × (k : ℕ) × (Minus s n σ (h * l * 2 ^ 28 * w) z k × Units binary64 d₂ z k)
    second_from s n m D e r a A L =
        let b = sub_back d₁ hl s n σ (h * l * 2 ^ 28 * w) r a 1 (54 + K) D hl_is A (subst (λ (k : ℕ). a < k) (sym (raise 1 54)) L) (lit≤ tt) (fine 1 54 (lit≤ tt) (lit≤ tt)) in
        exact b.0 b.1 b.2.0 (subst (λ (k : ℕ). b.1 < k) (raise 1 54) b.2.1)
      where
        exact : (z : Bool) (k : ℕ) → Minus s n σ (h * l * 2 ^ 28 * w) z k → k < 2 ^ 54 * w → (z : Bool) × (k : ℕ) × (Minus s n σ (h * l * 2 ^ 28 * w) z k × Units binary64 d₂ z k)
        exact z k M K-lt =
            let q = second_multiple s m σ (h * l) z k w (subst (λ (i : ℕ). Minus s i σ (h * l * 2 ^ 28 * w) z k) e M) w_pos in
            multiple q.0 q.1
          where
            multiple : (q : ℕ) → k ≡ q * 2 ^ 28 * w → (z : Bool) × (k : ℕ) × (Minus s n σ (h * l * 2 ^ 28 * w) z k × Units binary64 d₂ z k)
            multiple q is-q =
                let few : q ≤ 2 ^ 53 = kept q (2 ^ 28) (2 ^ 26) w (subst (λ (i : ℕ). i < 2 ^ 54 * w) is-q K-lt) (lit≤ tt) in
                let is : k ≡ q * 2 ^ (28 + K) = is-q ∙ sym (raise q 28) in
                let d = sub_exact d₁ hl s n σ (h * l * 2 ^ 28 * w) z k q (28 + K) D hl_is M is few (subst (λ (i : ℕ). i < 2 ^ 2098) (sym is) (fine q 28 few (lit≤ tt))) in
                (d.0, k, (d.1.0, d.1.1))

    module _ (u : Under) where
      abbrev t : ℕ
      t = u.part * 2 ^ 51

      first_exact : (z : Bool) × (n : ℕ) × (m : ℕ) × (Minus false (t * w) false (h * h * 2 ^ 54 * w) z n × Units binary64 d₁ z n × (n ≡ m * 2 ^ 51 * w))
      first_exact =
          let m = first_multiple u.sign u.size u.part h w u.apart w_pos in
          let few : m.0 ≤ 2 ^ 53 = kept m.0 (2 ^ 51) (2 ^ 30) w (subst (λ (z : ℕ). z < 2 ^ 81 * w) m.1 u.size_lt) (lit≤ tt) in
          let is : u.size ≡ m.0 * 2 ^ (51 + K) = m.1 ∙ sym (raise m.0 51) in
          let d = sub_exact x hh false (t * w) false (h * h * 2 ^ 54 * w) u.sign u.size m.0 (51 + K) u.is hh-is u.apart is few (subst (λ (z : ℕ). z < 2 ^ 2098) (sym is) (fine m.0 51 few (lit≤ tt))) in
          (d.0, u.size, m.0, (d.1.0, d.1.1, m.1))

      abbrev s₁ : Bool
      s₁ = first_exact.0

      abbrev n₁ : ℕ
      n₁ = first_exact.1

      second_exact : (z : Bool) × (n : ℕ) × (Minus s₁ n₁ σ (h * l * 2 ^ 28 * w) z n × Units binary64 d₂ z n)
      second_exact = second_from s₁ n₁ first_exact.2 first_exact.3.1 first_exact.3.2 second.0 second.1 second.2.0 second.2.1

      abbrev s₂ : Bool
      s₂ = second_exact.0

      abbrev n₂ : ℕ
      n₂ = second_exact.1

      third : (z : Bool) × (n : ℕ) × (Minus s₂ n₂ false (l * l * w) z n × (n < c * w))
      third = sub_back d₂ ll s₂ n₂ false (l * l * w) small.sign small.size c K second_exact.2.1 ll-is small.is small.size_lt c_le bound_fine

      near : Minus false c false (h * 134217728) σ l → NearRoot t c
      near e =
          let j = joined (h * h * 2 ^ 54) (l * l) c t w (P s₁ n₁) (N s₁ n₁) (P s₂ n₂) (N s₂ n₂) (P third.0 third.1) (N third.0 third.1) _ _ _ _
          (P-mul σ (h * l * 2 ^ 28) w) (N-mul σ (h * l * 2 ^ 28) w)
          (parts_of s₁ n₁ _ _ first_exact.3.0) (parts_of s₂ n₂ _ _ second_exact.2.0) (parts_of third.0 third.1 _ _ third.2.0)
          (P-lt third.0 third.1 (c * w) third.2.1) (N-lt third.0 third.1 (c * w) third.2.1) in
          nearest t c _ _ (square c h l σ e) (lt_of_mul-lt-mul_right w j.0) (lt_of_mul-lt-mul_right w j.1)

    -- x in units of s squared, and c near its root
    found : Minus false c false (h * 134217728) σ l → (t : ℕ) × (Units binary64 x false (t * w) × NearRoot t c)
    found e = (t given, (given.is, near given e))

-- ---- the test of `is_root`: b is the pattern of s
abbrev high : ℕ → Float
high b = of_bits binary64 ((b + 67108864) / 134217728 * 134217728)

abbrev low : Float → ℕ → Float
low s b = sub binary64 s (high b)

abbrev rest : Float → Float → ℕ → Float
rest x s b = sub binary64 (sub binary64 (sub binary64 x (mul binary64 (high b) (high b))) (mul binary64 (mul binary64 two (high b)) (low s b))) (mul binary64 (low s b) (low s b))

abbrev bound : Float → ℕ → Float
bound s b = mul binary64 (of_bits binary64 ((b - 234187180623265793) / 4503599627370496 * 4503599627370496)) s

abbrev Passed : Float → Float → ℕ → Type 0
Passed x s b = lt (at_least (neg (rest x s b)) (rest x s b)) (bound s b) ≡ true

module _ (s : Float) (r : Ranged s) where
  abbrev b : ℕ
  b = r.place * 2 ^ 52 + r.digits

  pub sure : (x : Float) → T (fits binary64 x) → Passed x s (to_bits binary64 s) → s ≡ root_of x
  sure x F t =
      subst (λ (z : Float). Passed x z b → z ≡ root_of x) (sym r.is) (placed x F) (subst (Passed x s) (ranged_bits s r) t)
    where
      K-le : (j : ℕ) → j ≤ 1500 → j + j - 1074 ≤ 1926
      K-le j h = omega arith

      placed : (x : Float) → T (fits binary64 x) → Passed x (of_bits binary64 b) b → of_bits binary64 b ≡ root_of x
      placed x F t =
          let j = r.place in
          let c = r.digits in
          let p = halves j c r.digits_gt r.digits_le r.place_ge r.place_le in
          let K = j + j - 1074 in
          let S = of_bits binary64 b in
          let u = under (rest x S b) (bound S b) (c * 2 ^ K) (sub-fits binary64 _ _) p.bound t in
          let f = found x (mul binary64 (high b) (high b)) (mul binary64 (mul binary64 two (high b)) (low S b)) (mul binary64 (low S b) (low S b)) F ((c + 67108864) / 134217728) p.rest c K p.sign
          p.high_high p.high_low p.low_low p.H-ge p.H-le p.rest_le r.digits_le (K-le j r.place_le) (record { sign = u.0; size = u.1; is = u.2.0; size_lt = u.2.1 }) p.is in
          settled x F j c f.0 r.place_ge r.place_le r.digits_gt r.digits_le f.1.0 f.1.1
