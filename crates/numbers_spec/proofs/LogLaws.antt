-- L and `log10` of a positive normal v are finite and bounded; L is not negative from v = 1 on, and at most 91 up to v = 2^128. Assumes nothing.
use mathlib.Core.Path.{◌≡◌, refl}
use mathlib.Core.Bool.{Bool, true, false, not, cond}
use lib.IntN.{pos, negsuc}
use lib.Dec.{T}
use lib.Ieee.{Float, nan, inf, fin, binary64, add, sub, mul, div, neg, lt, le, of_bits, is_nan}
use lib.Ieee.Bits.{is_true}
use lib.Ieee.Positive.{positive, positive-finite}
use lib.Ieee.Scale.{finite}
use Rattle.numbers_spec.specs.Arithmetic.{◌⊕◌, ◌⊖◌, ◌⊗◌, ◌⊘◌, zero⁺, one, two, magnitude}
use Rattle.numbers_spec.specs.Exponential.{hi, lo, ln10}
use Rattle.numbers_spec.specs.Logarithm.{smallest_normal, sqrt2, half, mantissa, exponent, log_twice, log_at, log_halved, log_of, log10_of}
use Rattle.numbers_spec.proofs.Value.{finite_no_nan}
use Rattle.numbers_spec.specs.Values.{Normal, AtMost, NotNegative, Between}
use Rattle.numbers_spec.specs.LogLaws.{log_most, log_most⁻, log_most₃₂, log10_most, LogFinite, LogNotNegative, LogMost, Log10Finite, Log10Infinite}
use Rattle.numbers_spec.proofs.Order.{le_transitive, lt→le, not-lt→le, wider, between_finite, at_most_between, between_at_most, at_most_finite, magnitude_above, positive_above}
use Rattle.numbers_spec.proofs.Sums.{sub_mono, sub_not_negative, add_mono, add_between}
use Rattle.numbers_spec.proofs.Products.{div_at_most, div_not_negative, mul_between_by}
use Rattle.numbers_spec.proofs.Mantissa.{least_exponent, most_exponent, mantissa_range, exponent_range, exponent_from_one, exponent_to_128}
use Rattle.numbers_spec.proofs.LogSeries.{quarter, five_eighths, twice_at_most, twice_not_negative}

-- ---- s = (m − 1) / (m + 1)
abbrev ratio : Float → Float
ratio m = (m ⊖ one) ⊘ (m ⊕ one)

-- l ≤ m ≤ u, with l and u within b of 1 and l + 1 ≥ c, gives |s| ≤ b / c
module _ (l u m : Float) (b c : Float) (B : T (finite b)) (C : T (positive c)) (L : T (finite l)) (U : T (finite u)) (m-in : Between l u m)
    (low : T (le (neg b) (l ⊖ one))) (high : T (le (u ⊖ one) b)) (base : T (le c (l ⊕ one))) (top : T (finite (u ⊕ one))) where
  m_finite : T (finite m)
  m_finite = between_finite l u m L U m-in

  top_between : Between (neg b) b (m ⊖ one)
  top_between = record {
    from = le_transitive (neg b) (l ⊖ one) (m ⊖ one) low (sub_mono binary64 l m one L m_finite tt m-in.from);
    to = le_transitive (m ⊖ one) (u ⊖ one) b (sub_mono binary64 m u one m_finite U tt m-in.to) high;
  }

  base_between : Between c (u ⊕ one) (m ⊕ one)
  base_between = record {
    from = le_transitive c (l ⊕ one) (m ⊕ one) base (add_mono binary64 l m one one L m_finite tt tt m-in.from (unfold le in tt));
    to = add_mono binary64 m u one one m_finite U tt tt m-in.to (unfold le in tt);
  }

  base_finite : T (finite (m ⊕ one))
  base_finite = between_finite c (u ⊕ one) (m ⊕ one) (positive-finite c C) top base_between

  ratio_at_most : AtMost (b ⊘ c) (ratio m)
  ratio_at_most =
      div_at_most binary64 (m ⊖ one) (m ⊕ one) b c B C (between_at_most b (m ⊖ one) top_between)
      (le_transitive c (m ⊕ one) (magnitude (m ⊕ one)) base_between.from (magnitude_above (m ⊕ one) (finite_no_nan (m ⊕ one) base_finite)))

-- m from 1 to √2, and from √2 / 2 to 1
plain_ratio : (m : Float) → Between one sqrt2 m → AtMost quarter (ratio m)
unfolding of_bits sub add le div neg
plain_ratio m b = ratio_at_most one sqrt2 m half two tt tt tt tt b tt tt tt tt

halved_ratio : (m : Float) → Between (sqrt2 ⊗ half) one m → AtMost quarter (ratio m)
unfolding of_bits sub add le div mul neg
halved_ratio m b = ratio_at_most (sqrt2 ⊗ half) one m (fin false 3 (negsuc 2)) (fin false 3 (negsuc 0)) tt tt tt tt b tt tt tt tt

-- s is not negative from m = 1 on
plain_ratio_not_negative : (m : Float) → Between one sqrt2 m → NotNegative (ratio m)
plain_ratio_not_negative m b =
    let M : T (finite m) = between_finite one sqrt2 m tt (unfold of_bits in tt) b in
    let d : Between two (sqrt2 ⊕ one) (m ⊕ one) = base_of m b in
    let D : T (finite (m ⊕ one)) = between_finite two (sqrt2 ⊕ one) (m ⊕ one) tt (unfold of_bits add in tt) d in
    let n : NotNegative (m ⊖ one) = sub_not_negative binary64 m one M tt b.from in
    div_not_negative binary64 (m ⊖ one) (m ⊕ one) (between_finite zero⁺ (sqrt2 ⊖ one) (m ⊖ one) tt (unfold of_bits sub in tt) (record { from = n; to = sub_mono binary64 m sqrt2 one M (unfold of_bits in tt) tt b.to }))
    (positive_above two (m ⊕ one) tt D d.from) n
  where
    base_of : (m : Float) → Between one sqrt2 m → Between two (sqrt2 ⊕ one) (m ⊕ one)
    base_of m b = unfold of_bits add sub le neg in base_between one sqrt2 m half two tt tt tt tt b tt tt tt tt

-- ---- e × hi + (e × lo + t), for an e from a to b and a t = 2 × (s × q) from c to d
abbrev total : Float → Float → Float
total e t = e ⊗ hi ⊕ (e ⊗ lo ⊕ t)

-- every part of it is finite
abbrev Tame : Float → Float → Type 0
Tame e t = T (finite e) × T (finite t) × T (finite (e ⊗ hi)) × T (finite (e ⊗ lo)) × T (finite (e ⊗ lo ⊕ t))

total_between : (a b c d e t : Float) → Tame a c → Tame b d → Between a b e → Between c d t → Between (total a c) (total b d) (total e t)
total_between a b c d e t A B e_in t-in =
    add_between binary64 (a ⊗ hi) (b ⊗ hi) (a ⊗ lo ⊕ c) (b ⊗ lo ⊕ d) (e ⊗ hi) (e ⊗ lo ⊕ t) A.2 B.2 A.4 B.4 (mul_between_by binary64 a b e hi A.0 B.0 (unfold of_bits in tt) (unfold of_bits le in tt) e_in)
    (add_between binary64 (a ⊗ lo) (b ⊗ lo) c d (e ⊗ lo) t A.3 B.3 A.1 B.1 (mul_between_by binary64 a b e lo A.0 B.0 (unfold of_bits in tt) (unfold of_bits le in tt) e_in) t-in)

-- |s| ≤ 1/4, and e from −1022 to 1024
abbrev past_exponent : Float
past_exponent = fin false 1 (pos 10)

abbrev five_eighths⁻ : Float
five_eighths⁻ = fin true 5 (negsuc 2)

twice_between : (m : Float) → AtMost quarter (ratio m) → Between five_eighths⁻ five_eighths (log_twice (ratio m))
unfolding neg
twice_between m s = let S = at_most_finite quarter (ratio m) tt s in at_most_between five_eighths (log_twice (ratio m)) (twice_at_most (ratio m) S s)

tame_low : Tame least_exponent five_eighths⁻
unfolding of_bits mul add
tame_low = (tt, tt, tt, tt, tt)

tame_high : Tame past_exponent five_eighths
unfolding of_bits mul add
tame_high = (tt, tt, tt, tt, tt)

at_bounded : (m e : Float) → AtMost quarter (ratio m) → Between least_exponent past_exponent e → Between log_most⁻ log_most (log_at m e)
at_bounded m e s b = wider (total least_exponent five_eighths⁻) (total past_exponent five_eighths) log_most⁻ log_most (log_at m e) low high
    (total_between least_exponent past_exponent five_eighths⁻ five_eighths e (log_twice (ratio m)) tame_low tame_high b (twice_between m s))
  where
    low : T (le log_most⁻ (total least_exponent five_eighths⁻))
    low = unfold of_bits mul add le in tt

    high : T (le (total past_exponent five_eighths) log_most)
    high = unfold of_bits mul add le in tt

-- e up to 129
at_most_91 : (m e : Float) → AtMost quarter (ratio m) → Between least_exponent (fin false 129 (pos 0)) e → T (le (log_at m e) log_most₃₂)
at_most_91 m e s b = le_transitive (log_at m e) (total (fin false 129 (pos 0)) five_eighths) log_most₃₂
    (total_between least_exponent (fin false 129 (pos 0)) five_eighths⁻ five_eighths e (log_twice (ratio m)) tame_low (unfold of_bits mul add in (tt, tt, tt, tt, tt)) b (twice_between m s)).to
    (unfold of_bits mul add le in tt)

-- e from 1 on: hi is above 5/8
at_not_negative : (m e : Float) → AtMost quarter (ratio m) → Between one past_exponent e → NotNegative (log_at m e)
at_not_negative m e s b = le_transitive zero⁺ (total one five_eighths⁻) (log_at m e) (unfold of_bits mul add le in tt)
    (total_between one past_exponent five_eighths⁻ five_eighths e (log_twice (ratio m)) (unfold of_bits mul add in (tt, tt, tt, tt, tt)) tame_high b (twice_between m s)).from

-- e from 0 on and m from 1 on: no part is negative
parts_not_negative : (m e : Float) → Between one sqrt2 m → Between zero⁺ past_exponent e → NotNegative (log_at m e)
parts_not_negative m e m-in b =
    let s = plain_ratio m m-in in
    let S = at_most_finite quarter (ratio m) tt s in
    let n = twice_not_negative (ratio m) S s (plain_ratio_not_negative m m-in) in
    le_transitive zero⁺ (total zero⁺ zero⁺) (log_at m e) (unfold of_bits mul add le in tt)
    (total_between zero⁺ past_exponent zero⁺ five_eighths e (log_twice (ratio m)) (unfold of_bits mul add in (tt, tt, tt, tt, tt)) tame_high b (record { from = n; to = (twice_between m s).to })).from

-- ---- L of a positive normal v is one of two such sums
pub log_is : (v : Float) → Normal v → log_of v ≡ log_halved (mantissa v) (exponent v)
unfolding log_of
log_is v n = rw (is_true (le smallest_normal v) n.least, is_true (lt v (inf false)) (under v n.finite_is))
  where
    under : (v : Float) → T (finite v) → T (lt v (inf false))
    under nan h = absurd h
    under (inf s) h = absurd h
    under (fin s m e) h = unfold lt in tt

by_cases : (R : Float → Type 0) (v : Float) → Normal v → (T (lt sqrt2 (mantissa v)) → R (log_at (mantissa v ⊗ half) (exponent v ⊕ one))) → (T (not (lt sqrt2 (mantissa v))) → R (log_at (mantissa v) (exponent v))) → R (log_of v)
by_cases R v n h k = rw (log_is v n) (go (lt sqrt2 (mantissa v)) h k)
  where
    go : (b : Bool) → (T b → R (log_at (mantissa v ⊗ half) (exponent v ⊕ one))) → (T (not b) → R (log_at (mantissa v) (exponent v))) → R (cond b (log_at (mantissa v ⊗ half) (exponent v ⊕ one)) (log_at (mantissa v) (exponent v)))
    go true h k = h tt
    go false h k = k tt

module _ (v : Float) (n : Normal v) where
  mantissa_finite : T (finite (mantissa v))
  mantissa_finite = between_finite one two (mantissa v) tt tt (mantissa_range v n)

  halved_mantissa : T (lt sqrt2 (mantissa v)) → AtMost quarter (ratio (mantissa v ⊗ half))
  halved_mantissa h = halved_ratio (mantissa v ⊗ half) (to_one (mul_between_by binary64 sqrt2 two (mantissa v) half (unfold of_bits in tt) tt (unfold of_bits in tt) (unfold of_bits le in tt) (record { from = lt→le sqrt2 (mantissa v) h; to = (mantissa_range v n).to })))
    where
      to_one : Between (sqrt2 ⊗ half) (two ⊗ half) (mantissa v ⊗ half) → Between (sqrt2 ⊗ half) one (mantissa v ⊗ half)
      to_one b = wider (sqrt2 ⊗ half) (two ⊗ half) (sqrt2 ⊗ half) one (mantissa v ⊗ half) (unfold of_bits mul le in tt) (unfold of_bits mul le in tt) b

  plain_mantissa : T (not (lt sqrt2 (mantissa v))) → Between one sqrt2 (mantissa v)
  plain_mantissa h = record { from = (mantissa_range v n).from; to = not-lt→le sqrt2 (mantissa v) (unfold of_bits is_nan in tt) (finite_no_nan (mantissa v) mantissa_finite) h }

  -- e + 1, and e itself
  next : (a b : Float) → T (finite a) → T (finite b) → Between a b (exponent v) → Between (a ⊕ one) (b ⊕ one) (exponent v ⊕ one)
  next a b A B e_in = add_between binary64 a b one one (exponent v) one A B tt tt e_in (record { from = unfold le in tt; to = unfold le in tt })

  log_between : Between log_most⁻ log_most (log_of v)
  log_between = by_cases (Between log_most⁻ log_most) v n
      (λ h. at_bounded (mantissa v ⊗ half) (exponent v ⊕ one) (halved_mantissa h)
      (wider (least_exponent ⊕ one) (most_exponent ⊕ one) least_exponent past_exponent (exponent v ⊕ one) (unfold add le in tt) (unfold add le in tt) (next least_exponent most_exponent tt tt (exponent_range v n))))
      (λ h. at_bounded (mantissa v) (exponent v) (plain_ratio (mantissa v) (plain_mantissa h)) (wider least_exponent most_exponent least_exponent past_exponent (exponent v) (unfold le in tt) (unfold le in tt) (exponent_range v n)))

pub log_finite : LogFinite
log_finite v n = let b = log_between v n in record { finite_is = between_finite log_most⁻ log_most (log_of v) tt tt b; between = b }

pub log_not_negative : LogNotNegative
log_not_negative v n h =
    let e_in : Between zero⁺ most_exponent (exponent v) = record { from = exponent_from_one v n h; to = (exponent_range v n).to } in
    by_cases NotNegative v n
    (λ l. at_not_negative (mantissa v ⊗ half) (exponent v ⊕ one) (halved_mantissa v n l)
    (wider (zero⁺ ⊕ one) (most_exponent ⊕ one) one past_exponent (exponent v ⊕ one) (unfold add le in tt) (unfold add le in tt) (next v n zero⁺ most_exponent tt tt e_in)))
    (λ l. parts_not_negative (mantissa v) (exponent v) (plain_mantissa v n l) (wider zero⁺ most_exponent zero⁺ past_exponent (exponent v) (unfold le in tt) (unfold le in tt) e_in))

pub log_most_lem : LogMost
log_most_lem v n h =
    let e_in : Between least_exponent (fin false 1 (pos 7)) (exponent v) = record { from = (exponent_range v n).from; to = exponent_to_128 v n h } in
    by_cases (λ (x : Float). T (le x log_most₃₂)) v n
    (λ l. at_most_91 (mantissa v ⊗ half) (exponent v ⊕ one) (halved_mantissa v n l)
    (wider (least_exponent ⊕ one) (fin false 1 (pos 7) ⊕ one) least_exponent (fin false 129 (pos 0)) (exponent v ⊕ one) (unfold add le in tt) (unfold add le in tt) (next v n least_exponent (fin false 1 (pos 7)) tt tt e_in)))
    (λ l. at_most_91 (mantissa v) (exponent v) (plain_ratio (mantissa v) (plain_mantissa v n l)) (wider least_exponent (fin false 1 (pos 7)) least_exponent (fin false 129 (pos 0)) (exponent v) (unfold le in tt) (unfold le in tt) e_in))

-- ---- log10, by ln 10 ≥ 2357 / 1024
pub log10_finite : Log10Finite
unfolding log10_of neg
log10_finite v n =
    let l = log_between v n in
    let d = div_at_most binary64 (log_of v) ln10 log_most (fin false 2357 (negsuc 9)) tt tt (between_at_most log_most (log_of v) l) (unfold of_bits magnitude le in tt) in
    let q : AtMost log10_most (log_of v ⊘ ln10) = le_transitive (magnitude (log_of v ⊘ ln10)) (log_most ⊘ fin false 2357 (negsuc 9)) log10_most d (unfold div le in tt) in
    record { finite_is = at_most_finite log10_most (log_of v ⊘ ln10) tt q; between = at_most_between log10_most (log_of v ⊘ ln10) q }

pub log10_infinite : Log10Infinite
unfolding log10_of log_of of_bits le lt div
log10_infinite = refl
