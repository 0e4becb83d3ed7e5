-- The patterns that `mantissa` and `exponent` read: a NaN's is 0x7ff8000000000000, with the digits of 1.5 and the field of an infinity. Assumes nothing.
use Rattle.std.proofs.Common.{◌≡◌, ℕ, ◌+◌, ◌*◌, ◌/◌, ◌%◌, ◌^◌, true, false, cond, not, T, sym, refl, ap, ◌∙◌, subst}
use lib.Ieee.{Float, nan, inf, fin, binary64, le, lt, is_nan, of_bits, of_fields, odd, to_bits}
use lib.Count.{count_trailing_zeros}
use Rattle.numbers_spec.specs.Logarithm.{mantissa}

abbrev number_or : Float → Float → Float
number_or v z = cond (le v (inf false)) v z

-- 1.5, and plus infinity
abbrev pub one_and_half : Float
one_and_half = of_bits binary64 0x3ff8000000000000

abbrev pub infinite : Float
infinite = of_bits binary64 0x7ff0000000000000

or_number : (v z : Float) → T (not (is_nan z)) → T (not (is_nan (number_or v z)))
unfolding le lt is_nan
or_number nan z h = h
or_number (inf true) z h = tt
or_number (inf false) z h = tt
or_number (fin s m e) z h = tt

infinite_number : T (not (is_nan infinite))
unfolding is_nan of_bits of_fields odd count_trailing_zeros
infinite_number = tt

pub infinite_or_number : (v : Float) {r : Float} → r ≡ number_or v infinite → T (not (is_nan r))
infinite_or_number v e = subst (λ (x : Float). T (not (is_nan x))) (sym e) (or_number v infinite infinite_number)

digits_or : (v : Float) → to_bits binary64 (number_or v one_and_half) % 2 ^ 52 ≡ to_bits binary64 v % 2 ^ 52
unfolding le lt to_bits of_bits of_fields odd count_trailing_zeros
digits_or nan = refl
digits_or (inf true) = refl
digits_or (inf false) = refl
digits_or (fin s m e) = refl

field_or : (v : Float) → to_bits binary64 (number_or v infinite) / 2 ^ 52 ≡ to_bits binary64 v / 2 ^ 52
unfolding le lt to_bits of_bits of_fields odd count_trailing_zeros
field_or nan = refl
field_or (inf true) = refl
field_or (inf false) = refl
field_or (fin s m e) = refl

pub mantissa_is : (v : Float) {r : Float} → r ≡ number_or v one_and_half → of_bits binary64 (to_bits binary64 r % 2 ^ 52 + 1023 * 2 ^ 52) ≡ mantissa v
mantissa_is v e = ap (λ (x : Float). of_bits binary64 (to_bits binary64 x % 2 ^ 52 + 1023 * 2 ^ 52)) e ∙ ap (λ (k : ℕ). of_bits binary64 (k + 1023 * 2 ^ 52)) (digits_or v)

pub same_field : (v : Float) {r : Float} → r ≡ number_or v infinite → to_bits binary64 r / 2 ^ 52 ≡ to_bits binary64 v / 2 ^ 52
same_field v e = ap (λ (x : Float). to_bits binary64 x / 2 ^ 52) e ∙ field_or v
