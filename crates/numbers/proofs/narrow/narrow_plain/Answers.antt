-- `numbers::narrow::narrow_plain` meets its contract. Assumes nothing.
use Rattle.std.proofs.Common.{◌≡◌, ℕ, ◌-◌, ◌*◌, ◌^◌, ◌≤◌, Bool, true, false, not, T, sym, ap, ◌∙◌, subst, inl, inr, arith, lit<, pow_pos}
use mathlib.Core.Bool.{false≢true}
use lib.Ieee.{Float, binary32, binary64, fits, is_nan, le, lt, of_bits, round, to_bits}
use lib.Ieee.Fits.{round-fits}
use lib.Ieee.Positive.{positive-finite}
use Rattle.numbers.specs.Plain.{normal_least}
use Rattle.numbers_spec.specs.Arithmetic.{zero⁺}
use Rattle.numbers_spec.specs.Narrow.{nearest_f32}
use Rattle.numbers_spec.proofs.Order.{le_transitive, not-lt→le}
use Rattle.numbers_spec.proofs.Value.{finite_no_nan}
use Rattle.numbers.proofs.narrow.Patterns.{by_value, fits_32, back, no_nan}
use Rattle.numbers.proofs.narrow.Plain.{Kind, kind, Whole, plus, whole, plain_bits, sum_ge, pattern_lt}
use Rattle.numbers.proofs.narrow.narrow_plain.Goals as goal

above : (x : Float) → T (fits binary64 x) → Kind x → lt zero⁺ x ≡ true → Whole x
unfolding lt
above x F (inl e) h = absurd (false≢true (sym (ap (lt zero⁺) e) ∙ h))
above x F (inr b) h = whole x F b.0 b.1

-- what is not above zero is +0
zero : (x : Float) → T (fits binary64 x) → Kind x → T (not (lt zero⁺ x)) → of_bits binary32 0 ≡ nearest_f32 x
unfolding nearest_f32 of_bits round le is_nan
zero x F (inl e) h = sym (ap nearest_f32 e)
zero x F (inr b) h = absurd (le_transitive normal_least x zero⁺ b.0 (not-lt→le zero⁺ x tt (finite_no_nan x (positive-finite x (plus x F b.0 b.1))) h))

found : (c : goal.Then-x) → Whole c.args.x
unfolding of_bits
found c =
    let x = c.args.x in
    let F = (subst T (sym c.well_formed.0.1) tt) in
    above x F (kind x F c.requires) c.if-x.true

-- the value that is rounded
abbrev rounded : {x : Float} → Whole x → Float
rounded w = round binary32 false (w.sig * 2 ^ w.exp) (2 ^ 1074)

bits : (c : goal.After-nearest) → c.nearest.result - 7516192768 ≡ to_bits binary32 (rounded (found c.before))
bits c = ap (λ (n : ℕ). n - 7516192768) c.nearest.ensures ∙ plain_bits c.args.x (found c.before)

fitting : (c : goal.After-nearest) → T (fits binary32 (rounded (found c.before)))
fitting c = let w = found c.before in round-fits binary32 false (w.sig * 2 ^ w.exp) (2 ^ 1074)

pub nearest-requires : goal.nearest-requires
nearest-requires c = record { sig_lt = pattern_lt c.args.x (found c); shift_some = lit< tt; shift_lt = lit< tt }

pub overflow_sub-result : goal.overflow_sub-result
overflow_sub-result c =
    subst (λ (n : ℕ). 7516192768 ≤ n) (sym c.nearest.ensures) (sum_ge c.args.x (found c.before))

pub overflow_cast-result : goal.overflow_cast-result
overflow_cast-result c =
    omega (arith, fits_32 (c.nearest.result - 7516192768) (rounded (found c.before)) (bits c) (fitting c))

pub float_from_bits-result : goal.float_from_bits-result
float_from_bits-result c =
    let w = found c.before in no_nan (c.nearest.result - 7516192768) false (w.sig * 2 ^ w.exp) (2 ^ 1074) (bits c)

pub returns-then-x : goal.returns-then-x
returns-then-x c =
    let w = found c.before in
    back (c.nearest.result - 7516192768) (rounded w) (bits c) (fitting c) ∙ by_value c.args.x false (w.sig * 2 ^ w.exp) (2 ^ 1074) (pow_pos 1074) w.value

pub returns : goal.returns
unfolding of_bits
returns c =
    let x = c.args.x in
    let F = (subst T (sym c.well_formed.0.1) tt) in
    zero x F (kind x F c.requires) (subst (λ (b : Bool). T (not b)) (sym c.if-x.false) tt)
