-- `numbers::parts::split` meets its contract: the pattern of a finite value is read field by field. Assumes nothing.
use Rattle.std.proofs.Common.{◌≡◌, ℕ, suc, ◌-◌, ◌/◌, ◌%◌, T, sym, ◌∙◌, subst, add_comm, arith}
use lib.Ieee.{binary64, to_bits}
use Rattle.numbers_spec.proofs.Value.{finite_no_nan, field_under, value_low, value_high}
use Rattle.numbers.proofs.parts.split.Goals as goal
use Rattle.numbers.proofs.parts.split.Goals.{then-field-eq0, else-field-eq0}

some : (k : ℕ) → (k ≡ 0 → ⊥) → k ≡ suc (k - 1)
some k h = omega arith

none : (k : ℕ) → k ≡ 0 → k - 1 ≡ 0
none k h = omega arith

pub float_to_bits-bits : goal.float_to_bits-bits
float_to_bits-bits c = finite_no_nan c.args.x c.requires

pub invariant_of-result : goal.invariant_of-result
invariant_of-result c =
    let under = field_under c.args.x (subst T (sym c.well_formed.0.1) tt) c.requires in
    let e = c.saturating_sub.ensures in
    elim c.if-field-eq0.branch [ then-field-eq0 w ↦ record { sig_lt = omega (arith, w.result-is); exp_le = omega arith; full = λ h. omega (arith, w.if-field-eq0.true) } | else-field-eq0 w ↦ record { sig_lt = omega (arith, w.result-is); exp_le = omega arith; full = λ h. omega (arith, w.result-is) } ]

pub returns : goal.returns
returns c =
    let x = c.args.x in
    let F = subst T (sym c.well_formed.0.1) tt in
    let k = to_bits binary64 x / 4503599627370496 % 2048 in
    let e = c.saturating_sub.ensures in
    elim c.if-field-eq0.branch [ then-field-eq0 w ↦ rw (w.result-is, e ∙ none k w.if-field-eq0.true) (value_low x F c.requires w.if-field-eq0.true) | else-field-eq0 w ↦ rw (w.result-is, e, add_comm) (value_high x F c.requires (k - 1) (some k w.if-field-eq0.false)) ]
