-- `numbers::root::normalise` meets its contract. Assumes nothing.
use Rattle.std.proofs.Common.{◌≡◌, ◌*◌, ◌^◌, ◌<◌, ◌≤◌, sym, refl, ap, ◌∙◌, subst, mul-one, arith}
use Rattle.numbers_spec.proofs.Rooted.{zeros_ge, Z, full_is, none_left, F-ge, F-lt}
use Rattle.numbers.proofs.root.normalise.Goals as goal

pub returns-then-p-ge-LEADING : goal.returns-then-p-ge-LEADING
returns-then-p-ge-LEADING c =
    let p = c.args.p in
    let z : Z p.sig p.exp c.requires p.sig_lt p.exp_le ≡ 0 = none_left p.sig p.exp c.requires p.sig_lt p.exp_le c.if-p-ge-LEADING.true in
    record { full_is = sym (ap (λ k. p.sig * 2 ^ k) z ∙ mul-one p.sig); scale_is = omega arith }

pub overflow_sub-zeros : goal.overflow_sub-zeros
overflow_sub-zeros c = let p = c.args.p in rw c.from-zeros.ensures (zeros_ge p.sig p.exp c.requires p.sig_lt p.exp_le)

pub invariant_of-result-2 : goal.invariant_of-result-2
invariant_of-result-2 c =
    let p = c.args.p in
    let full = full_is p.sig p.exp c.requires p.sig_lt p.exp_le in
    rw c.from-zeros.ensures (record { full_ge = subst (λ n. 2 ^ 52 ≤ n) (sym full) (F-ge p.sig p.exp c.requires p.sig_lt p.exp_le); full_lt = subst (λ n. n < 2 ^ 53) (sym full) (F-lt p.sig p.exp c.requires p.sig_lt p.exp_le) })

pub returns : goal.returns
returns c =
    let p = c.args.p in
    rw c.from-zeros.ensures (record { full_is = full_is p.sig p.exp c.requires p.sig_lt p.exp_le; scale_is = refl })
