-- `numbers::whole::round` meets its contract. Assumes nothing.
use Rattle.std.proofs.Common.{ℕ, ◌-◌, ◌^◌, ◌≤◌, T, sym, ◌∙◌, subst, pow_pos}
use Rattle.numbers.proofs.whole.Fractions.{rounds_small, rounds_large, other, half_up_le}
use Rattle.numbers.proofs.whole.round.Goals as goal

pub signed-requires : goal.signed-requires
signed-requires c =
    let p = c.split-p.result in
    let g = 1074 - p.exp in
    subst (λ (k : ℕ). k ≤ 9007199254740992) (sym c.half_up.ensures) (half_up_le p.sig (2 ^ g) (pow_pos g) p.sig_lt)

pub returns-then-p-lt-WHOLE : goal.returns-then-p-lt-WHOLE
returns-then-p-lt-WHOLE c =
    let p = c.split-p in
    rounds_small c.args.x p.result p.ensures c.if-p-lt-WHOLE.true c.signed.ensures c.half_up.ensures

pub returns-else-p-lt-WHOLE : goal.returns-else-p-lt-WHOLE
returns-else-p-lt-WHOLE c =
    let p = c.split-p in
    rounds_large c.args.x p.result p.ensures c.if-p-lt-WHOLE.false (subst T (sym c.well_formed.0.1) tt)

pub returns-else-is_finite : goal.returns-else-is_finite
returns-else-is_finite c = other c.args.x (sym c.is_finite.ensures ∙ c.if-is_finite.false)
