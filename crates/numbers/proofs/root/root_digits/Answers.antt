-- `numbers::root::root_digits` meets its contract. Assumes nothing.
use Rattle.std.proofs.Common.{◌+◌, ◌*◌, ◌%◌, ◌^◌, ◌<◌, sym, subst, lt_of_le_of_lt, lt_of_lt_of_le, pow_mono, shl_lt, arith}
use native.Mathlib.Nat.{mod-le}
use Rattle.numbers.proofs.root.root_digits.Goals as goal

pub near_root-requires-clause-n_small : goal.near_root-requires-clause-n_small
near_root-requires-clause-n_small c =
    let n = c.args.n in
    let k = 52 + n.scale % 2 in
    lt_of_le_of_lt (mod-le _ _) (lt_of_lt_of_le (subst (λ x. x * 2 ^ k < 2 ^ (53 + k)) (sym c.from.ensures) (shl_lt 53 k n.full_lt)) (pow_mono {j = 106} (omega arith)))
