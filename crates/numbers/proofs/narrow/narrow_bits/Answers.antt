-- `numbers::narrow::narrow_bits` meets its contract. Assumes nothing.
use Rattle.std.proofs.Common.{◌≡◌, ℕ, ◌+◌, ◌-◌, ◌^◌, ◌<◌, ◌≤◌, ap, ◌∙◌, arith}
use lib.Ieee.Nearest.{closest}
use Rattle.numbers.proofs.narrow.Drop.{normal}
use Rattle.numbers.proofs.narrow.Patterns.{under}
use Rattle.numbers.proofs.narrow.narrow_bits.Goals as goal

-- 29 digits are left off
gap_is : (sig exp k : ℕ) → 896 ≤ exp → k ≡ closest sig (2 ^ 29) → k ≡ closest sig (2 ^ (925 + (exp - 896) - exp))
gap_is sig exp k h e = e ∙ ap (λ (g : ℕ). closest sig (2 ^ g)) (at exp h)
  where
    at : (x : ℕ) → 896 ≤ x → 29 ≡ 925 + (x - 896) - x
    at x l = omega arith

some : (e : ℕ) → 896 ≤ e → 0 < e
some e h = omega arith

most : (e : ℕ) → e ≤ 1149 → e - 896 ≤ 253
most e h = omega arith

pub returns-then-p-le-LAST_NORMAL : goal.returns-then-p-le-LAST_NORMAL
returns-then-p-le-LAST_NORMAL c =
    let l = c.if-p-ge-LEAST_NORMAL.true in
    under c.args.p.minus c.args.p.sig c.args.p.exp (c.args.p.exp - 896) c.sign_bit.result c.nearest.result
    (normal c.args.p.sig c.args.p.exp c.args.p.sig_lt (c.args.p.full (some c.args.p.exp l)) l c.args.p.exp_le)
    (most c.args.p.exp c.if-p-le-LAST_NORMAL.true) c.sign_bit.ensures (gap_is c.args.p.sig c.args.p.exp c.nearest.result l c.nearest.ensures)
