-- `numbers::narrow::any_bits` meets its contract. Assumes nothing.
use Rattle.std.proofs.Common.{ℕ, ◌+◌, ◌-◌, ◌*◌, sym, ap, ◌∙◌, add-zero}
use Rattle.numbers.proofs.narrow.Drop.{kept_none}
use Rattle.numbers.proofs.narrow.Patterns.{over, under}
use Rattle.numbers.proofs.narrow.any_bits.Goals as goal

pub returns-then-drop-gt-MOST : goal.returns-then-drop-gt-MOST
returns-then-drop-gt-MOST c =
    let r = c.dropped-drop in
    over c.args.p.minus c.args.p.sig c.args.p.exp r.result c.sign_bit-sign.result r.ensures c.if-drop-gt-MOST.true c.sign_bit-sign.ensures

pub returns-then-gap-gt63 : goal.returns-then-gap-gt63
returns-then-gap-gt63 c =
    let r = c.dropped-drop in
    ap (λ (x : ℕ). c.sign_bit-sign.result + x) (sym (add-zero (r.result * 8388608)))
    ∙ under c.args.p.minus c.args.p.sig c.args.p.exp r.result c.sign_bit-sign.result 0 r.ensures c.if-drop-gt-MOST.false c.sign_bit-sign.ensures (sym (kept_none c.args.p.sig (925 + r.result - c.args.p.exp) c.args.p.sig_lt c.if-gap-gt63.true))

pub returns : goal.returns
returns c =
    let r = c.dropped-drop in
    under c.args.p.minus c.args.p.sig c.args.p.exp r.result c.sign_bit-sign.result c.nearest.result r.ensures c.if-drop-gt-MOST.false c.sign_bit-sign.ensures c.nearest.ensures
