-- `numbers::narrow::dropped` meets its contract. Assumes nothing.
use Rattle.std.proofs.Common.{◌+◌, ◌-◌, sym, ap, ◌∙◌, subst}
use Rattle.numbers.specs.Parts.{Dropped}
use Rattle.numbers.proofs.narrow.Drop.{dropped_is}
use Rattle.numbers.proofs.narrow.dropped.Goals as goal

pub returns : goal.returns
returns c =
    let p = c.args.p in
    subst (Dropped p.sig p.exp) (sym (c.saturating_sub.ensures ∙ ap (λ n. p.exp + (64 - n) - 949) c.from-digits.ensures)) (dropped_is p.sig p.exp p.sig_lt p.exp_le p.full)
