use Rattle.std.proofs.Common.{◌≡◌, get_or, ap, ◌∙◌, rules, arith}
use lib.Ieee.{nan}
use Rattle.numbers_spec.specs.Arithmetic.{◌⊗◌}
use Rattle.numbers_rows.specs.Logs.{terms}
use Rattle.numbers_rows.proofs.LogPasses.{four_are}
use Rattle.numbers_rows.proofs.ln_1p_row.terms_row.Goals as goal

pub loop-k-preserved : goal.loop-k-preserved
loop-k-preserved c =
    let i = c.args.i in
    let k = c.loop-k.k in
    let z = get_or c.args.ratios.now k nan ⊗ get_or c.args.ratios.now k nan in
    let four : c.four_terms.result ≡ terms 4 i z (get_or c.args.sums.now k nan) =
    four_are i z (get_or c.loop-k.sums k nan) c.term-a.ensures c.term-b.ensures c.term-c.ensures c.term-d.ensures c.four_terms.ensures ∙ ap (terms 4 i z) (c.loop-k.invariant.1 k (omega arith)) in
    search rules
