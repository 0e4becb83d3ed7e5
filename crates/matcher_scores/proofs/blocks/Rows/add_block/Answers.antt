-- `matcher_scores::blocks::Rows::add_block` meets its contract. Assumes nothing.
use mathlib.Core.Path.{ap, ◌∙◌}
use borrow.Author.Rules.{rules}
use Prim.Native.Nat.{◌+◌, ◌<◌}
use native.Mathlib.Omega.{arith}
use lib.ListN.{length, get_or, length-take}
use lib.Ieee.{Float, nan}
use Rattle.numbers_spec.specs.Arithmetic.{◌⊕◌}
use Rattle.numbers_spec.proofs.RowLaws.{tabulate_ext}
use Rattle.matcher_scores.specs.Blocks.{product_of}
use Rattle.matcher_scores.proofs.BlockLaws.{quotient_is}
use Rattle.matcher_scores.proofs.blocks.Rows.add_block.Goals as goal

pub returns : goal.returns
returns c =
    let a = c.args in
    let x = a.pair.now in
    let rows = a.self.now in
    let size = simp length-take at c.root_row.auto.roots in
    let products = c.fill_by.ensures.row (λ j. product_of x (a.at + j)) (λ k y h e. search rules) in
    c.add_quotients.ensures
    ∙ tabulate_ext _ _ _ (λ i (h : i < length a.scores.now).
    ap (λ (x : Float). get_or a.scores.now i nan ⊕ x)
    (quotient_is x.reference.now x.energy.now x.query.now x.floor x.whole a.at c.padded-k.result i rows.products rows.dotted rows.roots
    products c.root_row.ensures c.dots.ensures (omega arith) (simp length-take (omega arith)) (simp length-take (omega arith)) (omega arith)))
