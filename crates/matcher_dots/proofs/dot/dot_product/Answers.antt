use Rattle.std.proofs.Common.{rules, ◌≡◌, ◌+◌, ◌*◌, ◌∙◌}
use Rattle.matcher_spec.specs.Scores.{product}
use Rattle.matcher_dots.proofs.DotLaws.{lane_more}
use Rattle.matcher_dots.proofs.dot.dot_product.Goals as goal

pub loop-k-preserved : goal.loop-k-preserved
loop-k-preserved c j h =
    let l = c.args.left.now in
    let r = c.args.right.now in
    let k = c.loop-k.k-counter in
    let added = c.add_each.ensures j h in
    let e : added.0 ≡ product l r (k * 8 + j) = search rules in
    added.2 ∙ lane_more l r j k (c.loop-k.invariant j h) e
