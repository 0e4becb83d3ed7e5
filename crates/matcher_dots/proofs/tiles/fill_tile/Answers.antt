use Rattle.std.proofs.Common.{rules, ℕ, ◌≡◌, ◌+◌, get_or, length, refl, ◌∙◌, arith}
use Rattle.std.specs.Float.{nan}
use Rattle.std.specs.Float.{binary32}
use Rattle.std.specs.Float.Ieee.{mul}
use Rattle.matcher_spec.specs.Scores.{dot}
use Rattle.matcher_dots.specs.Tiles.{tile}
use Rattle.matcher_dots.proofs.DotLaws.{tabulated}
use Rattle.matcher_dots.proofs.TileLaws.{placed, dot_more, dot_ends}
use Rattle.matcher_dots.proofs.tiles.fill_tile.Goals as goal

pub loop-i-preserved : goal.loop-i-preserved
loop-i-preserved c p h =
    let row = c.args.row.now in
    let query = c.args.query.now in
    let i = c.loop-i.i-counter in
    let added = c.add_each.ensures p h in
    let e : added.0 ≡ mul binary32 (get_or row (i + p) nan) (get_or query i nan) = search rules in
    added.2 ∙ dot_more row query i p (c.loop-i.invariant p h) e (omega arith) (omega arith)

pub returns : goal.returns
returns c =
    let row = c.args.row.now in
    let query = c.args.query.now in
    let all : c.loop-i.i-counter ≡ length query = omega arith in
    tabulated (λ (p : ℕ). dot (placed row query p) query) tile c.loop-p.out (omega arith)
    (λ p h. c.loop-p.invariant p (omega arith) ∙ (rw all at c.loop-i.invariant p h) ∙ dot_ends row query (omega arith) p h)
