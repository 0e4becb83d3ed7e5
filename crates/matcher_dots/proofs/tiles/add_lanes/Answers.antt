use Rattle.std.proofs.Common.{rules, ℕ, ◌≡◌, ◌+◌, ◌*◌, ◌/◌, get_or, length, refl, ◌∙◌, arith}
use Rattle.std.specs.Float.{nan}
use Rattle.std.specs.Float.{binary32}
use Rattle.std.specs.Float.Ieee.{mul}
use Rattle.matcher_dots.proofs.TileLaws.{lane_next}
use Rattle.matcher_dots.proofs.tiles.add_lanes.Goals as goal

pub loop-k-preserved : goal.loop-k-preserved
loop-k-preserved c =
    let row = c.args.row.now in
    let query = c.args.query.now in
    let j = c.args.j in
    let k = c.loop-k.k in
    let b : ℕ = k * 8 + j in
    let inv = c.loop-k.invariant in
    record {
      evens = λ p h.
          let even = c.add_each.ensures p h in
          let e : even.0 ≡ mul binary32 (get_or row (b + p) nan) (get_or query b nan) = search rules in
          even.2 ∙ lane_next row query j k b p (inv.evens p h) e refl (omega arith);
      odds = λ p h.
          let odd = c.add_each-in-loop-k.ensures p h in
          let e : odd.0 ≡ mul binary32 (get_or row (b + 1 + p) nan) (get_or query (b + 1) nan) = search rules in
          odd.2 ∙ lane_next row query (j + 1) k (b + 1) p (inv.odds p h) e (omega arith) (omega arith);
    }

pub returns : goal.returns
returns c p h =
    let even = c.add_each-2.ensures p h in
    let odd = c.add_each-3.ensures p h in
    let e : even.0 ≡ get_or c.loop-k.even p nan = search rules in
    let o : odd.0 ≡ get_or c.loop-k.odd p nan = search rules in
    let all : c.loop-k.k ≡ length c.args.query.now / 8 = omega arith in
    let first = rw all at c.loop-k.invariant.evens p h in
    let second = rw all at c.loop-k.invariant.odds p h in
    cc
