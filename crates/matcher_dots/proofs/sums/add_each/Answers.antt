use Rattle.std.proofs.Common.{ℕ, ◌<◌, ◌≢◌, get_or, length, ap, ◌∙◌, arith}
use Rattle.std.proofs.lemmas.List.{get_or-set_same, get_or-set_other, length-set}
use Rattle.std.specs.Float.{nan}
use borrow.Author.Count.{below_more}
use Rattle.matcher_spec.specs.Energy.{◌+₃₂◌}
use Rattle.matcher_dots.proofs.sums.add_each.Goals as goal

pub loop-p-preserved : goal.loop-p-preserved
loop-p-preserved g c =
    let inv = c.loop-p.invariant in
    let s = c.loop-p.sums in
    let p = c.loop-p.p in
    let within : p < length s = omega arith in
    let other = λ (q : ℕ) (h : q ≢ p). get_or-set_other s p q (get_or s p nan +₃₂ c.term.result) nan h in
    record {
      size = length-set s p _ ∙ inv.size;
      done = below_more _ p
          (λ q h. let w = inv.done q h in (w.0, w.1, other q (λ e. omega arith) ∙ w.2))
          (c.term.result, c.term.ensures, get_or-set_same s p _ nan within ∙ ap (λ x. x +₃₂ c.term.result) (inv.rest p (omega arith)));
      rest = λ q h. other q (λ e. omega arith) ∙ inv.rest q (omega arith);
    }

pub returns : goal.returns
returns g c = λ p h. c.loop-p.invariant.done p (omega arith)
