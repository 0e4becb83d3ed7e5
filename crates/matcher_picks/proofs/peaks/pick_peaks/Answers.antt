-- One more place is picked. Assumes nothing.
use Rattle.std.proofs.Common.{rules, sym, ◌∙◌, ◌<◌, length, ℕ}
use Rattle.std.proofs.lemmas.List.Elements.{All-push}
use Rattle.matcher_picks.proofs.PeakLaws.{pick_more}
use Rattle.matcher_picks.proofs.peaks.pick_peaks.Goals as goal

pub loop-preserved : goal.loop-preserved
loop-preserved c =
    let s = c.args.scores.now in
    let more = pick_more s c.args.separation c.loop.counter c.loop.picked.items (search rules) c.in-Some.best (search rules) (search rules) in
    (search rules, rw c.push.ensures.items (sym more ∙ c.loop.invariant.1), rw c.push.ensures.items (All-push (λ (place : ℕ). place < length s) c.loop.picked.items c.in-Some.best c.loop.invariant.2 (search rules)))
