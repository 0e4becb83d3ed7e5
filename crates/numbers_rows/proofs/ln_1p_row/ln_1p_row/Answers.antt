use Rattle.std.proofs.Common.{◌≡◌, ◌+◌, ◌-◌, drop, get_or, take, sym, refl, ap, ◌∙◌, subst, rules, arith}
use borrow.Rule.Slice.PartMut.{put_mid}
use lib.Ieee.{nan}
use lib.Seq.{take_all}
use Rattle.std.proofs.lemmas.List.{get_or-take, get_or-drop}
use Rattle.numbers_spec.specs.Rows.{logs_of}
use Rattle.numbers_rows.specs.Logs.{Below}
use Rattle.numbers_rows.proofs.Rows.{all_logged, block_more, room_kept}
use Rattle.numbers_rows.proofs.ln_1p_row.ln_1p_row.Goals as goal

pub returns-then-not-all_by : goal.returns-then-not-all_by
returns-then-not-all_by c =
    all_logged c.args.w.now _ (omega arith) (λ k h. let e = c.fill_by.ensures.each nan k (omega arith) in search rules)

pub log_block-requires-clause-below : goal.log_block-requires-clause-below
log_block-requires-clause-below c k h =
    let at = c.loop-at.at in
    let n = c.min-end.result - at in
    let w = c.args.w.now in
    let below : Below (get_or w (at + k) nan) = let e = c.all_by.ensures.all c.if-not-all_by.false (at + k) (omega arith) in search rules in
    subst Below (sym (get_or-take n (drop at w) k nan (omega arith) ∙ get_or-drop at w k nan)) below

pub loop-at-init : goal.loop-at-init
unfolding logs_of
loop-at-init c = (refl, refl, refl, refl, refl)

pub loop-at-preserved : goal.loop-at-preserved
loop-at-preserved c =
    let l = c.loop-at in
    let end = c.min-end.result in
    let w = c.args.w.now in
    let next = c.log_block.new.logs in
    let full : end ≡ l.at + 120 = omega arith in
    let more = block_more w l.logs next l.at end (omega arith) (omega arith) (omega arith) l.invariant.0 c.log_block.ensures in
    let n = end - l.at in
    let new = c.log_block.new in
    let as_long = c.log_block.auto in (
      subst (λ n. take n (put_mid l.at (end - l.at) l.logs next) ≡ logs_of (take n w)) full more,
      room_kept new.near l.near n as_long.near ∙ l.invariant.1,
      room_kept new.powers l.powers n as_long.powers ∙ l.invariant.2,
      room_kept new.ratios l.ratios n as_long.ratios ∙ l.invariant.3,
      room_kept new.sums l.sums n as_long.sums ∙ l.invariant.4,
    )

pub returns-else-not-all_by-2 : goal.returns-else-not-all_by-2
returns-else-not-all_by-2 c =
    let l = c.loop-at in
    let end = c.min-end.result in
    let w = c.args.w.now in
    let logs = put_mid l.at (end - l.at) l.logs c.log_block.new.logs in
    let more = block_more w l.logs c.log_block.new.logs l.at end (omega arith) (omega arith) (omega arith) l.invariant.0 c.log_block.ensures in
    sym (take_all end logs (omega arith)) ∙ more ∙ ap logs_of (take_all end w (omega arith))
