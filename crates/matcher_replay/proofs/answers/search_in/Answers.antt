-- `matcher_replay::answers::search_in` meets its contract: a case within the limits fits the arrays. Assumes nothing.
use Rattle.std.proofs.Common.{◌*◌, ap, ◌∙◌}
use lib.Ieee.{of_bits}
use Rattle.matcher_spec.specs.Index.{lent_matcher}
use Rattle.matcher_spec.specs.declared.types.Reference.{Reference}
use Rattle.matcher_replay.specs.Agreement.{begin}
use Rattle.matcher_replay.specs.Cases.{case_window, window_room}
use Rattle.matcher_replay.proofs.AnswerLaws.{heard, local_is, searched, whole_is}
use Rattle.matcher_replay.proofs.CaseLaws.{window_fits}
use Rattle.matcher_replay.proofs.SoundLaws.{times_front, window_front}
use Rattle.matcher_replay.proofs.answers.search_in.Goals as goal

pub returns : goal.returns
unfolding of_bits
returns c =
    let a = c.args.small.case in
    let l = c.args.small.limits in
    let x = c.args.index.now in
    let m = c.lent_matcher-matcher.ensures ∙ ap (λ (r : Reference). lent_matcher r x) c.reference.ensures in
    heard a x
    (times_front begin a.hop case_window a.window c.fill_times.ensures l.window)
    (window_front a.seed a.period a.window a.from window_room (a.bands * a.window) c.fill_window.ensures (window_fits l))
    (searched a x _ c.digest_of_index.ensures
    (whole_is a x _ m c.whole_search-whole.ensures.value)
    c.len.ensures.value
    c.of_candidates.ensures
    (local_is a x _ (c.matcher.view_is ∙ m) c.offset-offset.ensures c.local_search-local.ensures.value)
    c.len-2.ensures.value
    c.of_candidates-2.ensures)
