-- `matcher_replay::answers::answers_to` meets its contract: a case within the limits fits the arrays. Assumes nothing.
use Rattle.std.proofs.Common.{◌*◌, replicate}
use lib.Ieee.{of_bits}
use Rattle.numbers_spec.specs.Arithmetic.{zero⁺}
use Rattle.matcher_spec.specs.Index.{Index, lent}
use Rattle.matcher_replay.specs.Agreement.{answers_of}
use Rattle.matcher_replay.specs.Cases.{case_frames, coarse_room, coarse_energy_room, fine_room, fine_energy_room}
use Rattle.matcher_replay.proofs.AnswerLaws.{answered, refused}
use Rattle.matcher_replay.proofs.CaseLaws.{reference_fits}
use Rattle.matcher_replay.proofs.SoundLaws.{reference_front, times_front}
use Rattle.matcher_replay.proofs.answers.answers_to.Goals as goal

zeros : Index
zeros = lent (replicate fine_room zero⁺) (replicate coarse_room zero⁺) (replicate fine_energy_room zero⁺) (replicate coarse_energy_room zero⁺)

pub returns-then-not-fill_index : goal.returns-then-not-fill_index
unfolding answers_of of_bits zeros
returns-then-not-fill_index c =
    let a = c.args.small.case in
    let l = c.args.small.limits in
    let e = c.default.ensures in
    refused a zeros
    (times_front zero⁺ a.hop case_frames a.frames c.fill_times.ensures l.frames)
    (reference_front a.seed a.period a.frames fine_room (a.bands * a.frames) c.fill_reference.ensures (reference_fits l))
    c.fill_index.ensures.value
    c.if-not-fill_index.true
    (λ i. record { filled = e.0 i; index = e.1.0 i; whole_count = e.1.1.0 i; whole = e.1.1.1.0 i; local_count = e.1.1.1.1.0 i; local = e.1.1.1.1.1 i })

pub returns : goal.returns
unfolding answers_of of_bits zeros
returns c =
    let a = c.args.small.case in
    let l = c.args.small.limits in
    answered a zeros
    (times_front zero⁺ a.hop case_frames a.frames c.fill_times.ensures l.frames)
    (reference_front a.seed a.period a.frames fine_room (a.bands * a.frames) c.fill_reference.ensures (reference_fits l))
    c.fill_index.ensures.value
    c.fill_index.ensures.fine_after
    c.fill_index.ensures.coarse_after
    c.fill_index.ensures.fine_energy_after
    c.fill_index.ensures.coarse_energy_after
    c.if-not-fill_index.false
    c.search_in.ensures
