-- The averages, their energies and all scores have room behind the query. Assumes nothing.
use Rattle.std.proofs.Common.{arith, ap, ℕ, ◌+◌, ◌*◌, ◌/◌, ◌≤◌, ◌≡◌, ◌∙◌}
use Rattle.std.proofs.Math.Nat.{mul-le-mul_left}
use Rattle.std.proofs.lemmas.Grind.{common_steps}
use Rattle.matcher_spec.specs.Index.{Matcher, lent_bands}
use Rattle.matcher_spec.specs.Search.{whole_found}
use Rattle.matcher.proofs.QueryLaws.{whole_by}
use Rattle.matcher.proofs.whole.whole_found.Goals as goal

-- The query's averages, and their energies, take no more than the query.
averages_less : (bands n : ℕ) → (bands * (n / 4) ≤ bands * n) × (bands * (n / 4 + 1) ≤ bands * (n + 1))
averages_less bands n = (mul-le-mul_left bands (omega arith), mul-le-mul_left bands (omega arith))

pub whole_candidates-requires-clause-averages_room : goal.whole_candidates-requires-clause-averages_room
whole_candidates-requires-clause-averages_room c =
    let query = c.front_bands.ensures in
    let n = c.args.query.frames in
    let values = ap (λ (m : Matcher). m.reference.bands * n) c.matcher.view_is in
    rw (query.bands, query.count) (omega (arith, values, c.requires.work_room.work32_room_lem, c.split_at_mut-values.ensures.back_len, averages_less c.matcher.inside.fine.reference.bands n))

pub whole_candidates-requires-clause-work_room : goal.whole_candidates-requires-clause-work_room
whole_candidates-requires-clause-work_room c =
    let query = c.front_bands.ensures in
    let n = c.args.query.frames in
    let energies = ap (λ (m : Matcher). m.reference.bands * (n + 1)) c.matcher.view_is in
    let frames = ap (λ (m : Matcher). m.reference.frames) c.matcher.view_is in
    rw (query.bands, query.count) (omega (arith, frames, energies, c.requires.work_room.work64_room_lem, c.split_at_mut-energy.ensures.back_len, averages_less c.matcher.inside.fine.reference.bands n))

-- The query is the window's.
pub returns-clause-searched : goal.returns-clause-searched
returns-clause-searched c w t =
    let m = c.args.matcher.now in
    let q = c.args.query in
    let found : c.whole_candidates.result.items ≡ whole_found m (lent_bands m.reference.bands q.frames c.args.work32.now c.args.work64.now) q.start = grind (arith, common_steps) in
    found ∙ whole_by m w q _ _ t
