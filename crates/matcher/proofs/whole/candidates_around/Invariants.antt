-- The loop's invariant: to go on from the candidates found gives what the contract says.
use Rattle.std.proofs.Common.{◌≡◌, ◌≤◌, length, drop}
use Rattle.matcher_spec.specs.Candidates.{sort_into, sorted}
use Rattle.matcher_spec.specs.Lent.{bands_in}
use Rattle.matcher_spec.specs.Search.{candidates_at}
use Rattle.matcher.proofs.whole.candidates_around.Given as goal

abbrev pub invariant-loop-peak : goal.invariant-loop-peak
invariant-loop-peak l =
    let around = candidates_at l.compared.reference (bands_in l.compared.bands.reference) (bands_in l.compared.bands.query) l.compared.start in
    (length l.found.items ≤ l.peak-index) × (sort_into l.found.items (around (drop l.peak-index l.picked.items)) ≡ sorted (around l.picked.items))
