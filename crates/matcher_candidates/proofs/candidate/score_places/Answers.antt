-- The whole energies stand at the front of an array. Assumes nothing.
use Rattle.std.proofs.Common.{◌≡◌, ◌∙◌, ◌++◌, ℕ, List, [], Float, ap, take}
use lib.Seq.{take_at}
use Rattle.numbers_spec.proofs.RowLaws.{length_tabulate}
use Rattle.matcher_spec.specs.Energy.{bands_of, whole_energies}
use Rattle.matcher_candidates.proofs.candidate.score_places.Goals as goal

front : (bands n : ℕ) (e rest : List Float) {whole : List Float} → whole ≡ whole_energies bands (bands_of n [] e) ++ rest → take bands whole ≡ whole_energies bands (bands_of n [] e)
unfolding whole_energies
front bands n e rest p = ap (take bands) p ∙ take_at _ rest bands (length_tabulate _ bands)

pub returns : goal.returns
unfolding whole_energies
returns c = rw (← front _ _ _ _ c.whole_energies-whole.ensures) c.correlations.ensures
