-- By a window's query this is the search of the window. Assumes nothing.
use Rattle.std.proofs.Common.{arith, ◌≡◌, ◌∙◌}
use Rattle.std.proofs.lemmas.Grind.{common_steps}
use Rattle.matcher_spec.specs.Index.{lent_bands}
use Rattle.matcher_spec.specs.Lent.{bands_in}
use Rattle.matcher_spec.specs.Search.{local_found}
use Rattle.matcher.proofs.QueryLaws.{local_by}
use Rattle.matcher.proofs.local.local_found.Goals as goal

pub returns-clause-searched : goal.returns-clause-searched
returns-clause-searched c w t =
    let x = c.args.fine.now in
    let q = c.args.query in
    let found : c.local_candidates.result.items ≡ local_found x.reference (bands_in x.bands) (lent_bands x.reference.bands q.frames c.args.work32.now c.args.work64.now) q.start c.args.lower c.args.upper = grind (arith, common_steps) in
    found ∙ local_by x.reference (bands_in x.bands) w q _ _ c.args.lower c.args.upper t
