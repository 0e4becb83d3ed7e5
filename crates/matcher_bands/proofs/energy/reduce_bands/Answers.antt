use Rattle.std.proofs.Common.{rules}
use Rattle.matcher_spec.specs.Energy.{averages}
use Rattle.matcher_bands.proofs.energy.reduce_bands.Goals as goal

pub returns : goal.returns
returns c = c.fill_bands.ensures averages (λ part band after s v p. search rules)
