-- What a search is lent, as the records that the definitions take. Definitions only.
use Rattle.matcher_spec.specs.Energy.{Bands, bands_of}
use Rattle.matcher_spec.specs.declared.lent.Bands as lent

abbrev pub bands_in : lent.Bands → Bands
bands_in x = bands_of x.count x.values.now x.energy.now
