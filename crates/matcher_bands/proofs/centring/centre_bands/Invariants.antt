-- `matcher_bands::centring::centre_bands` meets its contract. The loop's invariant: the rows of the bands passed stand at the front, then what is left of the last one's logs, and what lies past the places used is as it was.
-- Assumes nothing.
use Rattle.matcher_bands.proofs.CentringLaws.{Centred}
use Rattle.matcher_bands.proofs.centring.centre_bands.Given as goal

abbrev pub invariant-loop-b : goal.invariant-loop-b
invariant-loop-b l = Centred l.centring.frames l.centring.radius l.centring.from l.centring.count l.values l.initial.out l.initial.sums l.b l.out l.sums
