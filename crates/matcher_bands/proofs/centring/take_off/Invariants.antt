-- `matcher_bands::centring::take_off` meets its contract. The loop's invariant: so many places are filled, and what lies behind them, which is read, is as it was. Assumes nothing.
use Rattle.std.proofs.Common.{ℕ, ◌+◌, get_or}
use Rattle.std.specs.Float.{nan, binary32}
use Rattle.std.specs.Float.Ieee.{sub}
use Rattle.numbers_spec.proofs.RowLaws.{Filling}
use Rattle.matcher_bands.proofs.centring.take_off.Given as goal

abbrev pub invariant-loop-k : goal.invariant-loop-k
invariant-loop-k l = Filling (λ (p : ℕ). sub binary32 (get_or l.initial.row (l.from + p) nan) (get_or l.means p nan)) l.initial.row l.k l.row
