-- `matcher_bands::centring::Smoothing::centre` meets its contract. The loop's invariant: so many places are filled, and what lies behind them, which is read, is as it was. Assumes nothing.
use Rattle.std.proofs.Common.{◌≡◌, ◌*◌, length, min}
use Rattle.numbers_spec.proofs.RowLaws.{Filling}
use Rattle.matcher_bands.specs.Smoothed.{mean_at}
use Rattle.matcher_bands.proofs.CentringLaws.{smoothed}
use Rattle.matcher_bands.proofs.centring.Smoothing.centre.Given as goal

abbrev pub invariant-loop-block : goal.invariant-loop-block
invariant-loop-block l = record {
  wide_size : length l.wide ≡ 120;
  means_size : length l.means ≡ 120;
  filled : Filling (smoothed (mean_at l.self) l.from l.initial.row) l.initial.row (min l.count (l.block * 120)) l.row;
}
