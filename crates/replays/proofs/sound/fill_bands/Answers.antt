use Rattle.std.proofs.Common.{ℕ, ◌/◌, ◌%◌, length, sym, ◌∙◌, arith}
use Rattle.std.specs.Float.{nan}
use lib.Seq.{ext_get_or}
use Rattle.numbers_spec.specs.Rows.{tabulate}
use Rattle.numbers_spec.proofs.RowLaws.{length_tabulate, get_d_tabulate}
use Rattle.replays.proofs.sound.fill_bands.Goals as goal

pub returns-clause-bands : goal.returns-clause-bands
returns-clause-bands g c f says =
    let at = λ (k : ℕ). f (k / c.args.n) (k % c.args.n) in
    let n = length c.args.values.now in
    ext_get_or nan _ (tabulate at n) (omega (arith, length_tabulate at n)) (λ k b. says k _ (omega arith) (c.loop-i.invariant nan k (omega arith)) ∙ sym (get_d_tabulate at n k nan (omega arith)))
