-- `matcher_filling::centred::fill_centred` meets its contract. Assumes nothing.
use mathlib.Core.Path.{sym, ◌∙◌}
use Prim.Native.Nat.{◌-◌, ◌*◌}
use native.Mathlib.Omega.{arith}
use lib.ListN.{length}
use Rattle.matcher_filling.proofs.FillLaws.{later, query_room, kept_rows, energies_rest}
use Rattle.matcher_filling.proofs.centred.fill_centred.Goals as goal

pub returns-clause-values_front : goal.returns-clause-values_front
returns-clause-values_front c =
    let x = c.source.inside in
    let a = c.args in
    rw (sym c.source.view_is) (c.centre_bands.ensures.out_after ∙ kept_rows a.radius a.cut x.bands (length x.times.now) x.values.now (rw (sym c.source.view_is) at c.requires.full))

pub returns-clause-values_rest : goal.returns-clause-values_rest
returns-clause-values_rest c =
    let x = c.source.inside in
    rw (sym c.source.view_is) (later _ _ _ _ (query_room {bands = x.bands} (length x.times.now) (length x.times.now - 2 * c.args.cut) (rw (sym c.source.view_is) at c.requires.some_bands) (omega arith)).5 c.centre_bands.ensures.out_unchanged)

pub returns-clause-energy_rest : goal.returns-clause-energy_rest
returns-clause-energy_rest c =
    let x = c.source.inside in
    let frames = length x.times.now in
    let n = frames - 2 * c.args.cut in
    let e = sym c.source.view_is in
    rw e (energies_rest frames n {bands = x.bands} _ c.centre_bands.new.sums c.args.energy.now (rw e at c.requires.some_bands) (omega arith) (rw e at c.requires.holds.energy_room) c.centre_bands.auto.sums c.fill_energies.ensures c.fill_energies.auto.energy)
