-- `matcher_filling::index::fill_index` meets its contract. Assumes nothing.
use mathlib.Core.Path.{sym, ap, ◌∙◌}
use Prim.Native.Nat.{◌+◌, ◌*◌, ◌/◌}
use native.Mathlib.Omega.{arith}
use lib.ListN.{length}
use Rattle.matcher_spec.specs.Centring.{radius}
use Rattle.matcher_spec.specs.Energy.{all_averages, all_energies}
use Rattle.matcher_spec.specs.Features.{Features}
use Rattle.matcher_spec.specs.Index.{fine_values, matcher_of}
use Rattle.matcher_spec.proofs.RadiusLaw.{radius_small}
use Rattle.numbers_spec.proofs.PartLaws.{front_filled}
use Rattle.matcher_filling.proofs.FillLaws.{accepted_room, front_written, uncut}
use Rattle.matcher_filling.proofs.index.fill_index.Goals as goal

pub fill_centred-requires : goal.fill_centred-requires
fill_centred-requires c =
    let a = c.args in
    let w = a.reference.now in
    let room = accepted_room a.hop w.bands w.times w.values (sym c.accepts_reference.ensures ∙ c.if-not-accepts_reference.false) in
    record { some_bands = room.0; some_left = omega arith; radius_small = rw c.radius.ensures (radius_small a.hop c.requires.hop_value_1); full = omega arith; holds = c.requires.holds_1 }

pub returns : goal.returns
unfolding matcher_of
returns c =
    let a = c.args in
    let w = a.reference.now in
    let n = length w.times in
    let r = radius a.hop in
    let f = fine_values r w.bands n w.values in
    let filled = c.fill_centred in
    let whole = uncut r w.bands n w.values filled.new.values filled.new.energy (rw c.radius.ensures at filled.ensures.values_front) filled.ensures.energy_front in
    let bands = ap (λ (x : Features). x.bands) c.reference.view_is in
    let frames = ap (λ (x : Features). length x.times) c.reference.view_is in
    let averages = all_averages w.bands n f in
    record {
      value = sym c.if-not-accepts_reference.false ∙ c.accepts_reference.ensures;
      fine_after = front_written filled.new.values a.fine.now (w.bands * n) (omega arith) whole.0 filled.ensures.values_rest;
      coarse_after = front_filled averages a.coarse.now (w.bands * (n / 4)) (rw (bands, frames, whole.0) at c.reduce_with_energies.ensures.out_after) c.reduce_with_energies.auto.out (omega arith);
      fine_energy_after = front_written filled.new.energy a.fine_energy.now (w.bands * (n + 1)) (omega arith) whole.1 filled.ensures.energy_rest;
      coarse_energy_after = front_filled (all_energies w.bands (n / 4) averages) a.coarse_energy.now (w.bands * (n / 4 + 1)) (rw (bands, frames, whole.0) at c.reduce_with_energies.ensures.energy_after) c.reduce_with_energies.auto.energy (omega arith);
    }
