-- `engine_opening::opening::open` meets its contract: refused, or opened, with an index or without. Assumes nothing.
use Rattle.std.proofs.Common.{rules}
use mathlib.Core.Path.{sym, subst}
use Rattle.numbers_spec.specs.Rows.{Every, F32}
use Rattle.matcher_spec.specs.Features.{Features}
use Rattle.std.specs.Prelude.{Ok}
use Rattle.engine_spec.specs.Opening.{opening}
use Rattle.matcher_spec.specs.Index.{lent}
use Rattle.engine_spec.proofs.Contract.{guaranteed_of}
use Rattle.engine_opening.proofs.RoomLaws.{open_room}
use Rattle.engine_opening.proofs.OpenLaws.{index_filled, accepted_frames}
use Rattle.engine_opening.proofs.opening.open.Goals as goal

pub fill_index-accepted-requires : goal.fill_index-accepted-requires
fill_index-accepted-requires c =
    let k = open_room _ _ _ _ (sym c.in_ok-check_opening.ensures) in
    record { hop_value_1 = k.wide; hop_value_2 = k.values; holds_1 = record { value_room = k.fine; energy_room = k.fine_energy_lem }; holds_2 = record { value_room = k.coarse; energy_room = k.coarse_energy_lem } }

pub opened_settings-requires : goal.opened_settings-requires
opened_settings-requires c =
    let k = open_room _ _ _ _ (sym c.in_ok-check_opening.ensures) in
    record { some = (λ h. accepted_frames _ _ c.fill_index-accepted.ensures.value h); few = k.short; few_bands = k.few }

pub returns-clause-guaranteed : goal.returns-clause-guaranteed
unfolding opening
returns-clause-guaranteed c =
    let e = c.fill_index-accepted.ensures in
    let a = c.args in
    let index = index_filled _ _ _ _ (sym c.in_ok-check_opening.ensures) e.value e.fine_after e.coarse_after e.fine_energy_after e.coarse_energy_after in
    let held = subst (λ (w : Features). Every F32 w.values) c.reference.view_is c.are_f32.ensures in
    guaranteed_of a.configuration a.hop a.reference.now (lent a.fine.now a.coarse.now a.fine_energy.now a.coarse_energy.now) held {r = Ok c.fresh_engine.result} (search rules) index
