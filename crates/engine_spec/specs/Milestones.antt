-- Milestones: which are there, what brings them, and the one place where a clock reading is written (engine.rs, `process`). Definitions only.
use Rattle.std.specs.Prelude.{Bool, true, false, cond, Option, None, Some, is_some}
use Rattle.engine_spec.specs.declared.types.ClockMs.{ClockMs}
use Rattle.engine_spec.specs.declared.types.Reached.{Reached}
use Rattle.engine_spec.specs.declared.types.Milestones.{Milestones}
use Rattle.engine_spec.specs.declared.types.Snapshot.{Snapshot}

abbrev pub no_milestones : Milestones
no_milestones = record { first_provisional_ms = None; confirmed_ms = None; final_ms = None }

-- The engine's three, as a snapshot shows them.
abbrev pub milestones_shown : Snapshot → Milestones
milestones_shown s = record {
  first_provisional_ms = s.first_provisional_lock_elapsed_ms;
  confirmed_ms = s.confirmed_lock_elapsed_ms;
  final_ms = s.final_lock_elapsed_ms;
}

-- ---- which are there
abbrev pub reached_by : Milestones → Reached
reached_by m = record { provisional = is_some m.first_provisional_ms; confirmed = is_some m.confirmed_ms; final_lock = is_some m.final_ms }

-- The first passing search brings the first milestone; the first end of a chain brings confirmed and final.
abbrev pub after_passing : Reached → Reached
after_passing k = record { provisional = true; confirmed = k.confirmed; final_lock = k.final_lock }

abbrev pub after_chain : Reached → Reached
after_chain k = record { provisional = true; confirmed = cond k.final_lock k.confirmed true; final_lock = true }

-- ---- and the clock
-- A milestone that is reached keeps its reading, or takes the clock's if it has none.
abbrev pub stamped_once : Bool → Option ClockMs → ClockMs → Option ClockMs
stamped_once false old clock = old
stamped_once true None clock = Some clock
stamped_once true (Some t) clock = Some t

-- Confirmed takes the clock's reading together with final, even where it has one: only a state made by a caller has it before.
abbrev pub stamped_with_final : Bool → Option ClockMs → Option ClockMs → ClockMs → Option ClockMs
stamped_with_final false final old clock = old
stamped_with_final true None old clock = Some clock
stamped_with_final true (Some t) old clock = old

-- The one place where a clock reading is written.
unfoldable pub stamp : Milestones → Reached → ClockMs → Milestones
stamp m k clock = record {
  first_provisional_ms = stamped_once k.provisional m.first_provisional_ms clock;
  confirmed_ms = stamped_with_final k.final_lock m.final_ms m.confirmed_ms clock;
  final_ms = stamped_once k.final_lock m.final_ms clock;
}
