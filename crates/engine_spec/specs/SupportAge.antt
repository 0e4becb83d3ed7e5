-- Support age (document 01): the coast of the last computed snapshot, or nothing if that wasn't Locked or none exists. Definitions only.
use Rattle.std.specs.Prelude.{cond, ◌&&◌, Option, None, Some, Float}
use Rattle.engine_spec.specs.Cases.{is_locked}
use Rattle.engine_spec.specs.Refusals.{unless, valid_engine}
use Rattle.engine_spec.specs.declared.types.Snapshot.{Snapshot}
use Rattle.engine_spec.specs.declared.types.Engine.{Engine}
use Rattle.engine_spec.specs.Results.{Age}
use Rattle.engine_spec.specs.declared.types.Refusal.TheVariants as refusal

-- The coast of a snapshot that is Locked.
abbrev pub coast_shown : Snapshot → Option Float
coast_shown s = cond (is_locked s.state) (Some s.diagnostics.spectral.coast_ms) None

-- Only a state out of range is refused, with 7.
unfoldable pub support_age : Engine → Age
support_age e = record {
  refusal = unless (valid_engine e) refusal.StateOutOfRange None;
  coast_ms = cond (valid_engine e && e.last.has_snapshot) (coast_shown e.last.snapshot) None;
}
