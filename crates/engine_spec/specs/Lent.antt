-- What the calls are lent, as the records that the definitions take. Definitions only.
use Rattle.std.specs.Prelude.{ℕ, List, Float}
use Rattle.matcher_spec.specs.Index.{Index}
use Rattle.engine_spec.specs.Windows.{Window, Submission}
use Rattle.engine_spec.specs.declared.types.ClockMs.{ClockMs}

abbrev pub window : ℕ → List Float → List Float → List Float → Window
window bands times energies values = record { bands = bands; times = times; energies = energies; values = values }

abbrev pub handed : Index → Window → ClockMs → ℕ → ℕ → Submission
handed x w clock room32 room64 = record { index = x; window = w; clock = clock; room32 = room32; room64 = room64 }
