-- The structs of the code as the records that the definitions take. Definitions only.
use Rattle.engine_spec.specs.Tracking as tracking
use Rattle.engine_spec.specs.Locking as locking
use Rattle.engine_lock.specs.declared.kinds.Tracked.{Tracked}
use Rattle.engine_lock.specs.declared.kinds.Searched.{Searched}

abbrev pub tracked_in : Tracked → tracking.Tracked
tracked_in t = record { accepted = t.accepted; supported = t.supported; innovation = t.innovation; found = t.found.items }

abbrev pub searched_in : Searched → locking.Searched
searched_in s = record { lock = s.lock; reached = s.reached; global = s.global; found = s.found.items; supported = s.supported; innovation = s.innovation }
