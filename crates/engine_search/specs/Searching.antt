-- One window's search by the engine's definitions. Definitions only.
use Rattle.std.specs.Prelude.{Bool, List, length, Float, Option}
use Rattle.numbers_spec.specs.Arithmetic.{◌⊕◌, ◌⊖◌}
use Rattle.matcher_spec.specs.Search.{WorkRoom, local_search, whole_search}
use Rattle.matcher_spec.specs.declared.types.Candidate.{Candidate}
use Rattle.matcher_filling.specs.Queries.{Answered}
use Rattle.matcher_filling.specs.declared.query.Query.{Query}
use Rattle.engine_spec.specs.Thresholds.{local_ms}
use Rattle.engine_spec.specs.declared.types.Hypothesis.{Hypothesis}
use Rattle.engine_spec.specs.Windows.{query, evidence}
use Rattle.engine_spec.specs.Tracking as tracking
use Rattle.engine_spec.specs.Locking as locking
use Rattle.engine_spec.specs.declared.types.RecordedMs.{RecordedMs}
use Rattle.engine_search.specs.declared.kinds.Search.{Search}

abbrev pub evidence_of : Search → RecordedMs
evidence_of s = evidence s.matcher.reference.hop_ms s.window.now

-- What the searches find: the local one near a track, and the whole one.
abbrev pub near_of : Search → Hypothesis → List Candidate
near_of s track = local_search s.matcher.reference s.matcher.fine (query s.window.now) (track.offset_ms ⊖ local_ms) (track.offset_ms ⊕ local_ms)

abbrev pub whole_of : Search → List Candidate
whole_of s = whole_search s.matcher (query s.window.now)

-- What the local search leaves.
abbrev pub tracked_of : Search → tracking.Tracked
tracked_of s = tracking.tracked s.matcher (query s.window.now) (evidence_of s) s.lock.accepted

-- What the searches leave, with a whole one or without, after a local one that left this track.
abbrev pub searched_with : Bool → Search → tracking.Tracked → locking.Searched
searched_with whole s t = locking.searched_if whole s.matcher s.matcher.reference.hop_ms s.window.now s.reached s.lock t

-- What both leave.
abbrev pub searched_of : Search → locking.Searched
searched_of s = locking.searched s.granted s.matcher s.matcher.reference.hop_ms s.window.now s.reached s.lock

-- ---- its working slices
abbrev pub Works : Search → List Float → List Float → Type 0
Works s work32 work64 = WorkRoom s.matcher.reference s.window.now.bands (length s.window.now.times) work32 work64

-- Filling answered so, and left the window's query if it is searchable.
abbrev pub Filled : Search → Option Query → List Float → List Float → Type 0
Filled s answer work32 work64 = Answered s.matcher.reference (query s.window.now) answer work32 work64
