-- What is handed in: the reference, the lent index, a window, a submission; the times of a window, and what is near what. Definitions only.
use Rattle.std.specs.Prelude.{ℕ, ◌-◌, Bool, false, not, ◌&&◌, ◌||◌, List, eqb, length, get_or, Float, Option, None, Some}
use Rattle.std.specs.Float.{nan}
use Rattle.std.specs.Float.Ieee.{le, lt}
use Rattle.numbers_spec.specs.Arithmetic.{◌⊕◌, ◌⊖◌, ◌⊗◌, two, absolute}
use Rattle.matcher_spec.specs.Centring.{context_frames}
use Rattle.matcher_spec.specs.Timeline.{accepts}
use Rattle.matcher_spec.specs.Index.{Index, Matcher, lent_matcher}
use Rattle.matcher_spec.specs.declared.types.Reference.{Reference}
use Rattle.matcher_spec.specs.Features.{Features, features}
use Rattle.engine_spec.specs.Thresholds.{reread_ms, same_place_ms, stale_ms}
use Rattle.engine_spec.specs.declared.types.RecordedMs.{RecordedMs}
use Rattle.engine_spec.specs.declared.types.ClockMs.{ClockMs}
use Rattle.engine_spec.specs.declared.types.Settings.{Settings}

-- ---- what is lent
-- A window: a time and an energy for each frame, and values band after band.
pub record Window : Type 0 where
  pub bands : ℕ
  pub times : List Float
  pub energies : List Float
  pub values : List Float

-- A submission: what is handed in with the state.
pub record Submission : Type 0 where
  pub index : Index
  pub window : Window
  pub clock : ClockMs
  -- the working buffers' lengths
  pub room32 : ℕ
  pub room64 : ℕ

-- ---- what the settings say of the reference
-- Whether there is an index.
abbrev pub indexed : Settings → Bool
indexed s = not (eqb s.reference_frames 0)

abbrev pub reference_of : Settings → Reference
reference_of s = record { bands = s.reference_bands; frames = s.reference_frames; start_ms = s.reference_start_ms.0; hop_ms = s.hop_ms }

-- The matcher that a lent index holds.
abbrev pub matcher_in : Settings → Index → Matcher
matcher_in s x = lent_matcher (reference_of s) x

-- ---- a window's times
-- How long b lies after a, in f64.
infixl 6 ◌after◌
abbrev pub ◌after◌ : RecordedMs → RecordedMs → Float
b after a = b.0 ⊖ a.0

abbrev pub start : Window → RecordedMs
start w = record { 0 = get_or w.times 0 nan }

abbrev pub endpoint_of : Window → RecordedMs
endpoint_of w = record { 0 = get_or w.times (length w.times - 1) nan }

abbrev pub duration : Window → Float
duration w = endpoint_of w after start w

-- Evidence time (document 01): an endpoint less the rounded 250 / hop frames that centring trims, here without the floor of 1.
unfoldable pub evidence_at : Float → RecordedMs → RecordedMs
evidence_at hop endpoint = record { 0 = endpoint.0 ⊖ context_frames hop ⊗ hop }

abbrev pub evidence : Float → Window → RecordedMs
evidence hop w = evidence_at hop (endpoint_of w)

-- ---- what the lock rules and the chain's definition ask of two answers
-- Two offsets are the same place: at most 80 apart.
abbrev pub same_place : Float → Float → Bool
same_place a b = le (absolute (a ⊖ b)) same_place_ms

-- Evidence that is not stale: at most 2,500 old.
abbrev pub current : RecordedMs → RecordedMs → Bool
current now last = le (now after last) stale_ms

-- ---- a window as the matcher takes it
abbrev pub query : Window → Features
query w = features w.bands w.times w.values

-- An accepted timeline.
abbrev pub accepts_timeline : Settings → Window → Bool
accepts_timeline s w = accepts s.reference_bands s.hop_ms w.bands w.times

-- ---- jumps and re-readings, by the endpoint of the last computed window
-- A jump (document 01): an endpoint before the last computed one, or a start above it + 2 × hop.
unfoldable pub jumps_from : Float → RecordedMs → Window → Bool
jumps_from hop last w = lt (endpoint_of w).0 last.0 || lt (last.0 ⊕ two ⊗ hop) (start w).0

-- Otherwise an endpoint less than 90 past it, on an accepted timeline or without index, is a re-reading (document 01).
unfoldable pub rereads_from : Settings → RecordedMs → Window → Bool
rereads_from s last w = not (jumps_from s.hop_ms last w) && (lt (endpoint_of w after last) reread_ms && (not (indexed s) || accepts_timeline s w))

-- Before the first computed window there is neither.
abbrev pub jumps : Settings → Option RecordedMs → Window → Bool
jumps s None w = false
jumps s (Some last) w = jumps_from s.hop_ms last w

abbrev pub rereads : Settings → Option RecordedMs → Window → Bool
rereads s None w = false
rereads s (Some last) w = rereads_from s last w
