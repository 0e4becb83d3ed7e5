-- What each operation refuses, and with which number (document 01, "What each operation refuses"). Definitions only.
use Rattle.std.specs.Prelude.{ℕ, ◌+◌, ◌*◌, ◌/◌, Bool, true, false, cond, not, ◌&&◌, ◌||◌, leb, ltb, eqb, length, Float, Option, None, Some, is_some, ◌≡◌}
use Rattle.std.specs.Option.{option_map_or}
use Rattle.std.specs.Float.{inf}
use Rattle.std.specs.Float.Ieee.{lt, le, eq, neg}
use Rattle.std.specs.Float.Ieee.Scale.{finite}
use Rattle.numbers_spec.specs.Arithmetic.{zero⁺, one}
use Rattle.matcher_spec.specs.Timeline.{valid_values}
use Rattle.matcher_spec.specs.Energy.{reduction}
use Rattle.matcher_spec.specs.Index.{Index}
use Rattle.engine_spec.specs.Windows.{Window, Submission}
use Rattle.engine_spec.specs.Milestones.{milestones_shown}
use Rattle.matcher_spec.specs.Features.{Features}
use Rattle.engine_spec.specs.declared.types.RecordedMs.{RecordedMs}
use Rattle.engine_spec.specs.declared.types.ClockMs.{ClockMs}
use Rattle.engine_spec.specs.declared.types.Configuration.{Configuration}
use Rattle.engine_spec.specs.declared.types.Settings.{Settings}
use Rattle.engine_spec.specs.declared.types.Lock.{Lock}
use Rattle.engine_spec.specs.declared.types.Milestones.{Milestones}
use Rattle.engine_spec.specs.declared.types.Snapshot.{Snapshot}
use Rattle.engine_spec.specs.declared.types.Last.{Last}
use Rattle.engine_spec.specs.declared.types.Engine.{Engine}
use Rattle.engine_spec.specs.declared.types.Hypothesis.{Hypothesis}
use Rattle.engine_spec.specs.declared.types.Estimate.{Estimate}
use Rattle.engine_spec.specs.declared.types.Refusal.{Refusal}
use Rattle.engine_spec.specs.declared.types.Refusal.TheVariants as refusal
use Rattle.numbers_spec.specs.Rows.{every}
use Rattle.matcher_spec.specs.Limits.{hop_least, hop_most, frames_most, window_most, bands_most, candidates_most, farthest_ms, track_most}

-- ---- the numbers
unfoldable pub number_of : Refusal → ℕ
number_of refusal.InvalidConfiguration = 1
number_of refusal.HopOutOfRange = 2
number_of refusal.ReferenceTooLarge = 3
number_of refusal.ReferenceMiscounted = 4
number_of refusal.ReferenceTimeTooFar = 5
number_of refusal.IndexTooShort = 6
number_of refusal.StateOutOfRange = 7
number_of refusal.ClockNotFinite = 8
number_of refusal.NoFrames = 9
number_of refusal.WindowTooLarge = 10
number_of refusal.WindowInvalid = 11
number_of refusal.WindowTimeOutOfRange = 12
number_of refusal.WorkTooShort = 13
number_of refusal.NameOutOfRange = 14
number_of refusal.StoreTooShort = 6
number_of refusal.NothingKept = 15

-- The number that a call gives back: 0 where nothing is refused.
abbrev pub number_or_zero : Option Refusal → ℕ
number_or_zero r = option_map_or number_of r 0

abbrev pub refuses : Option Refusal → Bool
refuses r = is_some r

-- The number tells the two apart: no refusal has the number 0.
abbrev pub RefusesByNumber : Type 0
RefusesByNumber = (r : Option Refusal) → refuses r ≡ ltb 0 (number_or_zero r)

-- The refusal where the test fails, else what comes after it.
abbrev pub unless : Bool → Refusal → Option Refusal → Option Refusal
unless test r rest = cond test rest (Some r)

-- The first of two that refuses.
infixr 5 ◌then◌
abbrev pub ◌then◌ : Option Refusal → Option Refusal → Option Refusal
r then rest = cond (refuses r) r rest

-- ---- ranges
-- -l ≤ x ≤ l; a NaN is not.
abbrev pub within : Float → Float → Bool
within l x = le (neg l) x && le x l

-- A time that is finite and within ±10^12.
abbrev pub near : Float → Bool
near t = within farthest_ms t

-- ---- 1: `Configuration::validate`
abbrev pub valid_duration : Float → Bool
valid_duration d = finite d && lt zero⁺ d

unfoldable pub valid_configuration : Configuration → Bool
valid_configuration c =
    valid_duration c.minimum_readiness_duration_ms
    && (valid_duration c.tracking_query_duration_ms
    && (finite c.minimum_active_frame_energy_dbfs
    && (finite c.minimum_average_energy_dbfs
    && (le zero⁺ c.minimum_active_frame_fraction && le c.minimum_active_frame_fraction one))))

-- ---- 2: the hop; a NaN is refused
abbrev pub hop_in_range : Float → Bool
hop_in_range hop = le hop_least hop && le hop hop_most

-- ---- 3: the reference's size
abbrev pub counts_in_range : ℕ → ℕ → Bool
counts_in_range frames bands = leb frames frames_most && leb bands bands_most

-- ---- 5: a finite reference time lies within ±10^12; one that is not finite is no refusal, it makes the reference one that is rejected
abbrev pub near_or_not_finite : Float → Bool
near_or_not_finite t = not (finite t) || near t

-- ---- 6: the index holds `bands` rows of frames and of a quarter of them, with an energy more than values in a row
unfoldable pub index_fits : ℕ → ℕ → Index → Bool
index_fits frames bands x =
    leb (bands * frames) (length x.fine)
    && (leb (bands * (frames / reduction)) (length x.coarse)
    && (leb (bands * (frames + 1)) (length x.fine_energy) && leb (bands * (frames / reduction + 1)) (length x.coarse_energy)))

-- ---- the order of opening
unfoldable pub opening_refusal : Configuration → Float → Features → Index → Option Refusal
opening_refusal c hop reference x =
    unless (valid_configuration c) refusal.InvalidConfiguration
    (unless (hop_in_range hop) refusal.HopOutOfRange
    (unless (counts_in_range (length reference.times) reference.bands) refusal.ReferenceTooLarge
    (unless (eqb (length reference.values) (reference.bands * length reference.times)) refusal.ReferenceMiscounted
    (unless (every near_or_not_finite reference.times) refusal.ReferenceTimeTooFar
    (unless (index_fits (length reference.times) reference.bands x) refusal.IndexTooShort
    None)))))

-- ---- 7: what a state holds
-- Frames and bands: both 0, or neither.
abbrev pub both_or_neither : ℕ → ℕ → Bool
both_or_neither frames bands = (eqb frames 0 && eqb bands 0) || (ltb 0 frames && ltb 0 bands)

unfoldable pub valid_settings : Settings → Bool
valid_settings s =
    hop_in_range s.hop_ms
    && (counts_in_range s.reference_frames s.reference_bands
    && (both_or_neither s.reference_frames s.reference_bands && near s.reference_start_ms.0))

abbrev pub track_number : Float → Bool
track_number x = within track_most x

unfoldable pub valid_hypothesis : Option Hypothesis → Bool
valid_hypothesis None = true
valid_hypothesis (Some h) = track_number h.offset_ms && (track_number h.first_evidence_ms.0 && (track_number h.last_evidence_ms.0 && track_number h.correlation))

-- The search time may be minus infinity.
abbrev pub valid_search_time : RecordedMs → Bool
valid_search_time t = near t.0 || eq t.0 (inf true)

unfoldable pub valid_lock : Lock → Bool
valid_lock l = valid_hypothesis l.pending && (valid_hypothesis l.accepted && valid_search_time l.last_global_search_ms)

unfoldable pub valid_milestone : Option ClockMs → Bool
valid_milestone None = true
valid_milestone (Some t) = finite t.0

unfoldable pub valid_milestones : Milestones → Bool
valid_milestones m = valid_milestone m.first_provisional_ms && (valid_milestone m.confirmed_ms && valid_milestone m.final_ms)

unfoldable pub valid_endpoint : Option RecordedMs → Bool
valid_endpoint None = true
valid_endpoint (Some t) = near t.0

unfoldable pub valid_estimate : Option Estimate → Bool
valid_estimate None = true
valid_estimate (Some e) = track_number e.query_endpoint_recorded_time_ms.0 && (track_number e.reference_time_ms.0 && track_number e.offset_ms)

-- At most 8 candidates, and the estimate and the milestones of a state.
unfoldable pub valid_snapshot : Snapshot → Bool
valid_snapshot s = leb s.diagnostics.candidate_count candidates_most && (valid_estimate s.estimate && valid_milestones (milestones_shown s))

-- Where there is no last snapshot, nothing is asked of one.
unfoldable pub valid_last : Last → Bool
valid_last l = valid_endpoint l.endpoint_ms && (not l.has_snapshot || valid_snapshot l.snapshot)

unfoldable pub valid_engine : Engine → Bool
valid_engine e =
    valid_configuration e.configuration
    && (valid_settings e.settings && (valid_lock e.lock && (valid_milestones e.milestones && valid_last e.last)))

-- ---- 6 and 8: the index and the clock
abbrev pub lent_refusal : Settings → Index → ClockMs → Option Refusal
lent_refusal s x clock =
    unless (index_fits s.reference_frames s.reference_bands x) refusal.IndexTooShort
    (unless (finite clock.0) refusal.ClockNotFinite
    None)

-- ---- 9 to 12: a window alone
unfoldable pub valid_window : Window → Bool
valid_window w =
    ltb 0 w.bands
    && (eqb (length w.energies) (length w.times) && (eqb (length w.values) (w.bands * length w.times) && valid_values w.values))

-- An energy is a number below plus infinity; minus infinity passes.
abbrev pub valid_energy : Float → Bool
valid_energy x = lt x (inf false)

unfoldable pub window_refusal : Window → Option Refusal
window_refusal w =
    unless (ltb 0 (length w.times)) refusal.NoFrames
    (unless (leb (length w.times) window_most && leb w.bands bands_most) refusal.WindowTooLarge
    (unless (valid_window w) refusal.WindowInvalid
    (unless (every near w.times && every valid_energy w.energies) refusal.WindowTimeOutOfRange
    None)))

-- ---- 13: the working buffers
-- By the window's bands and frames and the state's frames.
unfoldable pub work_fits : ℕ → ℕ → ℕ → ℕ → ℕ → Bool
work_fits bands frames referenceFrames room32 room64 = leb (2 * (bands * frames)) room32 && leb (3 * (bands * (frames + 1)) + referenceFrames) room64

abbrev pub work_refusal : Settings → Window → ℕ → ℕ → Option Refusal
work_refusal s w room32 room64 = unless (work_fits w.bands (length w.times) s.reference_frames room32 room64) refusal.WorkTooShort None

-- ---- the order of submission
-- All that may be refused of what is handed in, by a state whose settings are these.
unfoldable pub handed_refusal : Settings → Submission → Option Refusal
handed_refusal s i = lent_refusal s i.index i.clock then window_refusal i.window then work_refusal s i.window i.room32 i.room64

-- 7 first: what the state holds.
unfoldable pub submission_refusal : Engine → Submission → Option Refusal
submission_refusal e i = unless (valid_engine e) refusal.StateOutOfRange (handed_refusal e.settings i)
