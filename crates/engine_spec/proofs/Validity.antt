-- What keeps the states that a fresh engine reaches from being refused with 7: every number in range, and every place's offset within 2^42; and with them all that a decision on a window finds and says. Assumes nothing.
use mathlib.Core.Path.{◌≡◌, sym, subst}
use mathlib.Core.Bool.{Bool, true, false, not, ◌&&◌}
use mathlib.Core.List.{List, [], ◌∷◌}
use native.Mathlib.Omega.{arith}
use native.Mathlib.Nat.{not-suc-le-zero}
use lib.Dec.{T, lit≤, leb, le→leb}
use lib.Count.{count_trailing_zeros}
use lib.ListN.{length}
use lib.Ieee.{Float, inf, binary64, le, lt, eq, neg, add, sum, of_bits, of_fields, odd, round, units, size, span, climb, fits}
use lib.Ieee.Fits.{add-fits}
use lib.Ieee.Scale.{finite}
use Rattle.std.specs.Prelude.{Option, None, Some}
use Rattle.numbers_spec.specs.Arithmetic.{◌⊕◌, ◌⊖◌, zero⁺, at_least, magnitude}
use Rattle.numbers_spec.specs.Values.{AtMost}
use Rattle.numbers_spec.proofs.Order.{le_transitive, lt→le, between_at_most, at_most_finite}
use Rattle.numbers_spec.proofs.Sums.{add_at_most, sub_at_most}
use Rattle.matcher_spec.specs.declared.types.Candidate.{Candidate}
use Rattle.matcher_spec.specs.Index.{Matcher}
use Rattle.matcher_spec.specs.Search.{whole_search, local_search}
use Rattle.matcher_spec.specs.SoundSearch.{SoundResult}
use Rattle.numbers_spec.proofs.Within.{within_at_most}
use Rattle.engine_spec.specs.Thresholds.{coast_most_ms, support_correlation, support_recent}
use Rattle.engine_spec.specs.Windows.{Window, indexed, query, endpoint_of, evidence, jumps, ◌after◌, Submission, same_place, current}
use Rattle.engine_spec.specs.Refusals.{within, near, hop_in_range, valid_configuration, valid_settings, track_number, valid_hypothesis, valid_search_time, valid_lock, valid_milestone, valid_milestones, valid_endpoint, valid_estimate, valid_snapshot, valid_last, valid_engine}
use Rattle.engine_spec.specs.Opening.{no_lock, fresh_engine}
use Rattle.engine_spec.specs.Readiness.{readiness}
use Rattle.engine_spec.specs.Tracking.{hypothesis, Tracked, may_coast, supports, moved_offset, followed, tracked}
use Rattle.engine_spec.specs.Locking.{Searched, is_due, passing, first_evidence, holds, held_or_dropped, confirms, kept_or_replaced, passed, not_passed, whole_searched, searched}
use Rattle.engine_spec.specs.Publishing.{Decision, off_track, on_track, verdict_of, decide, estimate_at, publish, offset_of}
use Rattle.engine_spec.specs.Submitting.{lock_from, computed_from}
use Rattle.engine_spec.specs.Milestones.{no_milestones, reached_by, stamped_once, stamped_with_final, stamp}
use Rattle.engine_spec.specs.Finite.{FiniteNumber}
use Rattle.engine_spec.specs.declared.types.Reached.{Reached}
use Rattle.engine_spec.specs.declared.types.Verdict.{Verdict}
use Rattle.engine_spec.specs.declared.types.RecordedMs.{RecordedMs}
use Rattle.engine_spec.specs.declared.types.ClockMs.{ClockMs}
use Rattle.engine_spec.specs.declared.types.Configuration.{Configuration}
use Rattle.engine_spec.specs.declared.types.Settings.{Settings}
use Rattle.engine_spec.specs.declared.types.Lock.{Lock}
use Rattle.engine_spec.specs.declared.types.Milestones.{Milestones}
use Rattle.engine_spec.specs.declared.types.Engine.{Engine}
use Rattle.engine_spec.specs.declared.types.Hypothesis.{Hypothesis}
use Rattle.engine_spec.specs.declared.types.WithholdReason.{WithholdReason}
use Rattle.engine_spec.specs.declared.types.WithholdReason.TheVariants as reason
use Rattle.engine_spec.proofs.Effects.{Sound, FiniteTrack, moved, Moving, Offsets}
use Rattle.engine_spec.proofs.Tests.{cond_elim, option_elim, none_clash, and_l, and_r, and_i, or_l, not_not, T-is}
use Rattle.engine_spec.proofs.Answers.{kept_or_begun}
use Rattle.engine_spec.proofs.EvidenceBound.{bounded, in_range, at_most_wider, farthest_finite, track_most_finite, evidence_bound}
use Rattle.engine_spec.proofs.MovedBound.{found_most, place_most, Step, moved_toward, since_finite, since_not_negative}
use Rattle.matcher_spec.specs.Limits.{candidates_most, farthest_ms, track_most}

-- ---- what is kept of a state
-- A place: its offset an f64 within 2^42, its other numbers within 10^13.
pub record Place (o : Float) : Type 0 where
  pub most : AtMost place_most o
  pub held : T (fits binary64 o)

pub data Bounded : Option Hypothesis → Type 0 where
  none : Bounded None
  held : {h : Hypothesis} → Place h.offset_ms → AtMost track_most h.first_evidence_ms.0 → AtMost track_most h.last_evidence_ms.0 → AtMost track_most h.correlation → Bounded (Some h)

pub record LockBounds (l : Lock) : Type 0 where
  pub pending : Bounded l.pending
  pub accepted : Bounded l.accepted
  pub time : T (valid_search_time l.last_global_search_ms)

-- The range of a valid state, 10^13, is too wide for an offset: a snapshot shows it added to the endpoint, and holds the sum to the same range.
pub record Safe (e : Engine) : Type 0 where
  pub configuration : valid_configuration e.configuration ≡ true
  pub settings : valid_settings e.settings ≡ true
  pub lock : LockBounds e.lock
  pub milestones : T (valid_milestones e.milestones)
  pub last : T (valid_last e.last)

-- ---- such a state is valid
within_T : (l x : Float) → AtMost l x → T (within l x)
within_T l x h = subst T (sym (in_range l x h)) tt

place_track : T (le place_most track_most)
unfolding le lt eq of_bits of_fields odd count_trailing_zeros
place_track = tt

place_valid : (h : Option Hypothesis) → Bounded h → T (valid_hypothesis h)
unfolding valid_hypothesis
place_valid None none = tt
place_valid (Some h) (held O F L C) =
    let o = h.offset_ms in
    let f = h.first_evidence_ms.0 in
    let l = h.last_evidence_ms.0 in
    let c = h.correlation in
    and_i (track_number o) _ (within_T track_most o (at_most_wider place_most track_most o place_track O.most))
    (and_i (track_number f) _ (within_T track_most f F) (and_i (track_number l) (track_number c) (within_T track_most l L) (within_T track_most c C)))

lock_valid : (l : Lock) → LockBounds l → T (valid_lock l)
unfolding valid_lock
lock_valid l b =
    and_i (valid_hypothesis l.pending) _ (place_valid l.pending b.pending)
    (and_i (valid_hypothesis l.accepted) (valid_search_time l.last_global_search_ms) (place_valid l.accepted b.accepted) b.time)

pub safe_valid : (e : Engine) → Safe e → valid_engine e ≡ true
unfolding valid_engine
safe_valid e k =
    T-is _
    (and_i (valid_configuration e.configuration) _ (subst T (sym k.configuration) tt)
    (and_i (valid_settings e.settings) _ (subst T (sym k.settings) tt)
    (and_i (valid_lock e.lock) _ (lock_valid e.lock k.lock) (and_i (valid_milestones e.milestones) (valid_last e.last) k.milestones k.last))))

-- ---- a fresh engine
-- minus infinity, as no_lock has it
no_search : T (valid_search_time (record { 0 = inf true }))
unfolding le lt eq neg of_bits of_fields odd count_trailing_zeros
no_search = tt

no_lock_lem : LockBounds no_lock
no_lock_lem = record { pending = none; accepted = none; time = no_search }

no_milestones_lem : T (valid_milestones no_milestones)
unfolding valid_milestones valid_milestone
no_milestones_lem = tt

pub safe_fresh : (c : Configuration) (s : Settings) → valid_configuration c ≡ true → valid_settings s ≡ true → Safe (fresh_engine c s)
unfolding fresh_engine
safe_fresh c s v h = record { configuration = v; settings = h; lock = no_lock_lem; milestones = no_milestones_lem; last = unfold valid_last valid_endpoint in tt }

-- ---- what a search finds
record Best (c : Candidate) : Type 0 where
  offset : AtMost found_most c.offset_ms
  held : T (fits binary64 c.offset_ms)
  score : AtMost track_most c.score

best_of : (c : Candidate) (l : List Candidate) → SoundResult (c ∷ l) → Best c
best_of c l r = let x = r.sound 0 (omega arith) in record { offset = within_at_most 1 41 c.offset_ms x.offset; held = x.held; score = (r.modest 0 (omega arith)).score.at_most_lem }

best_place : (c : Candidate) → Best c → Place c.offset_ms
best_place c b = record { most = at_most_wider found_most place_most c.offset_ms (unfold le lt eq in tt) b.offset; held = b.held }

-- ---- the searches of one window, whose evidence time is in range
record TrackedWell (t : Tracked) : Type 0 where
  accepted : Bounded t.accepted
  found : SoundResult t.found
  innovation : FiniteNumber t.innovation

record SearchedWell (x : Searched) : Type 0 where
  lock : LockBounds x.lock
  found : SoundResult x.found
  innovation : FiniteNumber x.innovation

-- Where nothing is searched, nothing is found.
nothing_found : SoundResult []
nothing_found = record {
  few = lit≤ tt;
  far = λ i j l h. absurd (not-suc-le-zero h);
  in_order = λ i j l h. absurd (not-suc-le-zero h);
  sound = λ i h. absurd (not-suc-le-zero h);
  modest = λ i h. absurd (not-suc-le-zero h);
}

since_bound : T (finite (track_most ⊕ track_most))
unfolding add sum round units size span climb of_bits of_fields odd count_trailing_zeros
since_bound = tt

place_finite : (x : Float) → Place x → T (finite x)
place_finite x h = at_most_finite place_most x tt h.most

track_finite : (h : Option Hypothesis) → Bounded h → FiniteTrack h
track_finite None h = tt
track_finite (Some h) (held O F L C) = place_finite h.offset_ms O

-- So is how far what was found lies from the track,
innovation_bound : T (finite (found_most ⊕ place_most))
unfolding add sum round units size span climb odd count_trailing_zeros
innovation_bound = tt

innovation_finite : (best offset : Float) → AtMost found_most best → Place offset → T (finite (best ⊖ offset))
innovation_finite best offset B O = at_most_finite (found_most ⊕ place_most) (best ⊖ offset) innovation_bound (sub_at_most binary64 best offset found_most place_most tt tt B O.most)

-- and the time between two evidence times.
pub after_finite : (now last : RecordedMs) → AtMost track_most now.0 → AtMost track_most last.0 → T (finite (now after last))
after_finite now last N L = at_most_finite (track_most ⊕ track_most) (now after last) since_bound (sub_at_most binary64 now.0 last.0 track_most track_most track_most_finite track_most_finite N L)

supports_place : (offset : Float) (best : Candidate) → T (supports offset best) → T (same_place best.offset_ms offset)
unfolding supports
supports_place offset best t = and_r (le support_recent best.recent_score) _ (and_r (le support_correlation best.score) _ t)

module _ (now : RecordedMs) (N : AtMost track_most now.0) where
  begun : (c : Candidate) → Best c → Bounded (Some (hypothesis c.offset_ms now now c.score))
  begun c b = held (best_place c b) N N b.score

  -- A local search moves the track toward the best of what it found, or leaves it.
  moved_step : (o : Float) (l : RecordedMs) (best : Candidate) → Place o → AtMost track_most l.0 → Best best → T (supports o best) → Step o best.offset_ms (moved_offset o best (at_least zero⁺ (now after l)))
  moved_step o l best O L b t =
      moved_toward best o (at_least zero⁺ (now after l)) b.offset b.held O.most O.held (supports_place o best t) (since_finite (now after l) (after_finite now l N L)) (since_not_negative (now after l))

  moved_place : (o : Float) (l : RecordedMs) (best : Candidate) → Place o → AtMost track_most l.0 → Best best → T (supports o best) → Place (moved_offset o best (at_least zero⁺ (now after l)))
  moved_place o l best O L b t = record { most = (moved_step o l best O L b t).stays 41 O.most b.offset; held = unfold moved_offset in add-fits binary64 o _ }

  followed_well : (h : Hypothesis) → Bounded (Some h) → (found : List Candidate) → SoundResult found → TrackedWell (followed h now found)
  unfolding followed
  followed_well h k [] r = record { accepted = k; found = r; innovation = tt }
  followed_well h (held O F L C) (best ∷ rest) r =
      let b = best_of best rest r in
      cond_elim TrackedWell (supports h.offset_ms best) _ _
      (λ t. record { accepted = held (moved_place h.offset_ms h.last_evidence_ms best O L b t) F N b.score; found = r; innovation = innovation_finite best.offset_ms h.offset_ms b.offset O })
      (λ t. record { accepted = held O F L C; found = r; innovation = tt })

  followed_moved : (h : Hypothesis) → Bounded (Some h) → (found : List Candidate) → SoundResult found → Moving (Some h) (followed h now found)
  unfolding followed
  followed_moved h k [] r = λ u. absurd u
  followed_moved h (held O F L C) (best ∷ rest) r =
      let b = best_of best rest r in
      cond_elim (Moving (Some h)) (supports h.offset_ms best) _ _
      (λ t _. moved (moved_step h.offset_ms h.last_evidence_ms best O L b t))
      (λ t u. absurd u)

  -- Pending's first evidence, carried on or begun.
  first_bound : (p : Option Hypothesis) (offset : Float) → Bounded p → AtMost track_most (first_evidence p offset now).0
  unfolding first_evidence
  first_bound None offset h = N
  first_bound (Some old) offset (held O F L C) =
      cond_elim (λ (t : RecordedMs). AtMost track_most t.0) (same_place old.offset_ms offset && current now old.last_evidence_ms) old.first_evidence_ms now (λ t. F) (λ t. N)

  held_or_dropped_lem : (p : Option Hypothesis) (found : List Candidate) → Bounded p → Bounded (held_or_dropped p found now)
  unfolding held_or_dropped
  held_or_dropped_lem None found h = none
  held_or_dropped_lem (Some old) found h = cond_elim Bounded (holds old.offset_ms old.last_evidence_ms found now) (Some old) None (λ t. h) (λ t. none)

  kept_or_replaced_lem : (h : Option Hypothesis) (supported : Bool) (best : Candidate) → Bounded h → Best best → Bounded (kept_or_replaced h supported best now)
  unfolding kept_or_replaced
  kept_or_replaced_lem None supported best h b = begun best b
  kept_or_replaced_lem (Some t) supported best h b = kept_or_begun Bounded t supported best now (begun best b) (λ x y. h)

-- A window whose searches are sound.
module _ (m : Matcher) (hop : Float) (w : Window) (N : AtMost track_most (evidence hop w).0) (near_end : T (near (endpoint_of w).0)) where
  end_time : T (valid_search_time (endpoint_of w))
  end_time = or_l (near (endpoint_of w).0) (eq (endpoint_of w).0 (inf true)) near_end

  tracked_well : (h : Option Hypothesis) → Bounded h → ((lower upper : Float) → SoundResult (local_search m.reference m.fine (query w) lower upper)) → TrackedWell (tracked m (query w) (evidence hop w) h)
  unfolding tracked
  tracked_well None h r = record { accepted = none; found = nothing_found; innovation = tt }
  tracked_well (Some old) h r =
      cond_elim TrackedWell (may_coast (evidence hop w) old.last_evidence_ms) _ _
      (λ t. followed_well (evidence hop w) N old h _ (r _ _))
      (λ t. record { accepted = none; found = nothing_found; innovation = tt })

  tracked_moved : (h : Option Hypothesis) → Bounded h → ((lower upper : Float) → SoundResult (local_search m.reference m.fine (query w) lower upper)) → Moving h (tracked m (query w) (evidence hop w) h)
  unfolding tracked
  tracked_moved None h r = λ u. absurd u
  tracked_moved (Some old) h r =
      cond_elim (Moving (Some old)) (may_coast (evidence hop w) old.last_evidence_ms) _ _ (λ t. followed_moved (evidence hop w) N old h _ (r _ _)) (λ t u. absurd u)

  passed_well : (k : Reached) (first : RecordedMs) (t : Tracked) (best : Candidate) (rest : List Candidate) → AtMost track_most first.0 → TrackedWell t → SoundResult (best ∷ rest) → SearchedWell (passed hop (evidence hop w) (endpoint_of w) k first t best rest)
  unfolding passed
  passed_well k first t best rest F τ r =
      let b = best_of best rest r in
      let pending = held (best_place best b) F N b.score in
      cond_elim SearchedWell (confirms hop first (evidence hop w) best) _ _
      (λ u. record { lock = record { pending = pending; accepted = kept_or_replaced_lem (evidence hop w) N t.accepted t.supported best τ.accepted b; time = end_time }; found = r; innovation = τ.innovation })
      (λ u. record { lock = record { pending = pending; accepted = τ.accepted; time = end_time }; found = r; innovation = τ.innovation })

  not_passed_well : (k : Reached) (p : Option Hypothesis) (t : Tracked) (found : List Candidate) → Bounded p → TrackedWell t → SoundResult found → SearchedWell (not_passed (evidence hop w) (endpoint_of w) k p t found)
  not_passed_well k p t found h τ r = record { lock = record { pending = held_or_dropped_lem (evidence hop w) N p found h; accepted = τ.accepted; time = end_time }; found = r; innovation = τ.innovation }

  whole_well : (k : Reached) (p : Option Hypothesis) (t : Tracked) (found : List Candidate) → Bounded p → TrackedWell t → SoundResult found → SearchedWell (whole_searched hop (evidence hop w) (endpoint_of w) k p t found)
  unfolding whole_searched
  whole_well k p t [] h τ r = not_passed_well k p t [] h τ r
  whole_well k p t (best ∷ rest) h τ r =
      cond_elim SearchedWell (passing (best ∷ rest)) _ _
      (λ u. passed_well k _ t best rest (first_bound (evidence hop w) N p best.offset_ms h) τ r)
      (λ u. not_passed_well k p t (best ∷ rest) h τ r)

  searched_well : (granted : Bool) (k : Reached) (l : Lock) → LockBounds l → SoundResult (whole_search m (query w)) → ((lower upper : Float) → SoundResult (local_search m.reference m.fine (query w) lower upper))
      → SearchedWell (searched granted m hop w k l)
  unfolding searched
  searched_well granted k l b whole local =
      let t = tracked_well l.accepted b.accepted local in
      cond_elim SearchedWell (granted && is_due (tracked m (query w) (evidence hop w) l.accepted).supported (endpoint_of w) l.last_global_search_ms) _ _
      (λ u. whole_well k l.pending _ (whole_search m (query w)) b.pending t whole)
      (λ u. record { lock = record { pending = b.pending; accepted = t.accepted; time = b.time }; found = t.found; innovation = t.innovation })

-- ---- the decision
-- The offset shown.
pub data Offset : Option Float → Type 0 where
  none : Offset None
  shown : {o : Float} → AtMost place_most o → Offset (Some o)

offset_of_lem : (h : Option Hypothesis) → Bounded h → Offset (offset_of h)
offset_of_lem None h = none
offset_of_lem (Some h) (held O F L C) = shown O.most

-- The numbers of a verdict; the coast is at most what a track may coast.
pub record VerdictWell (v : Verdict) : Type 0 where
  pub offset : Offset v.offset
  pub innovation : FiniteNumber v.innovation
  pub coast : AtMost coast_most_ms v.coast

no_coast : AtMost coast_most_ms zero⁺
unfolding magnitude le lt eq of_bits of_fields odd count_trailing_zeros
no_coast = tt

coast_least : T (le (neg coast_most_ms) zero⁺)
unfolding neg le lt eq of_bits of_fields odd count_trailing_zeros
coast_least = tt

coast_most : (since : Float) → T (le since coast_most_ms) → AtMost coast_most_ms (at_least zero⁺ since)
coast_most since h =
    cond_elim (λ (x : Float). AtMost coast_most_ms x) (lt zero⁺ since) since zero⁺
    (λ l. between_at_most coast_most_ms since (record { from = le_transitive (neg coast_most_ms) zero⁺ since coast_least (lt→le zero⁺ since l); to = h })) (λ l. no_coast)

off_track_lem : (x : Searched) → SearchedWell x → VerdictWell (off_track x)
off_track_lem x y = record {
  offset = cond_elim Offset x.reached.confirmed None (offset_of x.lock.pending) (λ t. none) (λ t. offset_of_lem x.lock.pending y.lock.pending);
  innovation = tt;
  coast = no_coast;
}

verdict_well : (h : Option Hypothesis) (now : RecordedMs) (x : Searched) → Bounded h → SearchedWell x → VerdictWell (verdict_of h now x)
unfolding verdict_of
verdict_well None now x h y = off_track_lem x y
verdict_well (Some track) now x (held O F L C) y =
    let o = track.offset_ms in
    let l = track.last_evidence_ms in
    cond_elim VerdictWell (may_coast now l) (on_track x o (now after l)) (off_track x)
    (λ t. record { offset = shown O.most; innovation = y.innovation; coast = coast_most (now after l) t }) (λ t. off_track_lem x y)

pub record DecisionWell (d : Decision) : Type 0 where
  pub lock : LockBounds d.lock
  pub found : SoundResult d.found
  pub verdict : VerdictWell d.verdict

-- Without index no window is ready.
ready_indexed : (c : Configuration) (s : Settings) (confirmed : Bool) (w : Window) → readiness c s confirmed w ≡ None → T (indexed s)
unfolding readiness
ready_indexed c s confirmed w = cond_elim (λ (r : Option WithholdReason). r ≡ None → T (indexed s)) (not (indexed s)) (Some reason.IndexUnavailable) _ (λ t h. none_clash h) (λ t h. not_not (indexed s) t)

decide_well : (granted : Bool) (c : Configuration) (s : Settings) (m : Matcher) (w : Window) (k : Reached) (l : Lock) → AtMost track_most (evidence s.hop_ms w).0 → T (near (endpoint_of w).0) → LockBounds l → Sound s m w → DecisionWell (decide granted c s m w k l)
unfolding decide
decide_well granted c s m w k l N n b sound =
    option_elim DecisionWell _ (readiness c s k.confirmed w) _
    (λ t.
    let x = ready_indexed c s k.confirmed w t in
    let y = searched_well m s.hop_ms w N n granted k l b (sound.whole x) (sound.near x) in
    record { lock = y.lock; found = y.found; verdict = verdict_well _ (evidence s.hop_ms w) _ y.lock.accepted y })
    (λ _ _. record { lock = record { pending = none; accepted = none; time = b.time }; found = nothing_found; verdict = record { offset = none; innovation = tt; coast = no_coast } })

-- ---- what the state holds after it
far_track : T (le farthest_ms track_most)
unfolding le lt eq of_bits of_fields odd count_trailing_zeros
far_track = tt

-- 10^12 + 2^42 is below 10^13
estimate_room : T (le (farthest_ms ⊕ place_most) track_most)
unfolding le lt eq add sum round units size span climb of_bits of_fields odd count_trailing_zeros
estimate_room = tt

estimate_valid : (t : RecordedMs) → AtMost farthest_ms t.0 → (o : Option Float) → Offset o → T (valid_estimate (estimate_at t o))
unfolding valid_estimate
estimate_valid t n None none = tt
estimate_valid t n (Some o) (shown O) =
    let end = t.0 in
    and_i (track_number end) _ (within_T track_most end (at_most_wider farthest_ms track_most end far_track n))
    (and_i (track_number (end ⊕ o)) (track_number o)
    (within_T track_most (end ⊕ o) (at_most_wider (farthest_ms ⊕ place_most) track_most (end ⊕ o) estimate_room (add_at_most binary64 end o farthest_ms place_most farthest_finite tt n O)))
    (within_T track_most o (at_most_wider place_most track_most o place_track O)))

stamped_once_lem : (b : Bool) (old : Option ClockMs) (clock : ClockMs) → T (valid_milestone old) → T (finite clock.0) → T (valid_milestone (stamped_once b old clock))
unfolding valid_milestone
stamped_once_lem false old clock h c = h
stamped_once_lem true None clock h c = c
stamped_once_lem true (Some t) clock h c = h

stamped_with_final_lem : (b : Bool) (final old : Option ClockMs) (clock : ClockMs) → T (valid_milestone old) → T (finite clock.0) → T (valid_milestone (stamped_with_final b final old clock))
unfolding valid_milestone
stamped_with_final_lem false final old clock h c = h
stamped_with_final_lem true None old clock h c = c
stamped_with_final_lem true (Some t) old clock h c = h

stamp_valid : (m : Milestones) (k : Reached) (clock : ClockMs) → T (valid_milestones m) → T (finite clock.0) → T (valid_milestones (stamp m k clock))
unfolding valid_milestones stamp
stamp_valid m k clock h c =
    let first = and_l (valid_milestone m.first_provisional_ms) _ h in
    let rest = and_r (valid_milestone m.first_provisional_ms) _ h in
    let confirmed = and_l (valid_milestone m.confirmed_ms) (valid_milestone m.final_ms) rest in
    let final = and_r (valid_milestone m.confirmed_ms) (valid_milestone m.final_ms) rest in
    and_i (valid_milestone (stamped_once k.provisional m.first_provisional_ms clock)) _ (stamped_once_lem k.provisional m.first_provisional_ms clock first c)
    (and_i (valid_milestone (stamped_with_final k.final_lock m.final_ms m.confirmed_ms clock)) (valid_milestone (stamped_once k.final_lock m.final_ms clock))
    (stamped_with_final_lem k.final_lock m.final_ms m.confirmed_ms clock confirmed c) (stamped_once_lem k.final_lock m.final_ms clock final c))

computed_safe : (e : Engine) (w : Window) (clock : ClockMs) (d : Decision) → Safe e → T (near (endpoint_of w).0) → T (finite clock.0) → DecisionWell d → Safe (computed_from e w clock d).engine
unfolding computed_from publish
computed_safe e w clock d k n c y = record {
  configuration = k.configuration;
  settings = k.settings;
  lock = y.lock;
  milestones = stamp_valid e.milestones d.reached clock k.milestones c;
  last =
      unfold valid_last valid_snapshot valid_endpoint in
      and_i (near (endpoint_of w).0) _ n
      (and_i (leb (length d.found) candidates_most) _ (le→leb (length d.found) candidates_most y.found.few)
      (and_i (valid_estimate (estimate_at (endpoint_of w) d.verdict.offset)) _ (estimate_valid (endpoint_of w) (bounded farthest_ms _ (T-is _ n)) d.verdict.offset y.verdict.offset)
      (stamp_valid e.milestones d.reached clock k.milestones c)));
}

-- ---- one step
hop_valid : (s : Settings) → valid_settings s ≡ true → hop_in_range s.hop_ms ≡ true
unfolding valid_settings
hop_valid s h = T-is _ (and_l (hop_in_range s.hop_ms) _ (subst T (sym h) tt))

-- What a jump leaves is safe too.
lock_from_lem : (e : Engine) (w : Window) → Safe e → LockBounds (lock_from e w)
lock_from_lem e w k = cond_elim LockBounds (jumps e.settings e.last.endpoint_ms w) no_lock e.lock (λ t. no_lock_lem) (λ t. k.lock)

module _ (s : Settings) (m : Matcher) (e : Engine) (i : Submission) (k : Safe e) (same : e.settings ≡ s) (sound : Sound s m i.window) (n : near (endpoint_of i.window).0 ≡ true) where
  abbrev w : Window
  w = i.window

  evidence_most : AtMost track_most (evidence s.hop_ms w).0
  evidence_most = bounded track_most (evidence s.hop_ms w).0 (evidence_bound s.hop_ms w (hop_valid s (subst (λ (x : Settings). valid_settings x ≡ true) same k.settings)) n).1

  near_end : T (near (endpoint_of w).0)
  near_end = subst T (sym n) tt

  pub decision_well : DecisionWell (decide true e.configuration s m i.window (reached_by e.milestones) (lock_from e i.window))
  decision_well = decide_well true e.configuration s m w (reached_by e.milestones) (lock_from e w) evidence_most near_end (lock_from_lem e w k) sound

  pub safe_next : T (finite i.clock.0) → let d = decide true e.configuration s m i.window (reached_by e.milestones) (lock_from e i.window) in Safe (computed_from e i.window i.clock d).engine
  safe_next c = computed_safe e w i.clock _ k near_end c decision_well

  -- The offsets that the end of a chain compares are finite, and a supported track moves toward what was found.
  pub offsets_finite : T (indexed s) → Offsets m (query i.window) (evidence s.hop_ms i.window) (lock_from e i.window).accepted
  offsets_finite x = record {
    track_finite = track_finite _ (tracked_well m s.hop_ms w evidence_most near_end (lock_from e w).accepted (lock_from_lem e w k).accepted (sound.near x)).accepted;
    best_finite = λ c l f. at_most_finite found_most c.offset_ms tt (best_of c l (subst SoundResult (sym f) (sound.whole x))).offset;
    moving = tracked_moved m s.hop_ms w evidence_most near_end (lock_from e w).accepted (lock_from_lem e w k).accepted (sound.near x);
  }
