-- What one computed answer does and shows: the facts of proofs/Effects.antt, of every answer. Assumes nothing.
use Prim.Native.Nat.{ℕ}
use mathlib.Core.Bool.{Bool, true, false, cond, not, ◌&&◌, ◌||◌}
use mathlib.Core.List.{List, [], ◌∷◌}
use mathlib.Core.Logic.{inl, inr}
use mathlib.Core.Path.{◌≡◌, refl, sym, ap, ◌∙◌, subst}
use lib.Dec.{T, T_not, ltb, leb-zero, leb-suc-suc}
use lib.ListN.{length, get_or}
use lib.Ieee.{Float, nan, inf, fin, binary64, neg, le, lt, eq, is_nan, of_bits}
use lib.Ieee.Scale.{finite}
use Rattle.std.specs.Prelude.{Option, None, Some, is_none}
use Rattle.numbers_spec.specs.Arithmetic.{◌⊕◌, ◌⊖◌, zero⁺, absolute}
use Rattle.numbers_spec.specs.Values.{Number}
use Rattle.numbers_spec.proofs.Order.{not-lt→le}
use Rattle.numbers_spec.proofs.Sums.{sub_self, sub_number}
use Rattle.matcher_spec.specs.declared.types.Candidate.{Candidate}
use Rattle.matcher_spec.specs.Features.{Features}
use Rattle.matcher_spec.specs.Index.{Matcher}
use Rattle.matcher_spec.specs.Search.{whole_search, local_search}
use Rattle.engine_spec.specs.Thresholds.{coast_most_ms, local_ms, same_place_ms}
use Rattle.engine_spec.specs.Windows.{Window, indexed, query, endpoint_of, evidence, ◌after◌, same_place}
use Rattle.engine_spec.specs.Opening.{blank_candidate}
use Rattle.engine_spec.specs.Tracking.{hypothesis, Tracked, tracked, followed, supports, may_coast}
use Rattle.engine_spec.specs.Locking.{Searched, searched, is_due, whole_searched, locally_searched, passed, passing, confirms, first_evidence, kept_or_replaced}
use Rattle.engine_spec.specs.Publishing.{Decision, publish, estimate_at, off_track, ready, unready, verdict_of, candidates_shown, candidate_array, comparable_frames, coverage}
use Rattle.engine_spec.specs.Chain.{best_offset, offset_shown}
use Rattle.engine_spec.specs.Guarantee.{Shows}
use Rattle.engine_spec.specs.Cases.{interrupting, unreachable}
use Rattle.engine_spec.specs.declared.types.Reached.{Reached}
use Rattle.engine_spec.specs.declared.types.Verdict.{Verdict}
use Rattle.engine_spec.specs.declared.types.RecordedMs.{RecordedMs}
use Rattle.engine_spec.specs.declared.types.Configuration.{Configuration}
use Rattle.engine_spec.specs.declared.types.Settings.{Settings}
use Rattle.engine_spec.specs.declared.types.Lock.{Lock}
use Rattle.engine_spec.specs.declared.types.Milestones.{Milestones}
use Rattle.engine_spec.specs.declared.types.Snapshot.{Snapshot}
use Rattle.engine_spec.specs.declared.types.Hypothesis.{Hypothesis}
use Rattle.engine_spec.specs.declared.types.State.TheVariants as state
use Rattle.engine_spec.specs.declared.types.WithholdReason.{WithholdReason}
use Rattle.engine_spec.specs.declared.types.WithholdReason.TheVariants as reason
use Rattle.engine_spec.proofs.Tests.{cond_elim, not_or_l, not_or_r, not_not, T-is, not_T_is}
use Rattle.engine_spec.proofs.Effects.{is_held, Track, gone, set, kept, Ended, ended, FiniteTrack, Offsets, Pend, same, weak, pass, Effects, best_offset_of, Shown, TrackShown, off, on, View, Silence}

-- ---- the track
-- A local search leaves the old track, or one with this evidence,
followed_track : (lock : Bool) (old : Hypothesis) (now : RecordedMs) (found : List Candidate) → T (may_coast now old.last_evidence_ms)
    → let t = followed old now found in Track now lock (Some old) t.accepted t.supported
unfolding followed
followed_track lock old now [] h = kept h
followed_track lock old now (best ∷ rest) h =
    cond_elim (λ (t : Tracked). Track now lock (Some old) t.accepted t.supported) (supports old.offset_ms best) _ _
    (λ s. set refl (inr tt)) (λ s. kept h)

-- or none, where the track may not coast on.
tracked_track : (lock : Bool) (m : Matcher) (q : Features) (now : RecordedMs) (h : Option Hypothesis)
    → let t = tracked m q now h in Track now lock h t.accepted t.supported
unfolding tracked
tracked_track lock m q now None = gone
tracked_track lock m q now (Some old) =
    cond_elim (λ (t : Tracked). Track now lock (Some old) t.accepted t.supported) (may_coast now old.last_evidence_ms) _ _
    (λ h. followed_track lock old now (local_search m.reference m.fine q (old.offset_ms ⊖ local_ms) (old.offset_ms ⊕ local_ms)) h) (λ h. gone)

-- The end of a chain keeps a track only where the window supports it at the best's place.
pub kept_or_begun : (G : Option Hypothesis → Type 0) (t : Hypothesis) (supported : Bool) (best : Candidate) (now : RecordedMs) → G (Some (hypothesis best.offset_ms now now best.score))
    → (T (not (lt same_place_ms (absolute (t.offset_ms ⊖ best.offset_ms)))) → T supported → G (Some t)) → G (kept_or_replaced (Some t) supported best now)
unfolding kept_or_replaced
kept_or_begun G t supported best now x y =
    let far = lt same_place_ms (absolute (t.offset_ms ⊖ best.offset_ms)) in
    cond_elim G (far || not supported) _ _ (λ t. x) (λ t. y (not_or_l far (not supported) t) (not_not supported (not_or_r far (not supported) t)))

-- So it leaves one with this evidence,
replaced_track : (now : RecordedMs) {h a : Option Hypothesis} {supported : Bool} (best : Candidate) → Track now true h a supported → Track now true h (kept_or_replaced a supported best now) true
unfolding kept_or_replaced
replaced_track now best gone = set refl (inl tt)
replaced_track now {h = h} best (set {t = t} e u) = kept_or_begun (λ (t : Option Hypothesis). Track now true h t true) t true best now (set refl (inl tt)) (λ x y. set e (inl tt))
replaced_track now {h = h} best (kept {t = t} u) = kept_or_begun (λ (t : Option Hypothesis). Track now true h t true) t false best now (set refl (inl tt)) (λ x y. absurd y)

-- and at the best's place.
same_self : (x : Float) → T (finite x) → T (same_place x x)
unfolding le lt eq of_bits
same_self x f = subst (λ (d : Float). T (le (absolute d) same_place_ms)) (sym (sub_self binary64 x f)) tt

neg_number : (x : Float) → Number x → Number (neg x)
unfolding neg is_nan
neg_number nan h = h
neg_number (inf s) h = h
neg_number (fin s m e) h = h

not_apart : (x y : Float) → T (finite x) → T (finite y) → T (not (lt same_place_ms (absolute (x ⊖ y)))) → T (same_place x y)
not_apart x y f g h =
    let d = sub_number binary64 x y f g in
    not-lt→le same_place_ms (absolute (x ⊖ y)) (unfold is_nan of_bits in tt)
    (cond_elim Number (lt (x ⊖ y) zero⁺) (neg (x ⊖ y)) (x ⊖ y) (λ _. neg_number (x ⊖ y) d) (λ _. d)) h

replaced_place : (now : RecordedMs) {lock : Bool} {h a : Option Hypothesis} {supported : Bool} (best : Candidate) (rest : List Candidate) → Track now lock h a supported → FiniteTrack a → T (finite best.offset_ms)
    → Ended now (kept_or_replaced a supported best now) true (best ∷ rest)
unfolding kept_or_replaced
replaced_place now best rest gone t p = ended refl (same_self best.offset_ms p)
replaced_place now best rest (set {t = t} e u) f p =
    kept_or_begun (λ (a : Option Hypothesis). Ended now a true (best ∷ rest)) t true best now (ended refl (same_self best.offset_ms p)) (λ x y. ended e (not_apart t.offset_ms best.offset_ms f p x))
replaced_place now best rest (kept {t = t} u) f p =
    kept_or_begun (λ (a : Option Hypothesis). Ended now a true (best ∷ rest)) t false best now (ended refl (same_self best.offset_ms p)) (λ x y. absurd y)

-- ---- the searches of one window
module _ (m : Matcher) (hop : Float) (w : Window) (k : Reached) (l : Lock) (O : Offsets m (query w) (evidence hop w) l.accepted) where
  -- for short
  abbrev now : RecordedMs
  now = evidence hop w

  abbrev t : Tracked
  t = tracked m (query w) now l.accepted

  -- no chain ends: the track is as the local search left it
  no_end : (x : Searched) → x.lock.accepted ≡ t.accepted → x.supported ≡ t.supported → (T (not x.global) → x.found ≡ t.found) → Pend m hop w k l.pending x x.global x.found false → Effects m hop w k l x
  no_end x accepted supported local p = record {
    lock = false;
    track = rw (accepted, supported) (tracked_track false m (query w) now l.accepted);
    ended = λ e. absurd e;
    near = t.found;
    local = local;
    moved = λ n u. rw accepted (O.moving (subst T supported u));
    pend = p;
  }

  -- a passing whole search: the end of a chain, or not
  passed_effects : (b : Candidate) (rest : List Candidate) → b ∷ rest ≡ whole_search m (query w) → T (passing (b ∷ rest)) → Effects m hop w k l (passed hop now (endpoint_of w) k (first_evidence l.pending b.offset_ms now) t b rest)
  unfolding passed
  passed_effects b rest q p =
      let ends = confirms hop (first_evidence l.pending b.offset_ms now) now b in
      cond_elim (λ (x : Searched). Effects m hop w k l x) ends _ _
      (λ h. record {
        lock = true;
        track = replaced_track now b (tracked_track true m (query w) now l.accepted);
        ended = λ _. replaced_place now b rest (tracked_track true m (query w) now l.accepted) O.track_finite (O.best_finite b rest q);
        near = t.found;
        local = λ g. absurd g;
        moved = λ n. absurd n;
        pend = pass q p refl (sym (T-is ends h)) refl;
      })
      (λ h. no_end _ refl refl (λ g. absurd g) (pass q p refl (sym (not_T_is ends h)) refl))

  -- a whole search
  whole_effects : (found : List Candidate) → found ≡ whole_search m (query w) → Effects m hop w k l (whole_searched hop now (endpoint_of w) k l.pending t found)
  unfolding whole_searched passing
  whole_effects [] q = no_end _ refl refl (λ g. absurd g) (weak q tt refl refl)
  whole_effects (b ∷ rest) q =
      cond_elim (λ (x : Searched). Effects m hop w k l x) (passing (b ∷ rest)) _ _
      (λ p. passed_effects b rest q p)
      (λ p. no_end _ refl refl (λ g. absurd g) (weak q p refl refl))

  -- none
  local_effects : Effects m hop w k l (locally_searched k l t)
  local_effects = no_end (locally_searched k l t) refl refl (λ g. refl) (same refl refl)

-- What the searches do, with a whole search or without.
pub effects : (granted : Bool) (m : Matcher) (hop : Float) (w : Window) (k : Reached) (l : Lock) → Offsets m (query w) (evidence hop w) l.accepted → Effects m hop w k l (searched granted m hop w k l)
unfolding searched
effects granted m hop w k l O =
    let t = tracked m (query w) (evidence hop w) l.accepted in
    cond_elim (λ (x : Searched). Effects m hop w k l x) (granted && is_due t.supported (endpoint_of w) l.last_global_search_ms) _ _
    (λ h. whole_effects m hop w k l O (whole_search m (query w)) refl) (λ h. local_effects m hop w k l O)

-- ---- what is shown of a search
-- The first of the array is the best of what was found.
best_shown : (n : ℕ) (r : Float) (found : List Candidate) → cond (ltb 0 (length found)) (Some (get_or (candidate_array n r found) 0 blank_candidate).offset_ms) None ≡ best_offset_of found
unfolding candidates_shown
best_shown n r [] = refl
best_shown n r (c ∷ l) = rw (leb-suc-suc 0 (length l), leb-zero (length l))

found_shown : (c : Configuration) (hop : Float) (w : Window) (d : Decision) (ms : Milestones) → Shown (publish c hop w d ms) d.global d.found
unfolding publish best_offset
found_shown c hop w d ms = record { whole = refl; correlation = refl; margin = refl; first_half = refl; second_half = refl; recent = refl; best = best_shown (comparable_frames hop w) (coverage w) d.found }

-- A whole search is shown in all fields.
pub shows_whole : (c : Configuration) (hop : Float) (w : Window) (d : Decision) (ms : Milestones) → T d.global → Shows hop w d.found (publish c hop w d ms)
unfolding publish
shows_whole c hop w d ms g =
    let e : d.global ≡ true = T-is d.global g in
    record { count = refl; candidates = refl; correlation = refl; margin = rw e; first_half = refl; second_half = refl; recent = refl; dense_margin = rw e; coarse_ambiguous = rw e }

-- ---- a window that could not be searched
quiet_state : (indexed confirmed : Bool) → T (interrupting (cond indexed (cond confirmed state.Lost state.Listening) state.Failed))
unfolding interrupting
quiet_state true true = tt
quiet_state true false = tt
quiet_state false confirmed = tt

usual_quiet : (indexed confirmed : Bool) → unreachable (cond indexed (cond confirmed state.Lost state.Listening) state.Failed) ≡ false
unfolding unreachable
usual_quiet true true = refl
usual_quiet true false = refl
usual_quiet false confirmed = refl

-- What its snapshot shows.
pub silenced : (c : Configuration) (hop : Float) (s : Settings) (w : Window) (k : Reached) (l : Lock) (r : WithholdReason) (ms : Milestones) → Silence (publish c hop w (unready s k l r) ms)
unfolding publish
silenced c hop s w k l r ms = record {
  shown = found_shown c hop w (unready s k l r) ms;
  quiet = quiet_state (indexed s) k.confirmed;
  withheld = tt;
  placeless = λ t. t;
  usual = usual_quiet (indexed s) k.confirmed;
}

-- ---- the states and reasons of a window that was searched
loud_off : (confirmed : Bool) → T (not (interrupting (cond confirmed state.Relocking state.Locking)))
unfolding interrupting
loud_off true = tt
loud_off false = tt

loud_on : (final : Bool) → T (not (interrupting (cond final state.Locked state.Confirmed)))
unfolding interrupting
loud_on true = tt
loud_on false = tt

usual_off : (confirmed : Bool) → unreachable (cond confirmed state.Relocking state.Locking) ≡ false
unfolding unreachable
usual_off true = refl
usual_off false = refl

usual_on : (final : Bool) → T final → unreachable (cond final state.Locked state.Confirmed) ≡ false
unfolding unreachable
usual_on true h = refl
usual_on false h = absurd h

withheld_on : (supported : Bool) → is_none (cond supported None (Some reason.WeakAlignmentPeak)) ≡ supported
withheld_on true = refl
withheld_on false = refl

-- A track with this evidence may coast: it coasts 0.
zero_coasts : T (le zero⁺ coast_most_ms)
unfolding le of_bits
zero_coasts = tt

now_coasts : (now last : RecordedMs) → T (finite now.0) → last ≡ now → T (may_coast now last)
now_coasts now last f e = subst (λ (x : Float). T (le x coast_most_ms)) (sym (ap (λ (x : RecordedMs). now after x) e ∙ sub_self binary64 now.0 f)) zero_coasts

-- The place shown is the offset that is decided.
place_shown : (t : RecordedMs) (o : Option Float) → offset_shown (estimate_at t o) ≡ o
place_shown t None = refl
place_shown t (Some o) = refl

-- ---- a window that was searched, by the track a that its searches x left
module _ (x : Searched) (now : RecordedMs) where
  loud : (a : Option Hypothesis) → T (not (interrupting (verdict_of a now x).state))
  unfolding verdict_of
  loud None = loud_off x.reached.confirmed
  loud (Some t) =
      cond_elim (λ (v : Verdict). T (not (interrupting v.state))) (may_coast now t.last_evidence_ms) _ _ (λ h. loud_on x.reached.final_lock) (λ h. loud_off x.reached.confirmed)

  usual : (a : Option Hypothesis) → (T (is_held a) → T x.reached.final_lock) → unreachable (verdict_of a now x).state ≡ false
  unfolding verdict_of
  usual None f = usual_off x.reached.confirmed
  usual (Some t) f =
      cond_elim (λ (v : Verdict). unreachable v.state ≡ false) (may_coast now t.last_evidence_ms) _ _ (λ h. usual_on x.reached.final_lock (f tt)) (λ h. usual_off x.reached.confirmed)

  -- A reason is shown exactly where the window supports no track: a supported one has this evidence, hence may coast.
  reasoned : {lock : Bool} {before a : Option Hypothesis} {supported : Bool} → x.supported ≡ supported → T (finite now.0) → Track now lock before a supported → is_none (verdict_of a now x).reason ≡ supported
  unfolding verdict_of
  reasoned e f gone = refl
  reasoned e f (set {t = t} h u) =
      let l = t.last_evidence_ms in
      cond_elim (λ (v : Verdict). is_none v.reason ≡ true) (may_coast now l) _ _ (λ y. withheld_on x.supported ∙ e) (λ y. absurd (T_not (may_coast now l) y (now_coasts now l f h)))
  reasoned e f (kept {t = t} h) =
      cond_elim (λ (v : Verdict). is_none v.reason ≡ false) (may_coast now t.last_evidence_ms) _ _ (λ y. withheld_on x.supported ∙ e) (λ y. refl)

  -- The snapshot is on the track, which may coast.
  module _ (c : Configuration) (hop : Float) (w : Window) (ms : Milestones) where
    abbrev shown_with : Verdict → Snapshot
    shown_with v = publish c hop w (record { lock = x.lock; reached = x.reached; global = x.global; found = x.found; verdict = v }) ms

    on_shown : (t : Hypothesis) → T (may_coast now t.last_evidence_ms) → TrackShown (shown_with (verdict_of (Some t) now x)) now x (Some t)
    unfolding verdict_of publish
    on_shown t h =
        cond_elim (λ (v : Verdict). TrackShown (shown_with v) now x (Some t)) (may_coast now t.last_evidence_ms) _ _
        (λ c. on (record { state = refl; place = refl; coast = refl; within = c })) (λ c. absurd (T_not (may_coast now t.last_evidence_ms) c h))

    shown_track : {lock : Bool} {before a : Option Hypothesis} {supported : Bool} → T (finite now.0) → Track now lock before a supported → TrackShown (shown_with (verdict_of a now x)) now x a
    unfolding verdict_of publish
    shown_track f gone = off (record { state = refl; place = place_shown (endpoint_of w) (off_track x).offset })
    shown_track f (set {t = t} e u) = on_shown t (now_coasts now t.last_evidence_ms f e)
    shown_track f (kept {t = t} h) = on_shown t h

-- What the snapshot of a searched window shows.
pub viewed : (c : Configuration) (hop : Float) (w : Window) (se : Searched) (l : Lock) (ms : Milestones) → T (finite (evidence hop w).0) → (lock : Bool)
    → Track (evidence hop w) lock l.accepted se.lock.accepted se.supported → View hop w se (publish c hop w (ready (evidence hop w) se) ms)
unfolding publish
viewed c hop w se l ms f lock t =
    let now = evidence hop w in
    let a = se.lock.accepted in
    record {
      shown = found_shown c hop w (ready now se) ms;
      loud = loud se now a;
      reason = reasoned se now refl f t;
      track = shown_track se now c hop w ms f t;
      usual = usual se now a;
    }
