-- What a state says of the answers computed before it, and that each computed answer keeps it so and can be trusted. Assumes nothing.
use Prim.Native.Nat.{ℕ, zero, suc, ◌<◌}
use mathlib.Core.Bool.{Bool, true, false, cond, not, ◌&&◌, ◌||◌}
use mathlib.Core.List.{List, []}
use mathlib.Core.Logic.{inl, inr}
use mathlib.Core.Path.{◌≡◌, refl, sym, ap, ◌∙◌, subst}
use native.Mathlib.Nat.{le_refl, not-suc-le-zero}
use native.Mathlib.Omega.{arith}
use lib.Dec.{T, T_not}
use lib.Ieee.{Float, lt}
use lib.Ieee.Scale.{finite}
use Rattle.std.specs.Prelude.{Option, None, Some, is_some, is_none}
use Rattle.matcher_spec.specs.declared.types.Candidate.{Candidate}
use Rattle.matcher_spec.specs.Index.{Matcher}
use Rattle.matcher_spec.specs.Search.{whole_search}
use Rattle.matcher_spec.proofs.ResultLaws.{whole_apart}
use Rattle.engine_spec.specs.Thresholds.{reread_ms}
use Rattle.engine_spec.specs.Windows.{Window, indexed, query, endpoint_of, evidence, duration, ◌after◌, accepts_timeline, jumps_from, rereads_from, jumps, rereads, Submission}
use Rattle.engine_spec.specs.Opening.{no_lock, fresh_engine}
use Rattle.engine_spec.specs.Readiness.{readiness, average_energy, active_fraction, minimum_duration}
use Rattle.engine_spec.specs.Locking.{Searched, searched}
use Rattle.engine_spec.specs.Publishing.{Decision, ready, unready, decide, publish}
use Rattle.engine_spec.specs.Submitting.{lock_from, computed_from}
use Rattle.engine_spec.specs.Chain.{window_at, shown_at, whole_at, Passes, jump_at, EndsChain, Ending, Coasting, Placed}
use Rattle.engine_spec.specs.Guarantee.{Shows, Trusted}
use Rattle.engine_spec.specs.Leap.{Gentle}
use Rattle.engine_spec.specs.Cases.{interrupting, unreachable}
use Rattle.engine_spec.specs.declared.types.Reached.{Reached}
use Rattle.engine_spec.specs.Milestones.{milestones_shown, reached_by, stamp}
use Rattle.engine_spec.specs.Lists.{Answered}
use Rattle.engine_spec.specs.declared.types.RecordedMs.{RecordedMs}
use Rattle.engine_spec.specs.declared.types.ClockMs.{ClockMs}
use Rattle.engine_spec.specs.declared.types.Configuration.{Configuration}
use Rattle.engine_spec.specs.declared.types.Settings.{Settings}
use Rattle.engine_spec.specs.declared.types.Lock.{Lock}
use Rattle.engine_spec.specs.declared.types.Milestones.{Milestones}
use Rattle.engine_spec.specs.declared.types.Snapshot.{Snapshot}
use Rattle.engine_spec.specs.declared.types.Engine.{Engine}
use Rattle.engine_spec.specs.declared.types.Hypothesis.{Hypothesis}
use Rattle.engine_spec.specs.declared.types.State.{State}
use Rattle.engine_spec.specs.declared.types.State.TheVariants as state
use Rattle.engine_spec.specs.declared.types.WithholdReason.{WithholdReason}
use Rattle.engine_spec.specs.declared.types.WithholdReason.TheVariants as reason
use Rattle.engine_spec.proofs.Tests.{cond_elim, option_elim, not_or_l, or_split, or_l, or_r, below_or, not_T_is}
use Rattle.engine_spec.proofs.Effects.{Fair, Offsets, trim, is_held, Pend, same, weak, pass, Effects, best_offset_of, View, Silence}
use Rattle.engine_spec.proofs.Answers.{effects, viewed, silenced, shows_whole}
use Rattle.engine_spec.proofs.Passing.{passes_is}
use Rattle.engine_spec.proofs.Links.{open_down, Timely, timely_up}
use Rattle.engine_spec.proofs.Pending.{NumberHalves, Pending, idle, running, Ready, none_open, going, pend_step}
use Rattle.engine_spec.proofs.Places.{Leads, nowhere, leads_next, ending_of, coasting_of, gentle_of, placed_of}
use Rattle.engine_spec.proofs.Stamps.{Marked, marked, or_false, final_after}
use Rattle.engine_spec.proofs.Following.{Accepted, no_track, on_track_lem, Tracked, no_more, still, track_step, Anew, LockedWell, locked_well}
use Rattle.engine_spec.proofs.ShownCandidates.{apart_shown}

-- ---- what a whole search found is the matcher's
found_is : (m : Matcher) (hop : Float) (w : Window) (k : Reached) (p : Option Hypothesis) (s : Searched) (global : Bool) (found : List Candidate) (lock : Bool) → Pend m hop w k p s global found lock → T global → found ≡ whole_search m (query w)
found_is m hop w k p s global found lock (same e z) t = absurd t
found_is m hop w k p s global found lock (weak q u e z) t = q
found_is m hop w k p s global found lock (pass q u e y z) t = q

-- ---- a window that is ready
searched_if_lem : (i short timely quiet few : Bool) → T (is_none (cond (not i) (Some reason.IndexUnavailable) (cond short (Some reason.InsufficientDuration) (cond (not timely) (Some reason.LostSignal) (cond quiet (Some reason.InsufficientEnergy) (cond few (Some reason.InsufficientActiveFrames) None)))))) → T i × T timely
searched_if_lem false short timely quiet few t = absurd t
searched_if_lem true true timely quiet few t = absurd t
searched_if_lem true false false quiet few t = absurd t
searched_if_lem true false true quiet few t = (tt, tt)

-- has an index and an accepted timeline
ready_window : (c : Configuration) (s : Settings) (confirmed : Bool) (w : Window) → T (is_none (readiness c s confirmed w)) → T (indexed s) × T (accepts_timeline s w)
unfolding readiness
ready_window c s confirmed w t =
    searched_if_lem (indexed s) (lt (duration w) (minimum_duration c s.hop_ms confirmed)) (accepts_timeline s w) (lt (average_energy w) c.minimum_average_energy_dbfs) (lt (active_fraction c w) c.minimum_active_frame_fraction) t

-- neither a jump nor a re-reading: it goes on by 90 or more
goes_on : (s : Settings) (last : RecordedMs) (w : Window) → T (accepts_timeline s w) → rereads_from s last w ≡ false → T (not (jumps_from s.hop_ms last w)) → T (not (lt (endpoint_of w after last) reread_ms))
unfolding rereads_from
goes_on s last w t = go (jumps_from s.hop_ms last w) (lt (endpoint_of w after last) reread_ms) (not (indexed s)) (accepts_timeline s w) t
  where
    go : (j l i x : Bool) → T x → (not j && (l && (i || x))) ≡ false → T (not j) → T (not l)
    go true l i x t e n = absurd n
    go false false i x t e n = tt
    go false true true x t e n = absurd (subst (λ (b : Bool). T b) e tt)
    go false true false true t e n = absurd (subst (λ (b : Bool). T b) e tt)
    go false true false false t e n = absurd t

-- a snapshot carries the milestones as stamped
shown_milestones : (c : Configuration) (hop : Float) (w : Window) (d : Decision) (ms : Milestones) → milestones_shown (publish c hop w d ms) ≡ ms
unfolding publish
shown_milestones c hop w d ms = refl

-- an interrupting answer breaks a chain, and is not Locked
broken : (j q : Bool) → T q → T (not (j || q)) → ⊥
broken true q s t = t
broken false true s t = t
broken false false s t = s

interrupting_not_locked : (x : State) → T (interrupting x) → x ≡ state.Locked → ⊥
unfolding interrupting
interrupting_not_locked x q e = subst (λ (y : State). T (interrupting y)) e q

module _ (s : Settings) (m : Matcher) (a : ℕ → Answered) where
  -- for short
  abbrev hop : Float
  hop = s.hop_ms

  abbrev w : ℕ → Window
  w = window_at hop a

  -- the endpoint of the last computed window before n
  abbrev pub prev_end : ℕ → Option RecordedMs
  prev_end zero = None
  prev_end (suc n) = Some (endpoint_of (window_at s.hop_ms a n))

  -- What the state e says of the n answers computed before it: pending is the open chain that began first, the accepted track follows a chain, and final is there where one of the answers ends a chain.
  pub record Inv (n : ℕ) (e : Engine) : Type 0 where
    pub settings : e.settings ≡ s
    pub endpoint : e.last.endpoint_ms ≡ prev_end n
    pub same : e.milestones.confirmed_ms ≡ e.milestones.final_ms
    pub timely : Timely s.hop_ms a n
    pub pending : Pending s.hop_ms a n e.lock.pending
    pub accepted : Accepted s.hop_ms a n e.lock.accepted
    pub leads : Leads s.hop_ms a n e.lock.accepted
    pub there_if : T (is_some e.milestones.final_ms) → (j : ℕ) × (j < n) × EndsChain s.hop_ms a j
    pub only_if : (j : ℕ) → j < n → EndsChain s.hop_ms a j → T (is_some e.milestones.final_ms)
    pub lasting : (j : ℕ) → j < n → T (is_some (shown_at s.hop_ms a j).final_lock_elapsed_ms) → e.milestones.final_ms ≡ (shown_at s.hop_ms a j).final_lock_elapsed_ms

  pub start : (c : Configuration) → Inv 0 (fresh_engine c s)
  unfolding fresh_engine
  start c = record {
    settings = refl;
    endpoint = refl;
    same = refl;
    timely = record { endpoint = λ i h. absurd (not-suc-le-zero h); evidence = λ i h. absurd (not-suc-le-zero h) };
    pending = idle (λ i o. not-suc-le-zero o.order);
    accepted = no_track;
    leads = nowhere;
    there_if = λ t. absurd t;
    only_if = λ j h. absurd (not-suc-le-zero h);
    lasting = λ j h. absurd (not-suc-le-zero h);
  }

  -- ---- the answer n, where it is decided by d on milestones k
  record Made (n : ℕ) (k : Reached) (d : Decision) : Type 0 where
    lock : Bool
    final_is : d.reached.final_lock ≡ (k.final_lock || lock)
    ends : T lock → EndsChain hop a n
    lock_if : EndsChain hop a n → T lock
    pending : Pending hop a (suc n) d.lock.pending
    accepted : Accepted hop a (suc n) d.lock.accepted
    leads : (T (is_held d.lock.accepted) → T d.reached.final_lock) → Leads hop a (suc n) d.lock.accepted
    locked : (shown_at hop a n).state ≡ state.Locked → LockedWell hop a n
    ending : EndsChain hop a n → Ending hop a n
    coasting : (shown_at hop a n).state ≡ state.Locked → T (not (is_none (shown_at hop a n).withhold_reason)) → Coasting hop a n
    gentle : Gentle hop a n
    placed : (T (is_held d.lock.accepted) → T d.reached.final_lock) → T (is_some (shown_at hop a n).estimate) → Placed hop a n
    searched : T (whole_at hop a n) → Shows hop (w n) (whole_search m (query (w n))) (shown_at hop a n)
    usual : (T (is_held d.lock.accepted) → T d.reached.final_lock) → unreachable (shown_at hop a n).state ≡ false

  -- the window could not be searched: an interruption
  interrupting_made : (c : Configuration) (n : ℕ) (k : Reached) (l : Lock) (r : WithholdReason) (ms : Milestones) → shown_at hop a n ≡ publish c hop (w n) (unready s k l r) ms → Made n k (unready s k l r)
  interrupting_made c n k l r ms v =
      let q : Silence (shown_at hop a n) = subst (λ (x : Snapshot). Silence x) (sym v) (silenced c hop s (w n) k l r ms) in
      let np : Passes hop a n → ⊥ = λ t. subst (λ (b : Bool). T b) (passes_is (shown_at hop a n) false [] q.shown) t in
      record {
        lock = false;
        final_is = or_false k.final_lock;
        ends = λ t. absurd t;
        lock_if = λ c. np c.1.last;
        pending = idle (λ i o. elim (below_or i n o.order) [
          | inl b ↦ broken (jump_at hop a n) (interrupting (shown_at hop a n).state) q.quiet (o.unbroken n b (le_refl (suc n)))
          | inr e ↦ np (subst (λ (k : ℕ). Passes hop a k) e o.first)
        ]);
        accepted = no_track;
        leads = λ _. nowhere;
        locked = λ e. absurd (interrupting_not_locked (shown_at hop a n).state q.quiet e);
        ending = λ c. absurd (np c.1.last);
        coasting = λ e _. absurd (interrupting_not_locked (shown_at hop a n).state q.quiet e);
        gentle = record {
          carried = λ u _. absurd (interrupting_not_locked (shown_at hop a n).state q.quiet u.locked);
          shifted = λ u _. absurd (interrupting_not_locked (shown_at hop a n).state q.quiet u.locked);
        };
        placed = λ _ t. absurd (q.placeless t);
        searched = λ t. absurd (subst (λ (b : Bool). T b) q.shown.whole t);
        usual = λ _. q.usual;
      }

  -- it was searched
  ready_made : (granted : Bool) (c : Configuration) (n : ℕ) (k : Reached) (l : Lock) (ms : Milestones) → T (finite (trim s)) → NumberHalves m (w n) → Timely hop a (suc n) → Anew hop a n → Ready hop a n l.pending → Tracked hop a n l.accepted → Leads hop a n l.accepted → Offsets m (query (w n)) (evidence hop (w n)) l.accepted
      → let d = ready (evidence hop (w n)) (searched granted m hop (w n) k l) in shown_at hop a n ≡ publish c hop (w n) d ms → Made n k d
  ready_made granted c n k l ms f nh tm new rd tr ld O v =
      let se = searched granted m hop (w n) k l in
      let x : Effects m hop (w n) k l se = effects granted m hop (w n) k l O in
      let y : View hop (w n) se (shown_at hop a n) = subst (λ (z : Snapshot). View hop (w n) se z) (sym v) (viewed c hop (w n) se l ms (tm.evidence n (le_refl (suc n))) x.lock x.track) in
      let o = pend_step hop a n y.loud m k l.pending se se.global se.found x.lock f nh tm rd y.shown x.pend in
      let acc : Accepted hop a (suc n) se.lock.accepted = track_step hop a n x.lock l.accepted se.lock.accepted se.supported y.loud y.reason o.ends tr x.track in
      record {
        lock = x.lock;
        final_is = final_after m hop (w n) k l.pending se se.global se.found x.lock x.pend;
        ends = o.ends;
        lock_if = o.lock_if;
        pending = o.pending;
        accepted = acc;
        leads = λ h. leads_next hop a n se se.lock.accepted h y.track;
        locked = λ e. locked_well hop a n se se.lock.accepted f tm new acc y.track e;
        ending = λ c.
            let t = o.lock_if c in
            let final : T se.reached.final_lock = subst T (sym (final_after m hop (w n) k l.pending se se.global se.found x.lock x.pend)) (or_r k.final_lock x.lock t) in
            ending_of hop a n se se.lock.accepted se.supported se.found (tm.evidence n (le_refl (suc n))) final y.reason y.shown.best (x.ended t) y.track;
        coasting = λ e h. coasting_of hop a n se l.accepted se.lock.accepted se.supported (sym y.reason ∙ not_T_is (is_none (shown_at hop a n).withhold_reason) h) x.track ld y.track e;
        gentle =
            gentle_of hop a n se l.accepted se.lock.accepted x.near x.lock o.ends x.moved ld y.track y.reason
            (λ t. y.shown.best ∙ ap best_offset_of (x.local (subst (λ (b : Bool). T (not b)) y.shown.whole t)));
        placed = λ h t. placed_of hop a n se se.lock.accepted h o.pending y.track t;
        searched = λ t.
            let whole : T se.global = subst (λ (b : Bool). T b) y.shown.whole t in
            subst (λ (found : List Candidate). Shows hop (w n) found (shown_at hop a n)) (found_is m hop (w n) k l.pending se se.global se.found x.lock x.pend whole)
            (subst (λ (z : Snapshot). Shows hop (w n) se.found z) (sym v) (shows_whole c hop (w n) (ready (evidence hop (w n)) se) ms whole));
        usual = y.usual;
      }

  -- neither a jump nor a re-reading
  anew : (n : ℕ) → T (accepts_timeline s (w n)) → rereads s (prev_end n) (w n) ≡ false → Anew hop a n
  anew zero t r = tt
  anew (suc n) t r = goes_on s (endpoint_of (w n)) (w (suc n)) t r

  decided_made : (granted : Bool) (c : Configuration) (n : ℕ) (k : Reached) (l : Lock) (ms : Milestones) → T (finite (trim s)) → Fair s m (w n) → Timely hop a (suc n) → rereads s (prev_end n) (w n) ≡ false → Ready hop a n l.pending → Tracked hop a n l.accepted → Leads hop a n l.accepted → (T (indexed s) → Offsets m (query (w n)) (evidence hop (w n)) l.accepted)
      → shown_at hop a n ≡ publish c hop (w n) (decide granted c s m (w n) k l) ms → Made n k (decide granted c s m (w n) k l)
  unfolding decide
  decided_made granted c n k l ms f fair tm nr rd tr ld O =
      option_elim (λ (d : Decision). shown_at hop a n ≡ publish c hop (w n) d ms → Made n k d) (unready s k l) (readiness c s k.confirmed (w n)) (ready (evidence hop (w n)) (searched granted m hop (w n) k l))
      (λ t v. let x = ready_window c s k.confirmed (w n) (subst (λ (r : Option WithholdReason). T (is_none r)) (sym t) tt) in ready_made granted c n k l ms f (fair.halves x.0) tm (anew n x.1 nr) rd tr ld (O x.0) v)
      (λ r _ v. interrupting_made c n k l r ms v)

  -- ---- what the answer before left, a jump taken account of
  jump_is : (n : ℕ) (e : Engine) → Inv n e → jumps e.settings e.last.endpoint_ms (w n) ≡ jump_at hop a n
  jump_is zero e inv = rw (inv.settings, inv.endpoint)
  jump_is (suc n) e inv = rw (inv.settings, inv.endpoint)

  pending_ready : (n : ℕ) (p : Option Hypothesis) → T (not (jump_at hop a n)) → Pending hop a n p → Ready hop a n p
  pending_ready n p j (idle f) = none_open (λ i l o. f i (open_down hop a i n o l))
  pending_ready n p j (running r) = going j r

  jumped_ready : (n : ℕ) → T (jump_at hop a n) → Ready hop a n None
  jumped_ready n j = none_open (λ i l o. T_not (jump_at hop a n) (not_or_l (jump_at hop a n) (interrupting (shown_at hop a n).state) (o.unbroken n l (le_refl (suc n)))) j)

  accepted_tracked : (n : ℕ) (p : Option Hypothesis) → T (not (jump_at hop a n)) → Accepted hop a n p → Tracked hop a n p
  accepted_tracked n p j no_track = no_more
  accepted_tracked n p j (on_track_lem h) = still j h

  lock_ready : (n : ℕ) (e : Engine) → Inv n e → let l = lock_from e (w n) in Ready hop a n l.pending × Tracked hop a n l.accepted × Leads hop a n l.accepted
  lock_ready n e inv =
      let is = jump_is n e inv in
      cond_elim (λ (l : Lock). Ready hop a n l.pending × Tracked hop a n l.accepted × Leads hop a n l.accepted) (jumps e.settings e.last.endpoint_ms (w n)) no_lock e.lock
      (λ t. (jumped_ready n (subst (λ (b : Bool). T b) is t), no_more, nowhere))
      (λ t. let j = subst (λ (b : Bool). T (not b)) is t in (pending_ready n e.lock.pending j inv.pending, accepted_tracked n e.lock.accepted j inv.accepted, inv.leads))

  -- ---- the step
  pub record Next (n : ℕ) (e' : Engine) : Type 0 where
    pub inv : Inv (suc n) e'
    pub trusted : Trusted s.hop_ms m a n
    pub usual : unreachable (a n).snapshot.state ≡ false
    pub gentle : Gentle s.hop_ms a n

  -- a track is accepted only where final is there
  held_final : (n : ℕ) (k : Reached) (d : Decision) (p : Option Hypothesis) → ((j : ℕ) → j < n → EndsChain hop a j → T k.final_lock) → (x : Made n k d) → Accepted hop a (suc n) p → T (is_held p) → T d.reached.final_lock
  held_final n k d p only x no_track t = absurd t
  held_final n k d p only x (on_track_lem h) t = subst (λ (b : Bool). T b) (sym x.final_is) (elim (below_or h.chain n h.order) [
    | inl b ↦ or_l k.final_lock x.lock (only h.chain b h.ends)
    | inr e ↦ or_r k.final_lock x.lock (x.lock_if (subst (λ (j : ℕ). EndsChain hop a j) e h.ends))
  ])

  made_next : (n : ℕ) (e e' : Engine) (d : Decision) (clock : ClockMs) → Timely hop a (suc n) → Inv n e → Made n (reached_by e.milestones) d
      → e'.settings ≡ s → e'.last.endpoint_ms ≡ prev_end (suc n) → e'.lock ≡ d.lock → e'.milestones ≡ stamp e.milestones d.reached clock → milestones_shown (shown_at hop a n) ≡ e'.milestones → Next n e'
  made_next n e e' d clock tm inv x settings-is endpoint_is lock-is milestones-is shown-is =
      let final : T (is_held d.lock.accepted) → T d.reached.final_lock = held_final n (reached_by e.milestones) d d.lock.accepted inv.only_if x x.accepted in
      let before = e.milestones.final_ms in
      let now = e'.milestones.final_ms in
      let shown : ℕ → Option ClockMs = λ j. (shown_at hop a j).final_lock_elapsed_ms in
      let mk : Marked e.milestones e'.milestones x.lock = subst (λ (z : Milestones). Marked e.milestones z x.lock) (sym milestones-is) (marked e.milestones d.reached x.lock clock inv.same x.final_is) in
      let is : shown n ≡ now = ap (λ (z : Milestones). z.final_ms) shown-is in
      let there_if : T (is_some now) → (j : ℕ) × (j < suc n) × EndsChain hop a j = λ t. elim (or_split (is_some before) x.lock (subst (λ (b : Bool). T b) mk.there_is t)) [
        | inl u ↦ let y = inv.there_if u in (y.0, (let z = y.1 in omega arith), y.2)
        | inr u ↦ (n, le_refl (suc n), x.ends u)
      ] in
      let only_if : (j : ℕ) → j < suc n → EndsChain hop a j → T (is_some now) = λ j l c. subst (λ (b : Bool). T b) (sym mk.there_is) (elim (below_or j n l) [
        | inl b ↦ or_l (is_some before) x.lock (inv.only_if j b c)
        | inr q ↦ or_r (is_some before) x.lock (x.lock_if (subst (λ (i : ℕ). EndsChain hop a i) q c))
      ]) in
      let lasting : (j : ℕ) → j < suc n → T (is_some (shown j)) → now ≡ shown j = λ j l t. elim (below_or j n l) [
        | inl b ↦ let y = inv.lasting j b t in mk.lasting (subst (λ (z : Option ClockMs). T (is_some z)) (sym y) t) ∙ y
        | inr q ↦ sym is ∙ ap (λ (i : ℕ). shown i) (sym q)
      ] in
      record {
        inv = record {
          settings = settings-is;
          endpoint = endpoint_is;
          same = mk.same;
          timely = tm;
          pending = subst (λ (l : Lock). Pending hop a (suc n) l.pending) (sym lock-is) x.pending;
          accepted = subst (λ (l : Lock). Accepted hop a (suc n) l.accepted) (sym lock-is) x.accepted;
          leads = subst (λ (l : Lock). Leads hop a (suc n) l.accepted) (sym lock-is) (x.leads final);
          there_if = there_if;
          only_if = only_if;
          lasting = lasting;
        };
        trusted = record {
          same = ap (λ (z : Milestones). z.confirmed_ms) shown-is ∙ mk.same ∙ sym is;
          there = record {
            to = λ t. let y = there_if (subst (λ (z : Option ClockMs). T (is_some z)) is t) in (y.0, (let z = y.1 in omega arith), y.2);
            from = λ y. subst (λ (z : Option ClockMs). T (is_some z)) (sym is) (only_if y.0 (let z = y.1 in omega arith) y.2);
          };
          lasting = λ j l t. is ∙ lasting j (omega arith) t;
          estimate = λ e. (x.locked e).estimate;
          locked = λ e. (x.locked e).locked;
          coast = λ e. (x.locked e).coast;
          ending = x.ending;
          coasting = x.coasting;
          placed = x.placed final;
          searched = x.searched;
          apart = λ t j k u v. apart_shown hop (w n) (whole_search m (query (w n))) (shown_at hop a n) (x.searched t) (whole_apart m (query (w n))) j k u v;
        };
        usual = x.usual final;
        gentle = x.gentle;
      }

  abbrev decided : Engine → Window → Decision
  decided e v = decide true e.configuration s m v (reached_by e.milestones) (lock_from e v)

  -- the step, of the window as it stands among the answers
  next_of : (n : ℕ) (e : Engine) (clock : ClockMs) → T (finite (trim s)) → Inv n e → Fair s m (w n) → rereads s e.last.endpoint_ms (w n) ≡ false
      → (T (indexed s) → Offsets m (query (w n)) (evidence hop (w n)) (lock_from e (w n)).accepted)
      → let c = computed_from e (w n) clock (decided e (w n)) in shown_at hop a n ≡ c.snapshot → Next n c.engine
  unfolding computed_from
  next_of n e clock f inv fair nr O v =
      let d = decided e (w n) in
      let ms = stamp e.milestones d.reached clock in
      let tm = timely_up hop a n inv.timely fair.endpoint fair.evidence in
      let r = lock_ready n e inv in
      let v' : shown_at hop a n ≡ publish e.configuration hop (w n) d ms = v ∙ ap (λ (z : Settings). publish e.configuration z.hop_ms (w n) d ms) inv.settings in
      let x = decided_made true e.configuration n (reached_by e.milestones) (lock_from e (w n)) ms f fair tm (ap (λ (z : Option RecordedMs). rereads s z (w n)) (sym inv.endpoint) ∙ nr) r.0 r.1 r.2 O v' in
      made_next n e (computed_from e (w n) clock d).engine d clock tm inv x inv.settings refl refl refl
      (ap milestones_shown v' ∙ shown_milestones e.configuration hop (w n) d ms)

  -- The answer n, computed by the state e from the submission i, which is not a re-reading.
  pub next : (n : ℕ) (e : Engine) (i : Submission) → T (finite (trim s)) → Inv n e → Fair s m i.window → (a n).submission.window ≡ i.window
      → rereads s e.last.endpoint_ms i.window ≡ false
      → (T (indexed s) → Offsets m (query i.window) (evidence s.hop_ms i.window) (lock_from e i.window).accepted)
      → let x = computed_from e i.window i.clock (decide true e.configuration s m i.window (reached_by e.milestones) (lock_from e i.window)) in
      (a n).snapshot ≡ x.snapshot → Next n x.engine
  next n e i f inv fair q nr O v =
      subst (λ (x : Window). Fair s m x → rereads s e.last.endpoint_ms x ≡ false
      → (T (indexed s) → Offsets m (query x) (evidence hop x) (lock_from e x).accepted)
      → (a n).snapshot ≡ (computed_from e x i.clock (decided e x)).snapshot → Next n (computed_from e x i.clock (decided e x)).engine)
      q (λ g h o u. next_of n e i.clock f inv g h o u) fair nr O v
