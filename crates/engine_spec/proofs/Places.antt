-- The place shown: at the end of a chain, while the track coasts, where it moves, and before a lock. Assumes nothing.
use Prim.Native.Nat.{ℕ, suc}
use mathlib.Core.Bool.{Bool, true, false, cond, not}
use mathlib.Core.List.{List}
use mathlib.Core.Logic.{inl, inr}
use mathlib.Core.Path.{◌≡◌, refl, sym, ap, ◌∙◌, subst}
use lib.Dec.{T, T_not, not_T, lit≤, lit<}
use lib.Ieee.{Float, binary64, lt}
use lib.Ieee.Scale.{finite}
use Rattle.std.specs.Prelude.{Option, None, Some, is_some, is_none}
use Rattle.numbers_spec.specs.Arithmetic.{zero⁺, at_least}
use Rattle.numbers_spec.specs.Values.{Near}
use Rattle.numbers_spec.proofs.Sums.{sub_self}
use Rattle.numbers_spec.proofs.Distances.{near_wider, near_in_f64}
use Rattle.matcher_spec.specs.declared.types.Candidate.{Candidate}
use Rattle.engine_spec.specs.Cases.{is_locked}
use Rattle.engine_spec.specs.Windows.{◌after◌}
use Rattle.engine_spec.specs.Locking.{Searched}
use Rattle.engine_spec.specs.Publishing.{offset_of}
use Rattle.engine_spec.specs.Lists.{Answered}
use Rattle.engine_spec.specs.Chain.{passes, best_offset, offset_shown, shown_at, whole_at, when, place_at, EndsChain, Ending, Coasting, LockingAt, Placed}
use Rattle.engine_spec.specs.Leap.{move_most, outside_most, Supported, Shifted, Carried, Gentle}
use Rattle.engine_spec.specs.declared.types.RecordedMs.{RecordedMs}
use Rattle.engine_spec.specs.declared.types.Estimate.{Estimate}
use Rattle.engine_spec.specs.declared.types.Hypothesis.{Hypothesis}
use Rattle.engine_spec.specs.declared.types.State.{State}
use Rattle.engine_spec.specs.declared.types.State.TheVariants as state
use Rattle.engine_spec.proofs.Tests.{and_l}
use Rattle.engine_spec.proofs.Effects.{is_held, Moved, moved, Track, gone, set, kept, Ended, ended, best_offset_of, TrackShown, off, on}
use Rattle.engine_spec.proofs.Pending.{Pending, running}

-- ---- what one snapshot shows
-- On no track it is not Locked.
pub not_locked : (confirmed : Bool) → cond confirmed state.Relocking state.Locking ≡ state.Locked → ⊥
unfolding is_locked
not_locked true h = subst (λ (s : State). T (not (is_locked s))) h tt
not_locked false h = subst (λ (s : State). T (not (is_locked s))) h tt

-- A place is shown where there is an offset.
abbrev pub somewhere : Option Float → Bool
somewhere None = false
somewhere (Some offset) = true

estimated_is : (e : Option Estimate) → is_some e ≡ somewhere (offset_shown e)
estimated_is None = refl
estimated_is (Some e) = refl

pub shown_there : (e : Option Estimate) {o : Float} → offset_shown e ≡ Some o → T (is_some e)
shown_there e h = subst T (sym (estimated_is e ∙ ap somewhere h)) tt

-- On a track it is Locked where final is there.
locked_if : (final : Bool) → T final → cond final state.Locked state.Confirmed ≡ state.Locked
locked_if true h = refl
locked_if false h = absurd h

floored_zero : (b : Bool) → cond b zero⁺ zero⁺ ≡ zero⁺
floored_zero true = refl
floored_zero false = refl

module _ (hop : Float) (a : ℕ → Answered) where
  -- ---- the end of a chain
  pub ending_of : (n : ℕ) (x : Searched) (accepted : Option Hypothesis) (supported : Bool) (found : List Candidate) → T (finite (when hop a n).0) → T x.reached.final_lock → is_none (shown_at hop a n).withhold_reason ≡ supported
      → best_offset (shown_at hop a n).diagnostics ≡ best_offset_of found → Ended (when hop a n) accepted supported found → TrackShown (shown_at hop a n) (when hop a n) x accepted → Ending hop a n
  ending_of n x accepted supported found f final reason best (ended e s) (on t) = record {
    locked = t.state ∙ locked_if x.reached.final_lock final;
    supported = subst T (sym reason) tt;
    coast =
        t.coast ∙ ap (λ (last : RecordedMs). at_least zero⁺ (when hop a n after last)) e
        ∙ ap (λ (d : Float). at_least zero⁺ d) (sub_self binary64 (when hop a n).0 f) ∙ floored_zero (lt zero⁺ zero⁺);
    place = rw (t.place, best) s;
  }

  -- ---- a coast
  -- A track that a state holds after n answers was shown by the last of them, which is Locked.
  pub data Leads (n : ℕ) : Option Hypothesis → Type 0 where
    nowhere : Leads n None
    there : {j : ℕ} {t : Hypothesis} → n ≡ suc j → (shown_at hop a j).state ≡ state.Locked → place_at hop a j ≡ Some t.offset_ms → Leads n (Some t)

  -- So it is again after an answer that is on a track: final is there, as a track is held only then.
  pub leads_next : (n : ℕ) (x : Searched) (accepted : Option Hypothesis) → (T (is_held accepted) → T x.reached.final_lock) → TrackShown (shown_at hop a n) (when hop a n) x accepted → Leads (suc n) accepted
  leads_next n x accepted final (off t) = nowhere
  leads_next n x accepted final (on t) = there refl (t.state ∙ locked_if x.reached.final_lock (final tt)) t.place

  -- A Locked answer without support is on the track that it found.
  pub coasting_of : (n : ℕ) (x : Searched) {lock : Bool} (old accepted : Option Hypothesis) (supported : Bool) → supported ≡ false → Track (when hop a n) lock old accepted supported → Leads n old
      → TrackShown (shown_at hop a n) (when hop a n) x accepted → (shown_at hop a n).state ≡ state.Locked → Coasting hop a n
  coasting_of n x old accepted supported e gone k (off t) h = absurd (not_locked x.reached.confirmed (sym t.state ∙ h))
  coasting_of n x old accepted supported e (set i u) k t h = absurd (subst T e tt)
  coasting_of n x old accepted supported e (kept c) (there {j = j} is locked place) (on t) h = record { before = j; is = is; locked = locked; place = t.place ∙ sym place }

  -- ---- a step
  -- A supported answer that ends no chain is on the track that it found, moved toward the best of its local search. (80 + 3 × 2^-47 is below 80.001.)
  shifted_of : (n : ℕ) (x : Searched) (old accepted : Option Hypothesis) (near : List Candidate) → Moved old accepted near → Leads n old → TrackShown (shown_at hop a n) (when hop a n) x accepted → Shifted hop a n
  shifted_of n x old accepted near (moved {h = h} {h' = h'} s) (there {j = j} is locked place) (on t) =
      let o = h.offset_ms in
      let o' = h'.offset_ms in
      let most : Near move_most 1000 o' o = near_wider _ _ move_most 1000 o' o (lit< tt) (lit≤ tt) s.moved in
      record {
        before = j;
        is = is;
        locked = locked;
        old = o;
        new = o';
        old_is = place;
        new_is = t.place;
        moved = most;
        moved_in_f64 = near_in_f64 move_most 1000 o' o (lit< tt) most;
        moved_sharp = s.moved;
      }

  -- Without a whole search that best is shown. (2 × 2^-47 is below 0.001.)
  carried_of : (n : ℕ) (x : Searched) (old accepted : Option Hypothesis) (near : List Candidate) → Moved old accepted near → Leads n old → TrackShown (shown_at hop a n) (when hop a n) x accepted
      → best_offset (shown_at hop a n).diagnostics ≡ best_offset_of near → Carried hop a n
  unfolding shifted_of
  carried_of n x old accepted near (moved {h' = h'} {b = b} s) (there is locked place) (on t) best =
      let o' = h'.offset_ms in
      let outside : Near outside_most 1000 o' s.beside.place = near_wider _ _ outside_most 1000 o' s.beside.place (lit< tt) (lit≤ tt) s.beside.near in
      record {
        shifted = shifted_of n x old accepted near (moved s) (there is locked place) (on t);
        best = b.offset_ms;
        best_is = best;
        beside = record { place = s.beside.place; on = s.beside.on; near = outside };
        beside_in_f64 = near_in_f64 outside_most 1000 o' s.beside.place (lit< tt) outside;
        beside_sharp = s.beside;
      }

  -- An answer that ends a chain made a whole search.
  ends_whole : (n : ℕ) → EndsChain hop a n → T (whole_at hop a n)
  unfolding passes
  ends_whole n c = and_l (whole_at hop a n) _ c.1.last

  pub gentle_of : (n : ℕ) (x : Searched) (old accepted : Option Hypothesis) (near : List Candidate) (lock : Bool) → (T lock → EndsChain hop a n) → (T (not lock) → T x.supported → Moved old accepted near) → Leads n old
      → TrackShown (shown_at hop a n) (when hop a n) x accepted → is_none (shown_at hop a n).withhold_reason ≡ x.supported → (T (not (whole_at hop a n)) → best_offset (shown_at hop a n).diagnostics ≡ best_offset_of near) → Gentle hop a n
  gentle_of n x old accepted near lock ends moves ld t reason best =
      let goes : Supported hop a n → (EndsChain hop a n → ⊥) → Moved old accepted near = λ u f. moves (not_T lock (λ l. f (ends l))) (subst T reason u.reasonless) in
      record {
        carried = λ u w. carried_of n x old accepted near (goes u (λ c. T_not (whole_at hop a n) w (ends_whole n c))) ld t (best w);
        shifted = λ u f. shifted_of n x old accepted near (goes u f) ld t;
      }

  -- ---- before a lock
  locking_of : (n : ℕ) (confirmed : Bool) (pending : Option Hypothesis) → Pending hop a (suc n) pending → (shown_at hop a n).state ≡ cond confirmed state.Relocking state.Locking
      → place_at hop a n ≡ cond confirmed None (offset_of pending) → T (somewhere (place_at hop a n)) → LockingAt hop a n
  locking_of n true pending p s e h = absurd (subst T (ap somewhere e) h)
  locking_of n false None p s e h = absurd (subst T (ap somewhere e) h)
  locking_of n false (Some pending) (running r) s e h = record { locking = s; newest = r.newest; latest = r.latest; place = e ∙ sym r.best }

  pub placed_of : (n : ℕ) (x : Searched) (accepted : Option Hypothesis) → (T (is_held accepted) → T x.reached.final_lock) → Pending hop a (suc n) x.lock.pending → TrackShown (shown_at hop a n) (when hop a n) x accepted
      → T (is_some (shown_at hop a n).estimate) → Placed hop a n
  placed_of n x accepted final p (off t) h =
      inr (locking_of n x.reached.confirmed x.lock.pending p t.state t.place (subst T (estimated_is (shown_at hop a n).estimate) h))
  placed_of n x accepted final p (on t) h = inl (t.state ∙ locked_if x.reached.final_lock (final tt))
