-- The accepted track follows a chain without interruption, and its evidence is the last supported answer's: so a Locked answer is on a chain, and its coast is what it says. Assumes nothing.
use Prim.Native.Nat.{ℕ, zero, suc, ◌<◌}
use mathlib.Core.Bool.{Bool, true, false, cond, not}
use mathlib.Core.Logic.{inl, inr}
use mathlib.Core.Path.{◌≡◌, refl, sym, ap, ◌∙◌, subst}
use native.Mathlib.Nat.{le_refl, lt_irrefl, not-suc-le-zero}
use native.Mathlib.Omega.{arith}
use lib.Dec.{T}
use lib.Ieee.{Float, binary64, lt, le}
use lib.Ieee.Scale.{finite}
use Rattle.std.specs.Prelude.{Option, None, Some, is_some, is_none}
use Rattle.numbers_spec.specs.Arithmetic.{◌⊗◌, zero⁺, at_least}
use Rattle.numbers_spec.proofs.Sums.{sub_self, sub_not_negative}
use Rattle.matcher_spec.specs.Centring.{context_frames}
use Rattle.engine_spec.specs.Thresholds.{coast_most_ms, reread_ms}
use Rattle.engine_spec.specs.Windows.{endpoint_of, evidence_at, ◌after◌}
use Rattle.engine_spec.specs.Locking.{Searched}
use Rattle.engine_spec.specs.Chain.{window_at, shown_at, spectral_at, when, jump_at, interrupts, EndsChain, OnChain, Coasts}
use Rattle.engine_spec.specs.Cases.{interrupting}
use Rattle.engine_spec.specs.Lists.{Answered}
use Rattle.engine_spec.specs.declared.types.RecordedMs.{RecordedMs}
use Rattle.engine_spec.specs.declared.types.Hypothesis.{Hypothesis}
use Rattle.engine_spec.specs.declared.types.State.TheVariants as state
use Rattle.engine_spec.proofs.Tests.{not_or, not_or_l, below_or}
use Rattle.engine_spec.proofs.Effects.{Track, gone, set, kept, OnTrack, TrackShown, off, on}
use Rattle.engine_spec.proofs.Links.{Timely, later}
use Rattle.engine_spec.proofs.Places.{not_locked, shown_there}
use Rattle.engine_spec.proofs.Elapsed.{coast_is}

same_either_way : (b : Bool) (x : Float) → cond b x x ≡ x
same_either_way true x = refl
same_either_way false x = refl

module _ (hop : Float) (a : ℕ → Answered) where
  -- Of a track whose last evidence is this, below n: the end of a chain that it follows, and the last answer without a withhold reason. Nothing interrupts since either.
  pub record Follows (n : ℕ) (last : RecordedMs) : Type 0 where
    pub chain : ℕ
    pub order : chain < n
    pub ends : EndsChain hop a chain
    pub unbroken : (k : ℕ) → chain < k → k < n → T (not (interrupts hop a k))
    pub from : ℕ
    pub from_order : from < n
    pub supported : T (is_none (shown_at hop a from).withhold_reason)
    pub withheld : (k : ℕ) → from < k → k < n → T (not (is_none (shown_at hop a k).withhold_reason))
    pub since : (k : ℕ) → from < k → k < n → T (not (interrupts hop a k))
    pub last_is : last ≡ when hop a from

  pub data Accepted (n : ℕ) : Option Hypothesis → Type 0 where
    no_track : Accepted n None
    on_track_lem : {t : Hypothesis} → Follows n t.last_evidence_ms → Accepted n (Some t)

  -- the track after answer n, where a jump at n may have ended it
  pub data Tracked (n : ℕ) : Option Hypothesis → Type 0 where
    no_more : Tracked n None
    still : {t : Hypothesis} → T (not (jump_at hop a n)) → Follows n t.last_evidence_ms → Tracked n (Some t)

  -- ---- one answer further: without support,
  follows_up : (n : ℕ) (last : RecordedMs) → Follows n last → T (not (interrupts hop a n)) → T (not (is_none (shown_at hop a n).withhold_reason)) → Follows (suc n) last
  follows_up n last h u r = record {
    chain = h.chain;
    order = let o = h.order in omega arith;
    ends = h.ends;
    unbroken = λ k x y. elim (below_or k n y) [ inl l ↦ h.unbroken k x l | inr e ↦ subst (λ (m : ℕ). T (not (interrupts hop a m))) (sym e) u ];
    from = h.from;
    from_order = let o = h.from_order in omega arith;
    supported = h.supported;
    withheld = λ k x y. elim (below_or k n y) [ inl l ↦ h.withheld k x l | inr e ↦ subst (λ (m : ℕ). T (not (is_none (shown_at hop a m).withhold_reason))) (sym e) r ];
    since = λ k x y. elim (below_or k n y) [ inl l ↦ h.since k x l | inr e ↦ subst (λ (m : ℕ). T (not (interrupts hop a m))) (sym e) u ];
    last_is = h.last_is;
  }

  -- and with it
  follows_now : (n : ℕ) (last : RecordedMs) → last ≡ when hop a n → T (is_none (shown_at hop a n).withhold_reason)
      → (c : ℕ) → c < suc n → EndsChain hop a c → ((k : ℕ) → c < k → k < suc n → T (not (interrupts hop a k))) → Follows (suc n) last
  follows_now n last e r c l d u = record {
    chain = c;
    order = l;
    ends = d;
    unbroken = u;
    from = n;
    from_order = le_refl (suc n);
    supported = r;
    withheld = λ k x y. absurd (lt_irrefl 0 (omega arith));
    since = λ k x y. absurd (lt_irrefl 0 (omega arith));
    last_is = e;
  }

  pub track_step : (n : ℕ) (lock : Bool) (old new : Option Hypothesis) (supported : Bool) → T (not (interrupting (shown_at hop a n).state)) → is_none (shown_at hop a n).withhold_reason ≡ supported
      → (T lock → EndsChain hop a n) → Tracked n old → Track (when hop a n) lock old new supported → Accepted (suc n) new
  track_step n lock old new supported q r d tr gone = no_track
  track_step n lock old new supported q r d tr (set {t = t} h (inl u)) =
      on_track_lem (follows_now n t.last_evidence_ms h (subst (λ (b : Bool). T b) (sym r) tt) n (le_refl (suc n)) (d u) (λ k x y. absurd (lt_irrefl 0 (omega arith))))
  track_step n lock old new supported q r d no_more (set h (inr u)) = absurd u
  track_step n lock old new supported q r d (still j g) (set {t = t} h (inr u)) =
      on_track_lem (follows_now n t.last_evidence_ms h (subst (λ (b : Bool). T b) (sym r) tt) g.chain (let o = g.order in omega arith) g.ends
      (λ k x y. elim (below_or k n y) [
        | inl b ↦ g.unbroken k x b
        | inr e ↦ subst (λ (m : ℕ). T (not (interrupts hop a m))) (sym e) (not_or (jump_at hop a n) (interrupting (shown_at hop a n).state) j q)
      ]))
  track_step n lock old new supported q r d (still j g) (kept {t = t} h) =
      on_track_lem (follows_up n t.last_evidence_ms g (not_or (jump_at hop a n) (interrupting (shown_at hop a n).state) j q) (subst (λ (b : Bool). T (not b)) (sym r) tt))

  -- ---- the coast
  -- The answer n is computed anew: without a jump its endpoint lies 90 past the one before.
  abbrev pub Anew : ℕ → Type 0
  Anew zero = Unit
  Anew (suc n) = T (not (jump_at hop a (suc n))) → T (not (lt (endpoint_of (window_at hop a (suc n)) after endpoint_of (window_at hop a n)) reread_ms))

  -- The time since an answer, as the coast shows it, is the difference: an earlier one,
  since_earlier : (n : ℕ) → T (finite (context_frames hop ⊗ hop)) → Timely hop a (suc n) → Anew n → (from : ℕ) → from < n → ((k : ℕ) → from < k → k < suc n → T (not (interrupts hop a k)))
      → at_least zero⁺ (when hop a n after when hop a from) ≡ when hop a n after when hop a from
  unfolding evidence_at
  since_earlier zero f tm w from l u = absurd (not-suc-le-zero l)
  since_earlier (suc n) f tm w from l u =
      let now = suc n in
      let E = tm.endpoint in
      coast_is (endpoint_of (window_at hop a now)).0 (endpoint_of (window_at hop a n)).0 (context_frames hop ⊗ hop) (when hop a from).0
      (E now (le_refl (suc now))) (E n (omega arith)) f (tm.evidence from (omega arith)) (tm.evidence now (le_refl (suc now)))
      (later hop a (suc now) f tm from n (omega arith) (omega arith) (λ k x y. u k x (omega arith)))
      (later hop a (suc now) f tm n now (omega arith) (le_refl (suc now)) (λ k x y. u k (omega arith) (omega arith)))
      (w (not_or_l (jump_at hop a now) (interrupting (shown_at hop a now).state) (u now (omega arith) (le_refl (suc now)))))

  -- and the answer itself
  since_itself : (n : ℕ) → T (finite (when hop a n).0) → at_least zero⁺ (when hop a n after when hop a n) ≡ when hop a n after when hop a n
  since_itself n f =
      let z = sub_self binary64 (when hop a n).0 f in
      ap (λ (x : Float). at_least zero⁺ x) z ∙ same_either_way (lt zero⁺ zero⁺) zero⁺ ∙ sym z

  since_support : (n : ℕ) → T (finite (context_frames hop ⊗ hop)) → Timely hop a (suc n) → Anew n → (from : ℕ) → from < suc n → ((k : ℕ) → from < k → k < suc n → T (not (interrupts hop a k)))
      → at_least zero⁺ (when hop a n after when hop a from) ≡ when hop a n after when hop a from
  since_support n f tm w from l u = elim (below_or from n l) [
    | inl b ↦ since_earlier n f tm w from b u
    | inr e ↦ subst (λ (k : ℕ). at_least zero⁺ (when hop a n after when hop a k) ≡ when hop a n after when hop a k) (sym e) (since_itself n (tm.evidence n (le_refl (suc n))))
  ]

  -- ---- a Locked answer
  pub record LockedWell (n : ℕ) : Type 0 where
    pub estimate : T (is_some (shown_at hop a n).estimate)
    pub locked : OnChain hop a n
    pub coast : Coasts hop a n

  on_the_track : (n : ℕ) (final : Bool) (offset : Float) (last : RecordedMs) → T (finite (context_frames hop ⊗ hop)) → Timely hop a (suc n) → Anew n → Follows (suc n) last → OnTrack (shown_at hop a n) (when hop a n) final offset last → LockedWell n
  on_the_track n final offset last f tm w h o =
      let t = when hop a n in
      let t₀ = when hop a h.from in
      let below : T (le t₀.0 t.0) = later hop a (suc n) f tm h.from n (let x = h.from_order in omega arith) (le_refl (suc n)) (λ k x y. h.since k x (omega arith)) in
      let low : T (le zero⁺ (t after t₀)) = sub_not_negative binary64 t.0 t₀.0 (tm.evidence n (le_refl (suc n))) (tm.evidence h.from h.from_order) below in
      let is : (spectral_at hop a n).coast_ms ≡ t after t₀ = o.coast ∙ ap (λ (x : RecordedMs). at_least zero⁺ (t after x)) h.last_is ∙ since_support n f tm w h.from h.from_order h.since in
      record {
        estimate = shown_there (shown_at hop a n).estimate o.place;
        locked = record { chain = h.chain; order = let x = h.order in omega arith; ends = h.ends; unbroken = λ k x y. h.unbroken k x (omega arith) };
        coast = record {
          from = h.from;
          last_supported = record { order = let x = h.from_order in omega arith; supported = h.supported; withheld_since = λ k x y. h.withheld k x (omega arith) };
          is = is;
          least = subst (λ (x : Float). T (le zero⁺ x)) (sym is) low;
          greatest = subst (λ (x : Float). T (le x coast_most_ms)) (ap (λ (x : RecordedMs). t after x) h.last_is ∙ sym is) o.within;
        };
      }

  pub locked_well : (n : ℕ) (x : Searched) (accepted : Option Hypothesis) → T (finite (context_frames hop ⊗ hop)) → Timely hop a (suc n) → Anew n → Accepted (suc n) accepted
      → TrackShown (shown_at hop a n) (when hop a n) x accepted → (shown_at hop a n).state ≡ state.Locked → LockedWell n
  locked_well n x accepted f tm w g (off t) e = absurd (not_locked x.reached.confirmed (sym t.state ∙ e))
  locked_well n x accepted f tm w (on_track_lem h) (on {t = track} t) e = on_the_track n x.reached.final_lock track.offset_ms track.last_evidence_ms f tm w h t
