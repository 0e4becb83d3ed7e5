-- The pending hypothesis is the open chain that began first; a passing answer confirms it exactly where it ends a chain. Assumes nothing.
use Prim.Native.Nat.{ℕ, suc, ◌≤◌, ◌<◌}
use mathlib.Core.Bool.{Bool, true, false, not, ◌&&◌}
use mathlib.Core.List.{List, [], ◌∷◌}
use mathlib.Core.Logic.{inl, inr}
use mathlib.Core.Path.{◌≡◌, refl, sym, subst}
use native.Mathlib.Nat.{le_refl}
use native.Mathlib.Omega.{arith}
use lib.Dec.{T, T_not}
use lib.Ieee.{Float, binary64, le}
use lib.Ieee.Scale.{finite}
use Rattle.std.specs.Prelude.{Option, None, Some}
use Rattle.numbers_spec.specs.Arithmetic.{◌⊖◌, ◌⊗◌}
use Rattle.numbers_spec.specs.Values.{Number}
use Rattle.numbers_spec.proofs.Order.{le_transitive}
use Rattle.numbers_spec.proofs.Sums.{sub_anti}
use Rattle.matcher_spec.specs.Centring.{context_frames}
use Rattle.matcher_spec.specs.declared.types.Candidate.{Candidate}
use Rattle.matcher_spec.specs.Index.{Matcher}
use Rattle.matcher_spec.specs.Search.{whole_search}
use Rattle.engine_spec.specs.Thresholds.{chain_ms, chain_recent}
use Rattle.engine_spec.specs.Windows.{Window, query, ◌after◌, same_place, current}
use Rattle.engine_spec.specs.Tracking.{hypothesis}
use Rattle.engine_spec.specs.Locking.{Searched, passing, first_evidence, holds, held_or_dropped, confirms}
use Rattle.engine_spec.specs.Chain.{window_at, shown_at, whole_at, Passes, when, jump_at, best_offset, interrupts, Latest, neighbouring, keeping, EndsChain}
use Rattle.engine_spec.specs.declared.types.Reached.{Reached}
use Rattle.engine_spec.specs.Lists.{Answered}
use Rattle.engine_spec.specs.Cases.{interrupting}
use Rattle.engine_spec.specs.declared.types.RecordedMs.{RecordedMs}
use Rattle.engine_spec.specs.declared.types.Hypothesis.{Hypothesis}
use Rattle.engine_spec.proofs.Tests.{cond_elim, and_l, and_r, and_i, not_or, below_or}
use Rattle.engine_spec.proofs.Effects.{Pend, same, weak, pass, Shown}
use Rattle.engine_spec.proofs.Passing.{passing→both, both→passing, passes_is}
use Rattle.engine_spec.proofs.Links.{Open, open_down, open_new, open_up, chain_of, open_of, begins, latest_unique, latest_new, latest_up, Timely, later}

-- Both halves of a window's best are no NaN.
abbrev pub NumberHalves : Matcher → Window → Type 0
NumberHalves m w = (c : Candidate) (l : List Candidate) → c ∷ l ≡ whole_search m (query w) → Number c.first_half_score × Number c.second_half_score

module _ (hop : Float) (a : ℕ → Answered) where
  -- A hypothesis is an open chain: its last evidence is that of the last passing answer, its offset that answer's best, its first evidence that of the earliest start.
  pub record Running (n : ℕ) (h : Hypothesis) : Type 0 where
    pub start : ℕ
    pub newest : ℕ
    pub opened : Open hop a start n
    pub latest : Latest hop a newest n
    pub best : best_offset (shown_at hop a newest).diagnostics ≡ Some h.offset_ms
    pub last_is : h.last_evidence_ms ≡ when hop a newest
    pub first_is : h.first_evidence_ms ≡ when hop a start
    pub earliest : (i : ℕ) → Open hop a i n → start ≤ i

  -- what pending says of the answers below n
  pub data Pending (n : ℕ) : Option Hypothesis → Type 0 where
    idle : ((i : ℕ) → Open hop a i n → ⊥) → Pending n None
    running : {h : Hypothesis} → Running n h → Pending n (Some h)

  -- the pending place after answer n, where a jump at n may have ended it
  pub data Ready (n : ℕ) : Option Hypothesis → Type 0 where
    none_open : ((i : ℕ) → i < n → Open hop a i (suc n) → ⊥) → Ready n None
    going : {h : Hypothesis} → T (not (jump_at hop a n)) → Running n h → Ready n (Some h)

  -- ---- the answer n, which does not interrupt
  module _ (n : ℕ) (loud : T (not (interrupting (shown_at hop a n).state))) where
    -- what a chain open before it and going on asks of it
    going_on : T (not (jump_at hop a n)) → T (not (interrupts hop a n))
    going_on j = not_or (jump_at hop a n) (interrupting (shown_at hop a n).state) j loud

    -- an answer that doesn't pass: pending stays where a whole search keeps it
    stays_idle : ((i : ℕ) → i < n → Open hop a i (suc n) → ⊥) → (Passes hop a n → ⊥) → Pending (suc n) None
    stays_idle f np = idle (λ i o. elim (below_or i n o.order) [ inl l ↦ f i l o | inr e ↦ np (subst (λ (m : ℕ). Passes hop a m) e o.first) ])

    stays_running : (h : Hypothesis) → T (not (jump_at hop a n)) → (r : Running n h) → (Passes hop a n → ⊥) → (T (whole_at hop a n) → T (keeping hop a r.newest n)) → Pending (suc n) (Some h)
    stays_running h j r np kept = running (record {
      start = r.start;
      newest = r.newest;
      opened =
          open_up hop a r.start n r.opened (going_on j) (λ q x p. absurd (np p))
          (λ q x w d. subst (λ (m : ℕ). T (keeping hop a m n)) (latest_unique hop a r.newest q n r.latest x) (kept w));
      latest = latest_up hop a r.newest n r.latest np;
      best = r.best;
      last_is = r.last_is;
      first_is = r.first_is;
      earliest = λ i x. elim (below_or i n x.order) [ inl b ↦ r.earliest i (open_down hop a i n x b) | inr e ↦ absurd (np (subst (λ (m : ℕ). Passes hop a m) e x.first)) ];
    })

    -- the engine's tests are the chain's
    keeping_holds : (h : Hypothesis) (r : Running n h) (found : List Candidate) → Shown (shown_at hop a n) true found → keeping hop a r.newest n ≡ holds h.offset_ms h.last_evidence_ms found (when hop a n)
    unfolding holds
    keeping_holds h r [] s = rw s.best
    keeping_holds h r (b ∷ rest) s = rw (s.best, r.best, s.margin, r.last_is)

    joins : Hypothesis → Candidate → Bool
    joins h b = same_place h.offset_ms b.offset_ms && current (when hop a n) h.last_evidence_ms

    neighbouring_joins : (h : Hypothesis) (r : Running n h) (b : Candidate) (rest : List Candidate) → Shown (shown_at hop a n) true (b ∷ rest) → neighbouring hop a r.newest n ≡ joins h b
    unfolding joins
    neighbouring_joins h r b rest s = rw (s.best, r.best, r.last_is)

    -- no whole search
    unsearched : (p : Option Hypothesis) → Ready n p → (Passes hop a n → ⊥) → (T (whole_at hop a n) → ⊥) → Pending (suc n) p
    unsearched p (none_open f) np nw = stays_idle f np
    unsearched p (going {h = h} j r) np nw = stays_running h j r np (λ w. absurd (nw w))

    -- one that doesn't pass
    not_passing : (p : Option Hypothesis) (found : List Candidate) → Ready n p → Shown (shown_at hop a n) true found → (Passes hop a n → ⊥) → Pending (suc n) (held_or_dropped p found (when hop a n))
    unfolding held_or_dropped
    not_passing p found (none_open f) s np = stays_idle f np
    not_passing p found (going {h = h} j r) s np =
        let kept = holds h.offset_ms h.last_evidence_ms found (when hop a n) in
        cond_elim (λ (q : Option Hypothesis). Pending (suc n) q) kept (Some h) None
        (λ t. stays_running h j r np (λ w. subst (λ (b : Bool). T b) (sym (keeping_holds h r found s)) t))
        (λ t. stays_idle (λ i b x. T_not kept t (subst (λ (b : Bool). T b) (keeping_holds h r found s)
        (x.weak r.newest n (begins hop a i r.newest n (open_down hop a i n x b) r.latest) (le_refl (suc n)) r.latest (subst (λ (b : Bool). T b) (sym s.whole) tt) np))) np)

    -- one that passes, where no open chain goes on
    afresh : (b : Candidate) (rest : List Candidate) → Shown (shown_at hop a n) true (b ∷ rest) → Passes hop a n → ((i : ℕ) → i < n → Open hop a i (suc n) → ⊥) → Running (suc n) (hypothesis b.offset_ms (when hop a n) (when hop a n) b.score)
    afresh b rest s P f = record {
      start = n;
      newest = n;
      opened = open_new hop a n P;
      latest = latest_new hop a n P;
      best = s.best;
      last_is = refl;
      first_is = refl;
      earliest = λ i o. elim (below_or i n o.order) [ inl x ↦ absurd (f i x o) | inr e ↦ omega arith ];
    }

    -- and where one does
    carried : (b : Candidate) (rest : List Candidate) (h : Hypothesis) → T (not (jump_at hop a n)) → Running n h → Shown (shown_at hop a n) true (b ∷ rest) → Passes hop a n → T (joins h b)
        → Running (suc n) (hypothesis b.offset_ms h.first_evidence_ms (when hop a n) b.score)
    carried b rest h j r s P t = record {
      start = r.start;
      newest = n;
      opened =
          open_up hop a r.start n r.opened (going_on j)
          (λ q y p. subst (λ (m : ℕ). T (neighbouring hop a m n)) (latest_unique hop a r.newest q n r.latest y) (subst (λ (b : Bool). T b) (sym (neighbouring_joins h r b rest s)) t))
          (λ q y w d. absurd (d P));
      latest = latest_new hop a n P;
      best = s.best;
      last_is = refl;
      first_is = r.first_is;
      earliest = λ i x. elim (below_or i n x.order) [ inl y ↦ r.earliest i (open_down hop a i n x y) | inr e ↦ let u = r.opened.order in omega arith ];
    }

    passing_step : (p : Option Hypothesis) (b : Candidate) (rest : List Candidate) → Ready n p → Shown (shown_at hop a n) true (b ∷ rest) → Passes hop a n → Running (suc n) (hypothesis b.offset_ms (first_evidence p b.offset_ms (when hop a n)) (when hop a n) b.score)
    unfolding first_evidence joins
    passing_step p b rest (none_open f) s P = afresh b rest s P f
    passing_step p b rest (going {h = h} j r) s P =
        cond_elim (λ (x : RecordedMs). Running (suc n) (hypothesis b.offset_ms x (when hop a n) b.score)) (joins h b) h.first_evidence_ms (when hop a n)
        (λ t. carried b rest h j r s P t)
        (λ t. afresh b rest s P (λ i x y. T_not (joins h b) t (subst (λ (b : Bool). T b) (neighbouring_joins h r b rest s)
        (y.neighbours r.newest n (begins hop a i r.newest n (open_down hop a i n y x) r.latest) (le_refl (suc n)) r.latest P))))

    -- ---- it confirms exactly where it ends a chain
    confirms_chain : (b : Candidate) (rest : List Candidate) (first : RecordedMs) → Shown (shown_at hop a n) true (b ∷ rest) → Passes hop a n → Running (suc n) (hypothesis b.offset_ms first (when hop a n) b.score) → T (confirms hop first (when hop a n) b) → EndsChain hop a n
    unfolding confirms
    confirms_chain b rest first s P r t =
        let A = le (chain_ms ⊖ hop) (when hop a n after first) in
        let B = le chain_recent b.recent_score in (
          r.start,
          chain_of hop a r.start n r.opened P
              (subst (λ (x : RecordedMs). T (le (chain_ms ⊖ hop) (when hop a n after x))) r.first_is (and_l A B t))
              (subst (λ (x : Float). T (le chain_recent x)) (sym s.recent) (and_r A B t)),
        )

    chain_confirms : (b : Candidate) (rest : List Candidate) (first : RecordedMs) → T (finite (context_frames hop ⊗ hop)) → Shown (shown_at hop a n) true (b ∷ rest) → Timely hop a (suc n) → Running (suc n) (hypothesis b.offset_ms first (when hop a n) b.score) → EndsChain hop a n → T (confirms hop first (when hop a n) b)
    unfolding confirms
    chain_confirms b rest first f s tm r (i, c) =
        let o = open_of hop a i n c in
        let at : ℕ → Float = λ k. (when hop a k).0 in
        let begun : r.start ≤ i = r.earliest i o in
        let ir : i < suc n = o.order in
        let w : T (le (at r.start) (at i)) = later hop a (suc n) f tm r.start i begun ir (λ k x y. r.opened.unbroken k x (omega arith)) in
        let g : T (le (at n ⊖ at i) (at n ⊖ at r.start)) =
        sub_anti binary64 (at n) (at r.start) (at i) (tm.evidence n (le_refl (suc n))) (tm.evidence r.start (omega arith)) (tm.evidence i ir) w in
        and_i (le (chain_ms ⊖ hop) (when hop a n after first)) (le chain_recent b.recent_score)
        (subst (λ (x : RecordedMs). T (le (chain_ms ⊖ hop) (when hop a n after x))) (sym r.first_is) (le_transitive (chain_ms ⊖ hop) (at n ⊖ at i) (at n ⊖ at r.start) c.long g))
        (subst (λ (x : Float). T (le chain_recent x)) s.recent c.recent)

    -- ---- all that the answer does to pending
    pub record Outcome (lock : Bool) (p : Option Hypothesis) : Type 0 where
      pub pending : Pending (suc n) p
      pub ends : T lock → EndsChain hop a n
      pub lock_if : EndsChain hop a n → T lock

    pub pend_step : (m : Matcher) (k : Reached) (p : Option Hypothesis) (s : Searched) (global : Bool) (found : List Candidate) (lock : Bool)
        → T (finite (context_frames hop ⊗ hop)) → NumberHalves m (window_at hop a n) → Timely hop a (suc n) → Ready n p → Shown (shown_at hop a n) global found
        → Pend m hop (window_at hop a n) k p s global found lock → Outcome lock s.lock.pending
    pend_step m k p s global found lock f nh tm rd sh (same e z) =
        let np : Passes hop a n → ⊥ = λ t. subst (λ (b : Bool). T b) (passes_is (shown_at hop a n) false found sh) t in
        record {
          pending = subst (λ (q : Option Hypothesis). Pending (suc n) q) (sym e) (unsearched p rd np (λ w. subst (λ (b : Bool). T b) sh.whole w));
          ends = λ t. absurd t;
          lock_if = λ c. np c.1.last;
        }
    pend_step m k p s global found lock f nh tm rd sh (weak q t e z) =
        let np : Passes hop a n → ⊥ = λ u. T_not (passing found) t (both→passing found (subst (λ (b : Bool). T b) (passes_is (shown_at hop a n) true found sh) u)) in
        record {
          pending = subst (λ (q : Option Hypothesis). Pending (suc n) q) (sym e) (not_passing p found rd sh np);
          ends = λ t. absurd t;
          lock_if = λ c. np c.1.last;
        }
    pend_step m k p s global found lock f nh tm rd sh (pass {b = b} {l = rest} q t e y z) =
        let h = nh b rest q in
        let P : Passes hop a n = subst (λ (b : Bool). T b) (sym (passes_is (shown_at hop a n) true (b ∷ rest) sh)) (passing→both b rest h.0 h.1 t) in
        let r = passing_step p b rest rd sh P in
        let first = first_evidence p b.offset_ms (when hop a n) in
        record {
          pending = subst (λ (q : Option Hypothesis). Pending (suc n) q) (sym e) (running r);
          ends = λ u. confirms_chain b rest first sh P r (subst (λ (b : Bool). T b) y u);
          lock_if = λ c. subst (λ (b : Bool). T b) (sym y) (chain_confirms b rest first f sh tm r c);
        }
