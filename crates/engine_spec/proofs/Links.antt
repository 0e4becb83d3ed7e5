-- A chain in the making: what a chain from i asks of the answers below n. Read from windows and answers only, as the chain itself. Assumes nothing.
use Prim.Native.Nat.{ℕ, zero, suc, ◌≤◌, ◌<◌}
use mathlib.Core.Bool.{Bool, true, false, not}
use mathlib.Core.Logic.{inl, inr}
use mathlib.Core.Path.{◌≡◌, sym, subst}
use native.Mathlib.Nat.{le_refl, lt_irrefl}
use native.Mathlib.Omega.{arith}
use lib.Dec.{T, ltb, ltb→lt, nltb→le}
use lib.Ieee.{Float, binary64, lt, le}
use lib.Ieee.Scale.{finite}
use Rattle.numbers_spec.specs.Arithmetic.{◌⊕◌, ◌⊖◌, ◌⊗◌, two}
use Rattle.numbers_spec.proofs.Value.{finite_no_nan}
use Rattle.numbers_spec.proofs.Order.{le_transitive, le_self, not-lt→le}
use Rattle.numbers_spec.proofs.Sums.{sub_mono}
use Rattle.matcher_spec.specs.Centring.{context_frames}
use Rattle.engine_spec.specs.Thresholds.{chain_ms, chain_recent}
use Rattle.engine_spec.specs.Windows.{Window, start, endpoint_of, evidence, evidence_at, jumps_from, ◌after◌}
use Rattle.engine_spec.specs.Chain.{window_at, shown_at, spectral_at, whole_at, Passes, when, jump_at, interrupts, Unbroken, Latest, neighbouring, keeping, Chain}
use Rattle.engine_spec.specs.Lists.{Answered}
use Rattle.engine_spec.specs.Cases.{interrupting}
use Rattle.engine_spec.specs.declared.types.RecordedMs.{RecordedMs}
use Rattle.engine_spec.proofs.Tests.{not_or_l, below_or}

-- without a jump the endpoint doesn't go back
onward : (hop : Float) (last : RecordedMs) (w : Window) → T (not (jumps_from hop last w)) → T (not (lt (endpoint_of w).0 last.0))
unfolding jumps_from
onward hop last w h = not_or_l (lt (endpoint_of w).0 last.0) (lt (last.0 ⊕ two ⊗ hop) (start w).0) h

-- evidence times are in the order of endpoints
evidence_mono : (hop : Float) (v w : Window) → T (finite (context_frames hop ⊗ hop)) → T (finite (endpoint_of v).0) → T (finite (endpoint_of w).0) → T (le (endpoint_of v).0 (endpoint_of w).0) → T (le (evidence hop v).0 (evidence hop w).0)
unfolding evidence_at
evidence_mono hop v w f x y h = sub_mono binary64 (endpoint_of v).0 (endpoint_of w).0 (context_frames hop ⊗ hop) x y f h

module _ (hop : Float) (a : ℕ → Answered) where
  -- all that a chain from i asks, but for its end: of every answer below n
  pub record Open (i n : ℕ) : Type 0 where
    pub order : i < n
    pub first : Passes hop a i
    pub neighbours : (p q : ℕ) → i ≤ p → q < n → Latest hop a p q → Passes hop a q → T (neighbouring hop a p q)
    pub unbroken : (k : ℕ) → i < k → k < n → T (not (interrupts hop a k))
    pub weak : (p k : ℕ) → i ≤ p → k < n → Latest hop a p k → T (whole_at hop a k) → (Passes hop a k → ⊥) → T (keeping hop a p k)

  pub open_down : (i n : ℕ) → Open i (suc n) → i < n → Open i n
  open_down i n h l = record {
    order = l;
    first = h.first;
    neighbours = λ p q x y. h.neighbours p q x (omega arith);
    unbroken = λ k x y. h.unbroken k x (omega arith);
    weak = λ p k x y. h.weak p k x (omega arith);
  }

  -- a passing answer opens one
  pub open_new : (n : ℕ) → Passes hop a n → Open n (suc n)
  open_new n h = record {
    order = le_refl (suc n);
    first = h;
    neighbours = λ p q x y z. absurd (lt_irrefl 0 (let u = z.before in omega arith));
    unbroken = λ k x y. absurd (lt_irrefl 0 (omega arith));
    weak = λ p k x y z. absurd (lt_irrefl 0 (let u = z.before in omega arith));
  }

  -- an answer that neither interrupts nor lies elsewhere leaves it open
  pub open_up : (i n : ℕ) → Open i n → T (not (interrupts hop a n))
      → ((p : ℕ) → Latest hop a p n → Passes hop a n → T (neighbouring hop a p n))
      → ((p : ℕ) → Latest hop a p n → T (whole_at hop a n) → (Passes hop a n → ⊥) → T (keeping hop a p n))
      → Open i (suc n)
  open_up i n h u v w = record {
    order = let o = h.order in omega arith;
    first = h.first;
    neighbours = λ p q x y z c. elim (below_or q n y) [
      | inl l ↦ h.neighbours p q x l z c
      | inr e ↦ subst (λ (m : ℕ). T (neighbouring hop a p m)) (sym e) (v p (subst (λ (m : ℕ). Latest hop a p m) e z) (subst (λ (m : ℕ). Passes hop a m) e c))
    ];
    unbroken = λ k x y. elim (below_or k n y) [
      | inl l ↦ h.unbroken k x l
      | inr e ↦ subst (λ (m : ℕ). T (not (interrupts hop a m))) (sym e) u
    ];
    weak = λ p k x y z c d. elim (below_or k n y) [
      | inl l ↦ h.weak p k x l z c d
      | inr e ↦ subst (λ (m : ℕ). T (keeping hop a p m)) (sym e) (w p (subst (λ (m : ℕ). Latest hop a p m) e z) (subst (λ (m : ℕ). T (whole_at hop a m)) e c) (subst (λ (m : ℕ). Passes hop a m → ⊥) e d))
    ];
  }

  -- an open chain and a chain
  pub chain_of : (i j : ℕ) → Open i (suc j) → Passes hop a j → T (le (chain_ms ⊖ hop) (when hop a j after when hop a i)) → T (le chain_recent (spectral_at hop a j).recent_correlation) → Chain hop a i j
  chain_of i j h p x y = record {
    order = let o = h.order in omega arith;
    first = h.first;
    last = p;
    neighbours = λ p q u v. h.neighbours p q u (omega arith);
    unbroken = λ k u v. h.unbroken k u (omega arith);
    weak = λ p k u v. h.weak p k u (omega arith);
    long = x;
    recent = y;
  }

  pub open_of : (i j : ℕ) → Chain hop a i j → Open i (suc j)
  open_of i j h = record {
    order = let o = h.order in omega arith;
    first = h.first;
    neighbours = λ p q u v. h.neighbours p q u (omega arith);
    unbroken = λ k u v. h.unbroken k u (omega arith);
    weak = λ p k u v z c d. elim (below_or k j v) [
      | inl l ↦ h.weak p k u l z c d
      | inr e ↦ absurd (d (subst (λ (m : ℕ). Passes hop a m) (sym e) h.last))
    ];
  }

  -- an open chain begins no later than the last passing answer
  pub begins : (i p n : ℕ) → Open i n → Latest hop a p n → i ≤ p
  begins i p n h l = go (ltb p i) (ltb→lt p i) (nltb→le p i)
    where
      go : (b : Bool) → (T b → p < i) → (T (not b) → i ≤ p) → i ≤ p
      go true x y = absurd (l.none_since i (x tt) h.order h.first)
      go false x y = y tt

  -- ---- the last passing answer
  pub latest_unique : (p q n : ℕ) → Latest hop a p n → Latest hop a q n → p ≡ q
  latest_unique p q n h k = go (ltb p q) (ltb q p) (ltb→lt p q) (nltb→le p q) (ltb→lt q p) (nltb→le q p)
    where
      go : (b c : Bool) → (T b → p < q) → (T (not b) → q ≤ p) → (T c → q < p) → (T (not c) → p ≤ q) → p ≡ q
      go true c x y z w = absurd (h.none_since q (x tt) k.before k.passed)
      go false true x y z w = absurd (k.none_since p (z tt) h.before h.passed)
      go false false x y z w = let u : q ≤ p = y tt in let v : p ≤ q = w tt in omega arith

  pub latest_new : (n : ℕ) → Passes hop a n → Latest hop a n (suc n)
  latest_new n h = record { before = le_refl (suc n); passed = h; none_since = λ m x y z. lt_irrefl 0 (omega arith) }

  pub latest_up : (p n : ℕ) → Latest hop a p n → (Passes hop a n → ⊥) → Latest hop a p (suc n)
  latest_up p n h k = record {
    before = let u = h.before in omega arith;
    passed = h.passed;
    none_since = λ m x y z. elim (below_or m n y) [ inl l ↦ h.none_since m x l z | inr e ↦ k (subst (λ (m : ℕ). Passes hop a m) e z) ];
  }

  -- ---- evidence times grow where nothing interrupts
  pub record Timely (n : ℕ) : Type 0 where
    pub endpoint : (i : ℕ) → i < n → T (finite (endpoint_of (window_at hop a i)).0)
    pub evidence : (i : ℕ) → i < n → T (finite (when hop a i).0)

  pub timely_up : (n : ℕ) → Timely n → T (finite (endpoint_of (window_at hop a n)).0) → T (finite (when hop a n).0) → Timely (suc n)
  timely_up n t x y = record {
    endpoint = λ i h. elim (below_or i n h) [ inl l ↦ t.endpoint i l | inr e ↦ subst (λ (k : ℕ). T (finite (endpoint_of (window_at hop a k)).0)) (sym e) x ];
    evidence = λ i h. elim (below_or i n h) [ inl l ↦ t.evidence i l | inr e ↦ subst (λ (k : ℕ). T (finite (when hop a k).0)) (sym e) y ];
  }

  pub later : (n : ℕ) → T (finite (context_frames hop ⊗ hop)) → Timely n → (i j : ℕ) → i ≤ j → j < n → Unbroken hop a i j → T (le (when hop a i).0 (when hop a j).0)
  later n f t i zero h l u = let e : i ≡ 0 = omega arith in subst (λ (m : ℕ). T (le (when hop a m).0 (when hop a 0).0)) (sym e) (le_self (when hop a 0).0 (t.evidence 0 l))
  later n f t i (suc j) h l u = elim (below_or i (suc j) (omega arith)) [
    | inl b ↦
        let x = t.endpoint j (omega arith) in
        let y = t.endpoint (suc j) l in
        let ahead = onward hop (endpoint_of (window_at hop a j)) (window_at hop a (suc j)) (not_or_l (jump_at hop a (suc j)) (interrupting (shown_at hop a (suc j)).state) (u (suc j) b (le_refl (suc j)))) in
        le_transitive (when hop a i).0 (when hop a j).0 (when hop a (suc j)).0 (later n f t i j (omega arith) (omega arith) (λ k x y. u k x (omega arith)))
        (evidence_mono hop (window_at hop a j) (window_at hop a (suc j)) f x y
        (not-lt→le (endpoint_of (window_at hop a (suc j))).0 (endpoint_of (window_at hop a j)).0 (finite_no_nan _ y) (finite_no_nan _ x) ahead))
    | inr e ↦ subst (λ (m : ℕ). T (le (when hop a m).0 (when hop a (suc j)).0)) (sym e) (le_self (when hop a (suc j)).0 (t.evidence (suc j) l))
  ]
