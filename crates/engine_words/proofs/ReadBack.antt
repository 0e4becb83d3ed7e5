-- What was written is read back, part by part. Assumes nothing.
use Prim.Native.Nat.{ℕ, ◌+◌, ◌≤◌}
use mathlib.Core.Path.{◌≡◌, refl, sym, ap, ◌∙◌}
use mathlib.Core.List.{List, [], ◌∷◌, ◌++◌}
use native.Mathlib.Omega.{arith}
use lib.ListN.{length, drop, get_or}
use lib.Seq.{take_all, take_at, get_or_at}
use Rattle.std.specs.Prelude.{Option, None, Some}
use Rattle.engine_spec.specs.Milestones.{milestones_shown}
use Rattle.engine_spec.specs.declared.types.Diagnostics.{Diagnostics}
use Rattle.engine_spec.specs.declared.types.Snapshot.{Snapshot}
use Rattle.engine_spec.specs.declared.types.Lock.{Lock}
use Rattle.engine_spec.specs.declared.types.Last.{Last}
use Rattle.engine_spec.specs.declared.types.Engine.{Engine}
use Rattle.engine_spec.specs.declared.types.Estimate.{Estimate}
use Rattle.engine_layout.specs.Layout.{layout, float, bool_of, part, state_of, phase_of, stage_of, reason_of, option_of, recorded_of, estimate_of, hypothesis_of, milestones_of, spectral_of, candidates_of, diagnostics_with, diagnostics_of, snapshot_of, snapshot_in, configuration_of, settings_of, lock_of, last_of, engine_of, state_in}
use Rattle.engine_layout.specs.Written.{estimate_words, engine_words, placed, state_as_words, ReadsBack}
use Rattle.engine_layout.proofs.Laws.{Laid, last_part, front_part, placed_tail}
use Rattle.engine_layout.proofs.Lengths.{both_long, engine_long}

-- What a function wrote, a reader gives back: so it does of the definition's words.
pub given_back : {A B : Type 0} (read : A → B) {written words : A} {x : B} → written ≡ words → read written ≡ x → read words ≡ x
given_back read value back = ap read (sym value) ∙ back

-- ---- a snapshot
whole : (n : ℕ) (xs : List ℕ) → length xs ≡ n → part 0 n xs ≡ xs
whole n xs e = take_all n xs (omega arith)

pub diagnostics_back : (d : Diagnostics) (n c s : List ℕ) → length n ≡ 12 → length c ≡ 40 → length s ≡ 9
    → diagnostics_with n d.candidates d.spectral ≡ d → candidates_of c ≡ d.candidates → spectral_of s ≡ d.spectral → diagnostics_of (n ++ c ++ s) ≡ d
unfolding diagnostics_of
diagnostics_back d n c s ln lc ls pn pc ps =
    let l : length (n ++ c) ≡ 52 = both_long n c ln lc in
    let en : part 0 12 (n ++ c ++ s) ≡ n = front_part 0 12 (n ++ c) s (omega arith) ∙ front_part 0 12 n c (omega arith) ∙ whole 12 n ln in
    let ec : part 12 40 (n ++ c ++ s) ≡ c = front_part 12 40 (n ++ c) s (omega arith) ∙ last_part 12 40 n c ln lc in
    let es : part 52 9 (n ++ c ++ s) ≡ s = last_part 52 9 (n ++ c) s l ls in
    simp (en, ec, es, pc, ps, pn)

snapshot_parts : (s : Snapshot) (x : Option Estimate) (a b c e0 e1 e2 e3 r f : ℕ) (d m : List ℕ) → estimate_words x ≡ e0 ∷ e1 ∷ e2 ∷ e3 ∷ [] → length d ≡ 61 → length m ≡ 6
    → state_of a ≡ s.state → phase_of b ≡ s.phase → stage_of c ≡ s.stage → estimate_of (estimate_words x) ≡ s.estimate → reason_of r ≡ s.withhold_reason → float f ≡ s.confidence
    → diagnostics_of d ≡ s.diagnostics → milestones_of m ≡ milestones_shown s → snapshot_of ((a ∷ b ∷ c ∷ []) ++ estimate_words x ++ (r ∷ f ∷ []) ++ d ++ m) ≡ s
unfolding snapshot_of
snapshot_parts s x a b c e0 e1 e2 e3 r f d m q ld lm pa pb pc px pr pf pd pm =
    let em : milestones_of (part 61 6 (d ++ m)) ≡ milestones_shown s = ap milestones_of (last_part 61 6 d m ld lm) ∙ pm in
    let ex : estimate_of (e0 ∷ e1 ∷ e2 ∷ e3 ∷ []) ≡ s.estimate = ap estimate_of (sym q) ∙ px in
    ap (λ (e : List ℕ). snapshot_of ((a ∷ b ∷ c ∷ []) ++ e ++ (r ∷ f ∷ []) ++ d ++ m)) q
    ∙ (λ i. record {
      state = pa i;
      phase = pb i;
      stage = pc i;
      estimate = ex i;
      withhold_reason = pr i;
      confidence = pf i;
      diagnostics = (ap diagnostics_of (front_part 0 61 d m (omega arith) ∙ whole 61 d ld) ∙ pd) i;
      first_provisional_lock_elapsed_ms = (em i).first_provisional_ms;
      confirmed_lock_elapsed_ms = (em i).confirmed_ms;
      final_lock_elapsed_ms = (em i).final_ms;
    })

pub snapshot_back : (s : Snapshot) (x : Option Estimate) (a b c r f : ℕ) (d m : List ℕ) → length d ≡ 61 → length m ≡ 6
    → state_of a ≡ s.state → phase_of b ≡ s.phase → stage_of c ≡ s.stage → estimate_of (estimate_words x) ≡ s.estimate → reason_of r ≡ s.withhold_reason → float f ≡ s.confidence
    → diagnostics_of d ≡ s.diagnostics → milestones_of m ≡ milestones_shown s → snapshot_of ((a ∷ b ∷ c ∷ []) ++ estimate_words x ++ (r ∷ f ∷ []) ++ d ++ m) ≡ s
unfolding estimate_words
snapshot_back s None a b c r f d m = snapshot_parts s None a b c _ _ _ _ r f d m refl
snapshot_back s (Some e) a b c r f d m = snapshot_parts s (Some e) a b c _ _ _ _ r f d m refl

-- ---- a state
pub lock_back : (l : Lock) (p a : List ℕ) (f : ℕ) → length p ≡ 5 → length a ≡ 5 → hypothesis_of p ≡ l.pending → hypothesis_of a ≡ l.accepted → recorded_of f ≡ l.last_global_search_ms → lock_of (p ++ a ++ (f ∷ [])) ≡ l
unfolding lock_of
lock_back l p a f lp la pp pa pf =
    let n : length (p ++ a) ≡ 10 = both_long p a lp la in
    let ep : part 0 5 (p ++ a ++ (f ∷ [])) ≡ p = front_part 0 5 (p ++ a) (f ∷ []) (omega arith) ∙ front_part 0 5 p a (omega arith) ∙ whole 5 p lp in
    let ea : part 5 5 (p ++ a ++ (f ∷ [])) ≡ a = front_part 5 5 (p ++ a) (f ∷ []) (omega arith) ∙ last_part 5 5 p a lp la in
    let ef : get_or (p ++ a ++ (f ∷ [])) 10 0 ≡ f = get_or_at (p ++ a) f [] 0 10 n in
    λ i. record {
      pending = (ap hypothesis_of ep ∙ pp) i;
      accepted = (ap hypothesis_of ea ∙ pa) i;
      last_global_search_ms = (ap recorded_of ef ∙ pf) i;
    }

pub last_back : (l : Last) (a b c : ℕ) (s : List ℕ) → length s ≡ 76 → option_of recorded_of a b ≡ l.endpoint_ms → bool_of c ≡ l.has_snapshot → snapshot_of s ≡ l.snapshot → last_of ((a ∷ b ∷ c ∷ []) ++ s) ≡ l
unfolding last_of
last_back l a b c s n pe pb ps = λ i. record { endpoint_ms = pe i; has_snapshot = pb i; snapshot = (ap snapshot_of (whole 76 s n) ∙ ps) i }

pub engine_back : (e : Engine) (c s l m t : List ℕ) → length c ≡ 5 → length s ≡ 4 → length l ≡ 11 → length m ≡ 6 → length t ≡ 79
    → configuration_of c ≡ e.configuration → settings_of s ≡ e.settings → lock_of l ≡ e.lock → milestones_of m ≡ e.milestones → last_of t ≡ e.last → engine_of (c ++ s ++ l ++ m ++ t) ≡ e
unfolding engine_of
engine_back e c s l m t nc ns nl nm nt pc ps pl pm pt =
    let n9 : length (c ++ s) ≡ 9 = both_long c s nc ns in
    let n20 : length (c ++ s ++ l) ≡ 20 = both_long (c ++ s) l n9 nl in
    let n26 : length (c ++ s ++ l ++ m) ≡ 26 = both_long (c ++ s ++ l) m n20 nm in
    -- what comes after the settings does not count for the first two
    let front : (a k : ℕ) → a + k ≤ 9 → part a k (c ++ s ++ l ++ m ++ t) ≡ part a k (c ++ s) =
    λ a k h. front_part a k (c ++ s ++ l ++ m) t (omega arith) ∙ front_part a k (c ++ s ++ l) m (omega arith) ∙ front_part a k (c ++ s) l (omega arith) in
    let ec : part 0 5 (c ++ s ++ l ++ m ++ t) ≡ c = front 0 5 (omega arith) ∙ front_part 0 5 c s (omega arith) ∙ whole 5 c nc in
    let es : part 5 4 (c ++ s ++ l ++ m ++ t) ≡ s = front 5 4 (omega arith) ∙ last_part 5 4 c s nc ns in
    let el : part 9 11 (c ++ s ++ l ++ m ++ t) ≡ l = front_part 9 11 (c ++ s ++ l ++ m) t (omega arith) ∙ front_part 9 11 (c ++ s ++ l) m (omega arith) ∙ last_part 9 11 (c ++ s) l n9 nl in
    let em : part 20 6 (c ++ s ++ l ++ m ++ t) ≡ m = front_part 20 6 (c ++ s ++ l ++ m) t (omega arith) ∙ last_part 20 6 (c ++ s ++ l) m n20 nm in
    let et : part 26 79 (c ++ s ++ l ++ m ++ t) ≡ t = last_part 26 79 (c ++ s ++ l ++ m) t n26 nt in
    λ i. record {
      configuration = (ap configuration_of ec ∙ pc) i;
      settings = (ap settings_of es ∙ ps) i;
      lock = (ap lock_of el ∙ pl) i;
      milestones = (ap milestones_of em ∙ pm) i;
      last = (ap last_of et ∙ pt) i;
    }

-- ---- in a slice
front : (k : ℕ) (x : ℕ) (xs w : List ℕ) → length xs ≡ k → part 1 k (placed 0 (x ∷ xs) w) ≡ xs
front k x xs w n = take_at xs (drop (length (x ∷ xs)) w) k n

pub snapshot_in_lem : (s : Snapshot) (xs old new : List ℕ) → length xs ≡ 76 → snapshot_of xs ≡ s → Laid 0 77 ((layout ∷ []) ++ xs) old new → snapshot_in new ≡ s
snapshot_in_lem s xs old new n p l = ap (λ (w : List ℕ). snapshot_of (part 1 76 w)) l.there ∙ ap snapshot_of (front 76 layout xs old n) ∙ p

pub state_in_lem : (e : Engine) (xs old new : List ℕ) → length xs ≡ 105 → engine_of xs ≡ e → Laid 0 106 ((layout ∷ []) ++ xs) old new → state_in new ≡ e
unfolding state_in
state_in_lem e xs old new n p l = ap state_in l.there ∙ ap engine_of (front 105 layout xs old n) ∙ p

pub words_in : (e : Engine) (old new : List ℕ) → Laid 0 106 ((layout ∷ []) ++ engine_words e) old new → new ≡ placed 0 (state_as_words e) old
unfolding state_as_words
words_in e old new l = l.there

pub reads_back : (e : Engine) → engine_of (engine_words e) ≡ e → ReadsBack e
unfolding state_as_words state_in
reads_back e p = ap engine_of (take_all 105 (engine_words e) (omega (arith, engine_long e))) ∙ p

pub tail_in : (n : ℕ) (xs old new : List ℕ) → Laid 0 n xs old new → drop n new ≡ drop n old
tail_in n xs old new l = ap (drop n) l.there ∙ placed_tail 0 n n xs old l.long (omega arith) (omega arith)
