-- The candidates' words: one row more, and all eight read back. Assumes nothing.
use Prim.Native.Nat.{ℕ, zero, suc, ◌+◌, ◌*◌, ◌≤◌, ◌<◌}
use mathlib.Core.Path.{◌≡◌, refl, sym, ◌∙◌}
use mathlib.Core.List.{List}
use native.Mathlib.Omega.{arith}
use lib.ListN.{length, get_or}
use Rattle.matcher_spec.specs.Limits.{candidates_most}
use Rattle.engine_spec.specs.declared.types.CandidateDiagnostics.{CandidateDiagnostics}
use Rattle.engine_layout.specs.Layout.{candidate_of, candidates_of}
use Rattle.engine_layout.specs.Written.{no_candidate, candidates_to, candidate_words, placed}
use Rattle.engine_layout.proofs.Laws.{Laid, next_laid, spell, spell_drop, cons_same}

pub candidate_long : (x : CandidateDiagnostics) → length (candidate_words x) ≡ 5
unfolding candidate_words
candidate_long x = refl

pub row_more : (c : List CandidateDiagnostics) (at i : ℕ) (old mid new ys : List ℕ) → Laid at (i * 5) (candidates_to i c) old mid → i < candidates_most → at + 40 ≤ length old → ys ≡ candidate_words (get_or c i no_candidate) → new ≡ placed (at + i * 5) ys mid → Laid at (suc i * 5) (candidates_to (suc i) c) old new
unfolding candidates_to
row_more c at i old mid new ys l h r e p = next_laid l e (candidate_long (get_or c i no_candidate)) (omega arith) (omega arith) p

-- Each of the first n candidates is read back.
unfoldable pub BackTo : ℕ → List CandidateDiagnostics → Type 0
BackTo zero l = Unit {0}
BackTo (suc n) l = BackTo n l × (candidate_of (candidate_words (get_or l n no_candidate)) ≡ get_or l n no_candidate)

pub all_written : (c : List CandidateDiagnostics) (at i : ℕ) {old new : List ℕ} → Laid at (i * 5) (candidates_to i c) old new → i ≡ candidates_most → new ≡ placed at (candidates_to candidates_most c) old
all_written c at i l e = (rw e at l).there

pub all_back : (c : List CandidateDiagnostics) (i : ℕ) → BackTo i c → i ≡ candidates_most → length c ≡ candidates_most → candidates_of (candidates_to candidates_most c) ≡ c
unfolding BackTo candidates_of candidates_to candidate_words spell
all_back c i l e h =
    let b : BackTo candidates_most c = rw e at l in
    cons_same b.0.0.0.0.0.0.0.1
    (cons_same b.0.0.0.0.0.0.1
    (cons_same b.0.0.0.0.0.1
    (cons_same b.0.0.0.0.1
    (cons_same b.0.0.0.1
    (cons_same b.0.0.1
    (cons_same b.0.1
    (cons_same b.1 refl)))))))
    ∙ spell_drop no_candidate 8 0 c (sym h)
