-- The candidates that a snapshot shows stand in the order found, so that what is apart among those found is apart among those shown. Assumes nothing.
use Prim.Native.Nat.{ℕ, zero, suc, ◌<◌}
use mathlib.Core.List.{List, [], ◌∷◌, ◌++◌}
use mathlib.Core.Path.{◌≡◌, refl, ap, subst, ◌∙◌}
use native.Mathlib.Nat.{le_of_suc-le-suc, not-suc-le-zero, lt_trans}
use lib.ListN.{length, get_or}
use lib.Ieee.{Float}
use Rattle.matcher_spec.specs.Candidates.{blank}
use Rattle.matcher_spec.specs.declared.types.Candidate.{Candidate}
use Rattle.matcher_spec.specs.ResultLaws.{Pairs, Far}
use Rattle.engine_spec.specs.Windows.{Window}
use Rattle.engine_spec.specs.Opening.{blank_candidate}
use Rattle.engine_spec.specs.Publishing.{candidates_shown}
use Rattle.engine_spec.specs.Guarantee.{Shows, Apart}
use Rattle.engine_spec.specs.declared.types.CandidateDiagnostics.{CandidateDiagnostics}
use Rattle.engine_spec.specs.declared.types.Snapshot.{Snapshot}

offset_at : (n : ℕ) (r : Float) (found : List Candidate) (rest : List CandidateDiagnostics) (j : ℕ) → j < length found
    → (get_or (candidates_shown n r found ++ rest) j blank_candidate).offset_ms ≡ (get_or found j blank).offset_ms
unfolding candidates_shown
offset_at n r [] rest j h = absurd (not-suc-le-zero h)
offset_at n r (c ∷ found) rest zero h = refl
offset_at n r (c ∷ found) rest (suc j) h = offset_at n r found rest j (le_of_suc-le-suc h)

-- candidate j of a snapshot is candidate j of its search
offset_shown_lem : (hop : Float) (w : Window) (found : List Candidate) (s : Snapshot) → Shows hop w found s → (j : ℕ) → j < length found
    → (get_or s.diagnostics.candidates j blank_candidate).offset_ms ≡ (get_or found j blank).offset_ms
offset_shown_lem hop w found s h j l = ap (λ (x : List CandidateDiagnostics). (get_or x j blank_candidate).offset_ms) h.candidates ∙ offset_at _ _ found _ j l

pub apart_shown : (hop : Float) (w : Window) (found : List Candidate) (s : Snapshot) → Shows hop w found s → Pairs Far found
    → (j k : ℕ) → j < k → k < s.diagnostics.candidate_count → Apart s j k
apart_shown hop w found s h far j k u v =
    let l : k < length found = subst (λ (n : ℕ). k < n) h.count v in
    let x = offset_shown_lem hop w found s h j (lt_trans u l) in
    let y = offset_shown_lem hop w found s h k l in
    let f = far j k u l in
    record { ahead = rw (x, y) f.ahead; back = rw (x, y) f.back }
