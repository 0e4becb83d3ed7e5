-- Of a list of 40 numbers or more the first 40 make the eight candidates. Assumes nothing.
use Rattle.std.proofs.Common.{◌≡◌, ℕ, ◌+◌, ◌<◌, List, [], ◌∷◌, take, Float, arith}
use Rattle.std.proofs.lemmas.List.{get_or-take}
use Rattle.std.specs.Float.{nan}
use Rattle.compare_exports.specs.MatcherCalls.{candidate_at, candidates_at}

candidate_front : (l : List Float) (i : ℕ) → i + 4 < 40 → candidate_at (take 40 l) i ≡ candidate_at l i
unfolding candidate_at
candidate_front l i h =
    λ j. record {
      offset_ms = get_or-take 40 l i nan (omega (arith, h)) j;
      score = get_or-take 40 l (i + 1) nan (omega (arith, h)) j;
      first_half_score = get_or-take 40 l (i + 2) nan (omega (arith, h)) j;
      second_half_score = get_or-take 40 l (i + 3) nan (omega (arith, h)) j;
      recent_score = get_or-take 40 l (i + 4) nan h j;
    }

pub candidates_front : (l : List Float) → candidates_at (take 40 l) ≡ candidates_at l
unfolding candidates_at
candidates_front l =
    λ j.
    candidate_front l 0 (omega arith) j
    ∷ candidate_front l 5 (omega arith) j
    ∷ candidate_front l 10 (omega arith) j
    ∷ candidate_front l 15 (omega arith) j
    ∷ candidate_front l 20 (omega arith) j
    ∷ candidate_front l 25 (omega arith) j
    ∷ candidate_front l 30 (omega arith) j
    ∷ candidate_front l 35 (omega arith) j
    ∷ []
