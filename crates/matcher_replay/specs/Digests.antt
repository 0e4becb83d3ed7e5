-- One word for many floats: the bits of all of them, in order. Definitions only.
use Rattle.std.specs.Prelude.{ℕ, List, [], ◌∷◌}
use Rattle.std.specs.List.{fold}
use Rattle.matcher_spec.specs.declared.types.Candidate.{Candidate}
use Rattle.replays.specs.Digests.{with_floats}

-- The five numbers of a candidate, and those of each of a list.
unfoldable pub with_candidate : ℕ → Candidate → ℕ
with_candidate word c = with_floats word (c.offset_ms ∷ c.score ∷ c.first_half_score ∷ c.second_half_score ∷ c.recent_score ∷ [])

abbrev pub with_candidates : ℕ → List Candidate → ℕ
with_candidates = fold with_candidate
