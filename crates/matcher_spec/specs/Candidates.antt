-- Candidates: order, the 750 rule and the margin (document 01, Matcher; matcher.rs, `match_query`, `MatchResult`). Definitions only.
use Rattle.std.specs.Prelude.{◌-◌, Bool, cond, List, [], ◌∷◌, ◌++◌, length, replicate, Float}
use Rattle.std.specs.Float.{binary64}
use Rattle.std.specs.Float.Ieee.{lt, of_bits}
use Rattle.std.specs.List.{list_any}
use Rattle.numbers_spec.specs.Arithmetic.{◌⊖◌, zero⁺, absolute}
use Rattle.matcher_spec.specs.Limits.{candidates_most}
use Rattle.matcher_spec.specs.declared.types.Candidate.{Candidate}

-- ---- stable order, highest score first
-- c before the first that scores lower: after those that score the same.
unfoldable pub insert : Candidate → List Candidate → List Candidate
insert c [] = c ∷ []
insert c (d ∷ ds) = cond (lt d.score c.score) (c ∷ d ∷ ds) (d ∷ insert c ds)

-- The candidates of the second list, put one after the other into the first.
unfoldable pub sort_into : List Candidate → List Candidate → List Candidate
sort_into done [] = done
sort_into done (c ∷ cs) = sort_into (insert c done) cs

abbrev pub sorted : List Candidate → List Candidate
sorted = sort_into []

-- ---- the 750 rule
-- 750
abbrev pub apart_ms : Float
apart_ms = of_bits binary64 0x4087700000000000

-- Whether c is nearer than 750 to one already listed.
unfoldable pub crowded : List Candidate → Candidate → Bool
crowded listed c = list_any (λ (d : Candidate). lt (absolute (d.offset_ms ⊖ c.offset_ms)) apart_ms) listed

-- The listed candidates and then, in order, those of the second list that are not too near to one listed before.
unfoldable pub independent_from : List Candidate → List Candidate → List Candidate
independent_from listed [] = listed
independent_from listed (c ∷ cs) = cond (crowded listed c) (independent_from listed cs) (independent_from (listed ++ (c ∷ [])) cs)

abbrev pub independent : List Candidate → List Candidate
independent = independent_from []

-- What stands where a list has no candidate.
abbrev pub blank : Candidate
blank = record { offset_ms = zero⁺; score = zero⁺; first_half_score = zero⁺; second_half_score = zero⁺; recent_score = zero⁺ }

-- The candidates found and blank ones behind the last, 8 in all.
abbrev pub eight_of : List Candidate → List Candidate
eight_of found = found ++ replicate (candidates_most - length found) blank

-- ---- the margin
-- The margin: the best score less the second; a lone candidate's is its own score, none gives 0.
unfoldable pub margin_of : List Candidate → Float
margin_of [] = zero⁺
margin_of (c ∷ []) = c.score
margin_of (c ∷ d ∷ ds) = c.score ⊖ d.score
