-- The engine's test of a whole search (`passing`) and the chain's test of an answer (`passes`) agree, as the halves are no NaN: of numbers, the least of two reaches a threshold where both do. Assumes nothing.
use mathlib.Core.Bool.{Bool, true, false, cond, not, ◌&&◌}
use mathlib.Core.List.{List, [], ◌∷◌}
use mathlib.Core.Path.{◌≡◌, refl}
use lib.Dec.{T}
use lib.Ieee.{Float, is_nan, lt, le, of_bits}
use Rattle.numbers_spec.specs.Arithmetic.{zero⁺, least}
use Rattle.numbers_spec.specs.Values.{Number}
use Rattle.numbers_spec.proofs.Order.{le_transitive, lt→le, not-lt→le}
use Rattle.matcher_spec.specs.Candidates.{margin_of}
use Rattle.matcher_spec.specs.declared.types.Candidate.{Candidate}
use Rattle.engine_spec.specs.Thresholds.{passing_correlation, passing_margin, passing_half}
use Rattle.engine_spec.specs.Locking.{passing}
use Rattle.engine_spec.specs.Chain.{passes}
use Rattle.engine_spec.specs.declared.types.Snapshot.{Snapshot}
use Rattle.engine_spec.proofs.Tests.{cond_elim, and_l, and_r, and_i}
use Rattle.engine_spec.proofs.Effects.{Shown}

-- ---- the least of two numbers
least_both : (k x y : Float) → Number x → Number y → T (le k (least x y)) → T (le k x) × T (le k y)
unfolding least
least_both k x y X Y = go (is_nan y) Y
  where
    go : (q : Bool) → T (not q) → T (le k (cond q x (cond (lt x y) x y))) → T (le k x) × T (le k y)
    go true Q = absurd Q
    go false Q = cond_elim (λ (z : Float). T (le k z) → T (le k x) × T (le k y)) (lt x y) x y
        (λ h t. (t, le_transitive k x y t (lt→le x y h)))
        (λ h t. (le_transitive k y x t (not-lt→le x y X Y h), t))

both_least : (k x y : Float) → T (le k x) → T (le k y) → T (le k (least x y))
unfolding least
both_least k x y h i = cond_elim (λ (z : Float). T (le k z)) (is_nan y) x (cond (lt x y) x y) (λ _. h)
    (λ _. cond_elim (λ (z : Float). T (le k z)) (lt x y) x y (λ _. h) (λ _. i))

-- ---- the two tests
-- The engine's, with both halves named.
abbrev pub both : List Candidate → Bool
both [] = false
both (c ∷ l) = le passing_correlation c.score && (le passing_margin (margin_of (c ∷ l)) && (le passing_half c.first_half_score && le passing_half c.second_half_score))

pub passing→both : (c : Candidate) (l : List Candidate) → Number c.first_half_score → Number c.second_half_score → T (passing (c ∷ l)) → T (both (c ∷ l))
unfolding passing
passing→both c l x y t =
    let A = le passing_correlation c.score in
    let B = le passing_margin (margin_of (c ∷ l)) in
    let C = le passing_half (least c.first_half_score c.second_half_score) in
    let F = le passing_half c.first_half_score in
    let G = le passing_half c.second_half_score in
    let u = and_r A (B && C) t in
    let h = least_both passing_half c.first_half_score c.second_half_score x y (and_r B C u) in
    and_i A (B && (F && G)) (and_l A (B && C) t) (and_i B (F && G) (and_l B C u) (and_i F G h.0 h.1))

pub both→passing : (l : List Candidate) → T (both l) → T (passing l)
unfolding passing
both→passing [] t = t
both→passing (c ∷ l) t =
    let A = le passing_correlation c.score in
    let B = le passing_margin (margin_of (c ∷ l)) in
    let C = le passing_half (least c.first_half_score c.second_half_score) in
    let F = le passing_half c.first_half_score in
    let G = le passing_half c.second_half_score in
    let u = and_r A (B && (F && G)) t in
    let r = and_r B (F && G) u in
    and_i A (B && C) (and_l A (B && (F && G)) t)
    (and_i B C (and_l B (F && G) u) (both_least passing_half c.first_half_score c.second_half_score (and_l F G r) (and_r F G r)))

-- A search that found nothing shows a correlation of 0.
zero_fails : le passing_correlation zero⁺ ≡ false
unfolding le of_bits
zero_fails = refl

-- An answer passes where it shows a whole search that does.
pub passes_is : (n : Snapshot) (global : Bool) (found : List Candidate) → Shown n global found → passes n ≡ (global && both found)
unfolding passes
passes_is n false l h = rw h.whole
passes_is n true [] h = rw (h.whole, h.correlation, zero_fails)
passes_is n true (c ∷ l) h = rw (h.whole, h.correlation, h.margin, h.first_half, h.second_half)
