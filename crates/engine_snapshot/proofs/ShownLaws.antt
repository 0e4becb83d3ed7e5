-- The candidates that a snapshot shows, and magnitudes. Assumes nothing.
use Prim.Native.Nat.{ℕ, suc, ◌+◌, ◌-◌, ◌<◌}
use native.Mathlib.Omega.{arith}
use native.Mathlib.Numerals.{add-one}
use mathlib.Core.Bool.{false}
use mathlib.Core.List.{List, [], ◌∷◌, ◌++◌}
use mathlib.Core.Path.{◌≡◌, refl, sym, ap, subst, ◌∙◌}
use lib.ListN.{length, get_or, set, take, replicate, length-append}
use lib.Seq.{length-take-le, set_at, append_snoc, take-suc}
use lib.Ieee.{Float, nan, inf, fin}
use Rattle.std.specs.Float.{float_with_sign}
use Rattle.numbers_spec.specs.Arithmetic.{magnitude}
use Rattle.matcher_spec.specs.declared.types.Candidate.{Candidate}
use Rattle.engine_spec.specs.Opening.{blank_candidate}
use Rattle.engine_spec.specs.Publishing.{candidate_shown, candidates_shown, candidate_array}
use Rattle.engine_spec.specs.declared.types.CandidateDiagnostics.{CandidateDiagnostics}

module _ (n : ℕ) (r : Float) where
  snoc : (a : List Candidate) (c : Candidate) → candidates_shown n r (a ++ (c ∷ [])) ≡ candidates_shown n r a ++ (candidate_shown n r c ∷ [])
  unfolding candidates_shown
  snoc [] c = refl
  snoc (x ∷ a) c = ap (λ (l : List CandidateDiagnostics). candidate_shown n r x ∷ l) (snoc a c)

  long : (a : List Candidate) → length (candidates_shown n r a) ≡ length a
  unfolding candidates_shown
  long [] = refl
  long (x ∷ a) = ap suc (long a)

  next : (a : List Candidate) (c : Candidate) → length a < 8 → set (candidate_array n r a) (length a) (candidate_shown n r c) ≡ candidate_array n r (a ++ (c ∷ []))
  next a c h =
      let e : 8 - length a ≡ suc (8 - (length a + 1)) = omega arith in
      rw (snoc a c, length-append, e)
      (set_at (candidates_shown n r a) blank_candidate (replicate (8 - (length a + 1)) blank_candidate) (candidate_shown n r c) (length a) (long a)
      ∙ sym (append_snoc (candidates_shown n r a) (candidate_shown n r c) (replicate (8 - (length a + 1)) blank_candidate)))

  pub shown_more : (l : List Candidate) (i : ℕ) (z : Candidate) → i < length l → i < 8 → set (candidate_array n r (take i l)) i (candidate_shown n r (get_or l i z)) ≡ candidate_array n r (take (i + 1) l)
  shown_more l i z h k =
      let q : length (take i l) ≡ i = length-take-le i l (omega arith) in
      rw (add-one i, take-suc l i z h)
      (subst (λ (j : ℕ). set (candidate_array n r (take i l)) j (candidate_shown n r (get_or l i z)) ≡ candidate_array n r (take i l ++ (get_or l i z ∷ []))) q (next (take i l) (get_or l i z) (rw q k)))

-- ---- magnitudes
pub without_sign : (x : Float) → float_with_sign false x ≡ magnitude x
unfolding float_with_sign magnitude
without_sign nan = refl
without_sign (inf s) = refl
without_sign (fin s m e) = refl
