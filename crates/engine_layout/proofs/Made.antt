-- An array that a function makes, place by place: `array::from_fn`. Assumes nothing.
use Prim.Native.Nat.{ℕ, zero, suc}
use mathlib.Core.Path.{◌≡◌, refl, sym, subst, ◌∙◌}
use mathlib.Core.List.{List, [], ◌∷◌}
use native.Mathlib.Numerals.{add-one}
use native.Mathlib.Omega.{arith}
use denote.Param.Members.{Mut, Called}
use Rattle.std.specs.Array.{IsFromFnResultFrom, IsFromFnResult}
use Rattle.engine_layout.proofs.Laws.{spell, spell_drop, cons_same}

-- h i, h (i + 1), .. of n
unfoldable pub listed : {B : Type 0} → (ℕ → B) → ℕ → ℕ → List B
listed h i zero = []
listed h i (suc n) = h i ∷ listed h (suc i) n

module _ {F B : Type 0} {g : Mut F (ℕ × Unit {0}) B} {f : F} (h : ℕ → B) (calls : (i : ℕ) (y : B) (q : F) → Called g f (i, tt) y q → (q ≡ f) × (y ≡ h i)) where
  made_from : (d : B) (n i : ℕ) (p : F) (ys : List B) → p ≡ f → IsFromFnResultFrom g p ys i n → spell d i n ys ≡ listed h i n
  unfolding spell listed
  made_from d zero i p ys e r = refl
  made_from d (suc n) i p ys e (q, y, at, call, rest) =
      let k = calls i y q (subst (λ (z : F). Called g z (i, tt) y q) e call) in
      cons_same (at.1 d ∙ k.1) (made_from d n (suc i) q ys k.0 (subst (λ (j : ℕ). IsFromFnResultFrom g q ys j n) (add-one i) rest))

  -- d is any value, for the places past the last.
  pub made : (d : B) {n : ℕ} {ys : List B} → IsFromFnResult g f ys n → ys ≡ listed h 0 n
  made d {n} {ys} r = sym (spell_drop d n 0 ys (omega (arith, r.long))) ∙ made_from d n 0 f ys refl r.each
