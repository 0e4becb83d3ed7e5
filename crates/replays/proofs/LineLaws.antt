-- How many lines a list of so many bytes has, and how many of some differ. Assumes nothing.
use Rattle.std.proofs.Common.{◌≡◌, ℕ, suc, ◌+◌, ◌-◌, ◌*◌, ◌/◌, ◌%◌, ◌<◌, min, Bool, not, List, length, filter, ap, ◌∙◌, arith, mod-lt, inl, inr}
use Rattle.std.proofs.Math.Nat.{suc-mul, mul-add-div_right, div-eq_of_lt}
use Rattle.std.proofs.lemmas.Bool.{cases_lt}
use Rattle.std.proofs.lemmas.Nat.{div-add-mod'}

-- how many lines differ
abbrev pub others : (List ℕ → Bool) → List (List ℕ) → ℕ
others agrees l = length (filter (λ line. not (agrees line)) l)

-- whole lines, and one more where some bytes are left
pub rounded_up : (n w : ℕ) → 0 < w → (n + (w - 1)) / w ≡ n / w + min 1 (n % w)
rounded_up n w some =
    let q = n / w in
    let r = n % w in
    let below : r < w = mod-lt n some in
    let parts : q * w + r ≡ n = div-add-mod' n w in
    elim (cases_lt 0 r) [
      | inl h ↦
          let e : n + (w - 1) ≡ suc q * w + (r - 1) = omega (arith, parts, suc-mul q w) in
          let z : (r - 1) / w ≡ 0 = div-eq_of_lt (omega (arith, below)) in
          ap (λ k. k / w) e ∙ mul-add-div_right some (suc q) (r - 1) ∙ omega (arith, z)
      | inr h ↦
          let e : n + (w - 1) ≡ q * w + (w - 1) = omega (arith, parts) in
          let z : (w - 1) / w ≡ 0 = div-eq_of_lt (omega arith) in
          ap (λ k. k / w) e ∙ mul-add-div_right some q (w - 1) ∙ omega (arith, z)
    ]
