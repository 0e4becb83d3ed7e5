-- std's `floor` and `ceil` are document 01's. Assumes nothing.
use Rattle.std.proofs.Common.{◌≡◌, ℕ, zero, suc, ◌+◌, ◌-◌, ◌*◌, ◌/◌, ◌%◌, ◌<◌, true, false, cond, eqb, refl, ap, ◌∙◌, mod-lt, ne_eqb, arith}
use Rattle.std.proofs.lemmas.Nat.{div-mul-add, div-add-mod'}
use Rattle.std.specs.Float.{ceil, floor, ratio_ceil, round_with}
use lib.Ieee.{Float, nan, inf, fin, binary64, round, up, down}
use lib.Ieee.Fits.{down_pos}
use Rattle.numbers_spec.specs.Whole.{upward, whole_above, whole_below}

upward_is : (n d : ℕ) → 0 < d → ratio_ceil n d ≡ upward n d
upward_is n d h = go (n % d) refl (mod-lt n h) (div-add-mod' n d)
  where
    q : ℕ
    q = n / d

    go : (r : ℕ) → n % d ≡ r → r < d → q * d + n % d ≡ n → (n + d - 1) / d ≡ cond (eqb (n % d) 0) q (suc q)
    go zero e l m = rw e (ap (λ (k : ℕ). k / d) (omega arith) ∙ div-mul-add q d (d - 1) (omega arith))
    go (suc r) e l m = rw (e, ne_eqb (suc r) 0 (λ z. let w = z in omega arith)) (ap (λ (k : ℕ). k / d) (omega arith) ∙ div-mul-add (suc q) d r (omega arith))

pub floor_is : (x : Float) → floor binary64 x ≡ whole_below x
unfolding round_with whole_below
floor_is nan = refl
floor_is (inf s) = refl
floor_is (fin true m e) = ap (λ (k : ℕ). round binary64 true k 1) (upward_is (m * up e) (down e) (down_pos e))
floor_is (fin false m e) = refl

pub ceil_is : (x : Float) → ceil binary64 x ≡ whole_above x
unfolding round_with whole_above
ceil_is nan = refl
ceil_is (inf s) = refl
ceil_is (fin true m e) = refl
ceil_is (fin false m e) = ap (λ (k : ℕ). round binary64 false k 1) (upward_is (m * up e) (down e) (down_pos e))
