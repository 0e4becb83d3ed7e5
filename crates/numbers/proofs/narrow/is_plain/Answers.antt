-- `numbers::narrow::is_plain` meets its contract. Assumes nothing.
use Rattle.std.proofs.Common.{◌≡◌, Bool, true, false, cond, ◌&&◌, ◌||◌, T, eqb, sym, refl, ap, ◌∙◌, subst, true≢false, eqb→eq}
use lib.Ieee.{Float, binary64, fits, le, lt, neg, of_bits, to_bits}
use Rattle.numbers.specs.Plain.{plain, normal_least, normal_most}
use Rattle.numbers_spec.specs.Arithmetic.{at_least, one}
use Rattle.numbers.proofs.narrow.Plain.{no_bits}
use Rattle.numbers.proofs.narrow.is_plain.Goals as goal

-- the floor that stands for a NaN
abbrev floor : Float
floor = neg one

-- what lies below the floor has no pattern of 0, and the floor has none
floored : (x : Float) → T (fits binary64 x) → eqb (to_bits binary64 (at_least floor x)) 0 ≡ eqb (to_bits binary64 x) 0
unfolding to_bits neg lt
floored x F = go (lt floor x) refl
  where
    other : (d : Bool) → (T d → to_bits binary64 x ≡ 0) → lt floor x ≡ false → false ≡ d
    other true e h = absurd (true≢false (sym (ap (lt floor) (no_bits x F (e tt))) ∙ h))
    other false e h = refl

    go : (b : Bool) → lt floor x ≡ b → eqb (to_bits binary64 (cond b x floor)) 0 ≡ eqb (to_bits binary64 x) 0
    go true h = refl
    go false h = other (eqb (to_bits binary64 x) 0) (eqb→eq (to_bits binary64 x) 0) h

pub returns : goal.returns
unfolding plain of_bits
returns c =
    let x = c.args.x in
    ap (λ (d : Bool). (le normal_least x && le x normal_most) || d) (ap (λ (y : Float). eqb (to_bits binary64 y) 0) c.at_least.ensures ∙ floored x (subst T (sym c.well_formed.0.1) tt))
