-- Tests taken apart: of a `cond`, of `||` and of `&&`. Assumes nothing.
use mathlib.Core.Path.{◌≡◌, refl, sym, subst, ◌∙◌}
use mathlib.Core.Bool.{Bool, true, false, cond, not, ◌&&◌, ◌||◌}
use lib.Dec.{T}

-- of a `cond`, with what its test says in each branch
pub cond_elim : {A : Type 0} (G : A → Type 0) (b : Bool) (x y : A) → (b ≡ true → G x) → (b ≡ false → G y) → G (cond b x y)
cond_elim G true x y h k = h refl
cond_elim G false x y h k = k refl

pub is_T : {b : Bool} → b ≡ true → T b
is_T e = rw e tt

pub is_not_T : {b : Bool} → b ≡ false → T (not b)
is_not_T e = rw e tt

pub T-is : (b : Bool) → T b → b ≡ true
T-is true t = refl
T-is false t = absurd t

-- a test is not both
pub never : {A : Type 0} {b : Bool} → b ≡ true → b ≡ false → A
never p q = absurd (subst T (sym p ∙ q) tt)

pub or_false_l : (a b : Bool) → a || b ≡ false → a ≡ false
or_false_l true b e = e
or_false_l false b e = refl

pub or_false_r : (a b : Bool) → a || b ≡ false → b ≡ false
or_false_r true b e = never refl e
or_false_r false b e = e

pub and_true_l : (a b : Bool) → a && b ≡ true → a ≡ true
and_true_l true b e = refl
and_true_l false b e = e

pub and_true_r : (a b : Bool) → a && b ≡ true → b ≡ true
and_true_r true b e = e
and_true_r false b e = never e refl

pub both : (a b : Bool) → a && b ≡ true → (a ≡ true) × (b ≡ true)
both a b e = (and_true_l a b e, and_true_r a b e)

pub and_last : (a b c d : Bool) → a && (b && (c && d)) ≡ true → d ≡ true
and_last a b c d h = and_true_r c d (and_true_r b (c && d) (and_true_r a (b && (c && d)) h))

pub and_false : (b : Bool) → b && false ≡ false
and_false true = refl
and_false false = refl
