-- Tests taken apart and put together: of a `cond`, of an `Option`, of `&&`, `||` and `not`. Assumes nothing.
use Prim.Native.Nat.{ℕ, suc, ◌≤◌, ◌<◌}
use mathlib.Core.Bool.{Bool, true, false, cond, not, ◌&&◌, ◌||◌}
use mathlib.Core.Logic.{◌⊎◌, inl, inr}
use mathlib.Core.Path.{◌≡◌, refl, subst}
use native.Mathlib.Omega.{arith}
use lib.Dec.{T, ltb, ltb→lt, nltb→le}
use Rattle.std.specs.Prelude.{Option, None, Some, is_some}
use Rattle.std.specs.Option.{option_map_or}

-- of a `cond`, with what its test says in each branch
pub cond_elim : {A : Type 0} (G : A → Type 0) (b : Bool) (x y : A) → (T b → G x) → (T (not b) → G y) → G (cond b x y)
cond_elim G true x y h k = h tt
cond_elim G false x y h k = k tt

-- of an `Option`, with which it is in each case
pub option_elim : {A B : Type 0} (G : B → Type 0) (f : A → B) (o : Option A) (x : B) → (o ≡ None → G x) → ((a : A) → o ≡ Some a → G (f a)) → G (option_map_or f o x)
option_elim G f None x h k = h refl
option_elim G f (Some a) x h k = k a refl

-- a value is not none
pub none_clash : {A C : Type 0} {a : A} → Some a ≡ None → C
none_clash e = absurd (subst (λ o. T (is_some o)) e tt)

pub and_l : (a b : Bool) → T (a && b) → T a
and_l true b t = tt
and_l false b t = t

pub and_r : (a b : Bool) → T (a && b) → T b
and_r true b t = t
and_r false b t = absurd t

pub and_i : (a b : Bool) → T a → T b → T (a && b)
and_i true b t u = u
and_i false b t u = t

pub or_split : (a b : Bool) → T (a || b) → T a ⊎ T b
or_split true b t = inl tt
or_split false b t = inr t

pub or_l : (a b : Bool) → T a → T (a || b)
or_l true b t = tt
or_l false b t = absurd t

pub or_r : (a b : Bool) → T b → T (a || b)
or_r true b t = tt
or_r false b t = t

pub not_or : (a b : Bool) → T (not a) → T (not b) → T (not (a || b))
not_or true b h k = h
not_or false b h k = k

pub not_or_l : (a b : Bool) → T (not (a || b)) → T (not a)
not_or_l true b h = h
not_or_l false b h = tt

pub not_or_r : (a b : Bool) → T (not (a || b)) → T (not b)
not_or_r true b h = absurd h
not_or_r false b h = h

pub not_not : (b : Bool) → T (not (not b)) → T b
not_not true h = tt
not_not false h = h

pub T-is : (b : Bool) → T b → b ≡ true
T-is true t = refl
T-is false t = absurd t

pub not_T_is : (b : Bool) → T (not b) → b ≡ false
not_T_is true t = absurd t
not_T_is false t = refl

-- below suc n: below n, or n itself
pub below_or : (i n : ℕ) → i < suc n → (i < n) ⊎ (i ≡ n)
below_or i n h = go (ltb i n) (ltb→lt i n) (nltb→le i n)
  where
    go : (b : Bool) → (T b → i < n) → (T (not b) → n ≤ i) → (i < n) ⊎ (i ≡ n)
    go true x y = inl (x tt)
    go false x y = inr (let k : n ≤ i = y tt in omega arith)
