-- Lists by a rule for their elements, flat lists by their rows, and sums in order. Definitions only.
use Rattle.std.specs.Prelude.{ℕ, zero, suc, ◌*◌, ◌<◌, Bool, true, cond, ◌&&◌, List, [], ◌∷◌, ◌++◌, map, T, length, get_or, take, drop, Float}
use Rattle.std.specs.Float.{nan, binary32}
use Rattle.std.specs.Float.Ieee.{fits}
use Rattle.numbers_spec.specs.Arithmetic.{◌⊕◌, zero⁺}
use Rattle.numbers_spec.specs.Narrow.{nearest_f32}
use Rattle.numbers_spec.specs.Root.{root_of}
use Rattle.numbers_spec.specs.Logarithm.{log1p_of}

-- f 0, f 1, .. f (n - 1)
unfoldable pub tabulate : {A : Type 0} → (ℕ → A) → ℕ → List A
tabulate f zero = []
tabulate f (suc n) = tabulate f n ++ (f n ∷ [])

-- The rows g 0, g 1, .. g (n - 1), one after the other.
unfoldable pub rows : {A : Type 0} → (ℕ → List A) → ℕ → List A
rows g zero = []
rows g (suc n) = rows g n ++ g n

-- Row b of a flat list whose rows have n elements each.
abbrev pub row : {A : Type 0} → ℕ → List A → ℕ → List A
row n flat b = take n (drop (b * n) flat)

-- Whether p holds of 0, 1, .. n - 1.
unfoldable pub all_to : (ℕ → Bool) → ℕ → Bool
all_to p zero = true
all_to p (suc n) = all_to p n && p n

-- 0.0 and then t 0, t 1, .. t (n - 1), added in this order in f64.
unfoldable pub sum_to : (ℕ → Float) → ℕ → Float
sum_to t zero = zero⁺
sum_to t (suc n) = sum_to t n ⊕ t n

-- For how many of 0, 1, .. n - 1 p holds.
unfoldable pub tally : (ℕ → Bool) → ℕ → ℕ
tally p zero = 0
tally p (suc n) = cond (p n) (suc (tally p n)) (tally p n)

-- ---- lists of floats
-- Every number of the list passes.
unfoldable pub every : (Float → Bool) → List Float → Bool
every p l = all_to (λ (i : ℕ). p (get_or l i nan)) (length l)

-- P holds of each value of the list.
abbrev pub Every : (Float → Type 0) → List Float → Type 0
Every P l = (i : ℕ) → i < length l → P (get_or l i nan)

-- x is an f32.
abbrev pub F32 : Float → Type 0
F32 x = T (fits binary32 x)

-- ---- functions of each number of a row
-- The nearest f32 of each number of a row.
unfoldable pub narrowed_of : List Float → List Float
narrowed_of x = map nearest_f32 x

-- The roots of a row of numbers.
unfoldable pub roots_of : List Float → List Float
roots_of [] = []
roots_of (x ∷ l) = root_of x ∷ roots_of l

-- `ln_1p` of each number of a row.
unfoldable pub logs_of : List Float → List Float
logs_of w = map log1p_of w
