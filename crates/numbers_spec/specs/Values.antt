-- Words of the statements: values as whole numbers, bounds, and running sums. Definitions only.
use Rattle.std.specs.Prelude.{ℕ, suc, ◌+◌, ◌-◌, ◌*◌, ◌^◌, ◌≤◌, ◌<◌, Bool, false, cond, not, List, [], ◌∷◌, ◌⊎◌, T, Float}
use Rattle.std.specs.Bool.{beq}
use Rattle.std.specs.Float.{nan, inf, fin, Format, binary64}
use Rattle.std.specs.Float.Ieee.{prec, emax, low, up, down, add, le, fits, is_nan}
use Rattle.std.specs.Float.Ieee.Exact.{HasValue}
use Rattle.std.specs.Float.Ieee.Scale.{finite}
use Rattle.numbers_spec.specs.Arithmetic.{zero⁺, magnitude}
use Rattle.numbers_spec.specs.Logarithm.{smallest_normal}

-- x is no NaN.
abbrev pub Number : Float → Type 0
Number x = T (not (is_nan x))

-- v is a normal f64 above zero: finite, and 2 ^ -1022 or more.
pub record Normal (v : Float) : Type 0 where
  pub held : T (fits binary64 v)
  pub finite_is : T (finite v)
  pub least : T (le smallest_normal v)

-- x has the sign s, `true` for a minus; a zero has one too, and a NaN none.
abbrev pub sided : Bool → Float → Bool
sided s nan = false
sided s (inf t) = beq t s
sided s (fin t m e) = beq t s

-- ---- finite values as whole numbers
-- |x| is size x / Den x, for a finite x.
abbrev pub size : Float → ℕ
size nan = 0
size (inf s) = 0
size (fin s m e) = m * up e

abbrev pub Den : Float → ℕ
Den nan = 1
Den (inf s) = 1
Den (fin s m e) = down e

-- x is finite, has the sign s, and is n units of the format's smallest value, 2 ^ -1074 or 2 ^ -149. Every finite value of the format is a whole number of them.
abbrev pub Units : Format → Float → Bool → ℕ → Type 0
Units f x s n = HasValue x s n (2 ^ low f)

-- |±a - ±b|
abbrev pub distance : Bool → ℕ → Bool → ℕ → ℕ
distance s a t b = cond (beq s t) ((a - b) + (b - a)) (a + b)

-- ---- bounds that are floats
-- |x| ≤ b
abbrev pub AtMost : Float → Float → Type 0
AtMost b x = T (le (magnitude x) b)

-- 0 ≤ x: -0 is such an x, and a NaN is none.
abbrev pub NotNegative : Float → Type 0
NotNegative x = T (le zero⁺ x)

-- l ≤ x ≤ u
pub record Between (l u x : Float) : Type 0 where
  pub from : T (le l x)
  pub to : T (le x u)

-- The function g keeps the order. Where a NaN stands, `le` is false.
abbrev pub Monotone : (Float → Float) → Type 0
Monotone g = (x y : Float) → T (le x y) → T (le (g x) (g y))

-- x lies on the stretch between a and b, whichever of the two is the lower.
abbrev pub OnStretch : Float → Float → Float → Type 0
OnStretch a b x = Between a b x ⊎ Between b a x

-- ---- exact distances
-- x is finite, and so a whole number of units of 2 ^ -1074.
pub record InUnits (x : Float) : Type 0 where
  pub sign : Bool
  pub size : ℕ
  pub is : Units binary64 x sign size

-- x and y are at most n / d apart: exactly, with no rounding between. (2 ^ low units are 1.)
pub record Near (n d : ℕ) (x y : Float) : Type 0 where
  pub from : InUnits x
  pub to : InUnits y
  pub near : d * distance from.sign from.size to.sign to.size ≤ n * 2 ^ low binary64

-- x lies at most n / d outside the stretch between a and b: so near to a place on it.
pub record Beside (n d : ℕ) (a b x : Float) : Type 0 where
  pub place : Float
  pub on : OnStretch a b place
  pub near : Near n d x place

-- ---- bounds n * 2 ^ p
-- |x| ≤ n * 2 ^ p
pub record Within (n p : ℕ) (x : Float) : Type 0 where
  pub finite_is : T (finite x)
  pub small : size x ≤ n * 2 ^ p * Den x

-- n * 2 ^ p is a value of the format: n has no more than its digits, and the product lies below 2 ^ (emax + 1).
pub record Holds (f : Format) (n p : ℕ) : Type 0 where
  pub few : n < 2 ^ prec f
  pub room : n * 2 ^ p < 2 ^ suc (emax f)

-- Every value of the list is within 2 ^ p.
pub data Each (p : ℕ) : List Float → Type 0 where
  nothing : Each p []
  each : {x : Float} {l : List Float} → Within 1 p x → Each p l → Each p (x ∷ l)

-- The sum of the list from s on, each addition rounded, in the list's order.
abbrev pub running : Format → Float → List Float → Float
running f s [] = s
running f s (x ∷ l) = running f (add f s x) l
