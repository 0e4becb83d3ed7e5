-- What rounding to whole, floor and ceiling give for finite values (document 01, Numbers). Definitions only.
-- A finite value is ±a / c: its sign, and the fraction m * up e / down e.
use Rattle.std.specs.Prelude.{ℕ, ◌+◌, ◌*◌, ◌≤◌, ◌<◌, Bool, true, false, not, ◌≡◌, ℤ, pos, T, Float}
use Rattle.std.specs.Float.{fin, binary64}
use Rattle.std.specs.Float.Ieee.{up, down, le, fits, of_bits}
use Rattle.std.specs.Float.Ieee.Exact.{HasValue}
use Rattle.std.specs.Float.Ieee.Scale.{finite}
use Rattle.numbers_spec.specs.Arithmetic.{◌⊕◌, zero⁺, one}
use Rattle.numbers_spec.specs.Logarithm.{half}
use Rattle.numbers_spec.specs.Whole.{whole_nearest, whole_below, whole_above}
use Rattle.numbers_spec.specs.Values.{Monotone}

-- ---- the whole number n beside the fraction a / c
-- at most a half above it, and less than a half below it: of two that are equally near, the larger
abbrev pub Nearest : ℕ → ℕ → ℕ → Type 0
Nearest a c n = (2 * (n * c) ≤ 2 * a + c) × (2 * a < 2 * (n * c) + c)

-- not above it, and less than 1 below it
abbrev pub Cut : ℕ → ℕ → ℕ → Type 0
Cut a c n = (n * c ≤ a) × (a < n * c + c)

-- not below it, and less than 1 above it
abbrev pub Raised : ℕ → ℕ → ℕ → Type 0
Raised a c n = (a ≤ n * c) × (n * c < a + c)

-- ---- the whole number ±n beside ±a / c, with the sign s (true: below zero)
-- a half goes away from zero
abbrev pub RoundsTo : Bool → ℕ → ℕ → ℕ → Type 0
RoundsTo s = Nearest

abbrev pub FloorsTo : Bool → ℕ → ℕ → ℕ → Type 0
FloorsTo false = Cut
FloorsTo true = Raised

abbrev pub CeilsTo : Bool → ℕ → ℕ → ℕ → Type 0
CeilsTo s = FloorsTo (not s)

-- r is an f64 and the whole number ±n, where n stands to a / c as the rule says. The sign stays, at a zero too.
pub record WholeFrom (rule : Bool → ℕ → ℕ → ℕ → Type 0) (s : Bool) (a c : ℕ) (r : Float) : Type 0 where
  pub n : ℕ
  pub value : HasValue r s n 1
  pub held : T (fits binary64 r)
  pub near : rule s a c n

-- ---- what holds of each of the three functions
pub record ToWhole (rule : Bool → ℕ → ℕ → ℕ → Type 0) (g : Float → Float) : Type 0 where
  -- every finite f64 goes to a whole number by the rule
  pub gives_whole : (s : Bool) (m : ℕ) (e : ℤ) → T (fits binary64 (fin s m e)) → WholeFrom rule s (m * up e) (down e) (g (fin s m e))
  -- a whole number stays
  pub keeps_whole : (x : Float) (s : Bool) (n : ℕ) → T (fits binary64 x) → HasValue x s n 1 → g x ≡ x
  -- a zero keeps its sign
  pub keeps_zero : (s : Bool) → g (fin s 0 (pos 0)) ≡ fin s 0 (pos 0)
  -- the order stays, on all values, infinities included
  pub monotone : Monotone g

abbrev pub RoundLaws : Type 0
RoundLaws = ToWhole RoundsTo whole_nearest

abbrev pub FloorLaws : Type 0
FloorLaws = ToWhole FloorsTo whole_below

abbrev pub CeilLaws : Type 0
CeilLaws = ToWhole CeilsTo whole_above

-- ---- floor and ceiling by the order alone
-- r is not above x, and no whole f64 that is not above x is above r
pub record LargestBelow (x r : Float) : Type 0 where
  pub below : T (le r x)
  pub largest : (y : Float) (t : Bool) (k : ℕ) → T (fits binary64 y) → HasValue y t k 1 → T (le y x) → T (le y r)

-- r is not below x, and no whole f64 that is not below x is below r
pub record SmallestAbove (x r : Float) : Type 0 where
  pub above : T (le x r)
  pub smallest : (y : Float) (t : Bool) (k : ℕ) → T (fits binary64 y) → HasValue y t k 1 → T (le x y) → T (le r y)

abbrev pub FloorLargest : Type 0
FloorLargest = (x : Float) → T (fits binary64 x) → T (finite x) → LargestBelow x (whole_below x)

abbrev pub CeilSmallest : Type 0
CeilSmallest = (x : Float) → T (fits binary64 x) → T (finite x) → SmallestAbove x (whole_above x)

-- ---- two examples
-- -0.4 rounds to -0.0, and so does its ceiling.
abbrev pub minus_two_fifths : Float
minus_two_fifths = of_bits binary64 0xbfd999999999999a

pub record MinusZero : Type 0 where
  pub rounded : whole_nearest minus_two_fifths ≡ fin true 0 (pos 0)
  pub ceiling : whole_above minus_two_fifths ≡ fin true 0 (pos 0)

-- 0.49999999999999994, the last f64 below a half, rounds to 0. The f64 sum of it and 0.5 is 1, so floor(x + 0.5) is another function.
abbrev pub under_half : Float
under_half = of_bits binary64 0x3fdfffffffffffff

pub record NotFloorOfSum : Type 0 where
  pub rounded : whole_nearest under_half ≡ zero⁺
  pub floor_of_sum : whole_below (under_half ⊕ half) ≡ one
