-- Statements on exact distances: what rounding changes, and a step from one value toward another by a part of the way. Definitions only.
use Rattle.std.specs.Prelude.{ℕ, suc, ◌+◌, ◌*◌, ◌^◌, ◌≤◌, ◌<◌, Bool, false, T, pos, Float}
use Rattle.std.specs.Float.{fin, Format, binary64}
use Rattle.std.specs.Float.Ieee.{prec, low, round, fits}
use Rattle.std.specs.Float.Ieee.Scale.{finite}
use Rattle.numbers_spec.specs.Arithmetic.{◌⊕◌, ◌⊖◌, ◌⊗◌, zero⁺, one, real}
use Rattle.numbers_spec.specs.Values.{Units, distance, AtMost, Between, OnStretch, Near, Beside}

-- ---- what rounding changes
-- Rounding moves a / c by at most half of 2 ^ -t, where a / c is at most r / 2 ^ t with an r of no more than the format's digits: up to there every multiple of 2 ^ -t is a value of the format. n is what is left, in units.
abbrev pub RoundMoves : Type 0
RoundMoves =
    (f : Format) (s : Bool) (a c t r n : ℕ) → 0 < c → t ≤ low f → r < 2 ^ prec f → a * 2 ^ t ≤ r * c → Units f (round f s a c) s n
    → 2 * 2 ^ t * distance s (a * 2 ^ low f) s (n * c) ≤ 2 ^ low f * c

-- ---- exact distances
-- What is at most n / d apart is at most as far apart as any larger n' / d',
abbrev pub NearWider : Type 0
NearWider = (n d n' d' : ℕ) (x y : Float) → 0 < d → n * d' ≤ n' * d → Near n d x y → Near n' d' x y

-- and as f64 subtracts: the difference that it gives is at most n / d, as f64 has that.
abbrev pub NearInF64 : Type 0
NearInF64 = (n d : ℕ) (x y : Float) → 0 < d → Near n d x y → AtMost (round binary64 false n d) (x ⊖ y)

-- ---- parts
-- 1 - p is from 0 to 1 where p is.
abbrev pub OneLess : Type 0
OneLess = (p : Float) → Between zero⁺ one p → Between zero⁺ one (one ⊖ p)

-- g × d lies between 0 and d for a g from 0 to 1, whatever the sign of d.
abbrev pub MulPart : Type 0
MulPart = (g d : Float) → T (fits binary64 d) → T (finite d) → Between zero⁺ one g → OnStretch zero⁺ d (g ⊗ d)

-- ---- a step
-- From o toward b by a part g of the way, where the way as f64 subtracts is at most m: the new value is at most m from o and lies between o and b, but for rounding. With room for multiples of 2 ^ -t up to m + 1, rounding adds three halves of 2 ^ -t to the first and two to the second, at any size of o and b.
pub record Stepped (m t : ℕ) (o b x : Float) : Type 0 where
  pub moved : Near (m * (2 * 2 ^ t) + 3) (2 * 2 ^ t) x o
  pub beside : Beside 2 (2 * 2 ^ t) o b x
  -- From within 2 ^ (p + 1), toward a b within 2 ^ p, it stays within 2 ^ (p + 1).
  pub stays : (p : ℕ) → AtMost (fin false 1 (pos (suc p))) o → AtMost (fin false 1 (pos p)) b → AtMost (fin false 1 (pos (suc p))) x

abbrev pub StepToward : Type 0
StepToward =
    (m t : ℕ) (o b g : Float) → t ≤ low binary64 → suc m * 2 ^ t < 2 ^ prec binary64 → T (fits binary64 o) → T (fits binary64 b) → T (finite o) → T (finite b)
    → T (finite (o ⊕ (b ⊖ o))) → AtMost (real m) (b ⊖ o) → Between zero⁺ one g → Stepped m t o b (o ⊕ g ⊗ (b ⊖ o))
