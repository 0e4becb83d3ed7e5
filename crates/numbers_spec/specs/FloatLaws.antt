-- Laws of float arithmetic, for all signs and both formats: what matcher and engine use of the order, of sums, products and quotients, and of narrowing. Definitions only.
-- `lt` and `le` are IEEE 754's order: -0 equals +0, and a NaN is neither below nor above anything. An operation rounds its exact result once.
use Rattle.std.specs.Prelude.{ℕ, suc, ◌+◌, ◌*◌, ◌^◌, ◌≤◌, ◌<◌, Bool, true, false, not, List, ◌⊎◌, ◌≡◌, T, pos, negsuc, length, Float}
use Rattle.std.specs.Float.{fin, Format, binary32, binary64}
use Rattle.std.specs.Float.Ieee.{round, add, sub, mul, div, neg, lt, le, fits}
use Rattle.std.specs.Float.Ieee.Positive.{positive}
use Rattle.std.specs.Float.Ieee.Scale.{finite}
use Rattle.numbers_spec.specs.Arithmetic.{zero⁺, one, real, absolute, magnitude}
use Rattle.numbers_spec.specs.Narrow.{nearest_f32}
use Rattle.numbers_spec.specs.Values.{Number, sided, size, Den, AtMost, NotNegative, Between, Monotone, Within, Holds, Each, running}

-- ---- the order
-- x ≤ y and y ≤ z give x ≤ z, on all values.
abbrev pub LeTransitive : Type 0
LeTransitive = (x y z : Float) → T (le x y) → T (le y z) → T (le x z)

-- x ≤ x, but for a NaN
abbrev pub LeReflexive : Type 0
LeReflexive = (x : Float) → Number x → T (le x x)

-- A finite value is no NaN, and x ≤ x; and so is its negation finite.
abbrev pub FiniteNumber : Type 0
FiniteNumber = (x : Float) → T (finite x) → Number x

abbrev pub LeSelf : Type 0
LeSelf = (x : Float) → T (finite x) → T (le x x)

abbrev pub NegFinite : Type 0
NegFinite = (x : Float) → T (finite x) → T (finite (neg x))

-- Of two values that are no NaN, one is at most the other.
abbrev pub LeTotal : Type 0
LeTotal = (x y : Float) → Number x → Number y → T (le x y) ⊎ T (le y x)

-- What is at most anything is no NaN.
abbrev pub LeNumber : Type 0
LeNumber = (x y : Float) → T (le x y) → Number x

-- x < y gives x ≤ y.
abbrev pub LtGivesLe : Type 0
LtGivesLe = (x y : Float) → T (lt x y) → T (le x y)

-- y ≤ x leaves x < y false.
abbrev pub LeForbidsLt : Type 0
LeForbidsLt = (x y : Float) → T (le y x) → T (not (lt x y))

-- Where neither is a NaN, not x < y is y ≤ x, and not y ≤ x is x < y.
abbrev pub NotLtGivesLe : Type 0
NotLtGivesLe = (x y : Float) → Number x → Number y → T (not (lt x y)) → T (le y x)

abbrev pub NotLeGivesLt : Type 0
NotLeGivesLt = (x y : Float) → Number x → Number y → T (not (le y x)) → T (lt x y)

-- What lies between two finite values is finite.
abbrev pub BetweenFinite : Type 0
BetweenFinite = (l u x : Float) → T (finite l) → T (finite u) → Between l u x → T (finite x)

-- x ≤ y gives -y ≤ -x.
abbrev pub NegAntitone : Type 0
NegAntitone = (x y : Float) → T (le x y) → T (le (neg y) (neg x))

-- |-x| is |x|, and x ≤ |x|.
abbrev pub MagnitudeNeg : Type 0
MagnitudeNeg = (x : Float) → magnitude (neg x) ≡ magnitude x

abbrev pub MagnitudeAbove : Type 0
MagnitudeAbove = (x : Float) → Number x → T (le x (magnitude x))

-- |x| ≤ b is -b ≤ x ≤ b, on all values.
abbrev pub AtMostGivesBetween : Type 0
AtMostGivesBetween = (b x : Float) → AtMost b x → Between (neg b) b x

abbrev pub BetweenGivesAtMost : Type 0
BetweenGivesAtMost = (b x : Float) → Between (neg b) b x → AtMost b x

-- |x| ≤ b as it is worked out by comparison
abbrev pub AbsoluteAtMost : Type 0
AbsoluteAtMost = (b x : Float) → NotNegative b → T (le (absolute x) b) → AtMost b x

-- What has a finite bound is finite.
abbrev pub AtMostFinite : Type 0
AtMostFinite = (b x : Float) → T (finite b) → AtMost b x → T (finite x)

-- What is finite and no less than a value above 0 lies above 0; and what lies above 0 is not negative.
abbrev pub PositiveAbove : Type 0
PositiveAbove = (l y : Float) → T (positive l) → T (finite y) → T (le l y) → T (positive y)

abbrev pub PositiveNotNegative : Type 0
PositiveNotNegative = (y : Float) → T (positive y) → NotNegative y

-- ---- signs
-- What has a sign is no NaN.
abbrev pub SidedNumber : Type 0
SidedNumber = (s : Bool) (x : Float) → T (sided s x) → Number x

-- An f64 without a minus that is not above 0 is +0.
abbrev pub SidedZero : Type 0
SidedZero = (x : Float) → T (fits binary64 x) → T (sided false x) → T (le x zero⁺) → x ≡ zero⁺

-- Where y ≤ x, x - y has no minus, but for x = -0 and y = +0: those are the x with a minus and the y not below 0 that y ≤ x leaves.
abbrev pub SubSign : Type 0
SubSign = (f : Format) (x y : Float) → T (finite x) → T (finite y) → T (le y x) → T (sided false (sub f x y)) ⊎ (T (sided true x) × T (le x zero⁺) × T (le zero⁺ y))

-- ---- whole numbers as floats
-- A whole number up to 2 ^ 53 is a finite f64.
abbrev pub WholeFinite : Type 0
WholeFinite = (n : ℕ) → n ≤ 2 ^ 53 → T (finite (real n))

-- ---- sums and differences
-- The difference of finite values is no NaN, though it may be infinite.
abbrev pub SubNumber : Type 0
SubNumber = (f : Format) (x y : Float) → T (finite x) → T (finite y) → Number (sub f x y)

-- A value of the format does not fall where what is not negative is added, nor grow where what is not above 0 is.
abbrev pub AddGrows : Type 0
AddGrows = (f : Format) (x y : Float) → T (fits f x) → T (finite x) → T (finite y) → NotNegative y → T (le x (add f x y))

abbrev pub AddFalls : Type 0
AddFalls = (f : Format) (x y : Float) → T (fits f x) → T (finite x) → T (finite y) → T (le y zero⁺) → T (le (add f x y) x)

-- A sum grows with both its parts.
abbrev pub AddMonotone : Type 0
AddMonotone = (f : Format) (x x' y y' : Float) → T (finite x) → T (finite x') → T (finite y) → T (finite y') → T (le x x') → T (le y y') → T (le (add f x y) (add f x' y'))

-- x - k grows with x, and k - x falls as x grows.
abbrev pub SubMonotone : Type 0
SubMonotone = (f : Format) (x y k : Float) → T (finite x) → T (finite y) → T (finite k) → T (le x y) → T (le (sub f x k) (sub f y k))

abbrev pub SubAntitone : Type 0
SubAntitone = (f : Format) (k x y : Float) → T (finite k) → T (finite x) → T (finite y) → T (le x y) → T (le (sub f k y) (sub f k x))

-- x - x is +0.
abbrev pub SubSelf : Type 0
SubSelf = (f : Format) (x : Float) → T (finite x) → sub f x x ≡ zero⁺

-- x - y ≥ 0 where y ≤ x.
abbrev pub SubNotNegative : Type 0
SubNotNegative = (f : Format) (x y : Float) → T (finite x) → T (finite y) → T (le y x) → NotNegative (sub f x y)

-- |x - y| is |y - x|, on all values.
abbrev pub DistanceSymmetric : Type 0
DistanceSymmetric = (f : Format) (x y : Float) → magnitude (sub f x y) ≡ magnitude (sub f y x)

-- A sum of values that are not negative is not.
abbrev pub AddNotNegative : Type 0
AddNotNegative = (f : Format) (x y : Float) → T (finite x) → T (finite y) → NotNegative x → NotNegative y → NotNegative (add f x y)

-- ---- products and quotients
-- Of values that are not negative, a product grows with both.
abbrev pub MulMonotone : Type 0
MulMonotone = (f : Format) (x x' y y' : Float) → T (finite x) → T (finite x') → T (finite y) → T (finite y') → NotNegative x → NotNegative y → T (le x x') → T (le y y') → T (le (mul f x y) (mul f x' y'))

-- x × k grows with x, whatever its sign, for a k that is not negative.
abbrev pub MulMonotoneBy : Type 0
MulMonotoneBy = (f : Format) (x y k : Float) → T (finite x) → T (finite y) → T (finite k) → NotNegative k → T (le x y) → T (le (mul f x k) (mul f y k))

-- x × k grows with x, an infinite one too, for a finite k above 0; and x × k is then no NaN where x is none.
abbrev pub MulMonotoneByPositive : Type 0
MulMonotoneByPositive = (f : Format) (x y k : Float) → T (positive k) → T (le x y) → T (le (mul f x k) (mul f y k))

abbrev pub MulNumber : Type 0
MulNumber = (f : Format) (x k : Float) → T (positive k) → Number x → Number (mul f x k)

-- Of values that are not negative, x / y grows with x and falls as y grows.
abbrev pub DivMonotone : Type 0
DivMonotone = (f : Format) (x x' y y' : Float) → T (finite x) → T (finite x') → T (positive y) → T (positive y') → NotNegative x → T (le x x') → T (le y' y) → T (le (div f x y) (div f x' y'))

-- Products and quotients of values that are not negative are not, and no square is; a quotient of a value that is not above 0 is not.
abbrev pub MulNotNegative : Type 0
MulNotNegative = (f : Format) (x y : Float) → T (finite x) → T (finite y) → NotNegative x → NotNegative y → NotNegative (mul f x y)

abbrev pub DivNotNegative : Type 0
DivNotNegative = (f : Format) (x y : Float) → T (finite x) → T (positive y) → NotNegative x → NotNegative (div f x y)

abbrev pub DivNotPositive : Type 0
DivNotPositive = (f : Format) (x y : Float) → T (finite x) → T (positive y) → T (le x zero⁺) → T (le (div f x y) zero⁺)

abbrev pub SquareNotNegative : Type 0
SquareNotNegative = (f : Format) (x : Float) → T (finite x) → NotNegative (mul f x x)

-- ---- bounds that are floats: the bound of a chain of operations is the same chain worked out on the bounds
-- |x| ≤ b and |y| ≤ c give |x + y| ≤ b + c and |x - y| ≤ b + c, as f rounds b + c, and |x × y| ≤ b × c.
abbrev pub AddAtMost : Type 0
AddAtMost = (f : Format) (x y b c : Float) → T (finite b) → T (finite c) → AtMost b x → AtMost c y → AtMost (add f b c) (add f x y)

abbrev pub SubAtMost : Type 0
SubAtMost = (f : Format) (x y b c : Float) → T (finite b) → T (finite c) → AtMost b x → AtMost c y → AtMost (add f b c) (sub f x y)

abbrev pub MulAtMost : Type 0
MulAtMost = (f : Format) (x y b c : Float) → T (finite b) → T (finite c) → AtMost b x → AtMost c y → AtMost (mul f b c) (mul f x y)

-- |x| ≤ b and |y| ≥ c > 0 give |x / y| ≤ b / c.
abbrev pub DivAtMost : Type 0
DivAtMost = (f : Format) (x y b c : Float) → T (finite b) → T (positive c) → AtMost b x → T (le c (magnitude y)) → AtMost (div f b c) (div f x y)

-- l ≤ x ≤ u and l' ≤ y ≤ u' give l + l' ≤ x + y ≤ u + u'; the same of products, where l and l' are not negative, and of products by one k that is not.
abbrev pub AddBetween : Type 0
AddBetween = (f : Format) (l u l' u' x y : Float) → T (finite l) → T (finite u) → T (finite l') → T (finite u') → Between l u x → Between l' u' y → Between (add f l l') (add f u u') (add f x y)

abbrev pub MulBetween : Type 0
MulBetween = (f : Format) (l u l' u' x y : Float) → T (finite l) → T (finite u) → T (finite l') → T (finite u') → NotNegative l → NotNegative l' → Between l u x → Between l' u' y → Between (mul f l l') (mul f u u') (mul f x y)

abbrev pub MulBetweenBy : Type 0
MulBetweenBy = (f : Format) (l u x k : Float) → T (finite l) → T (finite u) → T (finite k) → NotNegative k → Between l u x → Between (mul f l k) (mul f u k) (mul f x k)

-- ---- bounds n * 2 ^ p: results are finite, hence no NaN, and bounded again, as long as the format holds the bound
abbrev pub AddWithin : Type 0
AddWithin = (f : Format) (n n' p : ℕ) (x y : Float) → Holds f (n + n') p → Within n p x → Within n' p y → Within (n + n') p (add f x y)

abbrev pub SubWithin : Type 0
SubWithin = (f : Format) (n n' p : ℕ) (x y : Float) → Holds f (n + n') p → Within n p x → Within n' p y → Within (n + n') p (sub f x y)

abbrev pub MulWithin : Type 0
MulWithin = (f : Format) (n n' p p' : ℕ) (x y : Float) → Holds f (n * n') (p + p') → Within n p x → Within n' p' y → Within (n * n') (p + p') (mul f x y)

-- by a y with |y| ≥ 2 ^ -k
abbrev pub DivWithin : Type 0
DivWithin = (f : Format) (n p k : ℕ) (x y : Float) → Holds f n (p + k) → Within n p x → T (finite y) → Den y ≤ size y * 2 ^ k → Within n (p + k) (div f x y)

-- such as a finite y ≥ 2 ^ -(k + 1)
abbrev pub LeGivesSize : Type 0
LeGivesSize = (k : ℕ) (y : Float) → T (finite y) → T (le (fin false 1 (negsuc k)) y) → Den y ≤ size y * 2 ^ suc k

-- and as a finite y ≥ 1, where k is 0
abbrev pub OneGivesSize : Type 0
OneGivesSize = (y : Float) → T (finite y) → T (le one y) → Den y ≤ size y * 2 ^ 0

-- A fraction a / c within the bound stays there when it is rounded.
abbrev pub RoundWithin : Type 0
RoundWithin = (f : Format) (s : Bool) (n p a c : ℕ) → 0 < c → Holds f n p → a ≤ n * 2 ^ p * c → Within n p (round f s a c)

-- |x| ≤ n * 2 ^ p, and the same of the float n * 2 ^ p
abbrev pub WithinGivesAtMost : Type 0
WithinGivesAtMost = (n p : ℕ) (x : Float) → Within n p x → AtMost (fin false n (pos p)) x

abbrev pub AtMostGivesWithin : Type 0
AtMostGivesWithin = (n p : ℕ) (x : Float) → AtMost (fin false n (pos p)) x → Within n p x

-- A running sum from an s within n * 2 ^ p, over values within 2 ^ p; and from 0.
abbrev pub RunningWithin : Type 0
RunningWithin = (f : Format) (n p : ℕ) (s : Float) (l : List Float) → Holds f (n + length l) p → Within n p s → Each p l → Within (n + length l) p (running f s l)

abbrev pub SumWithin : Type 0
SumWithin = (f : Format) (p : ℕ) (l : List Float) → Holds f (length l) p → Each p l → Within (length l) p (running f zero⁺ l)

-- ---- narrowing
-- `x as f32` keeps the order, on all values, and gives an f32.
abbrev pub NarrowMonotone : Type 0
NarrowMonotone = Monotone nearest_f32

abbrev pub NarrowFits : Type 0
NarrowFits = (x : Float) → T (fits binary32 (nearest_f32 x))
