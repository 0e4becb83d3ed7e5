-- Document 01's arithmetic: each operation in f64, rounded once. Definitions only.
use Rattle.std.specs.Prelude.{ℕ, cond, false, pos, Float}
use Rattle.std.specs.Float.{nan, inf, fin, binary64}
use Rattle.std.specs.Float.Ieee.{add, sub, mul, div, neg, lt, is_nan, of_int, to_unsigned}

infixl 6 ◌⊕◌ ◌⊖◌
infixl 7 ◌⊗◌ ◌⊘◌
abbrev pub ◌⊕◌ : Float → Float → Float
x ⊕ y = add binary64 x y

abbrev pub ◌⊖◌ : Float → Float → Float
x ⊖ y = sub binary64 x y

abbrev pub ◌⊗◌ : Float → Float → Float
x ⊗ y = mul binary64 x y

abbrev pub ◌⊘◌ : Float → Float → Float
x ⊘ y = div binary64 x y

-- ---- 0, 1 and 2, as a format writes them
abbrev pub zero⁺ : Float
zero⁺ = fin false 0 (pos 0)

abbrev pub one : Float
one = fin false 1 (pos 0)

abbrev pub two : Float
two = fin false 1 (pos 1)

-- ---- counts
-- n as a float, rounded to the nearest: `n as f64`.
abbrev pub real : ℕ → Float
real n = of_int binary64 (pos n)

-- x without its fraction; what lies below 0 and a NaN give 0, what lies above gives the largest: `x as usize`.
abbrev pub count_of : Float → ℕ
count_of x = to_unsigned 64 x

-- ---- by comparison
-- |x|. A zero keeps its sign: what is taken of it is compared, and no comparison tells the zeros apart.
abbrev pub absolute : Float → Float
absolute x = cond (lt x zero⁺) (neg x) x

-- x where it is above the floor, else the floor, for a NaN too: `floor.max(x)` of a floor that is a number above zero, or +0.
abbrev pub at_least : Float → Float → Float
at_least floor x = cond (lt floor x) x floor

-- x where it is below the cap, else the cap, for a NaN too: `x.min(cap)`.
abbrev pub at_most : Float → Float → Float
at_most cap x = cond (lt x cap) x cap

-- `x.min(y)`: a NaN beside a number is passed over.
unfoldable pub least : Float → Float → Float
least x y = cond (is_nan y) x (at_most y x)

-- |x|, of a zero too: +0.
unfoldable pub magnitude : Float → Float
magnitude nan = nan
magnitude (inf s) = inf false
magnitude (fin s m e) = fin false m e
