-- The square root, without a word of how it is worked out: what is nearest to a root, that a larger number has no smaller root, and where roots lie. Definitions only.
use Rattle.std.specs.Prelude.{ℕ, ◌+◌, ◌*◌, ◌^◌, ◌<◌, false, T, negsuc, Float}
use Rattle.std.specs.Float.{fin, binary64}
use Rattle.std.specs.Float.Ieee.{low, fits, le, lt}
use Rattle.std.specs.Float.Ieee.Scale.{finite}
use Rattle.numbers_spec.specs.Arithmetic.{zero⁺}
use Rattle.numbers_spec.specs.Root.{root_of}
use Rattle.numbers_spec.specs.Values.{Normal, NotNegative, Units}

-- r is the f64 nearest to √x, and no other is as near. In units of 2 ^ -1074, x is `radicand` and r is `root`, so √x is √(radicand * 2 ^ 1074).
-- Over every f64 y that is not negative, of n units: where y lies above r, the middle (root + n) / 2 lies above √x, and where y lies below r, the middle lies below √x. So √x lies on r's side of it.
-- Both sides are squared, and multiplied by 4. A negative y is farther off than 0, which is one of the y.
pub record NearestRoot (x r : Float) : Type 0 where
  pub radicand : ℕ
  pub root : ℕ
  pub of : Units binary64 x false radicand
  pub value : Units binary64 r false root
  pub held : T (fits binary64 r)
  pub above : (y : Float) (n : ℕ) → T (fits binary64 y) → Units binary64 y false n → root < n → 4 * (radicand * 2 ^ low binary64) < (root + n) * (root + n)
  pub below : (y : Float) (n : ℕ) → T (fits binary64 y) → Units binary64 y false n → n < root → (root + n) * (root + n) < 4 * (radicand * 2 ^ low binary64)

-- `root_of` is the nearest root: of every finite f64 above zero.
abbrev pub RootNearest : Type 0
RootNearest = (x : Float) → T (fits binary64 x) → T (finite x) → T (lt zero⁺ x) → NearestRoot x (root_of x)

-- Of two f64 that are not negative, -0 and infinity included, the larger has no smaller root.
abbrev pub RootMonotone : Type 0
RootMonotone = (x y : Float) → T (fits binary64 x) → T (fits binary64 y) → NotNegative x → T (le x y) → T (le (root_of x) (root_of y))

-- 2 ^ -511, the root of 2 ^ -1022
abbrev pub smallest_normal_root : Float
smallest_normal_root = fin false 1 (negsuc 510)

-- The root of a normal f64 above zero is 2 ^ -511 at least, and a normal too.
pub record NormalRoot (r : Float) : Type 0 where
  pub normal : Normal r
  pub large : T (le smallest_normal_root r)

abbrev pub RootNormal : Type 0
RootNormal = (x : Float) → Normal x → NormalRoot (root_of x)
