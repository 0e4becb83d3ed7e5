-- What is proved of `x as usize`: a count grows with x, and gives back each whole number up to 2 ^ 53. Definitions only.
use Rattle.std.specs.Prelude.{ℕ, ◌^◌, ◌≤◌, ◌≡◌, T, Float}
use Rattle.std.specs.Float.Ieee.{le}
use Rattle.numbers_spec.specs.Arithmetic.{real, count_of}

-- The order stays, on all values, infinities included.
abbrev pub CountMonotone : Type 0
CountMonotone = (x y : Float) → T (le x y) → count_of x ≤ count_of y

-- n as a float and back is n, for every n up to 2 ^ 53.
abbrev pub CountOfReal : Type 0
CountOfReal = (n : ℕ) → n ≤ 2 ^ 53 → count_of (real n) ≡ n

-- So an x that is at most n has a count that is at most n.
abbrev pub CountAtMost : Type 0
CountAtMost = (n : ℕ) → n ≤ 2 ^ 53 → (x : Float) → T (le x (real n)) → count_of x ≤ n
