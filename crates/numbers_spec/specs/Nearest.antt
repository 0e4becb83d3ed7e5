-- Rounding, without a word of how it is worked out: the nearest value of a format, and from where on there is none. Definitions only.
use Rattle.std.specs.Prelude.{ℕ, ◌+◌, ◌-◌, ◌*◌, ◌%◌, ◌^◌, ◌≤◌, ◌<◌, Bool, ◌⊎◌, ◌≡◌, T, ℤ, Float}
use Rattle.std.specs.Float.{inf, fin, Format, binary32}
use Rattle.std.specs.Float.Ieee.{prec, emax, low, up, down, round, fits, to_bits}
use Rattle.std.specs.Float.Ieee.Scale.{finite}
use Rattle.numbers_spec.specs.Narrow.{nearest_f32}
use Rattle.numbers_spec.specs.Values.{Units, distance}

-- r is the value of the format f nearest to ±a / c, for a c above 0 and the sign s: over every finite value y of f, of any exponent and sign, none is nearer, and where another is as near, r's last digit is even.
-- The distances are counted in units of f's smallest value, 2 ^ -low, and multiplied by c: ±a / c is ±a * 2 ^ low / c units, r is ±size units, and y is ±n.
pub record NearestTo (f : Format) (s : Bool) (a c : ℕ) (r : Float) : Type 0 where
  pub held : T (fits f r)
  pub size : ℕ
  pub value : Units f r s size
  pub nearest : (y : Float) (t : Bool) (n : ℕ) → T (fits f y) → Units f y t n → distance s (a * 2 ^ low f) s (size * c) ≤ distance s (a * 2 ^ low f) t (n * c)
  pub tie : (y : Float) (t : Bool) (n : ℕ) → T (fits f y) → Units f y t n → distance s (a * 2 ^ low f) s (size * c) ≡ distance s (a * 2 ^ low f) t (n * c) → (distance s size t n ≡ 0) ⊎ (to_bits f r % 2 ≡ 0)

-- `round` gives the nearest value wherever it gives a finite one.
abbrev pub RoundNearest : Type 0
RoundNearest = (f : Format) (s : Bool) (a c : ℕ) → 0 < c → T (finite (round f s a c)) → NearestTo f s a c (round f s a c)

-- Twice the number from which on rounding overflows. That number, (2 ^ prec - 1 / 2) * 2 ^ (emax + 1 - prec), lies half a unit above the largest value of the format: at the middle between it and 2 ^ (emax + 1).
abbrev pub twice_edge : Format → ℕ
twice_edge f = (2 ^ (prec f + 1) - 1) * 2 ^ (emax f - (prec f - 1))

-- r, which stands for ±a / c, is finite below that number, and is the infinity of the sign s from it on. So it is finite only below it, since an infinity is not.
pub record FiniteBelow (f : Format) (s : Bool) (a c : ℕ) (r : Float) : Type 0 where
  pub under : a * 2 < twice_edge f * c → T (finite r)
  pub over : twice_edge f * c ≤ a * 2 → r ≡ inf s

abbrev pub RoundOverflow : Type 0
RoundOverflow = (f : Format) (s : Bool) (a c : ℕ) → 0 < c → FiniteBelow f s a c (round f s a c)

-- `x as f32` is the nearest f32, and overflows where rounding does, for every finite x: ±m * 2 ^ e, which is ±(m * up e) / down e.
abbrev pub NarrowNearest : Type 0
NarrowNearest = (s : Bool) (m : ℕ) (e : ℤ) → T (finite (nearest_f32 (fin s m e))) → NearestTo binary32 s (m * up e) (down e) (nearest_f32 (fin s m e))

abbrev pub NarrowOverflow : Type 0
NarrowOverflow = (s : Bool) (m : ℕ) (e : ℤ) → FiniteBelow binary32 s (m * up e) (down e) (nearest_f32 (fin s m e))
