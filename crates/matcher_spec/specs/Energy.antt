-- Bands with their energies, and bands averaged by fours (matcher.rs, `Bands`). Definitions only.
use Rattle.std.specs.Prelude.{ℕ, suc, ◌+◌, ◌*◌, ◌/◌, ◌≤◌, List, length, get_or, Float}
use Rattle.std.specs.Float.{nan, binary32}
use Rattle.std.specs.Float.Ieee.{add, div, of_bits}
use Rattle.numbers_spec.specs.Arithmetic.{◌⊗◌}
use Rattle.numbers_spec.specs.Rows.{tabulate, rows, row, sum_to}

-- The sum of the squares of the first n values, in f64.
abbrev pub energy_to : List Float → ℕ → Float
energy_to v = sum_to (λ (i : ℕ). get_or v i nan ⊗ get_or v i nan)

-- A band's energies: the prefix sums of its squares, one more than it has values.
abbrev pub energies : List Float → List Float
energies v = tabulate (energy_to v) (length v + 1)

-- Bands band after band: `count` values each, and the energies of each.
pub record Bands : Type 0 where
  pub count : ℕ
  pub values : List Float
  pub energy : List Float

abbrev pub bands_of : ℕ → List Float → List Float → Bands
bands_of n v e = record { count = n; values = v; energy = e }

-- Two lists have room for bands with n values each: for the values, and for the energies of each.
pub record Holds (bands n : ℕ) (values energy : List Float) : Type 0 where
  pub value_room : bands * n ≤ length values
  pub energy_room : bands * (n + 1) ≤ length energy

-- Each band's energies, of bands with n values each.
abbrev pub all_energies : ℕ → ℕ → List Float → List Float
all_energies bands n v = rows (λ (b : ℕ). energies (row n v b)) bands

-- `Bands::new`: the values with their energies.
abbrev pub with_energies : ℕ → ℕ → List Float → Bands
with_energies bands n v = bands_of n v (all_energies bands n v)

-- Each band's whole energy.
unfoldable pub whole_energies : ℕ → Bands → List Float
whole_energies bands x = tabulate (λ (b : ℕ). get_or x.energy (b * suc x.count + x.count) nan) bands

-- ---- averages by fours
abbrev pub reduction : ℕ
reduction = 4

-- 0.0 and 4.0 in f32
abbrev pub zero_f32 : Float
zero_f32 = of_bits binary32 0

abbrev pub four : Float
four = of_bits binary32 0x40800000

infixl 6 ◌+₃₂◌
abbrev pub ◌+₃₂◌ : Float → Float → Float
x +₃₂ y = add binary32 x y

-- The average of the four values from place `at` on, in f32.
unfoldable pub average : List Float → ℕ → Float
average v at = div binary32 (zero_f32 +₃₂ get_or v at nan +₃₂ get_or v (at + 1) nan +₃₂ get_or v (at + 2) nan +₃₂ get_or v (at + 3) nan) four

-- A row averaged by fours; what is left of a four at its end is dropped.
abbrev pub averages : List Float → List Float
averages v = tabulate (λ (k : ℕ). average v (k * reduction)) (length v / reduction)

-- Each band averaged by fours, of bands with n values each.
abbrev pub all_averages : ℕ → ℕ → List Float → List Float
all_averages bands n v = rows (λ (b : ℕ). averages (row n v b)) bands

-- `Bands::reduced`: the bands averaged by fours.
abbrev pub reduced : ℕ → Bands → Bands
reduced bands x = with_energies bands (x.count / reduction) (all_averages bands x.count x.values)
