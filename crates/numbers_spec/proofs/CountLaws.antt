-- The count of a float grows with it, and gives back each whole number up to 2 ^ 53: what specs/CountLaws.antt says. Assumes nothing.
use Prim.Native.Nat.{ℕ, ◌*◌, ◌/◌, ◌≤◌, ◌<◌}
use native.Mathlib.Nat.{le-div_iff_mul-le, le_of_mul-le-mul_right, le_trans, le_refl, zero-div, mul_right_comm, mul-le-mul_right, div-mul-le_self}
use native.Mathlib.Omega.{arith}
use mathlib.Core.Bool.{true, false}
use lib.Dec.{le→leb}
use lib.Ieee.{nan, inf, fin, binary64, up, down, le, in_float, to_unsigned}
use lib.Ieee.Back.{unsigned_back}
use lib.Ieee.Fits.{down_pos}
use Rattle.numbers_spec.specs.CountLaws.{CountMonotone, CountOfReal, CountAtMost}
use Rattle.numbers_spec.proofs.Order.{le→below}

-- a / c ≤ b / d of whole parts
parts_grow : (a c b d : ℕ) → 0 < c → 0 < d → a * d ≤ b * c → a / c ≤ b / d
parts_grow a c b d C D h =
    (le-div_iff_mul-le D).1
    (le_of_mul-le-mul_right (rw (mul_right_comm (a / c) d c) (le_trans (mul-le-mul_right d (div-mul-le_self a c)) h)) C)

pub count_monotone : CountMonotone
unfolding le to_unsigned
count_monotone nan y h = absurd h
count_monotone (inf true) y h = omega arith
count_monotone (inf false) nan h = absurd h
count_monotone (inf false) (inf true) h = absurd h
count_monotone (inf false) (inf false) h = le_refl _
count_monotone (inf false) (fin t n d) h = absurd h
count_monotone (fin true m e) y h = omega arith
count_monotone (fin false m e) nan h = absurd h
count_monotone (fin false m e) (inf true) h = absurd h
count_monotone (fin false m e) (inf false) h = omega arith
count_monotone (fin false m e) (fin true n d) h =
    let l = le→below (fin false m e) (fin true n d) tt tt h in
    let q = parts_grow (m * up e) (down e) 0 (down d) (down_pos e) (down_pos d) (omega arith) in
    omega (arith, zero-div (down d))
count_monotone (fin false m e) (fin false n d) h =
    let l = le→below (fin false m e) (fin false n d) tt tt h in
    let q = parts_grow (m * up e) (down e) (n * up d) (down d) (down_pos e) (down_pos d) (omega arith) in
    omega arith

pub count_of_real : CountOfReal
count_of_real n h = (unsigned_back binary64 64 n (unfold in_float in le→leb n _ h) (omega arith)).1

pub count_at_most : CountAtMost
count_at_most n h x l = rw (count_of_real n h) at (count_monotone x _ l)
