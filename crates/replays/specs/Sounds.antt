-- Values and times from a few numbers. Definitions only.
use Rattle.std.specs.Prelude.{ℕ, ◌+◌, ◌*◌, ◌/◌, ◌%◌, List, pos, from_bits, Float}
use Rattle.std.specs.Float.{binary32}
use Rattle.std.specs.Float.Ieee.{div, mul, of_int}
use Rattle.numbers_spec.specs.Arithmetic.{◌⊕◌, ◌⊗◌, real}
use Rattle.numbers_spec.specs.Rows.{tabulate}

-- A value from 0 to 64: two steps of a generator by products, and the square of the step that they give, by 2^18.
unfoldable pub value_at : ℕ → ℕ → Float
value_at seed n =
    let first = (n % 1048576 + seed * 7919) % 2147483648 * 1103515245 % 2147483648 in
    let second = (first / 256 + first * 13) % 2147483648 * 69069 % 2147483648 in
    let step = of_int binary32 (pos (second / 131072 % 4096)) in
    div binary32 (mul binary32 step step) (from_bits binary32 0x48800000)

-- Times from `start` on, a hop apart.
abbrev pub times_from : Float → Float → ℕ → List Float
times_from start hop n = tabulate (λ (i : ℕ). start ⊕ real i ⊗ hop) n
