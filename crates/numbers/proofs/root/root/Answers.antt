-- `numbers::root::root` meets its contract. Assumes nothing.
use Rattle.std.proofs.Common.{◌≡◌, ℕ, zero, suc, ◌*◌, ◌^◌, ◌<◌, Bool, ◌∙◌, subst, zero-lt-suc, mul-pos, zero-mul, pow_pos}
use lib.Ieee.{of_bits, div}
use lib.Ieee.Exact.{HasValue}
use Rattle.numbers_spec.specs.Root.{root_units}
use Rattle.numbers_spec.proofs.Rooted.{finite_above, plus_above, some_above, root_positive, root_infinite, root_below, root_level, root_fits, root_no_nan, read_back, reads_no_nan}
use Rattle.numbers.proofs.root.root.Goals as goal

-- a significand of 0 would be that of a zero
some : (k e : ℕ) → (k * 2 ^ e ≡ 0 → ⊥) → 0 < k
some zero e h = absurd (h (zero-mul (2 ^ e)))
some (suc k) e h = zero-lt-suc k

pub split-requires : goal.split-requires
unfolding of_bits div
split-requires c = finite_above _ c.if-x.true c.if-x-2.true

pub root_bits-requires : goal.root_bits-requires
unfolding of_bits
root_bits-requires c =
    let p = c.split in
    some p.result.sig p.result.exp (some_above _ p.result.minus (p.result.sig * 2 ^ p.result.exp) c.if-x.true p.ensures)

pub float_from_bits-result : goal.float_from_bits-result
unfolding of_bits
float_from_bits-result c =
    let p = c.split in
    let P = some p.result.sig p.result.exp (some_above _ p.result.minus (p.result.sig * 2 ^ p.result.exp) c.if-x.true p.ensures) in
    reads_no_nan c.root_bits.result (root_units (p.result.sig * 2 ^ p.result.exp)) c.root_bits.ensures (root_fits p.result.sig p.result.exp P p.result.sig_lt p.result.exp_le) (root_no_nan p.result.sig p.result.exp P p.result.sig_lt p.result.exp_le)

pub returns-then-x-2 : goal.returns-then-x-2
unfolding of_bits
returns-then-x-2 c =
    let p = c.split in
    let x = c.args.x in
    let n = p.result.sig * 2 ^ p.result.exp in
    let P = some p.result.sig p.result.exp (some_above _ p.result.minus n c.if-x.true p.ensures) in
    read_back c.root_bits.result (root_units n) c.root_bits.ensures (root_fits p.result.sig p.result.exp P p.result.sig_lt p.result.exp_le)
    ∙ root_positive x n (mul-pos P (pow_pos p.result.exp)) (subst (λ (t : Bool). HasValue x t n (2 ^ 1074)) (plus_above x p.result.minus n c.if-x.true p.ensures) p.ensures)

pub returns-then-x : goal.returns-then-x
unfolding of_bits div
returns-then-x c = root_infinite _ c.if-x.true c.if-x-2.false

pub returns-then-x-3 : goal.returns-then-x-3
unfolding of_bits div
returns-then-x-3 c = root_below _ c.if-x-3.true

pub returns : goal.returns
unfolding of_bits
returns c = root_level _ c.if-x.false c.if-x-3.false
