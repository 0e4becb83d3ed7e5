-- Values of a load: none is rounded, each is an f32 that a band may hold, and band follows band. Assumes nothing.
use mathlib.Core.Path.{◌≡◌, sym, ap, subst, ◌∙◌}
use mathlib.Core.Bool.{false}
use mathlib.Core.List.{List}
use Prim.Native.Nat.{ℕ, ◌+◌, ◌-◌, ◌*◌, ◌%◌, ◌≤◌, ◌<◌}
use native.Mathlib.Nat.{mod-lt, lt_of_lt_of_le}
use native.Mathlib.Omega.{arith}
use lib.Dec.{T, lit<, lit≤}
use lib.ListN.{take, drop}
use lib.Seq.{take_at, drop_at}
use lib.Ieee.{nan, binary32, le}
use lib.Ieee.Fits.{round-fits, and_i}
use lib.Ieee.Scale.{finite}
use Rattle.numbers_spec.specs.Arithmetic.{zero⁺}
use Rattle.numbers_spec.specs.Rows.{tabulate}
use Rattle.numbers_spec.proofs.Value.{value_finite}
use Rattle.numbers_spec.proofs.Rounding.{round_sided, sided_not_negative}
use Rattle.numbers_spec.proofs.ExactValues.{dyadic_exact}
use Rattle.numbers_spec.proofs.RowLaws.{length_tabulate, get_d_tabulate, row_within}
use Rattle.numbers_spec.proofs.PartLaws.{tabulate_add}
use Rattle.matcher_spec.specs.Timeline.{valid_value}
use Rattle.workload_spec.specs.Load.{load_value, value_at, load}
use Rattle.workload_spec.specs.LoadLaws.{ValueExact, ValuesF32, BandAfterBand}

-- the n elements of a list by a rule that come after the first a
part : {A : Type 0} (f : ℕ → A) (a n m : ℕ) → a + n ≤ m → take n (drop a (tabulate f m)) ≡ tabulate (λ (i : ℕ). f (a + i)) n
part {A} f a n m h =
    let g : ℕ → A = λ (i : ℕ). f (a + i) in
    let e : a + (n + (m - (a + n))) ≡ m = omega arith in
    ap (λ (l : List A). take n (drop a l)) (sym (ap (tabulate f) e) ∙ tabulate_add f a (n + (m - (a + n))))
    ∙ ap (take n) (drop_at (tabulate f a) (tabulate g (n + (m - (a + n)))) a (length_tabulate f a) ∙ tabulate_add g n (m - (a + n)))
    ∙ take_at (tabulate g n) _ n (length_tabulate g n)

pub band_after_band : BandAfterBand
unfolding load
band_after_band seed hop bands frames b h = part (value_at seed) (b * frames) frames (bands * frames) (row_within b bands frames h)

pub value_exact : ValueExact
unfolding load_value
value_exact n = dyadic_exact binary32 false (n % 4096) 8 (lt_of_lt_of_le (mod-lt n (lit< tt)) (lit≤ tt)) (lit≤ tt)

pub value_valid : (n : ℕ) → T (valid_value (load_value n))
unfolding load_value
value_valid n =
    and_i (finite (load_value n)) (le zero⁺ (load_value n))
    (value_finite (load_value n) false (n % 4096) 256 (value_exact n))
    (sided_not_negative (load_value n) (round_sided binary32 false (n % 4096) 256))

pub values_f32 : ValuesF32
unfolding load load_value
values_f32 seed hop bands frames i h =
    let n = bands * frames in
    rw (get_d_tabulate (value_at seed) n i nan (subst (λ (k : ℕ). i < k) (length_tabulate (value_at seed) n) h)) (round-fits binary32 false _ 256)
