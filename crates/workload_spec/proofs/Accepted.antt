-- A load is a reference that is opened with its index, and a window that no submission refuses by itself. Assumes nothing.
use mathlib.Core.Path.{◌≡◌, sym, ap, subst}
use mathlib.Core.Bool.{Bool, true, false, cond, not}
use mathlib.Core.List.{List}
use Prim.Native.Nat.{ℕ, ◌*◌, ◌≤◌, ◌<◌}
use native.Mathlib.Nat.{le_trans, le_of_lt, lt_irrefl}
use native.Mathlib.Omega.{arith}
use lib.Count.{count_trailing_zeros}
use lib.Dec.{T, ltb, leb, eqb, lt→ltb, le→leb, eqb→eq, eqb_refl, lit≤}
use lib.IntN.{pos}
use lib.ListN.{length}
use lib.Ieee.{Float, nan, fin, le, lt, eq, neg, odd, of_bits, of_fields}
use lib.Ieee.Scale.{finite}
use Rattle.std.specs.Prelude.{Option, None}
use Rattle.std.specs.Option.{option_map_or}
use Rattle.numbers_spec.specs.Arithmetic.{magnitude}
use Rattle.numbers_spec.specs.Rows.{tabulate, every}
use Rattle.numbers_spec.proofs.Order.{le_transitive, at_most_between}
use Rattle.numbers_spec.proofs.Within.{within_at_most}
use Rattle.numbers_spec.proofs.RowLaws.{length_tabulate, get_d_tabulate}
use Rattle.matcher_spec.specs.Features.{Features}
use Rattle.matcher_spec.specs.Index.{Index, accepts_reference}
use Rattle.matcher_spec.specs.Limits.{frames_most, window_most, bands_most, farthest_ms}
use Rattle.matcher_spec.specs.Timeline.{valid_value, valid_values, regular}
use Rattle.engine_spec.specs.Opening.{opening, accepts_features, with_index, without_index, no_engine, fresh_engine, opened_settings}
use Rattle.engine_spec.specs.Refusals.{near, near_or_not_finite, hop_in_range, counts_in_range, index_fits, valid_configuration, opening_refusal, valid_window, valid_energy, window_refusal}
use Rattle.engine_spec.specs.Windows.{query, indexed}
use Rattle.engine_spec.specs.declared.types.Configuration.{Configuration}
use Rattle.engine_spec.specs.Results.{OpenResult}
use Rattle.engine_spec.specs.Results as answer
use Rattle.engine_spec.specs.declared.types.Refusal.{Refusal}
use Rattle.engine_spec.proofs.Tests.{and_i, or_r, T-is}
use Rattle.workload_spec.specs.Load.{load_time, load_energy, value_at, load}
use Rattle.workload_spec.specs.LoadLaws.{Hop, Searchable, LoadOpens, LoadHeard}
use Rattle.workload_spec.proofs.Values.{value_valid}
use Rattle.workload_spec.proofs.Times.{enough, in_range, time_within}
use Rattle.workload_spec.proofs.Regular.{all_of, load_regular}

-- ---- lists by a rule
every_of : (p : Float → Bool) (f : ℕ → Float) (n : ℕ) → ((i : ℕ) → i < n → T (p (f i))) → T (every p (tabulate f n))
unfolding every
every_of p f n h = rw (length_tabulate f n) (all_of _ n (λ i w. rw (get_d_tabulate f n i nan w) (h i w)))

values_valid : (seed n : ℕ) → T (valid_values (tabulate (value_at seed) n))
unfolding valid_values every
values_valid seed n = every_of valid_value (value_at seed) n (λ i w. value_valid _)

-- ---- times
farthest : T (le (fin false 1 (pos 30)) farthest_ms)
unfolding le lt eq of_bits of_fields odd count_trailing_zeros
farthest = tt

time_near : (hop : Float) → Hop hop → (i : ℕ) → i ≤ enough → T (near (load_time hop i))
time_near hop held i few =
    let t = load_time hop i in
    let b = at_most_between farthest_ms t (le_transitive (magnitude t) (fin false 1 (pos 30)) farthest_ms (within_at_most 1 30 t (time_within (in_range hop held) i few)) farthest) in
    and_i (le (neg farthest_ms) t) (le t farthest_ms) b.from b.to

-- ---- a reference
pub searchable : Searchable
unfolding accepts_reference load
searchable seed hop bands frames held two most some =
    and_i (regular hop (tabulate (load_time hop) frames)) _ (load_regular hop held frames (le_trans most (lit≤ tt)) two)
    (and_i (ltb 0 bands) _ (lt→ltb 0 bands some) (values_valid seed (bands * frames)))

counted : (seed : ℕ) (hop : Float) (bands frames : ℕ) → T (eqb (length (tabulate (value_at seed) (bands * frames))) (bands * length (tabulate (load_time hop) frames)))
counted seed hop bands frames = rw (length_tabulate (value_at seed) (bands * frames), length_tabulate (load_time hop) frames) (eqb_refl (bands * frames))

module _ (seed : ℕ) (hop : Float) (bands frames : ℕ) (c : Configuration) (x : Index) (held : Hop hop) (two : 2 ≤ frames) (most : frames ≤ frames_most) (some : 1 ≤ bands) (few : bands ≤ bands_most) (valid : T (valid_configuration c)) (room : T (index_fits frames bands x)) where
  abbrev times : List Float
  times = tabulate (load_time hop) frames

  abbrev reference : Features
  reference = query (load seed hop bands frames)

  unrefused : opening_refusal c hop reference x ≡ None
  unfolding opening_refusal load
  unrefused =
      let n = length_tabulate (load_time hop) frames in
      rw (
        T-is (valid_configuration c) valid,
        T-is (hop_in_range hop) held.range,
        T-is (counts_in_range (length times) bands) (rw n (and_i (leb frames frames_most) (leb bands bands_most) (le→leb frames frames_most most) (le→leb bands bands_most few))),
        T-is (eqb (length (tabulate (value_at seed) (bands * frames))) (bands * length times)) (counted seed hop bands frames),
        T-is (every near_or_not_finite times) (every_of near_or_not_finite (load_time hop) frames (λ i h. or_r (not (finite (load_time hop i))) _ (time_near hop held i (le_trans (le_of_lt h) (le_trans most (lit≤ tt)))))),
        T-is (index_fits (length times) bands x) (rw n room),
      )

  opened_is : opening c hop reference x ≡ record { answer = answer.Opened; engine = fresh_engine c (opened_settings hop reference) }
  unfolding opening
  opened_is =
      ap (λ (o : Option Refusal). option_map_or (λ (r : Refusal). record { answer = answer.Refused r; engine = no_engine }) o (record { answer = answer.Opened; engine = fresh_engine c (opened_settings hop reference) })) unrefused

  has_index : T (indexed (opened_settings hop reference))
  unfolding load
  has_index = accepted (accepts_features hop reference) (searchable seed hop bands frames held two most some)
    where
      some_frames : (n : ℕ) → 2 ≤ n → T (not (eqb n 0))
      some_frames n h = go (eqb n 0) (eqb→eq n 0)
        where
          go : (b : Bool) → (T b → n ≡ 0) → T (not b)
          go true e = absurd (let z = e tt in lt_irrefl 0 (omega arith))
          go false e = tt

      accepted : (b : Bool) → T b → T (indexed (cond b (with_index hop reference) (without_index hop)))
      accepted true h = rw (length_tabulate (load_time hop) frames) (some_frames frames two)
      accepted false h = absurd h

pub load_opens : LoadOpens
unfolding fresh_engine
load_opens seed hop bands frames c x held two most some few valid room =
    let e = opened_is seed hop bands frames c x held two most some few valid room in
    record {
      opened = ap (λ (o : OpenResult). o.answer) e;
      with_index_lem = subst (λ (o : OpenResult). T (indexed o.engine.settings)) (sym e) (has_index seed hop bands frames c x held two most some few valid room);
    }

-- ---- a window
energy_valid : T (valid_energy load_energy)
unfolding lt of_bits of_fields odd count_trailing_zeros
energy_valid = tt

pub load_heard : LoadHeard
unfolding window_refusal valid_window load
load_heard seed hop bands frames held one most some few =
    let times = tabulate (load_time hop) frames in
    let energies = tabulate (λ (i : ℕ). load_energy) frames in
    let values = tabulate (value_at seed) (bands * frames) in
    let n = length_tabulate (load_time hop) frames in
    rw (
      T-is (ltb 0 (length times)) (rw n (lt→ltb 0 frames one)),
      T-is (leb (length times) window_most) (rw n (le→leb frames window_most most)),
      T-is (leb bands bands_most) (le→leb bands bands_most few),
      T-is (ltb 0 bands) (lt→ltb 0 bands some),
      T-is (eqb (length energies) (length times)) (rw (length_tabulate (λ (i : ℕ). load_energy) frames, n) (eqb_refl frames)),
      T-is (eqb (length values) (bands * length times)) (counted seed hop bands frames),
      T-is (valid_values values) (values_valid seed (bands * frames)),
      T-is (every near times) (every_of near (load_time hop) frames (λ i h. time_near hop held i (le_trans (le_of_lt h) (le_trans most (lit≤ tt))))),
      T-is (every valid_energy energies) (every_of valid_energy (λ (i : ℕ). load_energy) frames (λ i h. energy_valid)),
    )
