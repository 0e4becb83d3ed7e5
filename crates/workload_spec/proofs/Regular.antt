-- The timeline of a load is regular, and its times are near enough to 0: so a load of two frames or more is a reference that can be searched. Assumes nothing.
use mathlib.Core.Path.{◌≡◌, refl, ap, subst, ◌∙◌}
use mathlib.Core.Bool.{Bool, true, false, not, ◌&&◌}
use mathlib.Core.List.{List}
use Prim.Native.Nat.{ℕ, zero, suc, ◌-◌, ◌*◌, ◌≤◌, ◌<◌}
use native.Mathlib.Nat.{le_trans, zero-mul, one-mul, mul-one, zero-add}
use native.Mathlib.Omega.{arith}
use lib.Dec.{T, ltb, lt→ltb, lit<, lit≤}
use lib.Count.{count_trailing_zeros}
use lib.Pow.{pow_pos}
use lib.ListN.{length, get_or}
use lib.Ieee.{Float, nan, inf, fin, binary64, low, up, down, odd, round, units, size, span, climb, add, sum, neg, mul, le, lt, eq, fits, of_bits, of_fields}
use lib.Ieee.Fits.{mul-fits}
use lib.Ieee.Scale.{finite}
use Rattle.numbers_spec.specs.Arithmetic.{◌⊕◌, ◌⊖◌, ◌⊗◌, zero⁺, one, real, absolute, magnitude}
use Rattle.numbers_spec.specs.Values.{Number, sided, AtMost}
use Rattle.numbers_spec.specs.Rows.{tabulate, all_to}
use Rattle.numbers_spec.proofs.Sign.{neg_neg}
use Rattle.numbers_spec.proofs.Value.{finite_no_nan}
use Rattle.numbers_spec.proofs.Order.{le_transitive, le_number, neg_le, not-le→lt, at_most_between}
use Rattle.numbers_spec.proofs.Rounding.{zeros, round_sided}
use Rattle.numbers_spec.proofs.Placed.{round_own}
use Rattle.numbers_spec.proofs.Sums.{sub_self}
use Rattle.numbers_spec.proofs.Products.{mul_mono_by, mul_number}
use Rattle.numbers_spec.proofs.Distances.{U, near_in_f64, units_finite}
use Rattle.numbers_spec.proofs.RowLaws.{length_tabulate, get_d_tabulate}
use Rattle.matcher_spec.specs.Limits.{hop_least, hop_most}
use Rattle.matcher_spec.specs.Timeline.{twentieth, within_tolerance, on_time, regular}
use Rattle.engine_spec.proofs.Tests.{cond_elim, and_l, and_i}
use Rattle.workload_spec.specs.Load.{load_time}
use Rattle.workload_spec.specs.LoadLaws.{Hop}
use Rattle.workload_spec.proofs.Times.{InRange, in_range, parts, enough, exact, time_units, hop_units, step_to, step_units, step_near}

-- ---- what holds of each holds of all
pub all_of : (p : ℕ → Bool) (n : ℕ) → ((i : ℕ) → i < n → T (p i)) → T (all_to p n)
unfolding all_to
all_of p zero h = tt
all_of p (suc n) h = and_i (all_to p n) (p n) (all_of p n (λ i w. h i (omega arith))) (h n (omega arith))

-- ---- floats
absolute_most : (b x : Float) → AtMost b x → T (le (absolute x) b)
absolute_most b x h =
    let s = at_most_between b x h in
    cond_elim (λ (y : Float). T (le y b)) (lt x zero⁺) (neg x) x (λ u. subst (λ (y : Float). T (le (neg x) y)) (neg_neg b) (neg_le (neg b) x s.from)) (λ u. s.to)

-- x < y where y ≤ x can't be
below : (x y : Float) → Number x → Number y → (T (le y x) → ⊥) → T (lt x y)
below x y X Y h = not-le→lt x y X Y (refuted (le y x) h)
  where
    refuted : (b : Bool) → (T b → ⊥) → T (not b)
    refuted true h = absurd (h tt)
    refuted false h = tt

-- +0 changes no sum with what has no minus
zero_plus : (t : Float) → T (fits binary64 t) → T (sided false t) → zero⁺ ⊕ t ≡ t
unfolding add sum
zero_plus nan F S = refl
zero_plus (inf s) F S = refl
zero_plus (fin true m e) F S = absurd S
zero_plus (fin false m e) F S = rw (zero-mul (down e), mul-one (m * up e), one-mul (down e), zero-add (m * up e)) (round_own binary64 false m e F)

-- ---- the tolerance: hop × 0.05 is at least 0.05, and 3 × 2 ^ -21 is below it
abbrev off : Float
off = round binary64 false 3 parts

off_below : T (le twentieth off) → ⊥
unfolding le lt eq round units size span climb odd count_trailing_zeros of_bits of_fields
off_below h = h

none_off : T (le (magnitude zero⁺) off)
unfolding magnitude le lt eq round units size span climb odd count_trailing_zeros
none_off = tt

one_twentieth : one ⊗ twentieth ≡ twentieth
unfolding mul round units size span climb odd count_trailing_zeros of_bits of_fields
one_twentieth = refl

module _ (hop : Float) (held : Hop hop) where
  abbrev r : InRange hop
  r = in_range hop held

  hop_finite : T (finite hop)
  hop_finite = units_finite (hop_units r)

  hop_least_lem : T (le one hop)
  hop_least_lem = and_l (le hop_least hop) (le hop hop_most) held.range

  hop_positive : T (lt zero⁺ hop)
  hop_positive = below zero⁺ hop (finite_no_nan zero⁺ tt) (finite_no_nan hop hop_finite) (λ k. unfold le lt eq in le_transitive one hop zero⁺ hop_least_lem k)

  tolerance : T (le twentieth (hop ⊗ twentieth))
  tolerance =
      subst (λ (x : Float). T (le x (hop ⊗ twentieth))) one_twentieth
      (unfold of_bits of_fields odd count_trailing_zeros le lt eq in mul_mono_by binary64 one hop twentieth tt hop_finite tt tt hop_least_lem)

  close : (x : Float) → AtMost off x → T (lt (absolute x) (hop ⊗ twentieth))
  close x h =
      let a = absolute_most off x h in
      below (absolute x) (hop ⊗ twentieth) (le_number (absolute x) off a) (mul_number binary64 hop twentieth (unfold of_bits of_fields odd count_trailing_zeros in tt) (finite_no_nan hop hop_finite))
      (λ k. off_below (le_transitive twentieth (hop ⊗ twentieth) off tolerance (le_transitive (hop ⊗ twentieth) (absolute x) off k a)))

  -- ---- on time
  time_first : load_time hop 0 ≡ zero⁺
  time_first = exact r 0 (lit≤ tt) ∙ ap (λ (a : ℕ). round binary64 false a U) (zero-mul r.size) ∙ zeros binary64 false U (pow_pos (low binary64))

  -- the first time and i × hop make the time of frame i
  time_after : (i : ℕ) → i ≤ enough → load_time hop 0 ⊕ load_time hop i ≡ load_time hop i
  time_after i few =
      ap (λ (x : Float). x ⊕ load_time hop i) time_first
      ∙ zero_plus (load_time hop i) (unfold load_time in mul-fits binary64 (real i) hop) (rw (exact r i (le_trans few (lit≤ tt))) (round_sided binary64 false (i * r.size) U))

  module _ (i : ℕ) (few : suc i ≤ enough) where
    step_finite : T (finite (step_to r i))
    step_finite = units_finite (step_units r i few)

    step_on_time : T (within_tolerance hop (step_to r i) hop)
    step_on_time = close (step_to r i ⊖ hop) (near_in_f64 3 parts (step_to r i) hop (lit< tt) (step_near r i few))

    time_on_time : T (within_tolerance hop (load_time hop (suc i)) (load_time hop 0 ⊕ real (suc i) ⊗ hop))
    unfolding load_time
    time_on_time =
        rw (time_after (suc i) few, sub_self binary64 (load_time hop (suc i)) (units_finite (time_units r (suc i) few)))
        (close zero⁺ none_off)

  -- ---- the timeline
  module _ (frames : ℕ) (few : frames ≤ enough) where
    abbrev times : List Float
    times = tabulate (load_time hop) frames

    time_at : (i : ℕ) → i < frames → get_or times i nan ≡ load_time hop i
    time_at i h = get_d_tabulate (load_time hop) frames i nan h

    on_time_lem : (i : ℕ) → suc i < frames → T (on_time hop times (suc i))
    unfolding on_time
    on_time_lem i h =
        let back : suc i - 1 ≡ i = omega arith in
        let k : suc i ≤ enough = omega arith in
        rw (time_at (suc i) h, back, time_at i (omega arith), time_at 0 (omega arith))
        (and_i (finite (step_to r i)) _ (step_finite i k) (and_i (within_tolerance hop (step_to r i) hop) _ (step_on_time i k) (time_on_time i k)))

    pub load_regular : 2 ≤ frames → T (regular hop times)
    unfolding regular
    load_regular two =
        let n = length_tabulate (load_time hop) frames in
        and_i (ltb 1 (length times)) _ (rw n (lt→ltb 1 frames two))
        (and_i (finite hop && (lt zero⁺ hop && finite (get_or times 0 nan))) _
        (and_i (finite hop) _ hop_finite (and_i (lt zero⁺ hop) _ hop_positive (rw (time_at 0 (omega arith), time_first) tt)))
        (rw n (all_of _ (frames - 1) (λ i h. on_time_lem i (omega arith)))))
