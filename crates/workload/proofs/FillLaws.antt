-- What the slices hold after a refusal, and after all three are written. Assumes nothing.
use mathlib.Core.Path.{◌≡◌, sym, ap, ◌∙◌}
use mathlib.Core.Bool.{Bool, true, false, cond, not}
use mathlib.Core.List.{List}
use Prim.Native.Nat.{ℕ, ◌*◌}
use lib.Dec.{T, ltb, eqb, eqb→eq}
use lib.ListN.{length}
use lib.Ieee.{Float}
use Rattle.std.specs.Prelude.{None, Some, is_none}
use Rattle.numbers_spec.specs.Rows.{tabulate}
use Rattle.engine_spec.specs.Lent.{window}
use Rattle.engine_spec.specs.Refusals.{hop_in_range, counts_in_range}
use Rattle.engine_spec.specs.Windows.{Window}
use Rattle.engine_spec.proofs.Tests.{none_clash, and_l, and_r}
use Rattle.workload_spec.specs.Load.{load_time, load_energy, value_at, load}
use Rattle.workload_spec.specs.Fill.{counted, load_refusal, slices_after}
use Rattle.workload_spec.specs.declared.types.LoadRefusal.{LoadRefusal}
use Rattle.workload_spec.specs.declared.types.LoadRefusal.TheVariants as refused

module _ (seed : ℕ) (hop : Float) (w : Window) where
  after : (b : Bool) → is_none (load_refusal seed hop w) ≡ b → slices_after seed hop w ≡ cond b (load seed hop w.bands (length w.times)) w
  unfolding slices_after
  after b e = ap (λ (x : Bool). cond x (load seed hop w.bands (length w.times)) w) e

  pub as_it_was : {r : LoadRefusal} → Some r ≡ load_refusal seed hop w → w ≡ slices_after seed hop w
  as_it_was e = sym (after false (ap is_none (sym e)))

  -- what is filled is counted
  is_counted : load_refusal seed hop w ≡ None → T (counted w)
  unfolding load_refusal
  is_counted e = go (not (ltb 0 seed)) (not (hop_in_range hop)) (counts_in_range (length w.times) w.bands) (counted w) e
    where
      go : (a b c d : Bool) → cond a (Some refused.SeedZero) (cond b (Some refused.HopOutOfRange) (cond (not c) (Some refused.TooLarge) (cond (not d) (Some refused.Miscounted) None))) ≡ None → T d
      go true b c d e = none_clash e
      go false true c d e = none_clash e
      go false false false d e = none_clash e
      go false false true true e = tt
      go false false true false e = none_clash e

  pub all_written : {times energies values : List Float} → None ≡ load_refusal seed hop w → times ≡ tabulate (load_time hop) (length w.times) → energies ≡ tabulate (λ (i : ℕ). load_energy) (length w.energies) → values ≡ tabulate (value_at seed) (length w.values)
      → window w.bands times energies values ≡ slices_after seed hop w
  unfolding load
  all_written e t n v =
      let c = is_counted (sym e) in
      let a = eqb (length w.energies) (length w.times) in
      let b = eqb (length w.values) (w.bands * length w.times) in
      let many = eqb→eq (length w.energies) (length w.times) (and_l a b c) in
      let all = eqb→eq (length w.values) (w.bands * length w.times) (and_r a b c) in
      (λ i. window w.bands (t i) ((n ∙ ap (tabulate (λ (k : ℕ). load_energy)) many) i) ((v ∙ ap (tabulate (value_at seed)) all) i)) ∙ sym (after true (ap is_none (sym e)))
