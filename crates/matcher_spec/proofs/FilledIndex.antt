-- A filled index holds its matcher: rows of equal length add up to as many values as `lent_bands` takes, and `take` of them before any tail gives them back. Assumes nothing.
use Prim.Native.Nat.{ℕ, suc, ◌*◌, ◌/◌}
use native.Mathlib.Nat.{le_of_eq}
use mathlib.Core.List.{List}
use mathlib.Core.Path.{◌≡◌, sym, ap}
use lib.ListN.{length, drop}
use lib.Seq.{take_at}
use lib.Ieee.{Float}
use Rattle.matcher_spec.specs.Centring.{radius}
use Rattle.matcher_spec.specs.Energy.{bands_of, all_averages}
use Rattle.matcher_spec.specs.Index.{Matcher, matcher_of, fine_values}
use Rattle.matcher_spec.specs.Search.{whole_search, local_search}
use Rattle.matcher_spec.specs.FilledIndex.{Sized, opened, FilledIndex}
use Rattle.matcher_spec.proofs.RowAccess.{length_fine, length_averages, length_energy}

sized : (hop : Float) (bands : ℕ) (times values : List Float) → length values ≡ bands * length times → Sized (matcher_of hop bands times values)
unfolding matcher_of
sized hop bands times values e =
    let n = length times in
    let fine = fine_values (radius hop) bands n values in
    let size = length_fine bands n values (le_of_eq (sym e)) (radius hop) in
    let averaged = length_averages bands n fine (le_of_eq (sym size)) in
    record {
      fine_values_lem = size;
      fine_energy_lem = length_energy bands n fine (le_of_eq (sym size));
      coarse_values = averaged;
      coarse_energy_lem = length_energy bands (n / 4) (all_averages bands n fine) (le_of_eq (sym averaged));
    }

pub filled_index : FilledIndex
unfolding matcher_of
filled_index hop bands times values e = record {
  sized = size;
  is_held = held;
  whole = λ a b c d w. ap (λ (x : Matcher). whole_search x w) (held a b c d);
  near = λ a b c d w lower upper. ap (λ (x : Matcher). local_search m.reference x.fine w lower upper) (held a b c d);
}
  where
    m : Matcher
    m = matcher_of hop bands times values

    size : Sized m
    size = sized hop bands times values e

    held : (old₁ old₂ old₃ old₄ : List Float) → opened m old₁ old₂ old₃ old₄ ≡ m
    held a b c d = λ i. record {
      reference = m.reference;
      fine = bands_of (length times)
          (take_at m.fine.values (drop (length m.fine.values) a) (bands * length times) size.fine_values_lem i)
          (take_at m.fine.energy (drop (length m.fine.energy) c) (bands * suc (length times)) size.fine_energy_lem i);
      coarse = bands_of (length times / 4)
          (take_at m.coarse.values (drop (length m.coarse.values) b) (bands * (length times / 4)) size.coarse_values i)
          (take_at m.coarse.energy (drop (length m.coarse.energy) d) (bands * suc (length times / 4)) size.coarse_energy_lem i);
    }
