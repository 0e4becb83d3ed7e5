-- What filling a load refuses, and what it leaves in the slices that it is lent (document 02, Job 7). Definitions only.
use Rattle.std.specs.Prelude.{ℕ, ◌*◌, Bool, cond, not, ◌&&◌, eqb, ltb, length, Float, Option, None, Some, is_none}
use Rattle.std.specs.Option.{option_map_or}
use Rattle.engine_spec.specs.Refusals.{number_of, hop_in_range, counts_in_range}
use Rattle.engine_spec.specs.Windows.{Window}
use Rattle.engine_spec.specs.declared.types.Refusal.TheVariants as refusal
use Rattle.workload_spec.specs.Load.{load}
use Rattle.workload_spec.specs.declared.types.LoadRefusal.{LoadRefusal}
use Rattle.workload_spec.specs.declared.types.LoadRefusal.TheVariants as refused

-- 4: an energy for each time, and bands × frames values, no more and no fewer.
abbrev pub counted : Window → Bool
counted w = eqb (length w.energies) (length w.times) && eqb (length w.values) (w.bands * length w.times)

-- What is refused, by the seed, the hop and the slices lent: 16, 2, 3, 4, in this order.
unfoldable pub load_refusal : ℕ → Float → Window → Option LoadRefusal
load_refusal seed hop w =
    cond (not (ltb 0 seed)) (Some refused.SeedZero)
    (cond (not (hop_in_range hop)) (Some refused.HopOutOfRange)
    (cond (not (counts_in_range (length w.times) w.bands)) (Some refused.TooLarge)
    (cond (not (counted w)) (Some refused.Miscounted)
    None)))

-- What opening refuses too has opening's number.
unfoldable pub load_number : LoadRefusal → ℕ
load_number refused.SeedZero = 16
load_number refused.HopOutOfRange = number_of refusal.HopOutOfRange
load_number refused.TooLarge = number_of refusal.ReferenceTooLarge
load_number refused.Miscounted = number_of refusal.ReferenceMiscounted

-- The number that filling gives back: 0 where it is filled.
abbrev pub filling_number : Option LoadRefusal → ℕ
filling_number r = option_map_or load_number r 0

-- What the slices hold afterwards: the load, or, where it is refused, what they held.
unfoldable pub slices_after : ℕ → Float → Window → Window
slices_after seed hop w = cond (is_none (load_refusal seed hop w)) (load seed hop w.bands (length w.times)) w
