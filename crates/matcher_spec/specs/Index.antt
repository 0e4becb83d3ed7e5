-- The index (document 01, Opening and Matcher; matcher.rs, `SpectralMatcher`): what opening fills and a search reads. Definitions only.
use Rattle.std.specs.Prelude.{ℕ, suc, ◌*◌, ◌/◌, Bool, cond, ◌&&◌, List, ◌++◌, ltb, length, get_or, take, drop, Float}
use Rattle.std.specs.Float.{nan}
use Rattle.numbers_spec.specs.Rows.{rows, row}
use Rattle.matcher_spec.specs.Timeline.{regular, valid_values}
use Rattle.matcher_spec.specs.Centring.{radius, centred}
use Rattle.matcher_spec.specs.Energy.{Bands, bands_of, with_energies, reduced, reduction}
use Rattle.matcher_spec.specs.declared.types.Reference.{Reference}

-- The four buffers of the index, as they are lent.
pub record Index : Type 0 where
  pub fine : List Float
  pub coarse : List Float
  pub fine_energy : List Float
  pub coarse_energy : List Float

abbrev pub lent : List Float → List Float → List Float → List Float → Index
lent fine coarse fine_energy coarse_energy = record { fine = fine; coarse = coarse; fine_energy = fine_energy; coarse_energy = coarse_energy }

-- The matcher: bands, frames, start and hop of the reference, its bands as they are and averaged by fours.
pub record Matcher : Type 0 where
  pub reference : Reference
  pub fine : Bands
  pub coarse : Bands

-- Whether `SpectralMatcher::new` accepts the reference.
unfoldable pub accepts_reference : Float → ℕ → List Float → List Float → Bool
accepts_reference hop bands times values = regular hop times && (ltb 0 bands && valid_values values)

-- Each band centred.
abbrev pub fine_values : ℕ → ℕ → ℕ → List Float → List Float
fine_values r bands n values = rows (λ (b : ℕ). centred r (row n values b)) bands

-- The matcher of an accepted reference.
unfoldable pub matcher_of : Float → ℕ → List Float → List Float → Matcher
matcher_of hop bands times values =
    let fine = with_energies bands (length times) (fine_values (radius hop) bands (length times) values) in
    record {
      reference = record { bands = bands; frames = length times; start_ms = get_or times 0 nan; hop_ms = hop };
      fine = fine;
      coarse = reduced bands fine;
    }

-- What a buffer holds after opening: the filled part and the old tail, or all as it was.
abbrev pub filled : Bool → List Float → List Float → List Float
filled accepted part old = cond accepted (part ++ drop (length part) old) old

-- The bands that two lent buffers hold. A longer tail is no part of them.
abbrev pub lent_bands : ℕ → ℕ → List Float → List Float → Bands
lent_bands bands n values energy = bands_of n (take (bands * n) values) (take (bands * suc n) energy)

-- The matcher that a lent index holds.
abbrev pub lent_matcher : Reference → Index → Matcher
lent_matcher x i = record {
  reference = x;
  fine = lent_bands x.bands x.frames i.fine i.fine_energy;
  coarse = lent_bands x.bands (x.frames / reduction) i.coarse i.coarse_energy;
}
