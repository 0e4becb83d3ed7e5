-- What a submission that is not refused leaves to the searches: the bounds of all that is lent. Definitions only.
use Rattle.std.specs.Prelude.{ℕ, ◌+◌, ◌*◌, ◌/◌, ◌≤◌, ◌<◌, true, ◌≡◌, length}
use Rattle.matcher_spec.specs.Centring.{wide_hop}
use Rattle.matcher_spec.specs.Index.{Index}
use Rattle.engine_spec.specs.Windows.{Window}
use Rattle.engine_spec.specs.Refusals.{both_or_neither}
use Rattle.engine_spec.specs.declared.types.Settings.{Settings}
use Rattle.matcher_spec.specs.Limits.{frames_most, bands_most}

pub record Room (s : Settings) (x : Index) (w : Window) (room32 room64 : ℕ) : Type 0 where
  pub hop : wide_hop s.hop_ms ≡ true
  pub both : both_or_neither s.reference_frames s.reference_bands ≡ true
  pub few : s.reference_bands ≤ bands_most
  pub short : s.reference_frames ≤ frames_most
  pub some : 0 < length w.times
  pub energies : length w.energies ≡ length w.times
  pub values : length w.values ≡ w.bands * length w.times
  pub fine : s.reference_bands * s.reference_frames ≤ length x.fine
  pub coarse : s.reference_bands * (s.reference_frames / 4) ≤ length x.coarse
  pub fine_energy_lem : s.reference_bands * (s.reference_frames + 1) ≤ length x.fine_energy
  pub coarse_energy_lem : s.reference_bands * (s.reference_frames / 4 + 1) ≤ length x.coarse_energy
  pub work32 : 2 * (w.bands * length w.times) ≤ room32
  pub work64 : 3 * (w.bands * (length w.times + 1)) + s.reference_frames ≤ room64
