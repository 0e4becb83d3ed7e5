-- Searches of an index as opening fills it (document 01, Opening and Matcher): every candidate's numbers are finite and bounded, no root is taken of anything but a normal number above zero, and energies grow. Definitions only.
use Rattle.std.specs.Prelude.{ℕ, suc, ◌*◌, ◌≤◌, ◌<◌, true, List, ◌≡◌, T, length, get_or, Float}
use Rattle.std.specs.Float.{nan}
use Rattle.std.specs.Float.Ieee.{le}
use Rattle.numbers_spec.specs.Values.{Between, Within}
use Rattle.numbers_spec.specs.Rows.{row, Every, F32}
use Rattle.matcher_spec.specs.Centring.{radius}
use Rattle.matcher_spec.specs.Energy.{Bands, reduced}
use Rattle.matcher_spec.specs.Index.{accepts_reference, matcher_of}
use Rattle.matcher_spec.specs.Search.{query_of, whole_search, local_search}
use Rattle.matcher_spec.specs.Features.{Features}
use Rattle.matcher_spec.specs.declared.types.Candidate.{Candidate}
use Rattle.matcher_spec.specs.ResultLaws.{All, Pairs, NoHigher, Far, Searchable}
use Rattle.matcher_spec.specs.ScoreBounds.{NormalRadicands}
use Rattle.matcher_spec.specs.CandidateBounds.{SoundCandidate, ModestCandidate}
use Rattle.matcher_spec.specs.Limits.{hop_least, hop_most, frames_most, window_most, bands_most, candidates_most, farthest}

-- A reference that is not refused and not rejected: a hop from 1 to 1,000, 64 bands and 65,535 frames at most, frames × bands values, which are f32, an accepted timeline and values, and a start within ±10 ^ 12.
pub record GoodReference (hop : Float) (bands : ℕ) (times values : List Float) : Type 0 where
  pub hop_between : Between hop_least hop_most hop
  pub few : bands ≤ bands_most
  pub short : length times ≤ frames_most
  pub full : length values ≡ bands * length times
  pub held : Every F32 values
  pub accepted : accepts_reference hop bands times values ≡ true
  pub start : Within (farthest) 0 (get_or times 0 nan)

-- A window that is not refused: 1,024 frames at most, frames × bands values, which are f32, and times within ±10 ^ 12.
pub record GoodWindow (w : Features) : Type 0 where
  pub short : length w.times ≤ window_most
  pub full : length w.values ≡ w.bands * length w.times
  pub held : Every F32 w.values
  pub timed : Every (Within (farthest) 0) w.times

-- ---- results
-- At most 8 candidates, any two 750 apart, none behind one that scores lower; every offset within ±2 ^ 41 and every score within ±2 ^ 40, and so finite and at most 10 ^ 13.
pub record SoundResult (l : List Candidate) : Type 0 where
  pub few : length l ≤ candidates_most
  pub far : Pairs Far l
  pub in_order : Pairs NoHigher l
  pub sound : All SoundCandidate l
  pub modest : All ModestCandidate l

abbrev pub WholeSound : Type 0
WholeSound =
    (hop : Float) (bands : ℕ) (times values : List Float) (w : Features) → GoodReference hop bands times values → GoodWindow w
    → SoundResult (whole_search (matcher_of hop bands times values) w)

abbrev pub LocalSound : Type 0
LocalSound =
    (hop : Float) (bands : ℕ) (times values : List Float) (w : Features) → GoodReference hop bands times values → GoodWindow w
    → (lower upper : Float) → let m = matcher_of hop bands times values in SoundResult (local_search m.reference m.fine w lower upper)

-- ---- roots
-- Of a window that is searched, in its bands and in those averaged by fours, at every place: what stands under a root is a normal number above zero.
abbrev pub RootArgumentNormal : Type 0
RootArgumentNormal =
    (hop : Float) (bands : ℕ) (times values : List Float) (w : Features) → GoodReference hop bands times values → GoodWindow w
    → let m = matcher_of hop bands times values in let query = query_of (radius hop) w in
    Searchable m.reference w → NormalRadicands bands m.fine query × NormalRadicands bands m.coarse (reduced bands query)

-- ---- energies
-- In each band no energy is below the one before it.
abbrev pub Growing : ℕ → Bands → Type 0
Growing bands x = (b i : ℕ) → b < bands → i < x.count → let energy = row (suc x.count) x.energy b in T (le (get_or energy i nan) (get_or energy (suc i) nan))

abbrev pub IndexEnergiesGrow : Type 0
IndexEnergiesGrow =
    (hop : Float) (bands : ℕ) (times values : List Float) → GoodReference hop bands times values
    → let m = matcher_of hop bands times values in Growing bands m.fine × Growing bands m.coarse
