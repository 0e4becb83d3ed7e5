-- Searches of a filled index: the reference's centred values and the query's are small (CentringBounds), so that scores and candidates are bounded (ScoreBounds, CandidateBounds), and what holds of every candidate holds of the result (ResultLaws). Assumes nothing.
use mathlib.Core.Path.{◌≡◌, sym}
use Prim.Native.Nat.{ℕ, suc, ◌+◌, ◌-◌, ◌*◌, ◌/◌, ◌≤◌, ◌<◌}
use native.Mathlib.Nat.{le_of_eq}
use native.Mathlib.Omega.{arith}
use mathlib.Core.Bool.{true, ◌&&◌}
use mathlib.Core.List.{List}
use lib.Dec.{ltb}
use lib.ListN.{length, get_or}
use lib.Ieee.{Float, le}
use borrow.Author.Tests.{ltb-true}
use Rattle.numbers_spec.specs.Arithmetic.{one}
use Rattle.numbers_spec.proofs.Value.{finite_no_nan}
use Rattle.numbers_spec.specs.Values.{Within}
use Rattle.matcher_spec.specs.Timeline.{regular, valid_values}
use Rattle.numbers_spec.specs.Rows.{row, Every}
use Rattle.matcher_spec.specs.Centring.{radius, radius_most}
use Rattle.matcher_spec.specs.Energy.{all_averages, with_energies}
use Rattle.matcher_spec.specs.Index.{Matcher, accepts_reference, fine_values, matcher_of}
use Rattle.matcher_spec.specs.Candidates.{blank}
use Rattle.matcher_spec.specs.Search.{query_values, query_of, query_start, whole_search, local_search}
use Rattle.matcher_spec.specs.Features.{Features}
use Rattle.matcher_spec.proofs.RadiusLaw.{radius_small}
use Rattle.matcher_spec.specs.CentringBounds.{Small}
use Rattle.matcher_spec.specs.ResultLaws.{Searchable, OfPlaces}
use Rattle.matcher_spec.specs.ScoreBounds.{BoundedBands, Comparable}
use Rattle.matcher_spec.specs.CandidateBounds.{SoundCandidate}
use Rattle.matcher_spec.specs.SoundSearch.{GoodReference, GoodWindow, WholeSound, LocalSound, RootArgumentNormal, Growing, IndexEnergiesGrow}
use Rattle.matcher_spec.proofs.Cases.{T-is, and_true_l, and_true_r}
use Rattle.matcher_spec.proofs.RowAccess.{length_row, length_fine, length_query, length_averages, energies_row, energy_at, every_part}
use Rattle.matcher_spec.proofs.CentringBounds.{fine_within, query_within, all_averages_within}
use Rattle.matcher_spec.proofs.ScoreBounds.{energy_grows, radicands_normal}
use Rattle.matcher_spec.proofs.CandidateBounds.{candidate_in_sound, sound_modest}
use Rattle.matcher_spec.proofs.ResultLaws.{at_most_eight, whole_apart, whole_finds, whole_sorted, at_most_one, local_finds}
use Rattle.matcher_spec.specs.Limits.{frames_most, window_most}

-- ---- small bands
record SmallBands (bands n : ℕ) (v : List Float) : Type 0 where
  full : length v ≡ bands * n
  each : Every Small v

averaged : (bands n : ℕ) (v : List Float) → SmallBands bands n v → SmallBands bands (n / 4) (all_averages bands n v)
averaged bands n v s = record { full = length_averages bands n v (le_of_eq (sym s.full)); each = all_averages_within bands n v s.each }

bounded : (bands n : ℕ) (v : List Float) → SmallBands bands n v → BoundedBands bands n v
bounded bands n v s = record { long = le_of_eq (sym s.full); each = λ i l. (s.each i l).within }

-- energies of small bands grow
growing : (bands n : ℕ) (v : List Float) → n ≤ frames_most → SmallBands bands n v → Growing bands (with_energies bands n v)
growing bands n v f s b i w h =
    let long = le_of_eq (sym s.full) in
    let size = length_row bands n v b long w in
    rw (energies_row bands n v long b w, energy_at (row n v b) i (omega arith), energy_at (row n v b) (suc i) (omega arith))
    (energy_grows (row n v b) (every_part (Within 1 7) n (b * n) v (bounded bands n v s).each) (omega arith) i (suc i) (omega arith) (omega arith))

module _ (hop : Float) (bands : ℕ) (times values : List Float) (G : GoodReference hop bands times values) where
  reference_some : 1 ≤ bands
  unfolding accepts_reference
  reference_some = ltb-true 0 bands (and_true_l (ltb 0 bands) (valid_values values) (and_true_r (regular hop times) (ltb 0 bands && valid_values values) G.accepted))

  reference_valid : valid_values values ≡ true
  unfolding accepts_reference
  reference_valid = and_true_r (ltb 0 bands) (valid_values values) (and_true_r (regular hop times) (ltb 0 bands && valid_values values) G.accepted)

  radius_few : radius hop ≤ radius_most
  radius_few = radius_small hop (T-is (le one hop) G.hop_between.from)

  fine_small : SmallBands bands (length times) (fine_values (radius hop) bands (length times) values)
  fine_small =
      let r = radius_few in
      let n = G.short in
      record {
        full = length_fine bands (length times) values (le_of_eq (sym G.full)) (radius hop);
        each = fine_within (radius hop) bands (length times) values (omega arith) (omega arith) G.held reference_valid;
      }

pub index_energies_grow : IndexEnergiesGrow
unfolding matcher_of
index_energies_grow hop bands times values G =
    let n = length times in
    let fine = fine_values (radius hop) bands n values in
    let small = fine_small hop bands times values G in
    let short = G.short in
    (growing bands n fine short small, growing bands (n / 4) (all_averages bands n fine) (omega arith) (averaged bands n fine small))

-- ---- a window that is searched
module _ (hop : Float) (bands : ℕ) (times values : List Float) (w : Features) (G : GoodReference hop bands times values) (W : GoodWindow w) where
  abbrev m : Matcher
  m = matcher_of hop bands times values

  abbrev fine : List Float
  fine = fine_values (radius hop) bands (length times) values

  -- the query's frames and values
  abbrev count : ℕ
  count = length w.times - 2 * radius hop

  abbrev query : List Float
  query = query_values (radius hop) bands (length w.times) w.values

  module _ (S : Searchable m.reference w) where
    same_bands : w.bands ≡ bands
    unfolding matcher_of
    same_bands = S.same_bands

    -- it has 17 frames or more, and lies within the reference
    lengths : (17 ≤ count) × ((count ≤ window_most) × (count ≤ length times))
    unfolding matcher_of
    lengths =
        let n = W.short in
        let long : 2 * radius hop + 16 < length w.times = S.long in
        (omega arith, (omega arith, S.fits))

    query_small : SmallBands bands count query
    query_small =
        let r = radius_few hop bands times values G in
        let n = W.short in
        record {
          full = length_query bands (length w.times) w.values (rw (← same_bands) (le_of_eq (sym W.full))) (radius hop);
          each = query_within (radius hop) bands (length w.times) w.values (omega arith) (omega arith) W.held S.valid;
        }

    comparable : (n k : ℕ) (v q : List Float) → n ≤ frames_most → 1 ≤ k → k ≤ window_most → SmallBands bands n v → SmallBands bands k q → Comparable bands n k v q
    comparable n k v q f s h a b = record {
      some = reference_some hop bands times values G;
      few = G.few;
      frames = f;
      heard = s;
      short = h;
      reference_bounded = bounded bands n v a;
      query_bounded = bounded bands k q b;
    }

    fine_comparable : Comparable bands (length times) count fine query
    fine_comparable = let l = lengths in comparable (length times) count fine query G.short (omega arith) (omega arith) (fine_small hop bands times values G) query_small

    coarse_comparable : Comparable bands (length times / 4) (count / 4) (all_averages bands (length times) fine) (all_averages bands count query)
    coarse_comparable =
        let l = lengths in
        let n = G.short in
        comparable (length times / 4) (count / 4) (all_averages bands (length times) fine) (all_averages bands count query) (omega arith) (omega arith) (omega arith)
        (averaged bands (length times) fine (fine_small hop bands times values G)) (averaged bands count query query_small)

  places_sound : OfPlaces m.reference m.fine w SoundCandidate
  unfolding matcher_of query_of
  places_sound S low high h k =
      let l = lengths S in
      rw (same_bands S)
      (candidate_in_sound m.reference (length times) count fine query (query_start (radius hop) w) (fine_comparable S) (omega arith)
      (record { hop = G.hop_between; reference_start = G.start; query_start_lem = W.timed (radius hop) (omega arith) }) low high h (omega arith))

-- ---- the theorems
pub root_argument_normal : RootArgumentNormal
unfolding matcher_of query_of
root_argument_normal hop bands times values w G W S =
    rw (same_bands hop bands times values w G W S) (
      radicands_normal bands _ _ _ _ (fine_comparable hop bands times values w G W S),
      radicands_normal bands _ _ _ _ (coarse_comparable hop bands times values w G W S),
    )

pub whole_sound : WholeSound
whole_sound hop bands times values w G W =
    let m = matcher_of hop bands times values in
    let sound = whole_finds m w SoundCandidate (places_sound hop bands times values w G W) in
    record {
      few = at_most_eight m w;
      far = whole_apart m w;
      in_order = whole_sorted m w (λ S low high h k. finite_no_nan _ (places_sound hop bands times values w G W S low high h k).score.finite_is);
      sound = sound;
      modest = λ i l. sound_modest (get_or (whole_search m w) i blank) (sound i l);
    }

pub local_sound : LocalSound
unfolding matcher_of
local_sound hop bands times values w G W lower upper =
    let m = matcher_of hop bands times values in
    let n = G.short in
    let found = local_search m.reference m.fine w lower upper in
    let lone : length found ≤ 1 = at_most_one m.reference m.fine w lower upper in
    let sound = local_finds m.reference m.fine w lower upper SoundCandidate (omega arith) (places_sound hop bands times values w G W) in
    record {
      few = omega arith;
      far = λ i j h k. absurd (omega arith);
      in_order = λ i j h k. absurd (omega arith);
      sound = sound;
      modest = λ i l. sound_modest (get_or found i blank) (sound i l);
    }
