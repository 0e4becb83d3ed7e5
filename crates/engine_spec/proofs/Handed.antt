-- What a submission that is not refused gives: each test of `handed_refusal` passed, its times lie within ±10 ^ 12, and so its window is one that searches are sound of. Assumes nothing.
use Prim.Native.Nat.{ℕ, zero, suc, ◌-◌, ◌*◌, ◌≤◌, ◌<◌}
use native.Mathlib.Nat.{le_refl, not-suc-le-zero}
use native.Mathlib.Omega.{arith}
use mathlib.Core.Bool.{Bool, true, false, ◌&&◌}
use mathlib.Core.List.{List}
use mathlib.Core.Logic.{inl, inr}
use mathlib.Core.Path.{◌≡◌, refl, sym, subst}
use lib.Dec.{T, ltb, leb, eqb, ltb→lt, leb→le, eqb→eq}
use lib.Count.{count_trailing_zeros}
use lib.ListN.{length, get_or}
use lib.Ieee.{Float, nan, le, neg, of_bits, of_fields, odd}
use lib.Ieee.Scale.{finite}
use Rattle.std.specs.Prelude.{Option, None, Some}
use Rattle.numbers_spec.specs.Values.{Within}
use Rattle.numbers_spec.proofs.Order.{between_at_most}
use Rattle.numbers_spec.specs.Rows.{all_to, Every, F32, every}
use Rattle.matcher_spec.specs.Timeline.{valid_values}
use Rattle.matcher_spec.specs.SoundSearch.{GoodWindow}
use Rattle.numbers_spec.proofs.Within.{at_most_within}
use Rattle.matcher_spec.proofs.Bounds.{widened_to}
use Rattle.engine_spec.specs.Windows.{query, endpoint_of, Submission}
use Rattle.engine_spec.specs.Refusals.{unless, ◌then◌, near, index_fits, lent_refusal, valid_window, valid_energy, window_refusal, work_fits, work_refusal, handed_refusal, RefusesByNumber, number_of}
use Rattle.engine_spec.specs.declared.types.Settings.{Settings}
use Rattle.engine_spec.specs.declared.types.Refusal.{Refusal}
use Rattle.engine_spec.specs.declared.types.Refusal.TheVariants as refusal
use Rattle.engine_spec.proofs.Tests.{none_clash, and_l, and_r, T-is, below_or}
use Rattle.matcher_spec.specs.Limits.{window_most, bands_most, farthest_ms, farthest}

-- ---- a refusal by its number
pub refuses_by_number : RefusesByNumber
unfolding number_of
refuses_by_number None = refl
refuses_by_number (Some refusal.InvalidConfiguration) = refl
refuses_by_number (Some refusal.HopOutOfRange) = refl
refuses_by_number (Some refusal.ReferenceTooLarge) = refl
refuses_by_number (Some refusal.ReferenceMiscounted) = refl
refuses_by_number (Some refusal.ReferenceTimeTooFar) = refl
refuses_by_number (Some refusal.IndexTooShort) = refl
refuses_by_number (Some refusal.StateOutOfRange) = refl
refuses_by_number (Some refusal.ClockNotFinite) = refl
refuses_by_number (Some refusal.NoFrames) = refl
refuses_by_number (Some refusal.WindowTooLarge) = refl
refuses_by_number (Some refusal.WindowInvalid) = refl
refuses_by_number (Some refusal.WindowTimeOutOfRange) = refl
refuses_by_number (Some refusal.WorkTooShort) = refl
refuses_by_number (Some refusal.NameOutOfRange) = refl
refuses_by_number (Some refusal.StoreTooShort) = refl
refuses_by_number (Some refusal.NothingKept) = refl

-- ---- refusals in order
-- Where the whole is no refusal, the first test passed and the rest is none.
pub record Passed (test : Bool) (rest : Option Refusal) : Type 0 where
  pub here : T test
  pub on : rest ≡ None

pub passed : (test : Bool) (r : Refusal) (rest : Option Refusal) → unless test r rest ≡ None → Passed test rest
passed true r rest e = record { here = tt; on = e }
passed false r rest e = none_clash e

-- Where neither of two refuses in order, the first does not and the second does not.
pub record Both (r rest : Option Refusal) : Type 0 where
  pub first : r ≡ None
  pub second : rest ≡ None

pub both : (r rest : Option Refusal) → r then rest ≡ None → Both r rest
both None rest e = record { first = refl; second = e }
both (Some r) rest e = none_clash e

-- ---- every element
all_at : (p : ℕ → Bool) (n i : ℕ) → T (all_to p n) → i < n → T (p i)
unfolding all_to
all_at p zero i h k = absurd (not-suc-le-zero k)
all_at p (suc n) i h k = elim (below_or i n k) [
  | inl w ↦ all_at p n i (and_l (all_to p n) (p n) h) w
  | inr e ↦ subst (λ (j : ℕ). T (p j)) (sym e) (and_r (all_to p n) (p n) h)
]

pub every_at : (p : Float → Bool) (l : List Float) (i : ℕ) → T (every p l) → i < length l → T (p (get_or l i nan))
unfolding every
every_at p l i h k = all_at (λ (j : ℕ). p (get_or l j nan)) (length l) i h k

-- ---- times within ±10 ^ 12, which is 244140625 * 2 ^ 12
pub near_within : (x : Float) → T (near x) → Within (farthest) 0 x
unfolding of_bits of_fields odd count_trailing_zeros
near_within x h =
    widened_to 244140625 244140625 12 (farthest) 0 x (le_refl 244140625) tt
    (at_most_within 244140625 12 x
    (between_at_most farthest_ms x (record { from = and_l (le (neg farthest_ms) x) (le x farthest_ms) h; to = and_r (le (neg farthest_ms) x) (le x farthest_ms) h })))

-- ---- what was handed in and not refused
pub record Unrefused (s : Settings) (i : Submission) : Type 0 where
  pub index : T (index_fits s.reference_frames s.reference_bands i.index)
  pub clock : T (finite i.clock.0)
  pub some : 0 < length i.window.times
  pub short : length i.window.times ≤ window_most
  pub few : i.window.bands ≤ bands_most
  pub valid : T (valid_window i.window)
  pub times : T (every near i.window.times)
  pub work : T (work_fits i.window.bands (length i.window.times) s.reference_frames i.room32 i.room64)

module _ (s : Settings) (i : Submission) (e : handed_refusal s i ≡ None) where
  pub unrefused : Unrefused s i
  unfolding handed_refusal window_refusal
  unrefused =
      let w = i.window in
      let n = length w.times in
      let lent = both (lent_refusal s i.index i.clock) (window_refusal w then work_refusal s w i.room32 i.room64) e in
      let whole = both (window_refusal w) (work_refusal s w i.room32 i.room64) lent.second in
      let p₁ = passed (index_fits s.reference_frames s.reference_bands i.index) refusal.IndexTooShort _ lent.first in
      let p₂ = passed (finite i.clock.0) refusal.ClockNotFinite _ p₁.on in
      let p₃ = passed (ltb 0 n) refusal.NoFrames _ whole.first in
      let p₄ = passed (leb n window_most && leb w.bands bands_most) refusal.WindowTooLarge _ p₃.on in
      let p₅ = passed (valid_window w) refusal.WindowInvalid _ p₄.on in
      let p₆ = passed (every near w.times && every valid_energy w.energies) refusal.WindowTimeOutOfRange _ p₅.on in
      let p₇ = passed (work_fits w.bands n s.reference_frames i.room32 i.room64) refusal.WorkTooShort _ whole.second in
      record {
        index = p₁.here;
        clock = p₂.here;
        some = ltb→lt 0 n p₃.here;
        short = leb→le n window_most (and_l (leb n window_most) (leb w.bands bands_most) p₄.here);
        few = leb→le w.bands bands_most (and_r (leb n window_most) (leb w.bands bands_most) p₄.here);
        valid = p₅.here;
        times = and_l (every near w.times) (every valid_energy w.energies) p₆.here;
        work = p₇.here;
      }

  pub near_endpoint : near (endpoint_of i.window).0 ≡ true
  near_endpoint = T-is _ (every_at near i.window.times (length i.window.times - 1) unrefused.times (let k = unrefused.some in omega arith))

  pub clock_finite : T (finite i.clock.0)
  clock_finite = unrefused.clock

  -- The window is one that searches are sound of.
  pub good_window : Every F32 i.window.values → GoodWindow (query i.window)
  unfolding valid_window
  good_window f =
      let w = i.window in
      let some = ltb 0 w.bands in
      let timed = eqb (length w.energies) (length w.times) in
      let filled = eqb (length w.values) (w.bands * length w.times) in
      let valued = valid_values w.values in
      record {
        short = unrefused.short;
        full = eqb→eq (length w.values) (w.bands * length w.times) (and_l filled valued (and_r timed (filled && valued) (and_r some (timed && (filled && valued)) unrefused.valid)));
        held = f;
        timed = λ k h. near_within (get_or w.times k nan) (every_at near w.times k unrefused.times h);
      }
