-- What an opening or a submission that is not refused leaves to what follows: the bounds of all that is lent. Assumes nothing.
use Prim.Native.Nat.{ℕ, ◌+◌, ◌*◌, ◌/◌, ◌≤◌}
use mathlib.Core.Bool.{true, ◌&&◌}
use mathlib.Core.Path.{◌≡◌}
use lib.Dec.{T, ltb, leb, eqb, leb→le, eqb→eq}
use lib.ListN.{length}
use lib.Ieee.{Float, le}
use Rattle.std.specs.Prelude.{None}
use Rattle.numbers_spec.specs.Rows.{every}
use Rattle.matcher_spec.specs.Centring.{wide_hop}
use Rattle.matcher_spec.specs.Timeline.{valid_values}
use Rattle.matcher_spec.specs.Energy.{reduction}
use Rattle.matcher_spec.specs.Features.{Features}
use Rattle.matcher_spec.specs.Index.{Index}
use Rattle.matcher_spec.specs.Limits.{hop_least, hop_most, frames_most, bands_most}
use Rattle.engine_spec.specs.Refusals.{near, near_or_not_finite, valid_configuration, hop_in_range, counts_in_range, both_or_neither, index_fits, opening_refusal, valid_settings, valid_lock, valid_milestones, valid_last, valid_engine, valid_window, work_fits, handed_refusal, submission_refusal}
use Rattle.engine_spec.specs.Room.{Room}
use Rattle.engine_spec.specs.Windows.{Submission}
use Rattle.engine_spec.specs.declared.types.Configuration.{Configuration}
use Rattle.engine_spec.specs.declared.types.Settings.{Settings}
use Rattle.engine_spec.specs.declared.types.Engine.{Engine}
use Rattle.engine_spec.specs.declared.types.Refusal.TheVariants as refusal
use Rattle.engine_spec.proofs.Tests.{and_l, and_r, T-is}
use Rattle.engine_spec.proofs.Handed.{passed, unrefused}

-- ---- tests taken apart
wide : (hop : Float) → T (hop_in_range hop) → wide_hop hop ≡ true
wide hop h = T-is _ (and_l (le hop_least hop) (le hop hop_most) h)

record Counts (frames bands : ℕ) : Type 0 where
  short : frames ≤ frames_most
  few : bands ≤ bands_most

counts : (f b : ℕ) → T (counts_in_range f b) → Counts f b
counts f b h = record { short = leb→le f frames_most (and_l (leb f frames_most) (leb b bands_most) h); few = leb→le b bands_most (and_r (leb f frames_most) (leb b bands_most) h) }

record IndexRoom (frames bands : ℕ) (x : Index) : Type 0 where
  fine : bands * frames ≤ length x.fine
  coarse : bands * (frames / 4) ≤ length x.coarse
  fine_energy_lem : bands * (frames + 1) ≤ length x.fine_energy
  coarse_energy_lem : bands * (frames / 4 + 1) ≤ length x.coarse_energy

index_room : (f b : ℕ) (x : Index) → T (index_fits f b x) → IndexRoom f b x
unfolding index_fits
index_room f b x h =
    let fine = leb (b * f) (length x.fine) in
    let coarse = leb (b * (f / reduction)) (length x.coarse) in
    let fines = leb (b * (f + 1)) (length x.fine_energy) in
    let coarses = leb (b * (f / reduction + 1)) (length x.coarse_energy) in
    let i₁ = and_r fine (coarse && (fines && coarses)) h in
    let i₂ = and_r coarse (fines && coarses) i₁ in
    record {
      fine = leb→le (b * f) (length x.fine) (and_l fine (coarse && (fines && coarses)) h);
      coarse = leb→le (b * (f / reduction)) (length x.coarse) (and_l coarse (fines && coarses) i₁);
      fine_energy_lem = leb→le (b * (f + 1)) (length x.fine_energy) (and_l fines coarses i₂);
      coarse_energy_lem = leb→le (b * (f / reduction + 1)) (length x.coarse_energy) (and_r fines coarses i₂);
    }

-- ---- an opening
pub record OpenRoom (hop : Float) (reference : Features) (x : Index) : Type 0 where
  pub wide : wide_hop hop ≡ true
  pub short : length reference.times ≤ frames_most
  pub few : reference.bands ≤ bands_most
  pub values : length reference.values ≡ reference.bands * length reference.times
  pub fine : reference.bands * length reference.times ≤ length x.fine
  pub coarse : reference.bands * (length reference.times / 4) ≤ length x.coarse
  pub fine_energy_lem : reference.bands * (length reference.times + 1) ≤ length x.fine_energy
  pub coarse_energy_lem : reference.bands * (length reference.times / 4 + 1) ≤ length x.coarse_energy

pub open_room : (c : Configuration) (hop : Float) (reference : Features) (x : Index) → opening_refusal c hop reference x ≡ None → OpenRoom hop reference x
unfolding opening_refusal
open_room c hop reference x e =
    let n = length reference.times in
    let b = reference.bands in
    let p₁ = passed (valid_configuration c) refusal.InvalidConfiguration _ e in
    let p₂ = passed (hop_in_range hop) refusal.HopOutOfRange _ p₁.on in
    let p₃ = passed (counts_in_range n b) refusal.ReferenceTooLarge _ p₂.on in
    let p₄ = passed (eqb (length reference.values) (b * n)) refusal.ReferenceMiscounted _ p₃.on in
    let p₅ = passed (every near_or_not_finite reference.times) refusal.ReferenceTimeTooFar _ p₄.on in
    let p₆ = passed (index_fits n b x) refusal.IndexTooShort _ p₅.on in
    let i = index_room n b x p₆.here in
    record {
      wide = wide hop p₂.here;
      short = (counts n b p₃.here).short;
      few = (counts n b p₃.here).few;
      values = eqb→eq (length reference.values) (b * n) p₄.here;
      fine = i.fine;
      coarse = i.coarse;
      fine_energy_lem = i.fine_energy_lem;
      coarse_energy_lem = i.coarse_energy_lem;
    }

-- ---- a submission
room_handed : (s : Settings) (i : Submission) → T (valid_settings s) → handed_refusal s i ≡ None → Room s i.index i.window i.room32 i.room64
unfolding valid_settings valid_window work_fits
room_handed s i v e =
    let u = unrefused s i e in
    let w = i.window in
    let f = s.reference_frames in
    let b = s.reference_bands in
    let n = length w.times in
    let x = index_room f b i.index u.index in
    -- the settings
    let hop = hop_in_range s.hop_ms in
    let counted = counts_in_range f b in
    let both = both_or_neither f b in
    let start = near s.reference_start_ms.0 in
    let v₁ = and_r hop (counted && (both && start)) v in
    let k = counts f b (and_l counted (both && start) v₁) in
    -- the window
    let timed = eqb (length w.energies) n in
    let filled = eqb (length w.values) (w.bands * n) in
    let w₁ = and_r (ltb 0 w.bands) (timed && (filled && valid_values w.values)) u.valid in
    let w₂ = and_r timed (filled && valid_values w.values) w₁ in
    -- the working buffers
    let fits32 = leb (2 * (w.bands * n)) i.room32 in
    let fits64 = leb (3 * (w.bands * (n + 1)) + f) i.room64 in
    record {
      hop = wide s.hop_ms (and_l hop (counted && (both && start)) v);
      both = T-is both (and_l both start (and_r counted (both && start) v₁));
      few = k.few;
      short = k.short;
      some = u.some;
      energies = eqb→eq (length w.energies) n (and_l timed (filled && valid_values w.values) w₁);
      values = eqb→eq (length w.values) (w.bands * n) (and_l filled (valid_values w.values) w₂);
      fine = x.fine;
      coarse = x.coarse;
      fine_energy_lem = x.fine_energy_lem;
      coarse_energy_lem = x.coarse_energy_lem;
      work32 = leb→le (2 * (w.bands * n)) i.room32 (and_l fits32 fits64 u.work);
      work64 = leb→le (3 * (w.bands * (n + 1)) + f) i.room64 (and_r fits32 fits64 u.work);
    }

pub room : (e : Engine) (i : Submission) → submission_refusal e i ≡ None → Room e.settings i.index i.window i.room32 i.room64
unfolding submission_refusal valid_engine
room e i h =
    let p = passed (valid_engine e) refusal.StateOutOfRange _ h in
    let kept = valid_lock e.lock && (valid_milestones e.milestones && valid_last e.last) in
    room_handed e.settings i (and_l (valid_settings e.settings) kept (and_r (valid_configuration e.configuration) (valid_settings e.settings && kept) p.here)) p.on
