-- What an answered opening gives: a fresh engine with valid settings, a reference and windows that searches are sound of, and a lent index that holds the reference's matcher. Assumes nothing.
use Prim.Native.Nat.{ℕ, suc, ◌-◌, ◌*◌, ◌<◌}
use native.Mathlib.Omega.{arith}
use mathlib.Core.Bool.{Bool, true, false, cond, not, ◌&&◌}
use mathlib.Core.List.{List, ◌∷◌, ◌++◌}
use mathlib.Core.Logic.{inl, inr}
use mathlib.Core.Path.{◌≡◌, refl, sym, ap, subst, ◌∙◌}
use lib.Dec.{T, T_not, ltb, leb, eqb, ltb→lt, lt→ltb, leb→le, eqb→eq}
use lib.ListN.{length, get_or, drop}
use lib.Seq.{drop-append_seam}
use lib.Ieee.{Float, nan, le, lt, eq, neg, of_bits}
use lib.Ieee.Scale.{finite}
use Rattle.std.specs.Prelude.{Option, None, Some}
use Rattle.numbers_spec.specs.Arithmetic.{zero⁺}
use Rattle.numbers_spec.specs.Values.{Number}
use Rattle.numbers_spec.specs.Rows.{all_to, Every, F32, every}
use Rattle.matcher_spec.specs.Timeline.{regular, on_time, valid_values}
use Rattle.matcher_spec.specs.declared.types.Candidate.{Candidate}
use Rattle.matcher_spec.specs.Index.{Index, Matcher, accepts_reference, matcher_of, filled, lent, lent_matcher}
use Rattle.matcher_spec.specs.SoundSearch.{GoodReference, SoundResult}
use Rattle.matcher_spec.proofs.SoundSearch.{whole_sound, local_sound}
use Rattle.matcher_spec.proofs.FilledIndex.{filled_index}
use Rattle.engine_spec.specs.Windows.{Window, indexed, matcher_in, query, endpoint_of, Submission}
use Rattle.matcher_spec.specs.Features.{Features}
use Rattle.engine_spec.specs.Refusals.{refuses, near, near_or_not_finite, valid_configuration, hop_in_range, counts_in_range, both_or_neither, opening_refusal, valid_settings, handed_refusal}
use Rattle.engine_spec.specs.Opening.{fresh_engine, with_index, without_index, accepts_features, opened_settings, opening, fills, matcher_of_reference, opened_index}
use Rattle.engine_spec.specs.Readiness.{readiness}
use Rattle.engine_spec.specs.Publishing.{decide}
use Rattle.engine_spec.specs.Submitting.{lock_from, decision_on}
use Rattle.engine_spec.specs.Guarantee.{Begins, FilledWith, Handed}
use Rattle.engine_spec.specs.Guaranteed.{OpenedFilled}
use Rattle.engine_spec.specs.Cases.{is_refused}
use Rattle.engine_spec.specs.declared.types.Refusal.{Refusal}
use Rattle.engine_spec.specs.declared.types.Reached.{Reached}
use Rattle.engine_spec.specs.Milestones.{reached_by}
use Rattle.engine_spec.specs.declared.types.Configuration.{Configuration}
use Rattle.engine_spec.specs.declared.types.Settings.{Settings}
use Rattle.engine_spec.specs.declared.types.Lock.{Lock}
use Rattle.engine_spec.specs.declared.types.Engine.{Engine}
use Rattle.engine_spec.specs.declared.types.WithholdReason.{WithholdReason}
use Rattle.engine_spec.specs.declared.types.WithholdReason.TheVariants as reason
use Rattle.engine_spec.specs.Results as answer
use Rattle.engine_spec.specs.declared.types.Refusal.TheVariants as refusal
use Rattle.engine_spec.specs.Results.{OpenResult}
use Rattle.engine_spec.proofs.Tests.{cond_elim, option_elim, and_l, and_r, and_i, or_split, or_r, T-is}
use Rattle.engine_spec.proofs.Effects.{Fair, Sound, trim}
use Rattle.engine_spec.proofs.Handed.{passed, every_at, near_within, unrefused, near_endpoint, good_window}
use Rattle.engine_spec.proofs.EvidenceBound.{hop_between, evidence_bound, trimmed_finite}
use Rattle.matcher_spec.specs.Limits.{frames_most, bands_most}

-- ---- a lent buffer that begins with what opening filled in
-- It is what opening would make of it: its front again, and its own tail.
refilled : (front whole : List Float) → Begins front whole → whole ≡ filled true front whole
refilled front whole b = b.is ∙ sym (ap (λ (l : List Float). front ++ drop (length front) l) b.is ∙ ap (λ (l : List Float). front ++ l) (drop-append_seam front b.tail))

begins_filled : (yes : Bool) (front old : List Float) → T yes → Begins front (filled yes front old)
begins_filled true front old h = record { tail = drop (length front) old; is = refl }
begins_filled false front old h = absurd h

-- ---- a decision reads the matcher only where there is an index
unsearched : (indexed : Bool) (r : Option WithholdReason) → T (not indexed) → cond (not indexed) (Some reason.IndexUnavailable) r ≡ Some reason.IndexUnavailable
unsearched true r h = absurd h
unsearched false r h = refl

same_decision : (granted : Bool) (c : Configuration) (s : Settings) (m n : Matcher) (w : Window) (k : Reached) (l : Lock) → (T (indexed s) → m ≡ n) → decide granted c s m w k l ≡ decide granted c s n w k l
unfolding decide readiness
same_decision granted c s m n w k l h = go (indexed s) h (unsearched (indexed s) _)
  where
    go : (b : Bool) → (T b → m ≡ n) → (T (not b) → readiness c s k.confirmed w ≡ Some reason.IndexUnavailable) → decide granted c s m w k l ≡ decide granted c s n w k l
    go true h u = ap (λ (x : Matcher). decide granted c s x w k l) (h tt)
    go false h u = rw (u tt) refl

-- ---- the halves of a best candidate are no NaN
best_halves : (b : Candidate) (l : List Candidate) → SoundResult (b ∷ l) → Number b.first_half_score × Number b.second_half_score
best_halves b l r = let best = r.modest 0 (omega arith) in (best.first_half.number, best.second_half.number)

-- ---- the settings of an engine that was opened
module _ (hop : Float) (reference : Features) where
  pub hop_is : (opened_settings hop reference).hop_ms ≡ hop
  hop_is = cond_elim (λ (s : Settings). s.hop_ms ≡ hop) (accepts_features hop reference) (with_index hop reference) (without_index hop) (λ a. refl) (λ a. refl)

  -- With index, the reference was accepted,
  accepted_reference : T (indexed (opened_settings hop reference)) → T (accepts_features hop reference)
  accepted_reference = cond_elim (λ (s : Settings). T (indexed s) → T (accepts_features hop reference)) (accepts_features hop reference) (with_index hop reference) (without_index hop) (λ a h. a) (λ a h. absurd h)

  -- and the settings are the reference's.
  indexed_settings : T (indexed (opened_settings hop reference)) → opened_settings hop reference ≡ with_index hop reference
  indexed_settings h = go (accepts_features hop reference) (accepted_reference h)
    where
      go : (b : Bool) → T b → cond b (with_index hop reference) (without_index hop) ≡ with_index hop reference
      go true h = refl
      go false h = absurd h

-- ---- what an accepted reference is
record Accepted (hop : Float) (reference : Features) : Type 0 where
  frames : 1 < length reference.times
  bands : 0 < reference.bands
  start : T (finite (get_or reference.times 0 nan))

accepted : (hop : Float) (reference : Features) → T (accepts_features hop reference) → Accepted hop reference
unfolding accepts_reference regular
accepted hop reference h =
    let n = length reference.times in
    let timed = regular hop reference.times in
    let banded = ltb 0 reference.bands in
    let valued = valid_values reference.values in
    let begun = finite hop && (lt zero⁺ hop && finite (get_or reference.times 0 nan)) in
    let on_time_lem = all_to (λ (i : ℕ). on_time hop reference.times (suc i)) (n - 1) in
    let t = and_l timed (banded && valued) h in
    let start = and_l begun on_time_lem (and_r (ltb 1 n) (begun && on_time_lem) t) in
    record {
      frames = ltb→lt 1 n (and_l (ltb 1 n) (begun && on_time_lem) t);
      bands = ltb→lt 0 reference.bands (and_l banded valued (and_r timed (banded && valued) h));
      start = and_r (lt zero⁺ hop) (finite (get_or reference.times 0 nan)) (and_r (finite hop) (lt zero⁺ hop && finite (get_or reference.times 0 nan)) start);
    }

-- ---- an answered opening, whatever its values are: each test of `opening_refusal` passed
record Tested (c : Configuration) (hop : Float) (reference : Features) : Type 0 where
  configuration : T (valid_configuration c)
  hop_in_range_lem : T (hop_in_range hop)
  counts : T (counts_in_range (length reference.times) reference.bands)
  full : T (eqb (length reference.values) (reference.bands * length reference.times))
  times : T (every near_or_not_finite reference.times)

valid_settings_lem : (s : Settings) → T (hop_in_range s.hop_ms) → T (counts_in_range s.reference_frames s.reference_bands)
    → T (both_or_neither s.reference_frames s.reference_bands) → T (near s.reference_start_ms.0) → T (valid_settings s)
unfolding valid_settings
valid_settings_lem s q r b n =
    and_i (hop_in_range s.hop_ms) _ q
    (and_i (counts_in_range s.reference_frames s.reference_bands) _ r
    (and_i (both_or_neither s.reference_frames s.reference_bands) _ b n))

module _ (c : Configuration) (hop : Float) (reference : Features) (x : Index) (o : (opening c hop reference x).answer ≡ answer.Opened) where
  -- An opening is answered where it is not refused.
  not_refused : opening_refusal c hop reference x ≡ None
  unfolding opening is_refused
  not_refused =
      option_elim (λ (y : OpenResult). is_refused y.answer ≡ false → opening_refusal c hop reference x ≡ None) _ (opening_refusal c hop reference x) _
      (λ e _. e) (λ r _ h. absurd (subst (λ (b : Bool). T b) h tt)) (ap is_refused o)

  tested : Tested c hop reference
  unfolding opening_refusal
  tested =
      let p₁ = passed (valid_configuration c) refusal.InvalidConfiguration _ not_refused in
      let p₂ = passed (hop_in_range hop) refusal.HopOutOfRange _ p₁.on in
      let p₃ = passed (counts_in_range (length reference.times) reference.bands) refusal.ReferenceTooLarge _ p₂.on in
      let p₄ = passed (eqb (length reference.values) (reference.bands * length reference.times)) refusal.ReferenceMiscounted _ p₃.on in
      let p₅ = passed (every near_or_not_finite reference.times) refusal.ReferenceTimeTooFar _ p₄.on in
      record { configuration = p₁.here; hop_in_range_lem = p₂.here; counts = p₃.here; full = p₄.here; times = p₅.here }

  -- A finite start lies within ±10 ^ 12.
  start_near : Accepted hop reference → T (near (get_or reference.times 0 nan))
  start_near a = elim (or_split (not (finite t)) (near t) (every_at near_or_not_finite reference.times 0 tested.times (let k = a.frames in omega arith))) [
    | inl n ↦ absurd (T_not (finite t) n a.start)
    | inr n ↦ n
  ]
    where
      t : Float
      t = get_or reference.times 0 nan

  valid_opened : T (valid_settings (opened_settings hop reference))
  valid_opened = cond_elim (λ (s : Settings). T (valid_settings s)) (accepts_features hop reference) (with_index hop reference) (without_index hop)
      (λ a. let f = accepted hop reference a in
      valid_settings_lem (with_index hop reference) tested.hop_in_range_lem tested.counts (both (length reference.times) reference.bands (let k = f.frames in omega arith) f.bands) (start_near f))
      (λ a. valid_settings_lem (without_index hop) tested.hop_in_range_lem tt tt (unfold le lt eq neg of_bits in tt))
    where
      both : (frames bands : ℕ) → 0 < frames → 0 < bands → T (both_or_neither frames bands)
      both frames bands p q = or_r (eqb frames 0 && eqb bands 0) (ltb 0 frames && ltb 0 bands) (and_i (ltb 0 frames) (ltb 0 bands) (lt→ltb 0 frames p) (lt→ltb 0 bands q))

  -- ---- an index that is there
  module _ (there : T (indexed (opened_settings hop reference))) where
    matcher_held : (y : Index) → FilledWith (matcher_of_reference hop reference) y → matcher_in (opened_settings hop reference) y ≡ matcher_of_reference hop reference
    unfolding matcher_of
    matcher_held y f =
        let m = matcher_of_reference hop reference in
        ap (λ (s : Settings). matcher_in s y) (indexed_settings hop reference there)
        ∙ (λ k. lent_matcher m.reference (lent
        (refilled m.fine.values y.fine f.fine k)
        (refilled m.coarse.values y.coarse f.coarse k)
        (refilled m.fine.energy y.fine_energy f.fine_energy k)
        (refilled m.coarse.energy y.coarse_energy f.coarse_energy k)))
        ∙ (filled_index hop reference.bands reference.times reference.values (eqb→eq (length reference.values) (reference.bands * length reference.times) tested.full)).is_held y.fine y.coarse y.fine_energy y.coarse_energy

    filling : T (fills c hop reference x)
    unfolding fills
    filling = and_i (not (refuses (opening_refusal c hop reference x))) (accepts_features hop reference) (subst (λ (r : Option Refusal). T (not (refuses r))) (sym not_refused) tt) (accepted_reference hop reference there)

    opened_index_lem : FilledWith (matcher_of_reference hop reference) (opened_index c hop reference x)
    unfolding opened_index
    opened_index_lem =
        let m = matcher_of_reference hop reference in
        let yes = filling in
        record {
          fine = begins_filled (fills c hop reference x) m.fine.values x.fine yes;
          coarse = begins_filled (fills c hop reference x) m.coarse.values x.coarse yes;
          fine_energy = begins_filled (fills c hop reference x) m.fine.energy x.fine_energy yes;
          coarse_energy = begins_filled (fills c hop reference x) m.coarse.energy x.coarse_energy yes;
        }

    good_reference : Every F32 reference.values → GoodReference hop reference.bands reference.times reference.values
    good_reference h =
        let frames = leb (length reference.times) frames_most in
        let bands = leb reference.bands bands_most in
        let a = accepted_reference hop reference there in
        record {
          hop_between = hop_between hop (T-is (hop_in_range hop) tested.hop_in_range_lem);
          few = leb→le reference.bands bands_most (and_r frames bands tested.counts);
          short = leb→le (length reference.times) frames_most (and_l frames bands tested.counts);
          full = eqb→eq (length reference.values) (reference.bands * length reference.times) tested.full;
          held = h;
          accepted = T-is _ a;
          start = near_within (get_or reference.times 0 nan) (start_near (accepted hop reference a));
        }

pub opened_filled : OpenedFilled
opened_filled c hop reference x o there = opened_index_lem c hop reference x o there

-- ---- an answered opening of f32 values
pub record Opening (c : Configuration) (hop : Float) (reference : Features) (x : Index) : Type 0 where
  pub held : Every F32 reference.values
  pub opened : (opening c hop reference x).answer ≡ answer.Opened

module _ {c : Configuration} {hop : Float} {reference : Features} {x : Index} (o : Opening c hop reference x) where
  pub engine_is : (opening c hop reference x).engine ≡ fresh_engine c (opened_settings hop reference)
  unfolding opening
  engine_is = rw (not_refused c hop reference x o.opened) refl

  pub configuration_valid : valid_configuration c ≡ true
  configuration_valid = T-is (valid_configuration c) (tested c hop reference x o.opened).configuration

  pub settings_valid : valid_settings (opened_settings hop reference) ≡ true
  settings_valid = T-is (valid_settings (opened_settings hop reference)) (valid_opened c hop reference x o.opened)

  hop_of_settings : hop_in_range (opened_settings hop reference).hop_ms ≡ true
  hop_of_settings = ap hop_in_range (hop_is hop reference) ∙ T-is (hop_in_range hop) (tested c hop reference x o.opened).hop_in_range_lem

  pub trim_finite : T (finite (trim (opened_settings hop reference)))
  trim_finite = trimmed_finite (opened_settings hop reference).hop_ms hop_of_settings

  -- ---- a submission that is not refused, with the index that opening filled
  module _ (i : Submission) (h : Handed (opened_settings hop reference) (matcher_of_reference hop reference) i) (e : handed_refusal (opened_settings hop reference) i ≡ None) where
    pub sound : Sound (opened_settings hop reference) (matcher_of_reference hop reference) i.window
    sound =
        let good = good_window (opened_settings hop reference) i e h.held in
        record {
          whole = λ there. whole_sound hop reference.bands reference.times reference.values (query i.window) (good_reference c hop reference x o.opened there o.held) good;
          near = λ there. local_sound hop reference.bands reference.times reference.values (query i.window) (good_reference c hop reference x o.opened there o.held) good;
        }

    pub fair : Fair (opened_settings hop reference) (matcher_of_reference hop reference) i.window
    fair =
        let near_end = subst T (sym (near_endpoint (opened_settings hop reference) i e)) tt in
        record {
          endpoint = (near_within (endpoint_of i.window).0 near_end).finite_is;
          evidence = (evidence_bound (opened_settings hop reference).hop_ms i.window hop_of_settings (near_endpoint (opened_settings hop reference) i e)).0;
          halves = λ there b l f. best_halves b l (subst SoundResult (sym f) (sound.whole there));
        }

    -- The lent index holds the reference's matcher.
    matcher_is : T (indexed (opened_settings hop reference)) → matcher_in (opened_settings hop reference) i.index ≡ matcher_of_reference hop reference
    matcher_is there = matcher_held c hop reference x o.opened there i.index (h.index there (unrefused (opened_settings hop reference) i e).index)

  pub decision_is : (e : Engine) (i : Submission) → e.settings ≡ opened_settings hop reference → Handed (opened_settings hop reference) (matcher_of_reference hop reference) i
      → handed_refusal (opened_settings hop reference) i ≡ None
      → decision_on e i ≡ decide true e.configuration (opened_settings hop reference) (matcher_of_reference hop reference) i.window (reached_by e.milestones) (lock_from e i.window)
  unfolding decision_on
  decision_is e i same h r =
      let l = lock_from e i.window in
      ap (λ (s : Settings). decide true e.configuration s (matcher_in s i.index) i.window (reached_by e.milestones) l) same
      ∙ same_decision true e.configuration (opened_settings hop reference) (matcher_in (opened_settings hop reference) i.index) (matcher_of_reference hop reference) i.window (reached_by e.milestones) l (matcher_is i h r)
