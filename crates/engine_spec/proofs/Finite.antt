-- Every number of a computed snapshot is finite (specs/Finite.antt): windows that are not refused have times within ±10^12, their searches are sound, and what the state carries stays in range. Assumes nothing.
use Prim.Native.Nat.{ℕ, zero, suc, ◌-◌, ◌≤◌, ◌<◌}
use mathlib.Core.Bool.{true}
use mathlib.Core.List.{List, [], ◌∷◌, ◌++◌}
use mathlib.Core.Path.{◌≡◌, sym, subst}
use native.Mathlib.Nat.{le_of_suc-le-suc, not-suc-le-zero, le_trans}
use native.Mathlib.Omega.{arith}
use lib.Dec.{T, lit≤, leb}
use lib.Count.{count_trailing_zeros}
use lib.ListN.{length, get_or, replicate}
use lib.Ieee.{Float, nan, binary64, le, lt, eq, add, mul, div, sum, of_int, of_bits, of_fields, odd, round, units, size, span, climb}
use lib.Ieee.Scale.{finite}
use Rattle.std.specs.Prelude.{Option, None, Some}
use Rattle.numbers_spec.specs.Arithmetic.{◌⊕◌, ◌⊖◌, ◌⊗◌, ◌⊘◌, zero⁺, one, at_least, real, magnitude}
use Rattle.numbers_spec.specs.Rows.{every}
use Rattle.numbers_spec.specs.Values.{AtMost}
use Rattle.numbers_spec.proofs.Value.{finite_no_nan}
use Rattle.numbers_spec.proofs.Order.{le_transitive, lt→le, magnitude_above, magnitude_finite, at_most_finite}
use Rattle.numbers_spec.proofs.Sums.{sub_at_most}
use Rattle.numbers_spec.proofs.Products.{mul_at_most, div_at_most}
use Rattle.numbers_spec.proofs.RowLaws.{tally_few}
use Rattle.numbers_spec.proofs.Within.{sub_within, div_within, one→size}
use Rattle.matcher_spec.specs.Limits.{candidates_most, window_most, frames_most, farthest_ms, track_most}
use Rattle.matcher_spec.specs.Candidates.{margin_of}
use Rattle.matcher_spec.specs.Index.{Matcher}
use Rattle.matcher_spec.specs.ResultLaws.{All}
use Rattle.matcher_spec.specs.CandidateBounds.{SoundCandidate, ModestCandidate}
use Rattle.matcher_spec.specs.SoundSearch.{SoundResult}
use Rattle.matcher_spec.specs.declared.types.Candidate.{Candidate}
use Rattle.matcher_spec.proofs.Bounds.{holds}
use Rattle.matcher_spec.proofs.WholeBounds.{real_mono}
use Rattle.matcher_spec.proofs.ScoreBounds.{real_within}
use Rattle.engine_spec.specs.Thresholds.{coast_most_ms, trimmed_ms}
use Rattle.engine_spec.specs.Cases.{is_publishing}
use Rattle.engine_spec.specs.Windows.{Window, Submission, start, endpoint_of, duration, ◌after◌}
use Rattle.engine_spec.specs.Refusals.{near, track_number, valid_configuration, valid_milestone, valid_milestones, valid_endpoint, valid_estimate, valid_snapshot, valid_last}
use Rattle.engine_spec.specs.Opening.{blank_candidate, fresh_engine, opened_settings, matcher_of_reference}
use Rattle.engine_spec.specs.Readiness.{active_fraction}
use Rattle.engine_spec.specs.Publishing.{Decision, of_best, fresh_evidence, coverage, candidates_shown, magnitude_of, track_correlation, confidence_of, publish}
use Rattle.engine_spec.specs.Submitting.{computed_from}
use Rattle.engine_spec.specs.Lists.{Answered, answers_to, remaining, unanswered}
use Rattle.engine_spec.specs.Guarantee.{AllHanded}
use Rattle.engine_spec.specs.Finite.{FiniteNumber, FiniteMilestone, FiniteEstimate, FiniteCandidate, FiniteSnapshot, FiniteSnapshots}
use Rattle.engine_spec.specs.declared.types.ClockMs.{ClockMs}
use Rattle.engine_spec.specs.declared.types.Configuration.{Configuration}
use Rattle.engine_spec.specs.declared.types.Settings.{Settings}
use Rattle.engine_spec.specs.declared.types.CandidateDiagnostics.{CandidateDiagnostics}
use Rattle.engine_spec.specs.declared.types.Engine.{Engine}
use Rattle.engine_spec.specs.declared.types.Estimate.{Estimate}
use Rattle.engine_spec.specs.declared.types.Hypothesis.{Hypothesis}
use Rattle.engine_spec.proofs.Tests.{cond_elim, and_l, and_r, T-is}
use Rattle.engine_spec.proofs.EvidenceBound.{bounded, farthest_finite, track_most_finite}
use Rattle.engine_spec.proofs.MovedBound.{since_finite}
use Rattle.engine_spec.proofs.Validity.{Bounded, held, Safe, DecisionWell, after_finite, decision_well}
use Rattle.engine_spec.proofs.Handed.{unrefused, every_at, near_endpoint}
use Rattle.engine_spec.proofs.Openings.{Opening, engine_is, configuration_valid}
use Rattle.engine_spec.proofs.Submissions.{computed_by, Good, Grounds, New, good_fresh, steps, Trace, end, more, trace}
use Rattle.engine_spec.proofs.Run.{grounds}

abbrev Finite : Float → Type 0
Finite x = T (finite x)

modest_finite : (x : Float) → AtMost track_most x → Finite x
modest_finite x h = at_most_finite track_most x track_most_finite h

-- ---- what a valid state holds
milestone_finite : (t : Option ClockMs) → T (valid_milestone t) → FiniteMilestone t
unfolding valid_milestone
milestone_finite None h = tt
milestone_finite (Some t) h = h

estimate_finite : (t : Option Estimate) → T (valid_estimate t) → FiniteEstimate t
unfolding valid_estimate
estimate_finite None h = tt
estimate_finite (Some e) h =
    let recorded = e.query_endpoint_recorded_time_ms in
    let reference = e.reference_time_ms in
    let offset = e.offset_ms in
    let number : (x : Float) → T (track_number x) → Finite x = λ x t. modest_finite x (bounded track_most x (T-is (track_number x) t)) in
    let rest = and_r (track_number recorded.0) _ h in
    (number recorded.0 (and_l (track_number recorded.0) _ h), number reference.0 (and_l (track_number reference.0) _ rest), number offset (and_r (track_number reference.0) _ rest))

-- ---- what was found
zero_modest : AtMost track_most zero⁺
unfolding magnitude le lt eq of_bits of_fields odd count_trailing_zeros
zero_modest = tt

best_modest : (f : Candidate → Float) → ((c : Candidate) → ModestCandidate c → AtMost track_most (f c)) → (found : List Candidate) → SoundResult found → AtMost track_most (of_best f found)
best_modest f h [] r = zero_modest
best_modest f h (c ∷ l) r = h c (r.modest 0 (omega arith))

best_finite : (f : Candidate → Float) → ((c : Candidate) → ModestCandidate c → AtMost track_most (f c)) → (found : List Candidate) → SoundResult found → Finite (of_best f found)
best_finite f h found r = modest_finite (of_best f found) (best_modest f h found r)

margin_finite : (found : List Candidate) → SoundResult found → Finite (margin_of found)
unfolding margin_of
margin_finite [] r = tt
margin_finite (c ∷ []) r = (r.sound 0 (omega arith)).score.finite_is
margin_finite (c ∷ d ∷ l) r = (sub_within binary64 1 1 40 c.score d.score (holds binary64 2 2 40 (lit≤ tt) tt tt) (r.sound 0 (omega arith)).score (r.sound 1 (omega arith)).score).finite_is

-- The places of the array behind the last candidate,
blank_finite : (n k : ℕ) → FiniteCandidate (get_or (replicate n blank_candidate) k blank_candidate)
blank_finite zero k = record { offset_ms = tt; coarse_offset_ms = tt; coverage_ratio = tt; combined_dense_score = tt }
blank_finite (suc n) zero = record { offset_ms = tt; coarse_offset_ms = tt; coverage_ratio = tt; combined_dense_score = tt }
blank_finite (suc n) (suc k) = blank_finite n k

-- and the others.
candidate_finite : (comparable : ℕ) (covered : Float) → Finite covered → (rest : List CandidateDiagnostics) → ((k : ℕ) → FiniteCandidate (get_or rest k blank_candidate))
    → (found : List Candidate) → All SoundCandidate found → (k : ℕ) → FiniteCandidate (get_or (candidates_shown comparable covered found ++ rest) k blank_candidate)
unfolding candidates_shown
candidate_finite comparable covered f rest h [] r k = h k
candidate_finite comparable covered f rest h (c ∷ l) r zero =
    let x = r 0 (omega arith) in
    record { offset_ms = x.offset.finite_is; coarse_offset_ms = x.offset.finite_is; coverage_ratio = f; combined_dense_score = x.score.finite_is }
candidate_finite comparable covered f rest h (c ∷ l) r (suc k) = candidate_finite comparable covered f rest h l (λ j u. r (suc j) (omega arith)) k

-- ---- what the state carries
fresh_finite : (h : Option Hypothesis) → Bounded h → Finite (fresh_evidence h)
unfolding fresh_evidence
fresh_finite None h = tt
fresh_finite (Some p) (held O F L C) = since_finite (p.last_evidence_ms after p.first_evidence_ms) (after_finite p.last_evidence_ms p.first_evidence_ms L F)

track_modest : (h : Option Hypothesis) → Bounded h → AtMost track_most (track_correlation h)
track_modest None h = zero_modest
track_modest (Some t) (held O F L C) = C

magnitude_of_lem : (x : Option Float) → FiniteNumber x → FiniteNumber (magnitude_of x)
unfolding magnitude_of
magnitude_of_lem None h = tt
magnitude_of_lem (Some x) h = magnitude_finite x h

-- ---- confidence
confidence_finite : (o : Option Float) (correlation coast : Float) → AtMost track_most correlation → AtMost coast_most_ms coast → Finite (confidence_of o correlation coast)
unfolding magnitude le lt eq mul add sum div round units size span climb of_bits of_fields odd count_trailing_zeros
confidence_finite None correlation coast R C = tt
confidence_finite (Some o) correlation coast R C =
    let part = coast ⊘ coast_most_ms in
    let partMost = coast_most_ms ⊘ coast_most_ms in
    let x = correlation ⊗ (one ⊖ part) in
    cond_elim Finite (lt x zero⁺) zero⁺ _ (λ t. tt)
    (λ t. cond_elim Finite (lt one x) one x (λ u. tt)
    (λ u. at_most_finite (track_most ⊗ (one ⊕ partMost)) x tt
    (mul_at_most binary64 correlation (one ⊖ part) track_most (one ⊕ partMost) tt tt R
    (sub_at_most binary64 one part one partMost tt tt tt (div_at_most binary64 coast coast_most_ms coast_most_ms coast_most_ms tt tt C tt)))))

-- ---- a window's own numbers
abbrev longest : Float
longest = farthest_ms ⊕ farthest_ms

-- A floor of 1 keeps a denominator from 0.
floor_of_one : (x : Float) → Finite x → T (le one (magnitude (at_least one x)))
floor_of_one x h = cond_elim (λ (y : Float). T (le one (magnitude y))) (lt one x) x one (λ t. le_transitive one x (magnitude x) (lt→le one x t) (magnitude_above x (finite_no_nan x h))) (λ t. unfold magnitude le lt eq in tt)

-- The part that is counted of one frame or more.
part_of_count : (k n : ℕ) → 0 < n → k ≤ n → n ≤ frames_most → Finite (real k ⊘ real n)
part_of_count k n some few short =
    let N = (real_within n short).finite_is in
    (div_within binary64 k 0 0 (real k) (real n) (holds binary64 k frames_most 0 (le_trans few short) tt tt) (real_within k (le_trans few short)) N (one→size (real n) N (unfold of_int round in real_mono 1 n some))).finite_is

module _ (w : Window) (some : 0 < length w.times) (short : length w.times ≤ window_most) (times : T (every near w.times)) where
  duration_most : AtMost longest (duration w)
  duration_most =
      let time : (k : ℕ) → k < length w.times → AtMost farthest_ms (get_or w.times k nan) = λ k h. bounded farthest_ms _ (T-is _ (every_at near w.times k times h)) in
      sub_at_most binary64 (endpoint_of w).0 (start w).0 farthest_ms farthest_ms farthest_finite farthest_finite (time (length w.times - 1) (omega arith)) (time 0 some)

  duration_finite : Finite (duration w)
  unfolding add sum round units size span climb of_bits of_fields odd count_trailing_zeros
  duration_finite = at_most_finite longest (duration w) tt duration_most

  coverage_finite : Finite (coverage w)
  unfolding magnitude le lt eq div add sum round units size span climb of_bits of_fields odd count_trailing_zeros
  coverage_finite =
      let ratio = (duration w ⊖ trimmed_ms) ⊘ at_least one (duration w) in
      since_finite ratio
      (at_most_finite ((longest ⊕ trimmed_ms) ⊘ one) ratio tt
      (div_at_most binary64 (duration w ⊖ trimmed_ms) (at_least one (duration w)) (longest ⊕ trimmed_ms) one tt tt
      (sub_at_most binary64 (duration w) trimmed_ms longest trimmed_ms tt tt duration_most tt) (floor_of_one (duration w) duration_finite)))

  active_finite : (c : Configuration) → Finite (active_fraction c w)
  unfolding active_fraction
  active_finite c = part_of_count _ (length w.times) some (tally_few _ (length w.times)) (omega arith)

  -- ---- the snapshot of a decision
  snapshot_finite : (e : Engine) (clock : ClockMs) (d : Decision) → DecisionWell d → Safe (computed_from e w clock d).engine → FiniteSnapshot (computed_from e w clock d).snapshot
  unfolding computed_from publish valid_last valid_snapshot valid_milestones valid_endpoint
  snapshot_finite e clock d y k =
      let found = d.found in
      let r = y.found in
      let x = (computed_from e w clock d).snapshot in
      let shown = and_r (leb (length found) candidates_most) _ (and_r (near (endpoint_of w).0) _ k.last) in
      let marks = and_r (valid_estimate x.estimate) _ shown in
      let later = and_r (valid_milestone x.first_provisional_lock_elapsed_ms) _ marks in
      record {
        estimate = estimate_finite x.estimate (and_l (valid_estimate x.estimate) _ shown);
        confidence = confidence_finite d.verdict.offset _ d.verdict.coast
            (cond_elim (λ (y : Float). AtMost track_most y) (is_publishing d.verdict.state) _ _ (λ t. track_modest d.lock.accepted y.lock.accepted) (λ t. best_modest (λ c. c.score) (λ c m. m.score.at_most_lem) found r))
            y.verdict.coast;
        query_duration_ms = duration_finite;
        active_frame_fraction = active_finite e.configuration;
        dense_margin = cond_elim Finite d.global (margin_of found) zero⁺ (λ t. margin_finite found r) (λ t. tt);
        offset_stability_ms = magnitude_of_lem d.verdict.innovation y.verdict.innovation;
        track_innovation_ms = y.verdict.innovation;
        candidates = λ j l. candidate_finite _ (coverage w) coverage_finite _ (blank_finite (candidates_most - length found)) found r.sound j;
        spectral = record {
          correlation = best_finite (λ c. c.score) (λ c m. m.score.at_most_lem) found r;
          competing_peak_margin = cond_elim FiniteNumber d.global (Some (margin_of found)) None (λ t. margin_finite found r) (λ t. tt);
          first_half_correlation = best_finite (λ c. c.first_half_score) (λ c m. m.first_half.at_most_lem) found r;
          second_half_correlation = best_finite (λ c. c.second_half_score) (λ c m. m.second_half.at_most_lem) found r;
          recent_correlation = best_finite (λ c. c.recent_score) (λ c m. m.recent.at_most_lem) found r;
          fresh_evidence_ms = fresh_finite d.lock.pending y.lock.pending;
          coast_ms = at_most_finite coast_most_ms d.verdict.coast (unfold of_bits of_fields odd count_trailing_zeros in tt) y.verdict.coast;
        };
        first_provisional_lock_elapsed_ms = milestone_finite x.first_provisional_lock_elapsed_ms (and_l (valid_milestone x.first_provisional_lock_elapsed_ms) _ marks);
        confirmed_lock_elapsed_ms = milestone_finite x.confirmed_lock_elapsed_ms (and_l (valid_milestone x.confirmed_lock_elapsed_ms) _ later);
        final_lock_elapsed_ms = milestone_finite x.final_lock_elapsed_ms (and_r (valid_milestone x.confirmed_lock_elapsed_ms) _ later);
      }

-- ---- along a list
module _ (s : Settings) (m : Matcher) (g : Grounds s m) where
  computed_finite : (e : Engine) (i : Submission) → Good s e → New s m e i → FiniteSnapshot (computed_by s m e i).snapshot
  computed_finite e i good n =
      let u = unrefused s i n.answered in
      snapshot_finite i.window u.some u.short u.times e i.clock _
      (decision_well s m e i good.safe good.settings (g.sound i n.handed n.answered) (near_endpoint s i n.answered))
      (g.safe e i good n.handed n.answered)

  trace_finite : (e : Engine) (A : List Answered) → Trace s m e A → (k : ℕ) → k < length A → FiniteSnapshot (get_or A k unanswered).snapshot
  trace_finite e A end k l = absurd (not-suc-le-zero l)
  trace_finite e A (more {i = i} good n rest) zero l = computed_finite e i good n
  trace_finite e A (more {i = i} {A = B} good n rest) (suc k) l = trace_finite (computed_by s m e i).engine B rest k (le_of_suc-le-suc l)

  list_finite : (c : Configuration) → valid_configuration c ≡ true → (l : List Submission) → AllHanded s m l
      → (k : ℕ) → k < length (remaining (answers_to (fresh_engine c s) l)) → FiniteSnapshot (get_or (remaining (answers_to (fresh_engine c s) l)) k unanswered).snapshot
  list_finite c v l h =
      let e = fresh_engine c s in
      trace_finite e (remaining (answers_to e l)) (trace s m e l (answers_to e l) (steps s m g e l (good_fresh c s m g v) h))

pub finite_snapshots : FiniteSnapshots
finite_snapshots c hop reference x f32 opened l h =
    let o : Opening c hop reference x = record { held = f32; opened = opened } in
    subst (λ (e : Engine). (k : ℕ) → k < length (remaining (answers_to e l)) → FiniteSnapshot (get_or (remaining (answers_to e l)) k unanswered).snapshot) (sym (engine_is o))
    (list_finite (opened_settings hop reference) (matcher_of_reference hop reference) (grounds c hop reference x o) c (configuration_valid o) l h)
