-- What holds of every state, reached or made: what a refused opening gives is refused, no answer lists more than 8 candidates, and only a Locked snapshot has an age. Assumes nothing.
use Prim.Native.Nat.{◌≤◌}
use mathlib.Core.Bool.{Bool, true, false, cond, not, ◌&&◌, ◌||◌}
use mathlib.Core.List.{List, [], ◌∷◌}
use mathlib.Core.Path.{◌≡◌, refl, sym, subst}
use native.Mathlib.Omega.{arith}
use lib.Dec.{T, lit≤, leb, leb→le}
use lib.ListN.{length}
use lib.Ieee.{Float, lt}
use Rattle.std.specs.Prelude.{Option, None, Some}
use Rattle.matcher_spec.specs.Limits.{candidates_most}
use Rattle.matcher_spec.specs.Features.{Features}
use Rattle.matcher_spec.specs.Index.{Matcher}
use Rattle.matcher_spec.specs.Search.{whole_search, local_search}
use Rattle.matcher_spec.specs.declared.types.Candidate.{Candidate}
use Rattle.matcher_spec.proofs.ResultLaws.{at_most_eight, at_most_one}
use Rattle.numbers_spec.specs.Arithmetic.{◌⊕◌, ◌⊖◌}
use Rattle.engine_spec.specs.Cases.{is_locked, is_refused}
use Rattle.engine_spec.specs.Thresholds.{local_ms}
use Rattle.engine_spec.specs.Windows.{Window, Submission, matcher_in, query, endpoint_of, evidence, rereads}
use Rattle.engine_spec.specs.Milestones.{reached_by}
use Rattle.engine_spec.specs.Refusals.{unless, valid_configuration, valid_settings, valid_lock, valid_milestones, valid_endpoint, valid_snapshot, valid_last, valid_engine, opening_refusal, handed_refusal, submission_refusal}
use Rattle.engine_spec.specs.Opening.{blank_snapshot, fresh_engine, no_engine, opening}
use Rattle.engine_spec.specs.Readiness.{readiness}
use Rattle.engine_spec.specs.Tracking.{Tracked, may_coast, supports, followed, tracked}
use Rattle.engine_spec.specs.Locking.{Searched, passing, confirms, first_evidence, passed, whole_searched, is_due, searched}
use Rattle.engine_spec.specs.Publishing.{Decision, decide, publish}
use Rattle.engine_spec.specs.Submitting.{shown_again, reread, lock_from, decision_on, computed_from, refused, answered_from, submit}
use Rattle.engine_spec.specs.SupportAge.{support_age}
use Rattle.engine_spec.specs.Guaranteed.{RefusedOpening, FewCandidates, AgeOfLocked}
use Rattle.engine_spec.specs.declared.types.RecordedMs.{RecordedMs}
use Rattle.engine_spec.specs.declared.types.Configuration.{Configuration}
use Rattle.engine_spec.specs.declared.types.Settings.{Settings}
use Rattle.engine_spec.specs.declared.types.Reached.{Reached}
use Rattle.engine_spec.specs.declared.types.Lock.{Lock}
use Rattle.engine_spec.specs.declared.types.Engine.{Engine}
use Rattle.engine_spec.specs.Results.{OpenResult, SubmitResult}
use Rattle.engine_spec.specs.declared.types.Hypothesis.{Hypothesis}
use Rattle.engine_spec.specs.declared.types.State.{State}
use Rattle.engine_spec.specs.declared.types.State.TheVariants as state
use Rattle.engine_spec.specs.declared.types.Refusal.{Refusal}
use Rattle.engine_spec.specs.declared.types.Refusal.TheVariants as refusal
use Rattle.engine_spec.specs.Results as answer
use Rattle.engine_spec.proofs.Tests.{cond_elim, option_elim, none_clash, and_l, and_r}
use Rattle.engine_spec.proofs.Places.{somewhere}

-- ---- a refused opening
-- Its configuration is none.
no_engine_invalid : valid_engine no_engine ≡ false
unfolding valid_engine valid_configuration no_engine fresh_engine lt
no_engine_invalid = refl

refused_seven : (e : Engine) (i : Submission) → valid_engine e ≡ false → (submit e i).answer ≡ answer.Refused refusal.StateOutOfRange
unfolding submit submission_refusal
refused_seven e i h = rw h refl

pub refused_opening : RefusedOpening
unfolding opening is_refused
refused_opening c hop reference x h i =
    refused_seven (opening c hop reference x).engine i
    (option_elim (λ (y : OpenResult). is_refused y.answer ≡ true → valid_engine y.engine ≡ false) _ (opening_refusal c hop reference x) _
    (λ _ k. absurd (subst T (sym k) tt)) (λ _ _ _. no_engine_invalid) h)

-- ---- at most 8 candidates
-- A search leaves the candidates that it found.
followed_found : (h : Hypothesis) (now : RecordedMs) (found : List Candidate) → (followed h now found).found ≡ found
unfolding followed
followed_found h now [] = refl
followed_found h now (b ∷ rest) = cond_elim (λ (t : Tracked). t.found ≡ b ∷ rest) (supports h.offset_ms b) _ _ (λ _. refl) (λ _. refl)

passed_found : (hop : Float) (now endpoint : RecordedMs) (k : Reached) (first : RecordedMs) (t : Tracked) (b : Candidate) (rest : List Candidate) → (passed hop now endpoint k first t b rest).found ≡ b ∷ rest
unfolding passed
passed_found hop now endpoint k first t b rest = cond_elim (λ (x : Searched). x.found ≡ b ∷ rest) (confirms hop first now b) _ _ (λ _. refl) (λ _. refl)

whole_found_lem : (hop : Float) (now endpoint : RecordedMs) (k : Reached) (p : Option Hypothesis) (t : Tracked) (found : List Candidate) → (whole_searched hop now endpoint k p t found).found ≡ found
unfolding whole_searched
whole_found_lem hop now endpoint k p t [] = refl
whole_found_lem hop now endpoint k p t (b ∷ rest) =
    cond_elim (λ (x : Searched). x.found ≡ b ∷ rest) (passing (b ∷ rest)) _ _ (λ _. passed_found hop now endpoint k (first_evidence p b.offset_ms now) t b rest) (λ _. refl)

-- A local search finds one at most, a whole search 8, whatever the index holds.
few_tracked : (m : Matcher) (q : Features) (now : RecordedMs) (h : Option Hypothesis) → length (tracked m q now h).found ≤ candidates_most
unfolding tracked
few_tracked m q now None = lit≤ tt
few_tracked m q now (Some h) =
    let o = h.offset_ms in
    let found = local_search m.reference m.fine q (o ⊖ local_ms) (o ⊕ local_ms) in
    let k : length found ≤ 1 = at_most_one m.reference m.fine q (o ⊖ local_ms) (o ⊕ local_ms) in
    cond_elim (λ (t : Tracked). length t.found ≤ candidates_most) (may_coast now h.last_evidence_ms) _ _
    (λ _. subst (λ (x : List Candidate). length x ≤ candidates_most) (sym (followed_found h now found)) (omega arith)) (λ _. lit≤ tt)

few_searched : (granted : Bool) (m : Matcher) (hop : Float) (w : Window) (k : Reached) (l : Lock) → length (searched granted m hop w k l).found ≤ candidates_most
unfolding searched
few_searched granted m hop w k l =
    let t = tracked m (query w) (evidence hop w) l.accepted in
    cond_elim (λ (x : Searched). length x.found ≤ candidates_most) (granted && is_due t.supported (endpoint_of w) l.last_global_search_ms) _ _
    (λ _. subst (λ (x : List Candidate). length x ≤ candidates_most) (sym (whole_found_lem hop (evidence hop w) (endpoint_of w) k l.pending t (whole_search m (query w)))) (at_most_eight m (query w)))
    (λ _. few_tracked m (query w) (evidence hop w) l.accepted)

few_decided : (granted : Bool) (c : Configuration) (s : Settings) (m : Matcher) (w : Window) (k : Reached) (l : Lock) → length (decide granted c s m w k l).found ≤ candidates_most
unfolding decide
few_decided granted c s m w k l =
    option_elim (λ (d : Decision). length d.found ≤ candidates_most) _ (readiness c s k.confirmed w) _
    (λ _. few_searched granted m s.hop_ms w k l) (λ _ _. lit≤ tt)

-- A valid state's last snapshot lists 8 at most.
few_last : (e : Engine) → T (valid_engine e) → T e.last.has_snapshot → e.last.snapshot.diagnostics.candidate_count ≤ candidates_most
unfolding valid_engine valid_last valid_snapshot
few_last e v h =
    let n = e.last.snapshot.diagnostics.candidate_count in
    let last = and_r (valid_milestones e.milestones) _ (and_r (valid_lock e.lock) _ (and_r (valid_settings e.settings) _ (and_r (valid_configuration e.configuration) _ v))) in
    leb→le n candidates_most (and_l (leb n candidates_most) _ (shown e.last.has_snapshot _ h (and_r (valid_endpoint e.last.endpoint_ms) _ last)))
  where
    shown : (b c : Bool) → T b → T (not b || c) → T c
    shown true c h t = t
    shown false c h t = absurd h

valid : (b : Bool) (r : Option Refusal) → unless b refusal.StateOutOfRange r ≡ None → T b
valid true r e = tt
valid false r e = none_clash e

pub few_candidates : FewCandidates
unfolding submit submission_refusal answered_from
few_candidates e i =
    let few : SubmitResult → Type 0 = λ x. x.snapshot.diagnostics.candidate_count ≤ candidates_most in
    let w = i.window in
    option_elim few (refused e) (submission_refusal e i) (answered_from e i)
    (λ t. cond_elim few (e.last.has_snapshot && rereads e.settings e.last.endpoint_ms w) _ _
    (λ u. unfold reread shown_again in few_last e (valid (valid_engine e) (handed_refusal e.settings i) t) (and_l e.last.has_snapshot _ u))
    (λ u. unfold computed_from publish decision_on in few_decided true e.configuration e.settings (matcher_in e.settings i.index) w (reached_by e.milestones) (lock_from e w)))
    (λ _ _. unfold blank_snapshot in lit≤ tt)

-- ---- ages
locked_state : (s : State) → T (is_locked s) → s ≡ state.Locked
unfolding is_locked
locked_state state.Ready h = absurd h
locked_state state.Listening h = absurd h
locked_state state.Locking h = absurd h
locked_state state.Confirmed h = absurd h
locked_state state.Locked h = refl
locked_state state.Drifting h = absurd h
locked_state state.Relocking h = absurd h
locked_state state.Lost h = absurd h
locked_state state.Failed h = absurd h

pub age_of_locked : AgeOfLocked
unfolding support_age
age_of_locked e x h = locked_state e.last.snapshot.state (aged (valid_engine e && e.last.has_snapshot) (is_locked e.last.snapshot.state) e.last.snapshot.diagnostics.spectral.coast_ms h)
  where
    aged : (b c : Bool) (y : Float) → cond b (cond c (Some y) None) None ≡ Some x → T c
    aged b true y h = tt
    aged true false y h = absurd (subst (λ (m : Option Float). T (not (somewhere m))) h tt)
    aged false false y h = absurd (subst (λ (m : Option Float). T (not (somewhere m))) h tt)
