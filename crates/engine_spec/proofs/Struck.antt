-- The clock decides nothing: the remaining submissions once more, under any finite clocks, are all computed again, with equal snapshots in all but the readings. Assumes nothing.
use mathlib.Core.Bool.{Bool, true, false, cond}
use mathlib.Core.List.{List, [], ◌∷◌}
use mathlib.Core.Path.{◌≡◌, refl, sym, ap, ap₂, ◌∙◌, subst}
use native.Mathlib.Omega.{arith}
use native.Mathlib.Nat.{lt_irrefl}
use lib.Dec.{T}
use lib.ListN.{length}
use lib.Ieee.{Float}
use lib.Ieee.Scale.{finite}
use Rattle.std.specs.Prelude.{Option, None, Some, is_some}
use Rattle.matcher_spec.specs.Index.{Matcher}
use Rattle.engine_spec.specs.Windows.{Window, rereads, Submission}
use Rattle.engine_spec.specs.Refusals.{handed_refusal}
use Rattle.engine_spec.specs.Publishing.{Decision, decide, publish}
use Rattle.engine_spec.specs.Submitting.{lock_from, reread, computed_from, submit}
use Rattle.engine_spec.specs.Guarantee.{Handed, AllHanded, submissions_of, under, AllFinite, at_clock, Reclocked, nothing, next, unread, without_readings, Bare, bares}
use Rattle.engine_spec.specs.declared.types.RecordedMs.{RecordedMs}
use Rattle.engine_spec.specs.declared.types.Reached.{Reached}
use Rattle.engine_spec.specs.Cases.{is_computed}
use Rattle.engine_spec.specs.Milestones.{reached_by, stamped_once, stamped_with_final, stamp}
use Rattle.engine_spec.specs.Lists.{Answered, answers_to, engine_after, remaining}
use Rattle.engine_spec.proofs.Tests.{none_clash, T-is}
use Rattle.engine_spec.proofs.Submissions.{clash, decision_by, computed_by, Good, Grounds, New, Kind, refusal, again, computed, kind, good_next, answered_by}
use Rattle.engine_spec.specs.declared.types.ClockMs.{ClockMs}
use Rattle.engine_spec.specs.declared.types.Configuration.{Configuration}
use Rattle.engine_spec.specs.declared.types.Settings.{Settings}
use Rattle.engine_spec.specs.declared.types.Lock.{Lock}
use Rattle.engine_spec.specs.declared.types.Milestones.{Milestones}
use Rattle.engine_spec.specs.declared.types.Snapshot.{Snapshot}
use Rattle.engine_spec.specs.declared.types.Engine.{Engine}
use Rattle.engine_spec.specs.Results.{SubmitResult}
use Rattle.engine_spec.specs.Results as answer

-- ---- the milestones: which are there, whatever they read
-- Stamped by two clocks, they are there alike.
module _ (k : Reached) (c d : ClockMs) where
  once_alike : (b : Bool) (x y : Option ClockMs) → is_some x ≡ is_some y → is_some (stamped_once b x c) ≡ is_some (stamped_once b y d)
  once_alike false x y h = h
  once_alike true None None h = refl
  once_alike true None (Some t) h = refl
  once_alike true (Some t) None h = refl
  once_alike true (Some t) (Some u) h = refl

  with_final_alike : (b : Bool) (p q x y : Option ClockMs) → is_some p ≡ is_some q → is_some x ≡ is_some y
      → is_some (stamped_with_final b p x c) ≡ is_some (stamped_with_final b q y d)
  with_final_alike false p q x y h j = j
  with_final_alike true None None x y h j = refl
  with_final_alike true None (Some t) x y h j = clash (sym h)
  with_final_alike true (Some t) None x y h j = clash h
  with_final_alike true (Some t) (Some u) x y h j = j

  stamp_alike : (x y : Milestones) → reached_by x ≡ reached_by y → reached_by (stamp x k c) ≡ reached_by (stamp y k d)
  unfolding stamp
  stamp_alike x y h = λ j. record {
    provisional = once_alike k.provisional x.first_provisional_ms y.first_provisional_ms (ap (λ (r : Reached). r.provisional) h) j;
    confirmed = with_final_alike k.final_lock x.final_ms y.final_ms x.confirmed_ms y.confirmed_ms (ap (λ (r : Reached). r.final_lock) h) (ap (λ (r : Reached). r.confirmed) h) j;
    final_lock = once_alike k.final_lock x.final_ms y.final_ms (ap (λ (r : Reached). r.final_lock) h) j;
  }

-- ---- and so a snapshot without its readings
unread_alike : (x y : Option ClockMs) → is_some x ≡ is_some y → unread x ≡ unread y
unread_alike None None h = refl
unread_alike None (Some t) h = clash (sym h)
unread_alike (Some t) None h = clash h
unread_alike (Some t) (Some u) h = refl

publish_alike : (c : Configuration) (hop : Float) (w : Window) (d : Decision) (x y : Milestones) → reached_by x ≡ reached_by y → without_readings (publish c hop w d x) ≡ without_readings (publish c hop w d y)
unfolding publish
publish_alike c hop w d x y h = λ j. record {
  state = (publish c hop w d x).state;
  phase = (publish c hop w d x).phase;
  stage = (publish c hop w d x).stage;
  estimate = (publish c hop w d x).estimate;
  withhold_reason = (publish c hop w d x).withhold_reason;
  confidence = (publish c hop w d x).confidence;
  diagnostics = (publish c hop w d x).diagnostics;
  first_provisional_lock_elapsed_ms = unread_alike x.first_provisional_ms y.first_provisional_ms (ap (λ (r : Reached). r.provisional) h) j;
  confirmed_lock_elapsed_ms = unread_alike x.confirmed_ms y.confirmed_ms (ap (λ (r : Reached). r.confirmed) h) j;
  final_lock_elapsed_ms = unread_alike x.final_ms y.final_ms (ap (λ (r : Reached). r.final_lock) h) j;
}

-- ---- a submission under another clock
-- It is refused as before, so not at all where it was not.
same_refusal : (s : Settings) (i : Submission) (c : ClockMs) → finite c.0 ≡ finite i.clock.0 → handed_refusal s (at_clock c i) ≡ handed_refusal s i
unfolding handed_refusal
same_refusal s i c h = rw h refl

clock_passes : (s : Settings) (m : Matcher) → Grounds s m → (i : Submission) (c : ClockMs) → T (finite c.0) → handed_refusal s i ≡ None → handed_refusal s (at_clock c i) ≡ None
clock_passes s m g i c t h = same_refusal s i c (T-is (finite c.0) t ∙ sym (T-is (finite i.clock.0) (g.clocked i h))) ∙ h

-- ---- two states that differ in readings only, as far as a decision sees
pub record Alike (e f : Engine) : Type 0 where
  pub configuration : f.configuration ≡ e.configuration
  pub lock : f.lock ≡ e.lock
  pub endpoint : f.last.endpoint_ms ≡ e.last.endpoint_ms
  pub reached : reached_by f.milestones ≡ reached_by e.milestones

pub alike_self : (e : Engine) → Alike e e
alike_self e = record { configuration = refl; lock = refl; endpoint = refl; reached = refl }

-- what is new is computed
submit_new : (s : Settings) (m : Matcher) (e : Engine) (i : Submission) (x : SubmitResult) → New s m e i → Kind s m e i x → x ≡ computed_by s m e i
submit_new s m e i x n (refusal q) = none_clash (sym q ∙ n.answered)
submit_new s m e i x n (again q p) = clash (sym p ∙ n.anew)
submit_new s m e i x n (computed k) = refl

abbrev bare_of : SubmitResult → Bare
bare_of x = record { answer = x.answer; snapshot = without_readings x.snapshot }

-- A submission that is computed in the one, under another clock in the other.
module _ (s : Settings) (m : Matcher) (g : Grounds s m) (e f : Engine) (good : Good s e) (good' : Good s f) (like : Alike e f) (i : Submission) (n : New s m e i) (c : ClockMs) (t : T (finite c.0)) where
  -- It is computed there too:
  new_alike : New s m f (at_clock c i)
  new_alike = record {
    handed = record { index = n.handed.index; held = n.handed.held };
    answered = clock_passes s m g i c t n.answered;
    anew = ap (λ (p : Option RecordedMs). rereads s p i.window) like.endpoint ∙ n.anew;
  }

  kind_alike : Kind s m f (at_clock c i) (submit f (at_clock c i))
  kind_alike = kind s m g f (at_clock c i) good' new_alike.handed

  -- by the same decision,
  decision_alike : decision_by s m f (at_clock c i) ≡ decision_by s m e i
  decision_alike =
      ap (λ (c : Configuration). decide true c s m i.window (reached_by f.milestones) (lock_from f i.window)) like.configuration
      ∙ ap₂ (λ (k : Reached) (l : Lock). decide true e.configuration s m i.window k l) like.reached
      (rw (good'.settings, good.settings, like.endpoint, like.lock) refl)

  submit_alike : submit f (at_clock c i) ≡ computed_from f i.window c (decision_by s m e i)
  submit_alike =
      submit_new s m f (at_clock c i) (submit f (at_clock c i)) new_alike kind_alike
      ∙ ap (λ (d : Decision). computed_from f i.window c d) decision_alike

  -- with the same answer in all but the readings,
  reached_alike : (d : Decision) → reached_by (stamp f.milestones d.reached c) ≡ reached_by (stamp e.milestones d.reached i.clock)
  reached_alike d = stamp_alike d.reached c i.clock f.milestones e.milestones like.reached

  bare_alike : (d : Decision) → bare_of (computed_from f i.window c d) ≡ bare_of (computed_from e i.window i.clock d)
  unfolding computed_from
  bare_alike d =
      let x = stamp f.milestones d.reached c in
      let y = stamp e.milestones d.reached i.clock in
      ap (λ (h : Snapshot). record { answer = answer.Computed; snapshot = h })
      (ap₂ (λ (k : Configuration) (h : Settings). without_readings (publish k h.hop_ms i.window d x)) like.configuration (good'.settings ∙ sym good.settings)
      ∙ publish_alike e.configuration e.settings.hop_ms i.window d x y (reached_alike d))

  -- and the next state is reached, and alike again.
  good_alike : Good s (computed_from f i.window c (decision_by s m e i)).engine
  good_alike = subst (λ (x : SubmitResult). Good s x.engine) submit_alike (good_next s m g f (at_clock c i) (submit f (at_clock c i)) good' kind_alike)

  next_alike : (d : Decision) → Alike (computed_from e i.window i.clock d).engine (computed_from f i.window c d).engine
  unfolding computed_from
  next_alike d = record { configuration = like.configuration; lock = refl; endpoint = refl; reached = reached_alike d }

-- ---- one submission, in two states alike
-- What the other state gives is computed too, equal in all but the readings, and leads on alike.
pub record Matches (s : Settings) (x y : SubmitResult) : Type 0 where
  pub stays : is_computed y.answer ≡ true
  pub bare : bare_of y ≡ bare_of x
  pub good : Good s y.engine
  pub like : Alike x.engine y.engine

-- It is struck, and the states stay alike; or it remains, and at any finite clock the other state answers so.
pub data Beside (s : Settings) (i : Submission) (x : SubmitResult) (f : Engine) : Bool → Type 0 where
  out : Alike x.engine f → Beside s i x f false
  on : ((c : ClockMs) → T (finite c.0) → Matches s x (submit f (at_clock c i))) → Beside s i x f true

module _ (s : Settings) (m : Matcher) (g : Grounds s m) where
  matched : (e f : Engine) → Good s e → Good s f → Alike e f → (i : Submission) → New s m e i → (c : ClockMs) → T (finite c.0) → Matches s (computed_by s m e i) (submit f (at_clock c i))
  unfolding computed_from is_computed
  matched e f good good' like i n c t =
      let d = decision_by s m e i in
      subst (λ (y : SubmitResult). Matches s (computed_by s m e i) y) (sym (submit_alike s m g e f good good' like i n c t))
      (record { stays = refl; bare = bare_alike s m g e f good good' like i n c t d; good = good_alike s m g e f good good' like i n c t; like = next_alike s m g e f good good' like i n c t d })

  besides : (e f : Engine) → Good s e → Good s f → Alike e f → (i : Submission) (x : SubmitResult) → Kind s m e i x → Beside s i x f (is_computed x.answer)
  unfolding reread computed_from is_computed
  besides e f good good' like i x (refusal q) = out like
  besides e f good good' like i x (again q p) = out like
  besides e f good good' like i x (computed n) = on (matched e f good good' like i n)

  pub beside : (e f : Engine) → Good s e → Good s f → Alike e f → (i : Submission) → Handed s m i → Beside s i (submit e i) f (is_computed (submit e i).answer)
  beside e f good good' like i h = besides e f good good' like i (submit e i) (kind s m g e i good h)

-- ---- the remaining submissions under these clocks are the same, each at a finite clock
pub reclocked : (A : List Answered) (cs : List ClockMs) → length cs ≡ length A → AllFinite cs → Reclocked (submissions_of A) (under cs A)
unfolding under submissions_of
reclocked [] [] n nothing = nothing
reclocked [] cs n (next t ts) = absurd (lt_irrefl 0 (omega arith))
reclocked (a ∷ A) cs n nothing = absurd (lt_irrefl 0 (omega arith))
reclocked (a ∷ A) cs n (next {c = c} {cs = ds} t ts) = next t (reclocked A ds (omega arith) ts)

-- ---- the list
-- What remains, at other clocks k, remains again, is answered alike and leads to a state alike.
pub record Again (s : Settings) (R : List Answered) (z f : Engine) (k : List Submission) : Type 0 where
  pub all : submissions_of (remaining (answers_to f k)) ≡ k
  pub bare : bares (answers_to f k) ≡ bares R
  pub good : Good s (engine_after f k)
  pub like : Alike z (engine_after f k)

module _ (s : Settings) (m : Matcher) (g : Grounds s m) where
  pub alike : (e f : Engine) → Good s e → Good s f → Alike e f → (l : List Submission) → AllHanded s m l → (k : List Submission) → Reclocked (submissions_of (remaining (answers_to e l))) k
      → Again s (remaining (answers_to e l)) (engine_after e l) f k
  unfolding answers_to engine_after remaining submissions_of bares
  alike e f good good' like l nothing k nothing = record { all = refl; bare = refl; good = good'; like = like }
  alike e f good good' like l (next {i = i} {l = j} h hs) k t =
      go (is_computed (submit e i).answer) (beside s m g e f good good' like i h) k t
      (λ f' good'' x ks ts. alike (submit e i).engine f' (good_next s m g e i (submit e i) good (kind s m g e i good h)) good'' x j hs ks ts)
    where
      go : (b : Bool) → Beside s i (submit e i) f b → (k : List Submission)
          → let rest = remaining (answers_to (submit e i).engine j) in
          let R = cond b (answered_by i (submit e i) ∷ rest) rest in
          Reclocked (submissions_of R) k
          → ((f' : Engine) → Good s f' → Alike (submit e i).engine f' → (ks : List Submission) → Reclocked (submissions_of rest) ks → Again s rest (engine_after (submit e i).engine j) f' ks)
          → Again s R (engine_after (submit e i).engine j) f k
      go false (out x) k t ih = ih f good' x k t
      go true (on x) k (next {c = c} {k = ks} u ts) ih =
          let y = x c u in
          let z = ih (submit f (at_clock c i)).engine y.good y.like ks ts in
          record { all = again_all (submit f (at_clock c i)) ks y.stays z.all; bare = ap₂ ◌∷◌ y.bare z.bare; good = z.good; like = z.like }
        where
          again_all : (y : SubmitResult) (ks : List Submission) → is_computed y.answer ≡ true → submissions_of (remaining (answers_to y.engine ks)) ≡ ks
              → submissions_of (cond (is_computed y.answer) (answered_by (at_clock c i) y ∷ remaining (answers_to y.engine ks)) (remaining (answers_to y.engine ks))) ≡ at_clock c i ∷ ks
          again_all y ks b a = rw b (ap (λ (j : List Submission). at_clock c i ∷ j) a)
