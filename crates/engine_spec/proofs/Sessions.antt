-- The guarantee of sessions with restores (specs/Sessions.antt), from that of lists of submissions applied to each past. Assumes nothing.
use Prim.Native.Nat.{ℕ, zero, suc, ◌-◌, ◌<◌}
use mathlib.Core.Bool.{Bool, true, false, cond}
use mathlib.Core.List.{List, [], ◌∷◌, ◌++◌}
use mathlib.Core.Path.{◌≡◌, refl, sym, ap, ap₂, ◌∙◌, subst}
use native.Mathlib.Omega.{arith}
use native.Mathlib.Nat.{lt_irrefl}
use lib.ListN.{length, get_or, length-append}
use lib.Seq.{get_or_at}
use Rattle.matcher_spec.specs.Index.{Matcher}
use Rattle.engine_spec.specs.Cases.{is_computed}
use Rattle.engine_spec.specs.Windows.{Submission}
use Rattle.engine_spec.specs.Submitting.{reread, computed_from, submit}
use Rattle.engine_spec.specs.Lists.{Answered, answers_to, engine_after, remaining, unanswered}
use Rattle.engine_spec.specs.Guarantee.{Handed, AllHanded, nothing, next, submissions_of, at_clock, Reclocked, bares}
use Rattle.engine_spec.specs.Guaranteed.{last_of}
use Rattle.engine_spec.specs.Sessions.{Start, Past, fresh_of, settings_of, matcher_of, state_of, answers_in, further, Proper, Turn, submits, answers_of, state_after, pasts, past_after, AllProper, nothing, submission, return, lasts, remaining_of, SameSound, Retold, PromisedPast, GuaranteeOfSessions, StruckPast}
use Rattle.engine_spec.specs.declared.types.Settings.{Settings}
use Rattle.engine_spec.specs.declared.types.Engine.{Engine}
use Rattle.engine_spec.proofs.Openings.{Opening, engine_is, configuration_valid}
use Rattle.engine_spec.proofs.Submissions.{Good, Grounds, refusal, again, computed, kind, good_fresh, good_next, good_after, refusal_is, answered_by, Steps, stop, step, steps}
use Rattle.engine_spec.proofs.Struck.{Alike, alike_self, Beside, out, on, beside, alike}
use Rattle.engine_spec.proofs.Run.{grounds, guarantee, cannot_leap}

-- ---- a past
opened_as : (p : Past) → Proper p → let b = p.start in Opening b.configuration b.hop b.reference b.index
opened_as p h = record { held = h.held; opened = h.opened }

grounds_of : (p : Past) → Proper p → Grounds (settings_of p.start) (matcher_of p.start)
grounds_of p h = let b = p.start in grounds b.configuration b.hop b.reference b.index (opened_as p h)

good_start : (p : Past) → Proper p → Good (settings_of p.start) (fresh_of p.start)
good_start p h =
    let b = p.start in
    subst (λ (e : Engine). Good (settings_of b) e) (sym (engine_is (opened_as p h)))
    (good_fresh b.configuration (settings_of b) (matcher_of b) (grounds_of p h) (configuration_valid (opened_as p h)))

good_state : (p : Past) → Proper p → Good (settings_of p.start) (state_of p)
good_state p h = good_after (settings_of p.start) (matcher_of p.start) (grounds_of p h) (fresh_of p.start) p.submissions (good_start p h) h.handed

-- ---- one submission more
handed_more : (s : Settings) (m : Matcher) (l : List Submission) (i : Submission) → AllHanded s m l → Handed s m i → AllHanded s m (l ++ i ∷ [])
handed_more s m l i nothing h = next h nothing
handed_more s m l i (next {l = k} x xs) h = next x (handed_more s m k i xs h)

pub proper_more : (p : Past) (i : Submission) → Proper p → Handed (settings_of p.start) (matcher_of p.start) i → Proper (further p i)
proper_more p i h x = record { held = h.held; opened = h.opened; handed = handed_more _ _ p.submissions i h.handed x }

pub after_more : (e : Engine) (l : List Submission) (i : Submission) → engine_after e (l ++ i ∷ []) ≡ (submit (engine_after e l) i).engine
unfolding engine_after
after_more e [] i = refl
after_more e (j ∷ l) i = after_more (submit e j).engine l i

answers_more : (e : Engine) (l : List Submission) (i : Submission) → answers_to e (l ++ i ∷ []) ≡ answers_to e l ++ answered_by i (submit (engine_after e l) i) ∷ []
unfolding engine_after answers_to
answers_more e [] i = refl
answers_more e (j ∷ l) i = ap (λ (r : List Answered). answered_by j (submit e j) ∷ r) (answers_more (submit e j).engine l i)

last_more : (e : Engine) (l : List Submission) (i : Submission) → last_of (answers_to e (l ++ i ∷ [])) ≡ answered_by i (submit (engine_after e l) i)
last_more e l i =
    let A = answers_to e l in
    let x = answered_by i (submit (engine_after e l) i) in
    let n : length A ≡ length (A ++ x ∷ []) - 1 = omega (arith, length-append A (x ∷ [])) in
    ap last_of (answers_more e l i) ∙ get_or_at A x [] unanswered (length (A ++ x ∷ []) - 1) n

-- ---- led
led : (p : Past) (l : List Turn) → AllProper p l → answers_of (state_of p) l ≡ lasts (pasts p l)
unfolding answers_of pasts lasts
led p l nothing = refl
led p l (submission {i = i} {l = k} h rest) =
    ap₂ ◌∷◌ (sym (last_more (fresh_of p.start) p.submissions i))
    (subst (λ (e : Engine). answers_of e k ≡ lasts (pasts (further p i) k)) (after_more (fresh_of p.start) p.submissions i) (led (further p i) k rest))
led p l (return {q = q} {l = k} h c rest) = subst (λ (e : Engine). answers_of e k ≡ lasts (pasts q k)) (sym c) (led q k rest)

-- ---- promised of each past
promised_past : (q : Past) → Proper q → PromisedPast q
promised_past q h =
    let b = q.start in
    record {
      promised = guarantee b.configuration b.hop b.reference b.index h.held h.opened q.submissions h.handed;
      gently = cannot_leap b.configuration b.hop b.reference b.index h.held h.opened q.submissions h.handed;
    }

each_promised : (d p : Past) (l : List Turn) → Proper p → AllProper p l → (k : ℕ) → k < length (pasts p l) → PromisedPast (get_or (pasts p l) k d)
unfolding pasts
each_promised d p l h nothing k u = absurd (lt_irrefl 0 (omega arith))
each_promised d p l h (submission {i = i} {l = j} x rest) k u =
    let h' = proper_more p i h x in
    go k u (promised_past (further p i) h') (each_promised d (further p i) j h' rest)
  where
    go : (k : ℕ) → k < suc (length (pasts (further p i) j)) → PromisedPast (further p i) → ((n : ℕ) → n < length (pasts (further p i) j) → PromisedPast (get_or (pasts (further p i) j) n d)) → PromisedPast (get_or (further p i ∷ pasts (further p i) j) k d)
    go zero u here rest = here
    go (suc n) u here rest = rest n (omega arith)
each_promised d p l h (return {q = q} {l = j} x c rest) k u = each_promised d q j x rest k u

-- ---- never refused with 7
reached : (p : Past) (e : Engine) (l : List Turn) → Good (settings_of p.start) e → Grounds (settings_of p.start) (matcher_of p.start) → AllProper p l → Good (settings_of (past_after p l).start) (state_after e l)
unfolding state_after past_after
reached p e l good g nothing = good
reached p e l good g (submission {i = i} {l = k} h rest) =
    let s = settings_of p.start in
    let m = matcher_of p.start in
    reached (further p i) (submit e i).engine k (good_next s m g e i (submit e i) good (kind s m g e i good h)) g rest
reached p e l good g (return {q = q} {given = given} {l = k} h c rest) =
    reached q given k (subst (λ (x : Engine). Good (settings_of q.start) x) (sym c) (good_state q h)) (grounds_of q h) rest

-- ---- two pasts of which the same remains lead to states alike
-- what remains has finite clocks
self_clocked : (s : Settings) (m : Matcher) → Grounds s m → (e : Engine) (l : List Submission) (A : List Answered) → Steps s m e l A → Reclocked (submissions_of (remaining A)) (submissions_of (remaining A))
unfolding remaining submissions_of is_computed reread computed_from
self_clocked s m g e l A stop = nothing
self_clocked s m g e l A (step {l = k} {A = B} good (refusal q) rest) = self_clocked s m g e k B rest
self_clocked s m g e l A (step {l = k} {A = B} good (again q p) rest) = self_clocked s m g e k B rest
self_clocked s m g e l A (step {i = i} {l = k} {A = B} good (computed n) rest) = next (g.clocked i n.answered) (self_clocked s m g _ k B rest)

module _ (b : Start) (l k : List Submission) where
  abbrev one : Past
  one = record { start = b; submissions = l }

  abbrev other : Past
  other = record { start = b; submissions = k }

  states_alike : Proper one → Proper other → Reclocked (submissions_of (remaining (answers_in one))) (submissions_of (remaining (answers_in other))) → Alike (state_of one) (state_of other)
  states_alike h h' t =
      let s = settings_of b in
      let m = matcher_of b in
      let g = grounds_of one h in
      let e = fresh_of b in
      let good = good_start one h in
      let j = submissions_of (remaining (answers_in other)) in
      let x = (alike s m g e e good good (alike_self e) l h.handed j t).like in
      let y = (alike s m g e e good good (alike_self e) k h'.handed j (self_clocked s m g e k (answers_in other) (steps s m g e k good h'.handed))).like in
      record {
        configuration = sym y.configuration ∙ x.configuration;
        lock = sym y.lock ∙ x.lock;
        endpoint = sym y.endpoint ∙ x.endpoint;
        reached = sym y.reached ∙ x.reached;
      }

sound_alike : (p q : Past) → Proper p → Proper q → SameSound p q → Alike (state_of p) (state_of q)
sound_alike p q h h' t =
    subst (λ (b : Start). Proper (record { start = b; submissions = q.submissions }) → Reclocked (submissions_of (remaining (answers_in p))) (submissions_of (remaining (answers_to (fresh_of b) q.submissions))) → Alike (state_of p) (engine_after (fresh_of b) q.submissions))
    (sym t.start) (λ x y. states_alike p.start p.submissions q.submissions h x y) h' t.remains

-- ---- struck
struck : (p : Past) → Grounds (settings_of p.start) (matcher_of p.start) → (e f : Engine) → Good (settings_of p.start) e → Good (settings_of p.start) f → Alike e f
    → (l : List Turn) → AllProper p l → (k : List Turn) → Retold (remaining_of e l) k → bares (answers_of f k) ≡ bares (remaining (answers_of e l))
unfolding answers_of remaining_of remaining bares
struck p g e f good good' like l nothing k nothing = refl
struck p g e f good good' like l (submission {i = i} {l = j} h rest) k t =
    let s = settings_of p.start in
    let m = matcher_of p.start in
    go (is_computed (submit e i).answer) (beside s m g e f good good' like i h) k t
    (λ f' good'' x ks ts. struck (further p i) g (submit e i).engine f' (good_next s m g e i (submit e i) good (kind s m g e i good h)) good'' x j rest ks ts)
  where
    go : (b : Bool) → Beside (settings_of p.start) i (submit e i) f b → (k : List Turn)
        → let e' = (submit e i).engine in
        Retold (cond b (submits i ∷ remaining_of e' j) (remaining_of e' j)) k
        → ((f' : Engine) → Good (settings_of p.start) f' → Alike e' f' → (ks : List Turn) → Retold (remaining_of e' j) ks → bares (answers_of f' ks) ≡ bares (remaining (answers_of e' j)))
        → bares (answers_of f k) ≡ bares (cond b (answered_by i (submit e i) ∷ remaining (answers_of e' j)) (remaining (answers_of e' j)))
    go false (out x) k t ih = ih f good' x k t
    go true (on x) k (submission {c = c} {k = ks} u ts) ih = let y = x c u in ap₂ ◌∷◌ y.bare (ih (submit f (at_clock c i)).engine y.good y.like ks ts)
struck p g e f good good' like l (return {q = q} {given = given} {l = j} h c rest) k (return {q = r} {other = other} {k = ks} t h' c' ts) =
    let like' = subst (λ (x : Engine). Alike x other) (sym c) (subst (λ (x : Engine). Alike (state_of q) x) (sym c') (sound_alike q r h h' t)) in
    let good-q = subst (λ (x : Engine). Good (settings_of q.start) x) (sym c) (good_state q h) in
    let good-r = subst (λ (x : Engine). Good (settings_of q.start) x) (sym c') (subst (λ (b : Start). Good (settings_of b) (state_of r)) t.start (good_state r h')) in
    struck q (grounds_of q h) given other good-q good-r like' j rest ks ts

-- ---- the guarantee of sessions
pub guarantee_of_sessions : GuaranteeOfSessions
guarantee_of_sessions p l h t =
    let good = good_state p h in
    record {
      led = led p l t;
      promised = each_promised p p l h t;
      struck = struck p (grounds_of p h) (state_of p) (state_of p) good good (alike_self (state_of p)) l t;
      never_seven = λ i. refusal_is (settings_of (past_after p l).start) (state_after (state_of p) l) i (reached p (state_of p) l good (grounds_of p h) t);
    }

-- ---- a past struck
struck_handed : (s : Settings) (m : Matcher) (e : Engine) (l k : List Submission) → AllHanded s m l → Reclocked (submissions_of (remaining (answers_to e l))) k → AllHanded s m k
unfolding answers_to remaining submissions_of
struck_handed s m e l k nothing nothing = nothing
struck_handed s m e l k (next {i = i} {l = j} h hs) t =
    go (is_computed (submit e i).answer) k t (λ ks ts. struck_handed s m (submit e i).engine j ks hs ts)
  where
    go : (c : Bool) (k : List Submission) → let rest = remaining (answers_to (submit e i).engine j) in Reclocked (submissions_of (cond c (answered_by i (submit e i) ∷ rest) rest)) k → ((ks : List Submission) → Reclocked (submissions_of rest) ks → AllHanded s m ks) → AllHanded s m k
    go false k t ih = ih k t
    go true k (next {c = c} {k = ks} u ts) ih = next (record { index = h.index; held = h.held }) (ih ks ts)

pub struck_past : StruckPast
struck_past p h k t =
    let s = settings_of p.start in
    let m = matcher_of p.start in
    let e = fresh_of p.start in
    let good = good_start p h in
    let x = alike s m (grounds_of p h) e e good good (alike_self e) p.submissions h.handed k t in (
      record { held = h.held; opened = h.opened; handed = struck_handed s m e p.submissions k h.handed t },
      record { start = refl; remains = subst (λ (j : List Submission). Reclocked (submissions_of (remaining (answers_in p))) j) (sym x.all) t },
    )
