-- The rerun of the recorded session locks again (specs/Rerun.antt). Assumes nothing.
use mathlib.Core.List.{List, [], ◌∷◌, ◌++◌}
use mathlib.Core.Path.{◌≡◌, refl, sym, ap, ap₂, ◌∙◌, subst}
use lib.Dec.{T}
use Rattle.std.specs.Prelude.{None, is_some}
use Rattle.matcher_spec.specs.Index.{Matcher}
use Rattle.engine_spec.specs.Windows.{Submission}
use Rattle.engine_spec.specs.Lists.{Answered, engine_after}
use Rattle.engine_spec.specs.Guarantee.{AllHanded, nothing, next}
use Rattle.engine_spec.specs.Sessions.{Start, Past, settings_of, matcher_of, state_of, Proper, returns, answers_of, AllProper, nothing, submission, return}
use Rattle.engine_spec.specs.Sessions.{Turn as SessionTurn}
use Rattle.engine_spec.specs.declared.types.Settings.{Settings}
use Rattle.engine_spec.specs.declared.types.Engine.{Engine}
use Rattle.engine_spec.specs.Results.{SubmitResult}
use Rattle.engine_spec.specs.declared.types.State.TheVariants as state
use Rattle.engine_spec.proofs.Sessions.{guarantee_of_sessions}
use Rattle.engine_sessions.specs.Session.{Turn, Session, engine_of, after, AllWork, end, turn, submissions, all_replied}
use Rattle.engine_sessions.specs.Session.{replied as repliedTo}
use Rattle.engine_sessions.specs.ByAChain.{turn7, turn8, session}
use Rattle.engine_sessions.specs.NotEmpty.{answer_at}
use Rattle.engine_sessions.specs.Rerun.{start_of, past_of, handed_in, rerun, before_mark, after_mark, rerun_answers, LocksAgain}
use Rattle.engine_sessions.proofs.ByAChain.{recorded}
use Rattle.engine_sessions.proofs.Answers.{seen, seen_is}
use Rattle.engine_sessions.proofs.NotEmpty.{opened, reference_held, all_handed}

-- ---- turns that work, in two parts
abbrev after_all : Engine → List Turn → Engine
after_all e [] = e
after_all e (t ∷ l) = after_all (after e t) l

first_work : (e : Engine) (l k : List Turn) → AllWork e (l ++ k) → AllWork e l
first_work e [] k w = end
first_work e (t ∷ l) k (turn x w) = turn x (first_work (after e t) l k w)

then_work : (e : Engine) (l k : List Turn) → AllWork e (l ++ k) → AllWork (after_all e l) k
then_work e [] k w = w
then_work e (t ∷ l) k (turn x w) = then_work (after e t) l k w

engine_after_lem : (e : Engine) (l : List Turn) → AllWork e l → engine_after e (submissions l) ≡ after_all e l
unfolding engine_after submissions
engine_after_lem e [] end = refl
engine_after_lem e (t ∷ l) (turn x w) = ap (λ (r : SubmitResult). engine_after r.engine (submissions l)) x ∙ engine_after_lem (after e t) l w

-- ---- their answers, and what is answered after them
answers_then : (e : Engine) (l : List Turn) (k : List SessionTurn) → AllWork e l → answers_of e (handed_in l ++ k) ≡ all_replied l ++ answers_of (after_all e l) k
unfolding answers_of handed_in all_replied
answers_then e [] k end = refl
answers_then e (t ∷ l) k (turn x w) =
    ap (λ (r : SubmitResult). seen t.submission r ∷ answers_of r.engine (handed_in l ++ k)) x
    ∙ ap₂ ◌∷◌ (seen_is e t.submission t.reply) (answers_then (after e t) l k w)

answers_all : (e : Engine) (l : List Turn) → AllWork e l → answers_of e (handed_in l) ≡ all_replied l
unfolding answers_of handed_in all_replied
answers_all e [] end = refl
answers_all e (t ∷ l) (turn x w) =
    ap (λ (r : SubmitResult). seen t.submission r ∷ answers_of r.engine (handed_in l)) x
    ∙ ap₂ ◌∷◌ (seen_is e t.submission t.reply) (answers_all (after e t) l w)

rerun_answers_lem : (s : Session) (b a k : List Turn) → AllWork (engine_of s) (b ++ (a ++ k)) → answers_of (engine_of s) (rerun s b a) ≡ all_replied b ++ (all_replied a ++ all_replied a)
unfolding answers_of
rerun_answers_lem s b a k w =
    let e = engine_of s in
    let mark = state_of (past_of s b) in
    let w1 = first_work e b (a ++ k) w in
    let w2 = first_work (after_all e b) a k (then_work e b (a ++ k) w) in
    let is : mark ≡ after_all e b = engine_after_lem e b w1 in
    answers_then e b (handed_in a ++ returns mark (past_of s b) ∷ handed_in a) w1
    ∙ ap (λ (r : List Answered). all_replied b ++ r)
    (answers_then (after_all e b) a (returns mark (past_of s b) ∷ handed_in a) w2
    ∙ ap (λ (r : List Answered). all_replied a ++ r) (ap (λ (f : Engine). answers_of f (handed_in a)) is ∙ answers_all (after_all e b) a w2))

-- ---- it is a session such as the guarantee speaks of
module _ (s : Settings) (m : Matcher) where
  first_handed : (l k : List Turn) → AllHanded s m (submissions (l ++ k)) → AllHanded s m (submissions l)
  unfolding submissions
  first_handed [] k h = nothing
  first_handed (t ∷ l) k (next x h) = next x (first_handed l k h)

  then_handed : (l k : List Turn) → AllHanded s m (submissions (l ++ k)) → AllHanded s m (submissions k)
  unfolding submissions
  then_handed [] k h = h
  then_handed (t ∷ l) k (next x h) = then_handed l k h

module _ (b : Start) where
  abbrev from : List Submission → Past
  from j = record { start = b; submissions = j }

  proper_then : (j : List Submission) (l : List Turn) (k : List SessionTurn) → AllHanded (settings_of b) (matcher_of b) (submissions l) → ((i : List Submission) → AllProper (from i) k) → AllProper (from j) (handed_in l ++ k)
  unfolding handed_in submissions
  proper_then j [] k h rest = rest j
  proper_then j (t ∷ l) k (next x h) rest = submission x (proper_then (j ++ t.submission ∷ []) l k h rest)

  proper_all : (j : List Submission) (l : List Turn) → AllHanded (settings_of b) (matcher_of b) (submissions l) → AllProper (from j) (handed_in l)
  unfolding handed_in submissions
  proper_all j [] h = nothing
  proper_all j (t ∷ l) (next x h) = submission x (proper_all (j ++ t.submission ∷ []) l h)

fresh_proper : Proper (past_of session [])
unfolding submissions
fresh_proper = record { held = reference_held; opened = opened; handed = nothing }

-- What of the recorded turns comes after these.
abbrev rest_of : List Turn
rest_of = turn7 ∷ turn8 ∷ []

mark_handed : AllHanded (settings_of (start_of session)) (matcher_of (start_of session)) (submissions before_mark)
mark_handed = first_handed _ _ before_mark (after_mark ++ rest_of) all_handed

after_handed : AllHanded (settings_of (start_of session)) (matcher_of (start_of session)) (submissions after_mark)
after_handed = first_handed _ _ after_mark rest_of (then_handed _ _ before_mark (after_mark ++ rest_of) all_handed)

rerun_proper : AllProper (past_of session []) (rerun session before_mark after_mark)
unfolding submissions
rerun_proper =
    let mark : Proper (past_of session before_mark) = record { held = reference_held; opened = opened; handed = mark_handed } in
    proper_then (start_of session) [] before_mark _ mark_handed
    (λ i. proper_then (start_of session) i after_mark _ after_handed
    (λ j. return mark refl (proper_all (start_of session) (submissions before_mark) after_mark after_handed)))

answers_are : rerun_answers ≡ all_replied before_mark ++ (all_replied after_mark ++ all_replied after_mark)
unfolding engine_after submissions
answers_are = rerun_answers_lem session before_mark after_mark rest_of recorded

-- ---- what they show
abbrev recorded_answers : List Answered
recorded_answers = all_replied before_mark ++ (all_replied after_mark ++ all_replied after_mark)

-- Of the recorded answers, and so of those given.
shown : (P : List Answered → Type 0) → P recorded_answers → P rerun_answers
shown P h = subst P (sym answers_are) h

pub locks_again : LocksAgain
unfolding all_replied repliedTo
locks_again = record {
  proper = rerun_proper;
  promised = guarantee_of_sessions (past_of session []) (rerun session before_mark after_mark) fresh_proper rerun_proper;
  answers = answers_are;
  unlocked = shown (λ (l : List Answered). (answer_at l 1).snapshot.final_lock_elapsed_ms ≡ None) refl;
  locked = shown (λ (l : List Answered). (answer_at l 4).snapshot.state ≡ state.Locked) refl;
  stamped = shown (λ (l : List Answered). T (is_some (answer_at l 4).snapshot.final_lock_elapsed_ms)) tt;
  back = shown (λ (l : List Answered). (answer_at l 6).snapshot.final_lock_elapsed_ms ≡ None) refl;
  locked_again = shown (λ (l : List Answered). (answer_at l 8).snapshot.state ≡ state.Locked) refl;
  stamped_again = shown (λ (l : List Answered). T (is_some (answer_at l 8).snapshot.final_lock_elapsed_ms)) tt;
}
