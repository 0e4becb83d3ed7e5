-- A mark and a rerun (engine_spec, Sessions): the recorded session as far as its coast, with a mark before its lock; then the mark is restored, and the same windows lock again. Definitions only.
use Rattle.std.specs.Prelude.{List, [], ◌∷◌, ◌++◌, ◌≡◌, T, None, is_some}
use Rattle.engine_spec.specs.Lists.{Answered}
use Rattle.engine_spec.specs.Sessions.{Start, Past, state_of, submits, returns, answers_of, AllProper, PromisedOf}
use Rattle.engine_spec.specs.Sessions.{Turn as SessionTurn}
use Rattle.engine_spec.specs.declared.types.State.TheVariants as state
use Rattle.engine_sessions.specs.Session.{Turn, Session, room_for, submissions, all_replied}
use Rattle.engine_sessions.specs.NotEmpty.{answer_at}
use Rattle.engine_sessions.specs.ByAChain.{turn1, turn2, turn3, turn4, turn5, turn6, session}

abbrev pub start_of : Session → Start
start_of s = record { configuration = s.configuration; hop = s.hop; reference = s.reference; index = room_for s.reference }

-- The opening of a session, and these of its turns.
abbrev pub past_of : Session → List Turn → Past
past_of s l = record { start = start_of s; submissions = submissions l }

unfoldable pub handed_in : List Turn → List SessionTurn
handed_in [] = []
handed_in (t ∷ l) = submits t.submission ∷ handed_in l

-- Some turns, the mark, some more, the restore, and these once more.
abbrev pub rerun : Session → List Turn → List Turn → List SessionTurn
rerun s before after = handed_in before ++ (handed_in after ++ returns (state_of (past_of s before)) (past_of s before) ∷ handed_in after)

-- Turns 1 and 2 before the mark; then 3, 4, which is refused, 5, which locks, and 6.
abbrev pub before_mark : List Turn
before_mark = turn1 ∷ turn2 ∷ []

abbrev pub after_mark : List Turn
after_mark = turn3 ∷ turn4 ∷ turn5 ∷ turn6 ∷ []

abbrev pub rerun_answers : List Answered
rerun_answers = answers_of (state_of (past_of session [])) (rerun session before_mark after_mark)

pub record LocksAgain : Type 0 where
  -- it is a session such as the guarantee speaks of, and so all is promised of it;
  pub proper : AllProper (past_of session []) (rerun session before_mark after_mark)
  pub promised : PromisedOf (past_of session []) (rerun session before_mark after_mark)
  -- its answers are the Rust's, those after the restore as those after the mark;
  pub answers : rerun_answers ≡ all_replied before_mark ++ (all_replied after_mark ++ all_replied after_mark)
  -- the answer at the mark, the second, is not Locked and has no final milestone; the fifth is and has;
  pub unlocked : (answer_at rerun_answers 1).snapshot.final_lock_elapsed_ms ≡ None
  pub locked : (answer_at rerun_answers 4).snapshot.state ≡ state.Locked
  pub stamped : T (is_some (answer_at rerun_answers 4).snapshot.final_lock_elapsed_ms)
  -- after the restore, with the seventh, that milestone is gone, and with the ninth it locks again
  pub back : (answer_at rerun_answers 6).snapshot.final_lock_elapsed_ms ≡ None
  pub locked_again : (answer_at rerun_answers 8).snapshot.state ≡ state.Locked
  pub stamped_again : T (is_some (answer_at rerun_answers 8).snapshot.final_lock_elapsed_ms)
