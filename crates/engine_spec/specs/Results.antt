-- What the calls give back. The definitions give a value in every case: an answer, and beside it an engine and a snapshot that stand there where it is a refusal too. Code gives a `Result` of it. Definitions only.
use Rattle.std.specs.Prelude.{Option, Result, Ok, Err, Float}
use Rattle.std.specs.Option.{option_map_or}
use Rattle.engine_spec.specs.declared.types.Snapshot.{Snapshot}
use Rattle.engine_spec.specs.declared.types.Engine.{Engine}
use Rattle.engine_spec.specs.declared.types.Refusal.{Refusal}
use Rattle.engine_spec.specs.declared.types.AnswerKind.{AnswerKind}
use Rattle.engine_spec.specs.declared.types.AnswerKind.TheVariants as kind
use Rattle.engine_spec.specs.declared.types.Submitted.{Submitted}

-- ---- as the definitions give it
pub data Answer : Type 0 where
  Opened : Answer
  Computed : Answer
  Reread : Answer
  Refused : Refusal → Answer

-- Where opening is refused, `engine` is one that every submission refuses.
pub record OpenResult : Type 0 where
  pub answer : Answer
  pub engine : Engine

-- Where a submission is refused, `engine` is the one handed in and `snapshot` is blank.
pub record SubmitResult : Type 0 where
  pub answer : Answer
  pub engine : Engine
  pub snapshot : Snapshot

-- The coast of the last computed answer, where it was Locked. Refused, or not Locked: none.
pub record Age : Type 0 where
  pub refusal : Option Refusal
  pub coast_ms : Option Float

-- ---- as code gives it
-- The value, or the refusal where the answer is one.
abbrev pub unless_refused : {A : Type 0} → Answer → A → Result A Refusal
unless_refused Opened x = Ok x
unless_refused Computed x = Ok x
unless_refused Reread x = Ok x
unless_refused (Refused r) x = Err r

abbrev pub opened : OpenResult → Result Engine Refusal
opened o = unless_refused o.answer o.engine

-- Of an answer to a submission that is not refused: no submission is answered Opened.
abbrev pub kind_of : Answer → AnswerKind
kind_of Opened = kind.Computed
kind_of Computed = kind.Computed
kind_of Reread = kind.Reread
kind_of (Refused r) = kind.Computed

abbrev pub given_by : SubmitResult → Submitted
given_by s = record { answer = kind_of s.answer; engine = s.engine; snapshot = s.snapshot }

abbrev pub submitted : SubmitResult → Result Submitted Refusal
submitted s = unless_refused s.answer (given_by s)

abbrev pub aged : Age → Result (Option Float) Refusal
aged a = option_map_or (λ (r : Refusal). Err r) a.refusal (Ok a.coast_ms)
