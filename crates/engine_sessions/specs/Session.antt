-- A recorded session of the Rust, and what it is to work it out by the engine's definitions. Definitions only.
use Rattle.std.specs.Prelude.{ℕ, zero, suc, ◌+◌, ◌-◌, ◌*◌, ◌/◌, true, List, [], ◌∷◌, ◌++◌, ◌≡◌, length, replicate, Float, Some}
use Rattle.numbers_spec.specs.Arithmetic.{zero⁺}
use Rattle.matcher_spec.specs.Energy.{reduction}
use Rattle.matcher_spec.specs.Index.{Index}
use Rattle.engine_spec.specs.Windows.{Window, Submission, endpoint_of}
use Rattle.matcher_spec.specs.Features.{Features}
use Rattle.engine_spec.specs.Opening.{blank_candidate, blank_snapshot, opening}
use Rattle.engine_spec.specs.Submitting.{submit, refused}
use Rattle.engine_spec.specs.Milestones.{milestones_shown}
use Rattle.engine_spec.specs.Lists.{Answered, answers_to}
use Rattle.engine_spec.specs.declared.types.Configuration.{Configuration}
use Rattle.engine_spec.specs.declared.types.Lock.{Lock}
use Rattle.engine_spec.specs.declared.types.CandidateDiagnostics.{CandidateDiagnostics}
use Rattle.engine_spec.specs.declared.types.Snapshot.{Snapshot}
use Rattle.engine_spec.specs.declared.types.Engine.{Engine}
use Rattle.engine_spec.specs.Results.{SubmitResult}
use Rattle.engine_spec.specs.declared.types.Refusal.{Refusal}
use Rattle.engine_spec.specs.Results as answer
use Rattle.matcher_spec.specs.Limits.{candidates_most}

-- ---- what is handed in
-- Buffers as long as opening asks of them, full of zeros.
abbrev pub room_for : Features → Index
room_for reference =
    let n = length reference.times in
    record {
      fine = replicate (reference.bands * n) zero⁺;
      coarse = replicate (reference.bands * (n / reduction)) zero⁺;
      fine_energy = replicate (reference.bands * (n + 1)) zero⁺;
      coarse_energy = replicate (reference.bands * (n / reduction + 1)) zero⁺;
    }

abbrev pub no_index : Index
no_index = record { fine = []; coarse = []; fine_energy = []; coarse_energy = [] }

-- A window with an index and with working buffers as long as a submission asks, for a reference of N frames.
abbrev pub heard : ℕ → Index → Window → Float → Submission
heard N x w clock = record {
  index = x;
  window = w;
  clock = record { 0 = clock };
  room32 = 2 * (w.bands * length w.times);
  room64 = 3 * (w.bands * (length w.times + 1)) + N;
}

-- A submission without working buffers.
abbrev pub heard_without_work : Index → Window → Float → Submission
heard_without_work x w clock = record { index = x; window = w; clock = record { 0 = clock }; room32 = 0; room64 = 0 }

-- ---- what came of it
-- The candidates of a snapshot, as the array of 8.
abbrev pub eight : List CandidateDiagnostics → List CandidateDiagnostics
eight l = l ++ replicate (candidates_most - length l) blank_candidate

-- A refusal, a re-reading, or a computed answer with the lock that the Rust then holds.
pub data Reply : Type 0 where
  refusal : Refusal → Reply
  again : Snapshot → Reply
  answered : Snapshot → Lock → Reply

-- What the submission has to give back: the Rust's snapshot and, in the next state, the Rust's lock, milestones, endpoint and last snapshot.
abbrev pub outcome : Engine → Submission → Reply → SubmitResult
outcome e i (refusal r) = refused e r
outcome e i (again n) = record { answer = answer.Reread; engine = e; snapshot = n }
outcome e i (answered n l) = record {
  answer = answer.Computed;
  engine = record {
    configuration = e.configuration;
    settings = e.settings;
    lock = l;
    milestones = milestones_shown n;
    last = record { endpoint_ms = Some (endpoint_of i.window); has_snapshot = true; snapshot = n };
  };
  snapshot = n;
}

-- ---- a session
pub record Turn : Type 0 where
  pub submission : Submission
  pub reply : Reply

pub record Session : Type 0 where
  pub configuration : Configuration
  pub hop : Float
  pub reference : Features
  pub turns : List Turn

abbrev pub engine_of : Session → Engine
engine_of s = (opening s.configuration s.hop s.reference (room_for s.reference)).engine

unfoldable pub submissions : List Turn → List Submission
submissions [] = []
submissions (t ∷ l) = t.submission ∷ submissions l

-- The turn gives back what the Rust did.
abbrev pub Works : Engine → Turn → Type 0
Works e t = submit e t.submission ≡ outcome e t.submission t.reply

-- The engine after it.
abbrev pub after : Engine → Turn → Engine
after e t = (outcome e t.submission t.reply).engine

-- Turn n of the list, counted from 0, works.
abbrev pub WorksAt : Engine → List Turn → ℕ → Type 0
WorksAt e [] n = Unit
WorksAt e (t ∷ l) zero = Works e t
WorksAt e (t ∷ l) (suc n) = WorksAt (after e t) l n

abbrev pub TurnWorks : Session → ℕ → Type 0
TurnWorks s n = WorksAt (engine_of s) s.turns n

-- Every turn works, one after the other.
pub data AllWork : Engine → List Turn → Type 0 where
  end : {e : Engine} → AllWork e []
  turn : {e : Engine} {t : Turn} {l : List Turn} → Works e t → AllWork (after e t) l → AllWork e (t ∷ l)

abbrev pub Recorded : Session → Type 0
Recorded s = AllWork (engine_of s) s.turns

-- ---- the answers of a session, as the guarantee sees them
unfoldable pub replied : Turn → Answered
replied t = of t.reply
  where
    of : Reply → Answered
    of (refusal r) = record { submission = t.submission; answer = answer.Refused r; snapshot = blank_snapshot }
    of (again n) = record { submission = t.submission; answer = answer.Reread; snapshot = n }
    of (answered n l) = record { submission = t.submission; answer = answer.Computed; snapshot = n }

unfoldable pub all_replied : List Turn → List Answered
all_replied [] = []
all_replied (t ∷ l) = replied t ∷ all_replied l

-- A recorded session's answers are the recorded ones.
abbrev pub AnswersRecorded : Type 0
AnswersRecorded = (s : Session) → Recorded s → answers_to (engine_of s) (submissions s.turns) ≡ all_replied s.turns
