-- The guarantee is not empty, nor is what is said of a place that moves: a recorded session is a list such as they speak of, locks by a chain of several answers, coasts, and moves its track. Definitions only.
use Rattle.std.specs.Prelude.{ℕ, ◌<◌, not, List, ◌≡◌, T, length, get_or, Float, is_none}
use Rattle.numbers_spec.specs.Rows.{Every, F32}
use Rattle.engine_spec.specs.Opening.{opening, opened_settings, matcher_of_reference}
use Rattle.engine_spec.specs.Lists.{Answered, answers_to, remaining, unanswered}
use Rattle.engine_spec.specs.Chain.{shown_at, whole_at, Passes, Chain, OnChain, Coasting}
use Rattle.engine_spec.specs.Leap.{Supported, Carried}
use Rattle.engine_spec.specs.Guarantee.{AllHanded, Promised}
use Rattle.engine_spec.specs.declared.types.State.TheVariants as state
use Rattle.engine_spec.specs.Results as answer
use Rattle.engine_sessions.specs.Session.{Session, room_for, engine_of, submissions}

-- The remaining answers of a session.
abbrev pub left : Session → List Answered
left s = remaining (answers_to (engine_of s) (submissions s.turns))

abbrev pub answer_at : List Answered → ℕ → Answered
answer_at l k = get_or l k unanswered

-- Answer i ends a chain that began at an earlier answer, with a whole search between them that doesn't pass.
pub record EndsLongChain (hop : Float) (a : ℕ → Answered) (i : ℕ) : Type 0 where
  pub first : ℕ
  pub between : ℕ
  pub after_first : first < between
  pub before_last : between < i
  pub whole : T (whole_at hop a between)
  pub fails : Passes hop a between → ⊥
  pub chain : Chain hop a first i

-- Answer i coasts: Locked with a withhold reason, at the place of the one before.
pub record CoastsAt (hop : Float) (a : ℕ → Answered) (i : ℕ) : Type 0 where
  pub locked : (shown_at hop a i).state ≡ state.Locked
  pub withheld : T (not (is_none (shown_at hop a i).withhold_reason))
  pub coasting : Coasting hop a i

-- Answer i is supported without a whole search, so that it goes on from the one before it, and its place is another.
pub record MovesAt (hop : Float) (a : ℕ → Answered) (i : ℕ) : Type 0 where
  pub supported : Supported hop a i
  pub local : T (not (whole_at hop a i))
  pub carried : Carried hop a i
  pub shifts : carried.shifted.old ≡ carried.shifted.new → ⊥

pub record Locks (s : Session) : Type 0 where
  -- opening is answered, the reference is one of f32, and so are the windows; the index is as opening filled it
  pub held : Every F32 s.reference.values
  pub opened : (opening s.configuration s.hop s.reference (room_for s.reference)).answer ≡ answer.Opened
  pub handed : AllHanded (opened_settings s.hop s.reference) (matcher_of_reference s.hop s.reference) (submissions s.turns)
  -- so all is promised of the list,
  pub promised : Promised s.hop (engine_of s) (matcher_of_reference s.hop s.reference) (submissions s.turns)
  -- its third remaining answer is not Locked yet, its fourth is,
  pub some : 5 < length (left s)
  pub locking : (answer_at (left s) 2).snapshot.state ≡ state.Locking
  pub locked : (answer_at (left s) 3).snapshot.state ≡ state.Locked
  -- and so it is on a chain,
  pub chain : OnChain s.hop (answer_at (left s)) 3
  -- which it ends, and which an earlier answer began;
  pub ends : EndsLongChain s.hop (answer_at (left s)) 3
  -- the fifth coasts,
  pub coasts : CoastsAt s.hop (answer_at (left s)) 4
  -- and the sixth moves
  pub moves : MovesAt s.hop (answer_at (left s)) 5
