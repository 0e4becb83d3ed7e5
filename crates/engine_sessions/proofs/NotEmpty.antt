-- The guarantee is not empty: the session `ByAChain` is a list such as it speaks of, locks, coasts and moves its track. Assumes nothing.
use Prim.Native.Nat.{ℕ, zero, suc, ◌≤◌, ◌<◌}
use mathlib.Core.Bool.{true, not}
use mathlib.Core.List.{List}
use mathlib.Core.Path.{◌≡◌, refl, sym, ap, ◌∙◌, subst}
use native.Mathlib.Omega.{arith}
use lib.Dec.{T, lit<}
use lib.ListN.{length}
use lib.IntN.{negsuc}
use lib.Ieee.{Float, fin, binary32, fits}
use Rattle.std.specs.Prelude.{Some}
use Rattle.numbers_spec.specs.Rows.{Every, F32, every}
use Rattle.engine_spec.specs.Cases.{interrupting, is_computed}
use Rattle.engine_spec.specs.Windows.{Window}
use Rattle.engine_spec.specs.Opening.{opening, opened_settings, matcher_of_reference}
use Rattle.engine_spec.specs.Lists.{Answered, remaining}
use Rattle.engine_spec.specs.Chain.{passes, best_offset, whole_at, Passes, Unbroken, Latest, neighbouring, keeping, Chain, place_at}
use Rattle.engine_spec.specs.Leap.{Supported, Shifted, Gentle}
use Rattle.engine_spec.specs.Guarantee.{AllHanded, nothing, next, Handed}
use Rattle.engine_spec.specs.declared.types.ClockMs.{ClockMs}
use Rattle.engine_spec.specs.declared.types.State.TheVariants as state
use Rattle.engine_spec.specs.Results as answer
use Rattle.engine_spec.proofs.Handed.{every_at}
use Rattle.engine_spec.proofs.Openings.{opened_filled}
use Rattle.engine_spec.proofs.Run.{guarantee, cannot_leap}
use Rattle.engine_sessions.specs.Computed.{submit_now}
use Rattle.engine_sessions.specs.Session.{room_for, submissions, replied, all_replied}
use Rattle.engine_sessions.specs.NotEmpty.{left, answer_at, EndsLongChain, CoastsAt, MovesAt, Locks}
use Rattle.engine_sessions.specs.ByAChain.{configuration, hop, reference, index, window1, window2, window3, window4, window5, window6, window7, window8, session}
use Rattle.engine_sessions.proofs.ByAChain.{recorded}
use Rattle.engine_sessions.proofs.Answers.{answers_recorded}

-- ---- values are f32
all_f32 : (l : List Float) → T (every (fits binary32) l) → Every F32 l
all_f32 l h i k = every_at (fits binary32) l i h k

pub opened : (opening configuration hop reference (room_for reference)).answer ≡ answer.Opened
unfolding submit_now
opened = refl

pub reference_held : Every F32 reference.values
unfolding submit_now fits
reference_held = all_f32 reference.values tt

-- ---- each submission has the index that opening filled
handed : {room32 room64 : ℕ} (w : Window) (clock : ClockMs) → Every F32 w.values
    → Handed (opened_settings hop reference) (matcher_of_reference hop reference) (record { index = index; window = w; clock = clock; room32 = room32; room64 = room64 })
handed w clock h = record { index = λ there fits. opened_filled configuration hop reference (room_for reference) opened there; held = h }

pub all_handed : AllHanded (opened_settings hop reference) (matcher_of_reference hop reference) (submissions session.turns)
unfolding submissions submit_now fits
all_handed =
    next (handed window1 _ (all_f32 window1.values tt))
    (next (handed window2 _ (all_f32 window2.values tt))
    (next (handed window3 _ (all_f32 window3.values tt))
    (next (handed window4 _ (all_f32 window4.values tt))
    (next (handed window5 _ (all_f32 window5.values tt))
    (next (handed window6 _ (all_f32 window6.values tt))
    (next (handed window7 _ (all_f32 window7.values tt)) (next (handed window8 _ (all_f32 window8.values tt)) nothing)))))))

-- ---- the fourth computed answer is the first that is Locked
abbrev recorded_left : List Answered
recorded_left = remaining (all_replied session.turns)

left_is : left session ≡ recorded_left
left_is = ap remaining (answers_recorded session recorded)

some_recorded : 5 < length recorded_left
unfolding remaining is_computed all_replied replied
some_recorded = lit< tt

locking_recorded : (answer_at recorded_left 2).snapshot.state ≡ state.Locking
unfolding remaining is_computed all_replied replied
locking_recorded = refl

locked_recorded : (answer_at recorded_left 3).snapshot.state ≡ state.Locked
unfolding remaining is_computed all_replied replied
locked_recorded = refl

-- ---- it ends a chain that the first began: these two pass, the second is no whole search, the third one that doesn't pass and is held
abbrev recorded_at : ℕ → Answered
recorded_at = answer_at recorded_left

chain_recorded : Chain hop recorded_at 0 3
unfolding remaining is_computed all_replied replied interrupting passes best_offset submit_now
chain_recorded = record { order = omega arith; first = tt; last = tt; neighbours = neighbours; unbroken = unbroken; weak = weak; long = tt; recent = tt }
  where
    neighbours : (p q : ℕ) → 0 ≤ p → q ≤ 3 → Latest hop recorded_at p q → Passes hop recorded_at q → T (neighbouring hop recorded_at p q)
    neighbours p zero h k l y = let b = l.before in absurd (omega arith)
    neighbours p (suc zero) h k l y = absurd y
    neighbours p (suc (suc zero)) h k l y = absurd y
    neighbours zero (suc (suc (suc zero))) h k l y = tt
    neighbours (suc zero) (suc (suc (suc zero))) h k l y = absurd l.passed
    neighbours (suc (suc zero)) (suc (suc (suc zero))) h k l y = absurd l.passed
    neighbours (suc (suc (suc p))) (suc (suc (suc zero))) h k l y = let b = l.before in absurd (omega arith)
    neighbours p (suc (suc (suc (suc q)))) h k l y = absurd (omega arith)

    unbroken : Unbroken hop recorded_at 0 3
    unbroken zero h k = absurd (omega arith)
    unbroken (suc zero) h k = tt
    unbroken (suc (suc zero)) h k = tt
    unbroken (suc (suc (suc zero))) h k = tt
    unbroken (suc (suc (suc (suc n)))) h k = absurd (omega arith)

    weak : (p n : ℕ) → 0 ≤ p → n < 3 → Latest hop recorded_at p n → T (whole_at hop recorded_at n) → (Passes hop recorded_at n → ⊥) → T (keeping hop recorded_at p n)
    weak p zero h k l w f = let b = l.before in absurd (omega arith)
    weak p (suc zero) h k l w f = absurd w
    weak zero (suc (suc zero)) h k l w f = tt
    weak (suc zero) (suc (suc zero)) h k l w f = absurd l.passed
    weak (suc (suc p)) (suc (suc zero)) h k l w f = let b = l.before in absurd (omega arith)
    weak p (suc (suc (suc n))) h k l w f = absurd (omega arith)

ends_recorded : EndsLongChain hop recorded_at 3
unfolding remaining is_computed all_replied replied passes submit_now
ends_recorded = record { first = 0; between = 2; after_first = lit< tt; before_last = lit< tt; whole = tt; fails = λ y. y; chain = chain_recorded }

-- ---- the fifth coasts
coasts_recorded : CoastsAt hop recorded_at 4
unfolding remaining is_computed all_replied replied
coasts_recorded = record { locked = refl; withheld = tt; coasting = record { before = 3; is = refl; locked = refl; place = refl } }

-- ---- the sixth moves
supported_recorded : Supported hop recorded_at 5
unfolding remaining is_computed all_replied replied
supported_recorded = record { locked = refl; reasonless = tt }

local_recorded : T (not (whole_at hop recorded_at 5))
unfolding remaining is_computed all_replied replied
local_recorded = tt

-- from -3,002.2 to -3,032.4
shifts_recorded : (c : Shifted hop recorded_at 5) → c.old ≡ c.new → ⊥
unfolding remaining is_computed all_replied replied
shifts_recorded c h =
    let before : c.before ≡ 4 = let i = c.is in omega arith in
    let old : Some (fin true 3300933179821449 (negsuc 39)) ≡ Some c.old = subst (λ (k : ℕ). place_at hop recorded_at k ≡ Some c.old) before c.old_is in
    let new : Some (fin true 6668336725062373 (negsuc 40)) ≡ Some c.new = c.new_is in
    let clash : ◌≡◌ {A = ℕ} 3300933179821449 6668336725062373 = cc in
    omega arith

moves : 5 < length (left session) → MovesAt hop (answer_at (left session)) 5
moves some =
    let gentle : Gentle hop (answer_at (left session)) 5 = cannot_leap configuration hop reference (room_for reference) reference_held opened (submissions session.turns) all_handed 5 some in
    let carried = (subst (λ (l : List Answered). Gentle hop (answer_at l) 5) left_is gentle).carried supported_recorded local_recorded in
    subst (λ (l : List Answered). MovesAt hop (answer_at l) 5) (sym left_is) (record { supported = supported_recorded; local = local_recorded; carried = carried; shifts = shifts_recorded carried.shifted })

pub locks : Locks session
locks =
    let promised = guarantee configuration hop reference (room_for reference) reference_held opened (submissions session.turns) all_handed in
    let some : 5 < length (left session) = subst (λ (l : List Answered). 5 < length l) (sym left_is) some_recorded in
    let locked : (answer_at (left session) 3).snapshot.state ≡ state.Locked = ap (λ (l : List Answered). (answer_at l 3).snapshot.state) left_is ∙ locked_recorded in
    record {
      held = reference_held;
      opened = opened;
      handed = all_handed;
      promised = promised;
      some = some;
      locking = ap (λ (l : List Answered). (answer_at l 2).snapshot.state) left_is ∙ locking_recorded;
      locked = locked;
      chain = (promised.trusted 3 (omega arith)).locked locked;
      ends = subst (λ (l : List Answered). EndsLongChain hop (answer_at l) 3) (sym left_is) ends_recorded;
      coasts = subst (λ (l : List Answered). CoastsAt hop (answer_at l) 4) (sym left_is) coasts_recorded;
      moves = moves some;
    }
