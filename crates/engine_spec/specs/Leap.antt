-- How far the place shown moves from one Locked answer to the next (document 02, "A position that can't leap"). Definitions only.
use Rattle.std.specs.Prelude.{ℕ, suc, ◌+◌, ◌*◌, ◌^◌, ◌<◌, false, not, List, ◌≡◌, T, length, get_or, Float, Some, is_none}
use Rattle.std.specs.Float.{binary64}
use Rattle.std.specs.Float.Ieee.{round}
use Rattle.std.specs.Float.Ieee.Scale.{finite}
use Rattle.numbers_spec.specs.Arithmetic.{◌⊖◌, zero⁺, one}
use Rattle.numbers_spec.specs.Values.{AtMost, NotNegative, Between, Near, Beside}
use Rattle.numbers_spec.specs.Rows.{Every, F32}
use Rattle.matcher_spec.specs.Index.{Index}
use Rattle.matcher_spec.specs.Features.{Features}
use Rattle.engine_spec.specs.Windows.{Submission}
use Rattle.engine_spec.specs.Tracking.{gain}
use Rattle.engine_spec.specs.Lists.{Answered, answers_to, remaining, unanswered}
use Rattle.engine_spec.specs.Chain.{best_offset, shown_at, whole_at, place_at, EndsChain}
use Rattle.engine_spec.specs.Opening.{opening, opened_settings, matcher_of_reference}
use Rattle.engine_spec.specs.Guarantee.{AllHanded}
use Rattle.engine_spec.specs.declared.types.Configuration.{Configuration}
use Rattle.engine_spec.specs.declared.types.Engine.{Engine}
use Rattle.engine_spec.specs.declared.types.State.TheVariants as state
use Rattle.engine_spec.specs.Results as answer

-- ---- the gain: none of the way where no time has passed, and never more than all of it
abbrev pub GainOfNone : Type 0
GainOfNone = gain zero⁺ ≡ zero⁺

abbrev pub GainBetween : Type 0
GainBetween = (dt : Float) → T (finite dt) → NotNegative dt → Between zero⁺ one (gain dt)

-- ---- bounds
-- 80.001 and 0.001, in thousandths
abbrev pub move_most : ℕ
move_most = 80001

abbrev pub outside_most : ℕ
outside_most = 1

-- n thousandths, as f64 has them
abbrev pub thousandths : ℕ → Float
thousandths n = round binary64 false n 1000

-- ---- two answers in a row
module _ (hop : Float) (a : ℕ → Answered) where
  -- Answer i is Locked and has no withhold reason.
  pub record Supported (i : ℕ) : Type 0 where
    pub locked : (shown_at hop a i).state ≡ state.Locked
    pub reasonless : T (is_none (shown_at hop a i).withhold_reason)

  -- It goes on from the answer before it, which is Locked too, and the place shown moves by at most 80.001.
  pub record Shifted (i : ℕ) : Type 0 where
    pub before : ℕ
    pub is : i ≡ suc before
    pub locked : (shown_at hop a before).state ≡ state.Locked
    pub old : Float
    pub new : Float
    pub old_is : place_at hop a before ≡ Some old
    pub new_is : place_at hop a i ≡ Some new
    -- exactly,
    pub moved : Near move_most 1000 new old
    -- as f64 subtracts,
    pub moved_in_f64 : AtMost (thousandths move_most) (new ⊖ old)
    -- and sharper, at any size of offset: by at most 80 + 3 × 2 ^ -47, some 2.2 × 10 ^ -14 above 80
    pub moved_sharp : Near (80 * 2 ^ 47 + 3) (2 ^ 47) new old

  -- Besides, it lies no further than 0.001 outside the stretch from the old place to the best offset that i shows.
  pub record Carried (i : ℕ) : Type 0 where
    pub shifted : Shifted i
    pub best : Float
    pub best_is : best_offset (shown_at hop a i).diagnostics ≡ Some best
    pub beside : Beside outside_most 1000 shifted.old best shifted.new
    pub beside_in_f64 : AtMost (thousandths outside_most) (shifted.new ⊖ beside.place)
    -- sharper: 2 × 2 ^ -47, some 1.5 × 10 ^ -14
    pub beside_sharp : Beside 2 (2 ^ 47) shifted.old best shifted.new

  -- Without a whole search a supported answer is so carried; with one it has moved by no more, unless it ends a chain.
  pub record Gentle (i : ℕ) : Type 0 where
    pub carried : Supported i → T (not (whole_at hop a i)) → Carried i
    pub shifted : Supported i → (EndsChain hop a i → ⊥) → Shifted i

-- Each of the remaining answers, which are the computed ones in a row.
abbrev pub Gently : Float → Engine → List Submission → Type 0
Gently hop e l = (i : ℕ) → i < length (remaining (answers_to e l)) → Gentle hop (λ (k : ℕ). get_or (remaining (answers_to e l)) k unanswered) i

-- Of every list of submissions to a fresh engine, index untouched: as in the guarantee.
abbrev pub CannotLeap : Type 0
CannotLeap =
    (c : Configuration) (hop : Float) (reference : Features) (x : Index) → Every F32 reference.values → (opening c hop reference x).answer ≡ answer.Opened
    → (l : List Submission) → AllHanded (opened_settings hop reference) (matcher_of_reference hop reference) l → Gently hop (opening c hop reference x).engine l
