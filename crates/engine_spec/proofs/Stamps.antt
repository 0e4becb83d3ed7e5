-- The milestones through the answers: confirmed equals final, which comes with the first end of a chain and never changes. Assumes nothing.
use mathlib.Core.Bool.{Bool, true, false, cond, ◌||◌}
use mathlib.Core.List.{List}
use mathlib.Core.Path.{◌≡◌, refl, ap, ◌∙◌}
use lib.Dec.{T}
use lib.Ieee.{Float}
use Rattle.std.specs.Prelude.{Option, None, Some, is_some}
use Rattle.matcher_spec.specs.declared.types.Candidate.{Candidate}
use Rattle.matcher_spec.specs.Index.{Matcher}
use Rattle.engine_spec.specs.Windows.{Window}
use Rattle.engine_spec.specs.Locking.{Searched}
use Rattle.engine_spec.specs.declared.types.Reached.{Reached}
use Rattle.engine_spec.specs.Milestones.{after_passing, after_chain, stamped_once, stamped_with_final, stamp}
use Rattle.engine_spec.specs.declared.types.ClockMs.{ClockMs}
use Rattle.engine_spec.specs.declared.types.Milestones.{Milestones}
use Rattle.engine_spec.specs.declared.types.Hypothesis.{Hypothesis}
use Rattle.engine_spec.proofs.Effects.{Pend, same, weak, pass}

-- m before and m' after an answer; `lock` says whether it ends a chain.
pub record Marked (m m' : Milestones) (lock : Bool) : Type 0 where
  pub same : m'.confirmed_ms ≡ m'.final_ms
  pub there_is : is_some m'.final_ms ≡ (is_some m.final_ms || lock)
  pub lasting : T (is_some m.final_ms) → m'.final_ms ≡ m.final_ms

pub marked : (m : Milestones) (k : Reached) (lock : Bool) (c : ClockMs) → m.confirmed_ms ≡ m.final_ms → k.final_lock ≡ (is_some m.final_ms || lock) → Marked m (stamp m k c) lock
unfolding stamp
marked m k lock c e f = record { same = alike m.final_ms m.confirmed_ms k.final_lock e; there_is = is m.final_ms k.final_lock f; lasting = lasts m.final_ms k.final_lock }
  where
    alike : (x y : Option ClockMs) (b : Bool) → y ≡ x → stamped_with_final b x y c ≡ stamped_once b x c
    alike None y true e = refl
    alike None y false e = e
    alike (Some t) y true e = e
    alike (Some t) y false e = e

    is : (x : Option ClockMs) (b : Bool) → b ≡ (is_some x || lock) → is_some (stamped_once b x c) ≡ (is_some x || lock)
    is None true f = f
    is None false f = f
    is (Some t) true f = refl
    is (Some t) false f = refl

    lasts : (x : Option ClockMs) (b : Bool) → T (is_some x) → stamped_once b x c ≡ x
    lasts None b t = absurd t
    lasts (Some x) true t = refl
    lasts (Some x) false t = refl

pub or_false : (b : Bool) → b ≡ (b || false)
or_false true = refl
or_false false = refl

or_true : (b : Bool) → true ≡ (b || true)
or_true true = refl
or_true false = refl

-- final is there after the searches where it was, or where a chain ends
pub final_after : (m : Matcher) (hop : Float) (w : Window) (k : Reached) (p : Option Hypothesis) (s : Searched) (global : Bool) (found : List Candidate) (lock : Bool) → Pend m hop w k p s global found lock → s.reached.final_lock ≡ (k.final_lock || lock)
final_after m hop w k p s global found lock (same e z) = ap (λ (r : Reached). r.final_lock) z ∙ or_false k.final_lock
final_after m hop w k p s global found lock (weak q t e z) = ap (λ (r : Reached). r.final_lock) z ∙ or_false k.final_lock
final_after m hop w k p s global found lock (pass {lock = x} q t e y z) = ap (λ (r : Reached). r.final_lock) z ∙ go x
  where
    go : (x : Bool) → (cond x (after_chain k) (after_passing k)).final_lock ≡ (k.final_lock || x)
    go true = or_true k.final_lock
    go false = or_false k.final_lock
