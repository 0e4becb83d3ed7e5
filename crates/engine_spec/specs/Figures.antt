-- Document 01's worked figures P1 to P12, as one statement. Definitions only.
-- `fin s m (pos k)` is m × 2^k, below zero where s is true; m is odd, so that each value is written in one way.
use Rattle.std.specs.Prelude.{true, false, ◌≡◌, pos, Float, Some}
use Rattle.std.specs.Float.{fin}
use Rattle.std.specs.Float.Ieee.{lt}
use Rattle.numbers_spec.specs.Arithmetic.{◌⊖◌, zero⁺}
use Rattle.numbers_spec.specs.Figures.{P7, P8, P9, P10}
use Rattle.matcher_spec.specs.Centring.{radius}
use Rattle.matcher_spec.specs.Figures.{twenty, P3, P5, P11, P12}
use Rattle.engine_spec.specs.Windows.{Window, Submission, start, endpoint_of, evidence, accepts_timeline, jumps_from}
use Rattle.engine_spec.specs.Refusals.{refuses, submission_refusal}
use Rattle.engine_spec.specs.Submitting.{submit}
use Rattle.engine_spec.specs.declared.types.RecordedMs.{RecordedMs}
use Rattle.engine_spec.specs.declared.types.Engine.{Engine}
use Rattle.engine_spec.specs.Results as answer

-- 500 and 501
abbrev pub five_hundred : Float
five_hundred = fin false 125 (pos 2)

abbrev pub five_hundred_one : Float
five_hundred_one = fin false 501 (pos 0)

-- 9,740, 10,000, 10,040, 10,041, 10,089 and 10,090
abbrev pub ms9740 : Float
ms9740 = fin false 2435 (pos 2)

abbrev pub ms10000 : RecordedMs
ms10000 = record { 0 = fin false 625 (pos 4) }

abbrev pub ms10040 : Float
ms10040 = fin false 1255 (pos 3)

abbrev pub ms10041 : Float
ms10041 = fin false 10041 (pos 0)

abbrev pub ms10089 : Float
ms10089 = fin false 10089 (pos 0)

abbrev pub ms10090 : Float
ms10090 = fin false 5045 (pos 1)

-- A submission that is not refused, at hop 20 after a last endpoint of 10,000, on an accepted timeline without a jump.
pub record GoesOn (e : Engine) (i : Submission) : Type 0 where
  pub hop : e.settings.hop_ms ≡ twenty
  pub last : e.last.endpoint_ms ≡ Some ms10000
  pub snapshot : e.last.has_snapshot ≡ true
  pub answered : refuses (submission_refusal e i) ≡ false
  pub accepted : accepts_timeline e.settings i.window ≡ true
  pub no_jump : jumps_from twenty ms10000 i.window ≡ false

-- hop 20, last endpoint 10,000, accepted timeline without a jump: 10,089 re-reads, 10,090 computes
pub record P1 : Type 0 where
  pub rereads : (e : Engine) (i : Submission) → GoesOn e i → (endpoint_of i.window).0 ≡ ms10089 → (submit e i).answer ≡ answer.Reread
  pub computes : (e : Engine) (i : Submission) → GoesOn e i → (endpoint_of i.window).0 ≡ ms10090 → (submit e i).answer ≡ answer.Computed

-- hop 20, last endpoint 10,000: start 10,040 is no jump, 10,041 is
pub record P2 : Type 0 where
  pub stays : (w : Window) → lt (endpoint_of w).0 ms10000.0 ≡ false → (start w).0 ≡ ms10040 → jumps_from twenty ms10000 w ≡ false
  pub jumps : (w : Window) → (start w).0 ≡ ms10041 → jumps_from twenty ms10000 w ≡ true

-- hop 500: R 1, evidence 500 back; hop 501: R 1, evidence 0 back
pub record P4 : Type 0 where
  pub radius_500 : radius five_hundred ≡ 1
  pub evidence_500 : (w : Window) → (evidence five_hundred w).0 ≡ (endpoint_of w).0 ⊖ five_hundred
  pub radius_501 : radius five_hundred_one ≡ 1
  pub evidence_501 : (w : Window) → (evidence five_hundred_one w).0 ≡ (endpoint_of w).0 ⊖ zero⁺

-- hop 20, endpoint 10,000: evidence 9,740
abbrev pub P6 : Type 0
P6 = (w : Window) → (endpoint_of w).0 ≡ ms10000.0 → (evidence twenty w).0 ≡ ms9740

-- ---- the list of figures, and the one statement over it
pub data Figure : Type 0 where
  p1 p2 p3 p4 p5 p6 p7 p8 p9 p10 p11 p12 : Figure

abbrev pub says : Figure → Type 0
says p1 = P1
says p2 = P2
says p3 = P3
says p4 = P4
says p5 = P5
says p6 = P6
says p7 = P7
says p8 = P8
says p9 = P9
says p10 = P10
says p11 = P11
says p12 = P12

abbrev pub Figures : Type 0
Figures = (p : Figure) → says p
