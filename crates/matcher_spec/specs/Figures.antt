-- Document 01's worked figures of the matcher, P3, P5, P11 and P12. Definitions only.
-- `fin s m (pos k)` is m × 2^k and `fin s m (negsuc k)` is m × 2^-(k + 1), below zero where s is true; m is odd, so that each value is written in one way.
use Rattle.std.specs.Prelude.{◌+◌, ◌*◌, ◌<◌, true, false, List, [], ◌∷◌, ◌≡◌, pos, negsuc, length, Float}
use Rattle.std.specs.Float.{fin, binary64}
use Rattle.std.specs.Float.Ieee.{of_bits}
use Rattle.numbers_spec.specs.Arithmetic.{zero⁺, one}
use Rattle.matcher_spec.specs.Timeline.{regular}
use Rattle.matcher_spec.specs.Centring.{radius, centred, kept}
use Rattle.matcher_spec.specs.Energy.{Bands}
use Rattle.matcher_spec.specs.Peaks.{peaks}
use Rattle.matcher_spec.specs.Candidates.{margin_of}
use Rattle.matcher_spec.specs.Index.{Matcher}
use Rattle.matcher_spec.specs.Search.{whole_search, local_search}
use Rattle.matcher_spec.specs.Features.{Features}
use Rattle.matcher_spec.specs.declared.types.Reference.{Reference}
use Rattle.matcher_spec.specs.declared.types.Candidate.{Candidate}

-- 20, 20.5 and 21
abbrev pub twenty : Float
twenty = fin false 5 (pos 2)

abbrev pub twenty_and_half : Float
twenty_and_half = fin false 41 (negsuc 0)

abbrev pub twenty_one : Float
twenty_one = fin false 21 (pos 0)

-- 4 and 5
abbrev pub four_score : Float
four_score = fin false 1 (pos 2)

abbrev pub five_score : Float
five_score = fin false 5 (pos 0)

-- 0.3
abbrev pub three_tenths : Float
three_tenths = of_bits binary64 0x3fd3333333333333

-- P3 at a hop: the radius is 13;
pub record P3At (hop : Float) : Type 0 where
  pub radius_13 : radius hop ≡ 13
  -- 42 frames give no candidates, in a whole and in a local search, whatever the matcher of this hop and the window;
  pub none_from_42 : (m : Matcher) (w : Features) → m.reference.hop_ms ≡ hop → length w.times ≡ 42 → whole_search m w ≡ []
  pub none_near_42 : (x : Reference) (fine : Bands) (w : Features) (lower upper : Float) → x.hop_ms ≡ hop → length w.times ≡ 42 → local_search x fine w lower upper ≡ []
  -- 43 are more than 2R + 16, and of a band's 43 values 17 are left centred.
  pub enough_43 : 2 * radius hop + 16 < 43
  pub leave_17 : (values : List Float) → length values ≡ 43 → length (kept (radius hop) (centred (radius hop) values)) ≡ 17

-- hop 20: R 13; 42 frames give no candidates, 43 leave 17 centred
abbrev pub P3 : Type 0
P3 = P3At twenty

-- hop 20: times 0, 20.5 regular; 0, 21 not
abbrev pub P5 : Type 0
P5 = (regular twenty (zero⁺ ∷ twenty_and_half ∷ []) ≡ true) × (regular twenty (zero⁺ ∷ twenty_one ∷ []) ≡ false)

-- scores 5, 4, 1, 5, separation 2: peaks 0, 3
abbrev pub P11 : Type 0
P11 = peaks (five_score ∷ four_score ∷ one ∷ five_score ∷ []) 2 ≡ 0 ∷ 3 ∷ []

-- lone score 0.3: margin 0.3
abbrev pub P12 : Type 0
P12 = (c : Candidate) → c.score ≡ three_tenths → margin_of (c ∷ []) ≡ three_tenths

pub record Figures : Type 0 where
  pub p3 : P3
  pub p5 : P5
  pub p11 : P11
  pub p12 : P12
