-- The figures P1 to P12 follow from the definitions, by computation. Assumes nothing.
use mathlib.Core.Bool.{Bool, true, false, not, ◌||◌}
use mathlib.Core.Path.{◌≡◌, refl, subst}
use lib.Dec.{T}
use lib.Ieee.{binary64, round, units, size, add, sub, mul, div, neg, of_bits, to_unsigned, lt, le}
use Rattle.std.specs.Prelude.{Option, None, Some}
use Rattle.numbers_spec.specs.Whole.{whole_nearest}
use Rattle.numbers_spec.proofs.Figures as number
use Rattle.matcher_spec.specs.Centring.{context_frames, radius}
use Rattle.matcher_spec.proofs.Figures as matcher
use Rattle.engine_spec.specs.Windows.{indexed, endpoint_of, evidence_at, jumps_from, rereads_from}
use Rattle.engine_spec.specs.Thresholds.{reread_ms}
use Rattle.engine_spec.specs.Refusals.{refuses}
use Rattle.engine_spec.specs.declared.types.Refusal.{Refusal}
use Rattle.engine_spec.specs.Submitting.{submit, reread, computed_from, answered_from}
use Rattle.engine_spec.specs.Figures.{P1, P2, P4, P6, Figures, ms10000, ms10089, ms10090, p1, p2, p3, p4, p5, p6, p7, p8, p9, p10, p11, p12}

-- a tenth of a second less eleven is a re-reading, less ten is not
soon_10089 : lt (sub binary64 ms10089 ms10000.0) reread_ms ≡ true
unfolding lt sub round units size neg add of_bits
soon_10089 = refl

late_10090 : lt (sub binary64 ms10090 ms10000.0) reread_ms ≡ false
unfolding lt sub round units size neg add of_bits
late_10090 = refl

or_true : (b : Bool) → b || true ≡ true
or_true true = refl
or_true false = refl

not_refused : (r : Option Refusal) → refuses r ≡ false → r ≡ None
not_refused None h = refl
not_refused (Some r) h = absurd (subst (λ (b : Bool). T b) h tt)

figure_1 : P1
unfolding submit answered_from rereads_from reread computed_from
figure_1 = record {
  rereads = λ e i g h. rw (not_refused _ g.answered, g.last, g.snapshot, g.accepted, g.hop, g.no_jump, h, soon_10089, or_true (not (indexed e.settings))) refl;
  computes = λ e i g h. rw (not_refused _ g.answered, g.last, g.snapshot, g.hop, g.no_jump, h, late_10090) refl;
}

figure_2 : P2
unfolding jumps_from lt add mul round units size
figure_2 = record {
  stays = λ w h k. rw (h, k) refl;
  jumps = λ w k. rw k (or_true (lt (endpoint_of w).0 ms10000.0));
}

figure_4 : P4
unfolding evidence_at radius context_frames whole_nearest div mul round units size of_bits to_unsigned lt le
figure_4 = record { radius_500 = refl; evidence_500 = λ w. refl; radius_501 = refl; evidence_501 = λ w. refl }

figure_6 : P6
unfolding evidence_at context_frames whole_nearest div mul sub add neg round units size of_bits lt le
figure_6 w h = rw h refl

pub figures : Figures
figures p1 = figure_1
figures p2 = figure_2
figures p3 = (matcher.figures).p3
figures p4 = figure_4
figures p5 = (matcher.figures).p5
figures p6 = figure_6
figures p7 = (number.figures).p7
figures p8 = (number.figures).p8
figures p9 = (number.figures).p9
figures p10 = (number.figures).p10
figures p11 = (matcher.figures).p11
figures p12 = (matcher.figures).p12
