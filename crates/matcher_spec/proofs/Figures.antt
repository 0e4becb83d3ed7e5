-- The figures P3, P5, P11 and P12 follow from the definitions, by computation. Assumes nothing.
use mathlib.Core.Bool.{false}
use mathlib.Core.Path.{◌≡◌, refl, ◌∙◌}
use lib.Dec.{lit<}
use lib.ListN.{length}
use lib.Ieee.{round, units, size, add, sub, mul, div, neg, of_bits, of_int, to_unsigned, lt, le}
use Rattle.numbers_spec.specs.Whole.{whole_nearest}
use Rattle.numbers_spec.specs.Rows.{all_to}
use Rattle.matcher_spec.specs.Timeline.{on_time, regular, accepts}
use Rattle.matcher_spec.specs.Centring.{context_frames, radius, centred}
use Rattle.matcher_spec.specs.Peaks.{near_to, free_to, peaks_from}
use Rattle.matcher_spec.specs.Candidates.{margin_of}
use Rattle.matcher_spec.specs.Search.{searchable, whole_search, local_search}
use Rattle.matcher_spec.specs.Features.{Features}
use Rattle.matcher_spec.specs.declared.types.Reference.{Reference}
use Rattle.matcher_spec.specs.Figures.{Figures, P3, twenty}
use Rattle.matcher_spec.proofs.Cases.{and_false}
use Rattle.matcher_spec.proofs.RowAccess.{length_centred, length_kept}

radius_is : radius twenty ≡ 13
unfolding radius context_frames whole_nearest div round units size of_bits to_unsigned lt le
radius_is = refl

too_short : (x : Reference) (w : Features) → x.hop_ms ≡ twenty → length w.times ≡ 42 → searchable x w ≡ false
unfolding searchable
too_short x w e h = rw (e, radius_is, h) (and_false (accepts x.bands twenty w.bands w.times))

p3 : P3
unfolding whole_search local_search
p3 = record {
  radius_13 = radius_is;
  none_from_42 = λ m w e h. rw (too_short m.reference w e h);
  none_near_42 = λ x fine w lower upper e h. rw (too_short x w e h);
  enough_43 = rw radius_is (lit< tt);
  leave_17 = λ values h. rw radius_is (length_kept 13 (centred 13 values) ∙ rw (length_centred, h));
}

pub figures : Figures
unfolding regular on_time all_to peaks_from free_to near_to margin_of round units size add sub neg mul div of_bits of_int lt le
figures = record { p3 = p3; p5 = (refl, refl); p11 = refl; p12 = λ c e. e }
