-- `numbers::narrow::narrow` meets its contract. Assumes nothing.
use Rattle.std.proofs.Common.{◌≡◌, ◌*◌, ◌^◌, true, false, T, pos, sym, refl, ◌∙◌, subst, true≢false, arith, pow_pos}
use mathlib.Core.Bool.{false≢true}
use lib.Ieee.{Float, nan, inf, fin, binary32, round, of_bits, lt, div, neg}
use lib.Ieee.Fits.{round-fits}
use lib.Ieee.Scale.{finite}
use Rattle.numbers_spec.specs.Narrow.{nearest_f32}
use Rattle.numbers.proofs.narrow.Patterns.{by_value, fits_32, back, no_nan}
use Rattle.numbers.proofs.narrow.narrow.Goals as goal

above : (x : Float) → finite x ≡ false → lt (fin false 0 (pos 0)) x ≡ true → inf false ≡ nearest_f32 x
unfolding nearest_f32 lt
above nan h k = absurd (false≢true k)
above (inf true) h k = absurd (false≢true k)
above (inf false) h k = refl
above (fin s m e) h k = absurd (true≢false h)

below : (x : Float) → finite x ≡ false → lt x (fin false 0 (pos 0)) ≡ true → inf true ≡ nearest_f32 x
unfolding nearest_f32 lt
below nan h k = absurd (false≢true k)
below (inf true) h k = refl
below (inf false) h k = absurd (false≢true k)
below (fin s m e) h k = absurd (true≢false h)

neither : (x : Float) → finite x ≡ false → lt (fin false 0 (pos 0)) x ≡ false → lt x (fin false 0 (pos 0)) ≡ false → nan ≡ nearest_f32 x
unfolding nearest_f32 lt
neither nan h k l = refl
neither (inf true) h k l = absurd (true≢false l)
neither (inf false) h k l = absurd (true≢false k)
neither (fin s m e) h k l = absurd (true≢false h)

pub split-requires : goal.split-requires
split-requires c = subst T (sym (sym c.is_finite.ensures ∙ c.if-is_finite.true)) tt

pub overflow_cast-result : goal.overflow_cast-result
overflow_cast-result c =
    let p = c.split.result in
    omega (arith, fits_32 c.narrow_bits.result (round binary32 p.minus (p.sig * 2 ^ p.exp) (2 ^ 1074)) c.narrow_bits.ensures (round-fits binary32 p.minus (p.sig * 2 ^ p.exp) (2 ^ 1074)))

pub float_from_bits-result : goal.float_from_bits-result
float_from_bits-result c =
    let p = c.split.result in
    no_nan c.narrow_bits.result p.minus (p.sig * 2 ^ p.exp) (2 ^ 1074) c.narrow_bits.ensures

pub returns-then-is_finite : goal.returns-then-is_finite
returns-then-is_finite c =
    let p = c.split.result in
    let x = c.args.x in
    back c.narrow_bits.result (round binary32 p.minus (p.sig * 2 ^ p.exp) (2 ^ 1074)) c.narrow_bits.ensures (round-fits binary32 p.minus (p.sig * 2 ^ p.exp) (2 ^ 1074))
    ∙ by_value x p.minus (p.sig * 2 ^ p.exp) (2 ^ 1074) (pow_pos 1074) c.split.ensures

pub returns-then-x : goal.returns-then-x
unfolding of_bits div
returns-then-x c = above c.args.x (sym c.is_finite.ensures ∙ c.if-is_finite.false) c.if-x.true

pub returns-then-x-2 : goal.returns-then-x-2
unfolding of_bits div neg
returns-then-x-2 c = below c.args.x (sym c.is_finite.ensures ∙ c.if-is_finite.false) c.if-x-2.true

pub returns : goal.returns
unfolding of_bits div
returns c =
    neither c.args.x (sym c.is_finite.ensures ∙ c.if-is_finite.false) c.if-x.false c.if-x-2.false
