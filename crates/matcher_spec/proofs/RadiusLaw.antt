-- The radius is at most 250 where the hop is 1 or more: 250 / hop is at most 250 / 1, and rounding and counting keep the order. Assumes nothing.
use mathlib.Core.Path.{◌≡◌, refl, sym, subst}
use mathlib.Core.Bool.{Bool, true, false, cond}
use Prim.Native.Nat.{◌≤◌}
use native.Mathlib.Omega.{arith}
use lib.Dec.{T}
use lib.Ieee.Scale.{finite}
use lib.Ieee.{Float, nan, inf, fin, binary64, le, lt, div, of_bits, of_int, round, units, size}
use Rattle.numbers_spec.specs.Arithmetic.{◌⊘◌, one, real, at_least}
use Rattle.numbers_spec.specs.Whole.{whole_nearest}
use Rattle.numbers_spec.proofs.CountLaws.{count_at_most}
use Rattle.numbers_spec.proofs.Order.{le_self, positive_above}
use Rattle.numbers_spec.proofs.Products.{div_mono}
use Rattle.numbers_spec.proofs.WholeLaws.{round_laws}
use Rattle.matcher_spec.specs.Centring.{context_ms, context_frames, radius, radius_most, wide_hop}

frames_of_one : context_frames one ≡ real radius_most
unfolding context_frames whole_nearest div of_bits of_int round units size
frames_of_one = refl

quotient_small : (hop : Float) → T (finite hop) → T (le one hop) → T (le (context_ms ⊘ hop) (context_ms ⊘ one))
unfolding of_bits
quotient_small hop f h = div_mono binary64 context_ms context_ms hop one tt tt (positive_above one hop tt f h) tt (unfold lt le in tt) (le_self context_ms tt) h

frames_small : (hop : Float) → T (le one hop) → T (le (context_frames hop) (real radius_most))
frames_small nan h = absurd (unfold le in h)
frames_small (inf true) h = absurd (unfold le in h)
frames_small (inf false) h = unfold context_frames whole_nearest div of_bits of_int round units size lt le in tt
frames_small (fin s m e) h = rw (← frames_of_one) (unfold context_frames in round_laws.monotone (context_ms ⊘ fin s m e) (context_ms ⊘ one) (quotient_small (fin s m e) tt h))

-- of two values that are at most c, either is
either_small : (b : Bool) (x y c : Float) → T (le x c) → T (le y c) → T (le (cond b x y) c)
either_small true x y c p q = p
either_small false x y c p q = q

pub radius_small : (hop : Float) → wide_hop hop ≡ true → radius hop ≤ radius_most
unfolding radius
radius_small hop h =
    let small = frames_small hop (subst T (sym h) tt) in
    count_at_most radius_most (omega arith) (at_least one (context_frames hop)) (either_small (lt one (context_frames hop)) (context_frames hop) one (real radius_most) small (unfold of_int round units size lt le in tt))
