-- `numbers::float::is_finite` meets its contract. Assumes nothing.
use Rattle.std.proofs.Common.{◌≡◌, Bool, true, false, ◌&&◌, sym, refl, ap, ◌∙◌}
use lib.Ieee.{Float, nan, inf, fin, lt, of_bits}
use lib.Ieee.Scale.{finite}
use Rattle.numbers.proofs.float.is_finite.Goals as goal

between : (x : Float) → (lt (inf true) x && lt x (inf false)) ≡ finite x
unfolding lt
between nan = refl
between (inf true) = refl
between (inf false) = refl
between (fin s m e) = refl

pub returns-then-x : goal.returns-then-x
unfolding of_bits
returns-then-x c = let x = c.args.x in ap (λ (b : Bool). b && lt x (inf false)) (sym c.if-x.true) ∙ between x

pub returns-else-x : goal.returns-else-x
unfolding of_bits
returns-else-x c = let x = c.args.x in c.if-x.false ∙ ap (λ (b : Bool). b && lt x (inf false)) (sym c.if-x.false) ∙ between x
