-- `numbers::whole::signed` meets its contract. Assumes nothing.
use Rattle.std.proofs.Common.{Bool, sym, ap, ◌∙◌, le→leb}
use lib.Ieee.{binary64, in_float, of_int, round}
use Rattle.numbers_spec.proofs.Sign.{neg_round}
use Rattle.numbers.proofs.whole.signed.Goals as goal

pub int_to_float-result : goal.int_to_float-result
unfolding in_float
int_to_float-result c = le→leb c.args.mag 9007199254740992 c.requires

pub int_to_float-result-else-minus : goal.int_to_float-result-else-minus
unfolding in_float
int_to_float-result-else-minus c = le→leb c.args.mag 9007199254740992 c.requires

pub returns-then-minus : goal.returns-then-minus
unfolding of_int
returns-then-minus c =
    neg_round binary64 c.args.mag 1 ∙ ap (λ (b : Bool). round binary64 b c.args.mag 1) (sym c.if-minus.true)

pub returns-else-minus : goal.returns-else-minus
unfolding of_int
returns-else-minus c = ap (λ (b : Bool). round binary64 b c.args.mag 1) (sym c.if-minus.false)
