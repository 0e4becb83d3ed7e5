use mathlib.Core.Path.{refl}
use native.Mathlib.Omega.{arith}
use Rattle.numbers_spec.proofs.RowLaws.{filling_all}
use Rattle.matcher_scores.specs.Blocks.{term_of}
use Rattle.matcher_scores.proofs.BlockLaws.{block_more}
use Rattle.matcher_scores.proofs.scores.add_band.Goals as goal

pub loop-i-preserved : goal.loop-i-preserved
loop-i-preserved c = block_more (term_of c.args.pair.now) _ _ _ _ c.loop-i.invariant c.add_block.ensures (omega arith) (omega arith) (omega arith)

pub returns-2 : goal.returns-2
returns-2 c = filling_all (block_more (term_of c.args.pair.now) _ _ _ _ c.loop-i.invariant c.add_block.ensures (omega arith) (omega arith) refl) (omega arith)
