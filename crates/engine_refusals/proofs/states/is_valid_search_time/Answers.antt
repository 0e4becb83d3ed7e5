-- `engine_refusals::states::is_valid_search_time` meets its contract. Assumes nothing.
use lib.Ieee.{of_bits}
use Rattle.engine_refusals.proofs.states.is_valid_search_time.Goals as goal

pub returns-else-is_near : goal.returns-else-is_near
unfolding of_bits
returns-else-is_near c = simp (← c.is_near.ensures, c.if-is_near.false)
