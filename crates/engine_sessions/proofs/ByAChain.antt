-- The session worked out, turn by turn. Assumes nothing.
use mathlib.Core.Path.{refl}
use Rattle.engine_sessions.specs.Session.{TurnWorks, Recorded, turn, end}
use Rattle.engine_sessions.specs.Computed.{submit_now}
use Rattle.engine_sessions.specs.ByAChain.{session}

turn1 : TurnWorks session 0
unfolding submit_now
turn1 = refl

turn2 : TurnWorks session 1
unfolding submit_now
turn2 = refl

turn3 : TurnWorks session 2
unfolding submit_now
turn3 = refl

turn4 : TurnWorks session 3
unfolding submit_now
turn4 = refl

turn5 : TurnWorks session 4
unfolding submit_now
turn5 = refl

turn6 : TurnWorks session 5
unfolding submit_now
turn6 = refl

turn7 : TurnWorks session 6
unfolding submit_now
turn7 = refl

turn8 : TurnWorks session 7
unfolding submit_now
turn8 = refl

pub recorded : Recorded session
recorded = turn turn1 (turn turn2 (turn turn3 (turn turn4 (turn turn5 (turn turn6 (turn turn7 (turn turn8 end)))))))
