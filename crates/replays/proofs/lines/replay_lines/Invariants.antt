-- `replays::lines::replay_lines` meets its contract: the lines passed and the lines left differ as all do. Assumes nothing.
use Rattle.std.proofs.Common.{ℕ, ◌≡◌, ◌+◌, ◌≤◌, Bool, List, drop}
use Rattle.replays.specs.Lines.{Decides}
use Rattle.replays.proofs.LineLaws.{others}
use Rattle.replays.proofs.lines.replay_lines.Given as goal

abbrev pub invariant-loop-before : goal.invariant-loop-before
invariant-loop-before g l =
    record {
      few : l.differ ≤ l.before;
      counted : (agrees : List ℕ → Bool) → Decides agrees g.A.Replayed.MayAgree → l.differ + others agrees (drop l.before l.lines) ≡ others agrees l.lines;
    }
