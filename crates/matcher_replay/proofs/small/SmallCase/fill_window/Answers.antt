-- `matcher_replay::small::SmallCase::fill_window` meets its contract: each element is what its band has at its frame. Assumes nothing.
use Rattle.std.proofs.Common.{rules, ◌+◌}
use Rattle.matcher_replay.specs.Sounds.{heard_at}
use Rattle.matcher_replay.proofs.small.SmallCase.fill_window.Goals as goal

pub returns : goal.returns
returns c = let a = c.args.self.case in c.fill_bands.ensures.bands (λ band frame. heard_at a.seed a.period band (a.from + frame)) (λ i x k e. search rules)
