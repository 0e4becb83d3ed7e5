-- `matcher_replay::small::SmallCase::fill_reference` meets its contract: each element is what its band has at its frame. Assumes nothing.
use Rattle.std.proofs.Common.{rules}
use Rattle.matcher_replay.specs.Sounds.{sound_at}
use Rattle.matcher_replay.proofs.small.SmallCase.fill_reference.Goals as goal

pub returns : goal.returns
returns c = let a = c.args.self.case in c.fill_bands.ensures.bands (λ band frame. sound_at a.seed a.period band frame) (λ i x k e. search rules)
