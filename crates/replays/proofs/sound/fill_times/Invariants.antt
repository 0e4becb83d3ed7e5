-- `replays::sound::fill_times` meets its contract. The loop's invariant: so many elements are filled by the rule. Assumes nothing.
use Rattle.std.proofs.Common.{ℕ}
use Rattle.numbers_spec.specs.Arithmetic.{◌⊕◌, ◌⊗◌, real}
use Rattle.numbers_spec.proofs.RowLaws.{Filling}
use Rattle.replays.proofs.sound.fill_times.Given as goal

abbrev pub invariant-loop-i : goal.invariant-loop-i
invariant-loop-i l = Filling (λ (k : ℕ). l.start ⊕ real k ⊗ l.hop) l.initial.times l.i l.times
