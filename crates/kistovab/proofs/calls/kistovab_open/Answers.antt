-- `kistovab::calls::kistovab_open` meets its contract. Assumes nothing.
use borrow.Author.Tests.{le-ltb}
use mathlib.Core.Path.{sym, ◌∙◌}
use Rattle.kistovab.specs.Calls.{open_code}
use Rattle.kistovab.proofs.CallLaws.{code_opened, refused_opens}
use Rattle.kistovab.proofs.calls.kistovab_open.Goals as goal

pub returns-in-Ok-clause-value : goal.returns-in-Ok-clause-value
unfolding open_code
returns-in-Ok-clause-value c =
    simp (le-ltb _ _ c.if-state-lt-STATE_WORDS.false) (code_opened _ _ _ _ (sym c.in-Ok.is ∙ c.open.ensures.value))

pub returns-in-Err-clause-words : goal.returns-in-Err-clause-words
returns-in-Err-clause-words c = rw c.number_of.ensures (refused_opens _ _ _)
