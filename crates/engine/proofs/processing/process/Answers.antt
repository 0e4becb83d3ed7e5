use mathlib.Core.Path.{sym}
use Rattle.engine.proofs.StoredLaws.{kept_where_refused}
use Rattle.engine.proofs.processing.process.Goals as goal

pub returns-in_err-done-clause-stored : goal.returns-in_err-done-clause-stored
returns-in_err-done-clause-stored c = kept_where_refused _ _ (sym c.in_err-done.ensures.value)
