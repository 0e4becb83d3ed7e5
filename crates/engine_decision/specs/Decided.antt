-- The struct of the code as the record that the definitions take. Definitions only.
use Rattle.engine_spec.specs.Publishing as publishing
use Rattle.engine_decision.specs.declared.kinds.Decision.{Decision}

abbrev pub decision_in : Decision → publishing.Decision
decision_in d = record { lock = d.lock; reached = d.reached; global = d.global; found = d.found.items; verdict = d.verdict }
