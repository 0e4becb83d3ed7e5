-- `engine_words::states::no_engine` meets its contract. Assumes nothing.
use lib.Ieee.{of_bits, of_fields, odd}
use Rattle.engine_spec.specs.Opening.{no_engine, fresh_engine, blank_snapshot}
use Rattle.engine_layout.specs.Layout.{engine_of, settings_of, configuration_of, lock_of, hypothesis_of, milestones_of, option_of, last_of, snapshot_of, state_of, phase_of, stage_of, reason_of, estimate_of, diagnostics_of, diagnostics_with, candidates_of, candidate_of, spectral_of}
use Rattle.engine_words.proofs.states.no_engine.Goals as goal

pub returns : goal.returns
unfolding engine_of settings_of configuration_of lock_of hypothesis_of milestones_of option_of last_of snapshot_of state_of phase_of stage_of reason_of estimate_of diagnostics_of diagnostics_with candidates_of candidate_of spectral_of no_engine fresh_engine blank_snapshot of_bits of_fields odd
returns c = c.engine_of.ensures
