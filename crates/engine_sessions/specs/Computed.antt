-- Submission with all that it computes with: `unfolding submit_now` unfolds every definition below it. Definitions only.
use Rattle.std.specs.Float.Ieee.{neg, add, sub, mul, div, lt, le, eq, is_nan, of_int, to_unsigned, of_bits, to_bits}
use Rattle.numbers_spec.specs.Whole.{whole_nearest, whole_below, whole_above}
use Rattle.numbers_spec.specs.Narrow.{nearest_f32}
use Rattle.numbers_spec.specs.Root.{root_of}
use Rattle.numbers_spec.specs.Exponential.{exp_series, two_to, exp_of, ten_to}
use Rattle.numbers_spec.specs.Logarithm.{log_series, log_of, log1p_of, log10_of}
use Rattle.numbers_spec.specs.Arithmetic.{magnitude, least}
use Rattle.numbers_spec.specs.Rows.{tabulate, rows, all_to, sum_to, every, tally, logs_of}
use Rattle.matcher_spec.specs.Timeline.{on_time, regular, accepts, valid_values}
use Rattle.matcher_spec.specs.Centring.{context_frames, radius, mean_around, centred_at, centred}
use Rattle.matcher_spec.specs.Energy.{whole_energies, average}
use Rattle.matcher_spec.specs.Scores.{lane, lanes, onward, dot, variance_floor, band_term, term_at, correlation_at, correlations, part_term, part_at, score_part}
use Rattle.matcher_spec.specs.Peaks.{maximum_to, near_to, free_to, peaks_from}
use Rattle.matcher_spec.specs.Candidates.{insert, sort_into, crowded, independent_from, margin_of}
use Rattle.matcher_spec.specs.Index.{accepts_reference, matcher_of}
use Rattle.matcher_spec.specs.Search.{searchable, query_of, vertex, fraction, candidate_of, candidate_in, candidates_at, local_found, coarse_scores, separation, whole_found, whole_search, local_search}
use Rattle.engine_spec.specs.Windows.{Submission, evidence_at, jumps_from, rereads_from}
use Rattle.engine_spec.specs.Refusals.{number_of, valid_configuration, index_fits, opening_refusal, valid_settings, valid_hypothesis, valid_lock, valid_milestone, valid_milestones, valid_endpoint, valid_estimate, valid_snapshot, valid_last, valid_engine, valid_window, window_refusal, work_fits, handed_refusal, submission_refusal}
use Rattle.engine_spec.specs.Opening.{blank_snapshot, fresh_engine, no_engine, opening, fills, opened_index}
use Rattle.engine_spec.specs.Readiness.{active_fraction, mean_power, average_energy, readiness}
use Rattle.engine_spec.specs.Tracking.{supports, gain, moved_offset, followed, tracked}
use Rattle.engine_spec.specs.Locking.{passing, first_evidence, holds, held_or_dropped, confirms, kept_or_replaced, passed, whole_searched, searched}
use Rattle.engine_spec.specs.Publishing.{verdict_of, decide, fresh_evidence, candidates_shown, magnitude_of, publish}
use Rattle.engine_spec.specs.Submitting.{shown_again, reread, decision_on, computed_from, answered_from, submit}
use Rattle.engine_spec.specs.Cases.{is_publishing}
use Rattle.engine_spec.specs.Milestones.{stamp}
use Rattle.engine_spec.specs.declared.types.Engine.{Engine}
use Rattle.engine_spec.specs.Results.{SubmitResult}

unfoldable pub submit_now : Engine → Submission → SubmitResult
unfolding submit answered_from stamp shown_again reread decision_on computed_from verdict_of decide fresh_evidence candidates_shown is_publishing magnitude_of publish least passing first_evidence holds held_or_dropped confirms kept_or_replaced passed whole_searched searched supports gain moved_offset followed tracked tally active_fraction mean_power average_energy readiness blank_snapshot fresh_engine no_engine opening fills opened_index number_of every valid_configuration index_fits opening_refusal valid_settings valid_hypothesis valid_lock valid_milestone valid_milestones valid_endpoint valid_estimate valid_snapshot valid_last valid_engine valid_window window_refusal work_fits handed_refusal submission_refusal evidence_at jumps_from rereads_from searchable query_of vertex fraction candidate_of candidate_in candidates_at local_found coarse_scores separation whole_found whole_search local_search accepts_reference matcher_of insert sort_into crowded independent_from margin_of maximum_to near_to free_to peaks_from lane lanes onward dot variance_floor band_term term_at correlation_at correlations part_term part_at score_part whole_energies average context_frames radius logs_of mean_around centred_at centred on_time regular accepts valid_values tabulate rows all_to sum_to magnitude log_series log_of log1p_of log10_of exp_series two_to exp_of ten_to root_of nearest_f32 whole_nearest whole_below whole_above neg add sub mul div lt le eq is_nan of_int to_unsigned of_bits to_bits
submit_now e i = submit e i
