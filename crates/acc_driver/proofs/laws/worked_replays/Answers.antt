use Rattle.std.proofs.Common.{refl}
use Rattle.std.specs.Fmt.{digits}
use Rattle.acc_base.specs.Ranges.{range_contains, range_overlaps}
use Rattle.acc_present.specs.Lifetimes.{is_before, opened_lifetimes, live_lifetimes}
use Rattle.acc_present.specs.Presences.{presences}
use Rattle.acc_place.specs.Accepting.{refusal}
use Rattle.acc_place.specs.Batches.{batch_of, answer_of}
use Rattle.acc_place.specs.Histories.{standing}
use Rattle.acc_place.specs.Standings.{walk_of}
use Rattle.acc_script.specs.Arrays.{value_of, value_turn_behind, value_turn, size_at, initial_values_at, fresh_name, array_at, array_turn, array_of}
use Rattle.acc_driver.specs.Inputs.{parts}
use Rattle.acc_report.specs.Lines.{line_text, state_text, refusal_text, presence_text, discarded_text, totals_text}
use Rattle.acc_report.specs.Reports.{host_text, device_text, queue_text, queues_text, report}
use Rattle.acc_schedule.specs.Schedules.{times_of, round_events, events_of, line_events, events_behind, schedule_of}
use Rattle.acc_script.specs.Clauses.{ranges_at, clause_of, clause_turn}
use Rattle.acc_script.specs.Directives.{head_of, act_behind, directive_at}
use Rattle.acc_script.specs.Ranges.{bound_at, bounds_at, range_behind, range_of, range_at, item_behind, item_turn}
use Rattle.acc_script.specs.Routines.{shown_of, print_at}
use Rattle.acc_script.specs.Scripts.{host_at, host_turn, script_at, script_of}
use Rattle.acc_script.specs.Statements.{signed_number_at, cell_at, write_at, simple_of, act_of, statement_turn}
use Rattle.acc_token.specs.Tokens.{gap_at, number_len, token_len, token_at, exactly, expect, number_of, name_of}
use Rattle.acc_driver.proofs.laws.worked_replays.Goals as goal

pub returns-clause-nothing : goal.returns-clause-nothing
unfolding digits line_text range_contains range_overlaps is_before opened_lifetimes live_lifetimes presences refusal batch_of answer_of standing walk_of value_of value_turn_behind value_turn size_at initial_values_at fresh_name array_at array_turn array_of parts state_text refusal_text host_text presence_text device_text discarded_text totals_text queue_text queues_text report times_of round_events events_of line_events events_behind schedule_of host_at host_turn script_at script_of bound_at bounds_at range_behind range_of range_at item_behind item_turn ranges_at clause_of clause_turn head_of act_behind directive_at shown_of print_at signed_number_at cell_at write_at simple_of act_of statement_turn gap_at number_len token_len token_at exactly expect number_of name_of
returns-clause-nothing c = refl

pub returns-clause-stale_copy : goal.returns-clause-stale_copy
unfolding digits line_text range_contains range_overlaps is_before opened_lifetimes live_lifetimes presences refusal batch_of answer_of standing walk_of value_of value_turn_behind value_turn size_at initial_values_at fresh_name array_at array_turn array_of parts state_text refusal_text host_text presence_text device_text discarded_text totals_text queue_text queues_text report times_of round_events events_of line_events events_behind schedule_of host_at host_turn script_at script_of bound_at bounds_at range_behind range_of range_at item_behind item_turn ranges_at clause_of clause_turn head_of act_behind directive_at shown_of print_at signed_number_at cell_at write_at simple_of act_of statement_turn gap_at number_len token_len token_at exactly expect number_of name_of
returns-clause-stale_copy c = refl

pub returns-clause-counted_twice : goal.returns-clause-counted_twice
unfolding digits line_text range_contains range_overlaps is_before opened_lifetimes live_lifetimes presences refusal batch_of answer_of standing walk_of value_of value_turn_behind value_turn size_at initial_values_at fresh_name array_at array_turn array_of parts state_text refusal_text host_text presence_text device_text discarded_text totals_text queue_text queues_text report times_of round_events events_of line_events events_behind schedule_of host_at host_turn script_at script_of bound_at bounds_at range_behind range_of range_at item_behind item_turn ranges_at clause_of clause_turn head_of act_behind directive_at shown_of print_at signed_number_at cell_at write_at simple_of act_of statement_turn gap_at number_len token_len token_at exactly expect number_of name_of
returns-clause-counted_twice c = refl

pub returns-clause-overlap : goal.returns-clause-overlap
unfolding digits line_text range_contains range_overlaps is_before opened_lifetimes live_lifetimes presences refusal batch_of answer_of standing walk_of value_of value_turn_behind value_turn size_at initial_values_at fresh_name array_at array_turn array_of parts state_text refusal_text host_text presence_text device_text discarded_text totals_text queue_text queues_text report times_of round_events events_of line_events events_behind schedule_of host_at host_turn script_at script_of bound_at bounds_at range_behind range_of range_at item_behind item_turn ranges_at clause_of clause_turn head_of act_behind directive_at shown_of print_at signed_number_at cell_at write_at simple_of act_of statement_turn gap_at number_len token_len token_at exactly expect number_of name_of
returns-clause-overlap c = refl

pub returns-clause-unfinished : goal.returns-clause-unfinished
unfolding digits line_text range_contains range_overlaps is_before opened_lifetimes live_lifetimes presences refusal batch_of answer_of standing walk_of value_of value_turn_behind value_turn size_at initial_values_at fresh_name array_at array_turn array_of parts state_text refusal_text host_text presence_text device_text discarded_text totals_text queue_text queues_text report times_of round_events events_of line_events events_behind schedule_of host_at host_turn script_at script_of bound_at bounds_at range_behind range_of range_at item_behind item_turn ranges_at clause_of clause_turn head_of act_behind directive_at shown_of print_at signed_number_at cell_at write_at simple_of act_of statement_turn gap_at number_len token_len token_at exactly expect number_of name_of
returns-clause-unfinished c = refl
