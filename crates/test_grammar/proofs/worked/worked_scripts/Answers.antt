use Rattle.std.proofs.Common.{refl}
use Rattle.acc_script.specs.Arrays.{value_of, value_turn_behind, value_turn, size_at, initial_values_at, fresh_name, array_at, array_turn, array_of}
use Rattle.acc_script.specs.Clauses.{target_at, ranges_at, clause_of, clause_turn}
use Rattle.acc_script.specs.Directives.{head_of, act_behind, directive_at}
use Rattle.acc_script.specs.Queues.{queue_of, queue_behind, queues_turn, waits_at}
use Rattle.acc_script.specs.Ranges.{bound_at, bounds_at, range_behind, range_of, range_at, item_behind, item_turn}
use Rattle.acc_script.specs.Routines.{range_argument, queue_argument, two_queues, number_argument, no_argument, data_call, other_call, call_of, question_of, shown_of, print_at}
use Rattle.acc_script.specs.Scripts.{host_at, host_turn, script_at, script_of}
use Rattle.acc_script.specs.Statements.{signed_number_at, cell_at, write_at, simple_of, act_of, statement_turn}
use Rattle.acc_token.specs.Tokens.{gap_at, number_len, token_len, token_at, exactly, expect, number_of, name_of}
use Rattle.test_grammar.proofs.worked.worked_scripts.Goals as goal

pub returns-clause-stale_copy : goal.returns-clause-stale_copy
unfolding value_of value_turn_behind value_turn size_at initial_values_at fresh_name array_at array_turn array_of bound_at bounds_at range_behind range_of range_at item_behind item_turn queue_of queue_behind queues_turn waits_at target_at ranges_at clause_of clause_turn head_of act_behind directive_at range_argument queue_argument two_queues number_argument no_argument data_call other_call call_of question_of shown_of print_at signed_number_at cell_at write_at simple_of act_of statement_turn host_at host_turn script_at script_of gap_at number_len token_len token_at exactly expect number_of name_of
returns-clause-stale_copy c = refl

pub returns-clause-ranges : goal.returns-clause-ranges
unfolding value_of value_turn_behind value_turn size_at initial_values_at fresh_name array_at array_turn array_of bound_at bounds_at range_behind range_of range_at item_behind item_turn queue_of queue_behind queues_turn waits_at target_at ranges_at clause_of clause_turn head_of act_behind directive_at range_argument queue_argument two_queues number_argument no_argument data_call other_call call_of question_of shown_of print_at signed_number_at cell_at write_at simple_of act_of statement_turn host_at host_turn script_at script_of gap_at number_len token_len token_at exactly expect number_of name_of
returns-clause-ranges c = refl

pub returns-clause-clause_names : goal.returns-clause-clause_names
unfolding value_of value_turn_behind value_turn size_at initial_values_at fresh_name array_at array_turn array_of bound_at bounds_at range_behind range_of range_at item_behind item_turn queue_of queue_behind queues_turn waits_at target_at ranges_at clause_of clause_turn head_of act_behind directive_at range_argument queue_argument two_queues number_argument no_argument data_call other_call call_of question_of shown_of print_at signed_number_at cell_at write_at simple_of act_of statement_turn host_at host_turn script_at script_of gap_at number_len token_len token_at exactly expect number_of name_of
returns-clause-clause_names c = record {
  copy = refl;
  copyin = refl;
  copyout = refl;
  create = refl;
  region = refl;
  no_create = refl;
  delete = refl;
  update = refl;
}

pub returns-clause-async_forms : goal.returns-clause-async_forms
unfolding value_of value_turn_behind value_turn size_at initial_values_at fresh_name array_at array_turn array_of bound_at bounds_at range_behind range_of range_at item_behind item_turn queue_of queue_behind queues_turn waits_at target_at ranges_at clause_of clause_turn head_of act_behind directive_at range_argument queue_argument two_queues number_argument no_argument data_call other_call call_of question_of shown_of print_at signed_number_at cell_at write_at simple_of act_of statement_turn host_at host_turn script_at script_of gap_at number_len token_len token_at exactly expect number_of name_of
returns-clause-async_forms c = record {
  values = refl;
  bare = refl;
  synchronous = refl;
  wait_for_all = refl;
  wait_for_one = refl;
  wait_for_two = refl;
  wait_on_the_default = refl;
}

pub returns-clause-routines : goal.returns-clause-routines
unfolding value_of value_turn_behind value_turn size_at initial_values_at fresh_name array_at array_turn array_of bound_at bounds_at range_behind range_of range_at item_behind item_turn queue_of queue_behind queues_turn waits_at target_at ranges_at clause_of clause_turn head_of act_behind directive_at range_argument queue_argument two_queues number_argument no_argument data_call other_call call_of question_of shown_of print_at signed_number_at cell_at write_at simple_of act_of statement_turn host_at host_turn script_at script_of gap_at number_len token_len token_at exactly expect number_of name_of
returns-clause-routines c = record {
  copyin = refl;
  create = refl;
  copyout = refl;
  delete = refl;
  copyout_finalize = refl;
  delete_finalize = refl;
  update_device = refl;
  update_self = refl;
  wait = refl;
  wait_all = refl;
  wait_async = refl;
  set_device = refl;
  set_async = refl;
}

pub returns-clause-questions : goal.returns-clause-questions
unfolding value_of value_turn_behind value_turn size_at initial_values_at fresh_name array_at array_turn array_of bound_at bounds_at range_behind range_of range_at item_behind item_turn queue_of queue_behind queues_turn waits_at target_at ranges_at clause_of clause_turn head_of act_behind directive_at range_argument queue_argument two_queues number_argument no_argument data_call other_call call_of question_of shown_of print_at signed_number_at cell_at write_at simple_of act_of statement_turn host_at host_turn script_at script_of gap_at number_len token_len token_at exactly expect number_of name_of
returns-clause-questions c = record {
  range = refl;
  is_present = refl;
  async_test = refl;
  async_test_all = refl;
  device = refl;
  devices = refl;
}

pub returns-clause-constructs : goal.returns-clause-constructs
unfolding value_of value_turn_behind value_turn size_at initial_values_at fresh_name array_at array_turn array_of bound_at bounds_at range_behind range_of range_at item_behind item_turn queue_of queue_behind queues_turn waits_at target_at ranges_at clause_of clause_turn head_of act_behind directive_at range_argument queue_argument two_queues number_argument no_argument data_call other_call call_of question_of shown_of print_at signed_number_at cell_at write_at simple_of act_of statement_turn host_at host_turn script_at script_of gap_at number_len token_len token_at exactly expect number_of name_of
returns-clause-constructs c = record {
  nested = refl;
  hosts = refl;
}

pub returns-clause-limits : goal.returns-clause-limits
returns-clause-limits c = record { text = refl; name = refl; index = refl; ranges = refl; queues = refl; constructs = refl }
