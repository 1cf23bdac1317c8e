use Rattle.std.proofs.Common.{refl}
use Rattle.acc_script.specs.Arrays.{value_of, value_turn_behind, value_turn, size_at, initial_values_at, fresh_name, array_at, array_turn, array_of}
use Rattle.acc_script.specs.Clauses.{target_at, ranges_at, clause_of, clause_turn}
use Rattle.acc_script.specs.Directives.{head_of, act_behind, directive_at}
use Rattle.acc_script.specs.Queues.{queue_of, queue_behind, queues_turn, waits_at}
use Rattle.acc_script.specs.Ranges.{bound_at, bounds_at, range_behind, range_of, range_at, item_behind, item_turn}
use Rattle.acc_script.specs.Routines.{range_argument, queue_argument, two_queues, number_argument, no_argument, data_call, other_call, call_of, question_of, shown_of, print_at}
use Rattle.acc_script.specs.Scripts.{host_at, host_turn, script_at, script_of}
use Rattle.acc_script.specs.Statements.{signed_number_at, cell_at, write_at, simple_of, act_of, statement_turn}
use Rattle.acc_token.specs.Tokens.{gap_at, number_len, token_len, token_at, exactly, expect, number_of, name_of}
use Rattle.test_grammar.proofs.worked.worked_script_faults.Goals as goal

pub returns-clause-faults : goal.returns-clause-faults
unfolding value_of value_turn_behind value_turn size_at initial_values_at fresh_name array_at array_turn array_of bound_at bounds_at range_behind range_of range_at item_behind item_turn queue_of queue_behind queues_turn waits_at target_at ranges_at clause_of clause_turn head_of act_behind directive_at range_argument queue_argument two_queues number_argument no_argument data_call other_call call_of question_of shown_of print_at signed_number_at cell_at write_at simple_of act_of statement_turn host_at host_turn script_at script_of gap_at number_len token_len token_at exactly expect number_of name_of
returns-clause-faults c = record {
  nothing = refl;
  cut_off = refl;
  open_comment = refl;
  open_host = refl;
  leading_zero = refl;
  letter_behind = refl;
  behind_a_comment = refl;
  reserved = refl;
  array_behind_a_host = refl;
  ninth_host = refl;
  lone_slash = refl;
  lone_flag = refl;
  undeclared = refl;
  declared_twice = refl;
  twice = refl;
  long_name = refl;
  no_cells = refl;
  many_cells = refl;
  many_values = refl;
  minus_too_many = refl;
  large_value = refl;
  large_index = refl;
  semicolon_missing = refl;
  cut_behind_a_value = refl;
}

pub returns-clause-directives : goal.returns-clause-directives
unfolding value_of value_turn_behind value_turn size_at initial_values_at fresh_name array_at array_turn array_of bound_at bounds_at range_behind range_of range_at item_behind item_turn queue_of queue_behind queues_turn waits_at target_at ranges_at clause_of clause_turn head_of act_behind directive_at range_argument queue_argument two_queues number_argument no_argument data_call other_call call_of question_of shown_of print_at signed_number_at cell_at write_at simple_of act_of statement_turn host_at host_turn script_at script_of gap_at number_len token_len token_at exactly expect number_of name_of
returns-clause-directives c = record {
  hash_alone = refl;
  other_pragma = refl;
  other_directive = refl;
  no_clause = refl;
  no_data_clause = refl;
  foreign_clause = refl;
  no_create_of_an_entry = refl;
  no_create_of_a_loop = refl;
  foreign_flag = refl;
  async_construct = refl;
  async_twice = refl;
  wait_twice = refl;
  flag_twice = refl;
  wait_with_a_wait = refl;
  comma_first = refl;
  comma_last = refl;
  comma_before_async = refl;
  comma_behind_async = refl;
  empty_list = refl;
  undeclared = refl;
  undeclared_here = refl;
  large_everywhere = refl;
  large_queue = refl;
  large_bound = refl;
  end_of_the_line = refl;
  missing_brace = refl;
  cut_word = refl;
  cut_directive = refl;
  cut_comma = refl;
  cut_queues = refl;
  cut_construct = refl;
}

pub returns-clause-routines : goal.returns-clause-routines
unfolding value_of value_turn_behind value_turn size_at initial_values_at fresh_name array_at array_turn array_of bound_at bounds_at range_behind range_of range_at item_behind item_turn queue_of queue_behind queues_turn waits_at target_at ranges_at clause_of clause_turn head_of act_behind directive_at range_argument queue_argument two_queues number_argument no_argument data_call other_call call_of question_of shown_of print_at signed_number_at cell_at write_at simple_of act_of statement_turn host_at host_turn script_at script_of gap_at number_len token_len token_at exactly expect number_of name_of
returns-clause-routines c = record {
  other_routine = refl;
  call_in_print = refl;
  question_alone = refl;
  negative_device = refl;
  large_device = refl;
  no_queue = refl;
  one_queue = refl;
  undeclared = refl;
  cut_question = refl;
}
