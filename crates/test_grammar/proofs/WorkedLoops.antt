-- The examples, computed.
use Rattle.std.proofs.Common.{refl}
use Rattle.acc_script.specs.Arrays.{value_of, fresh_name, array_of}
use Rattle.acc_script.specs.Expressions.{index_at, number_at, offset_at, read_behind, leaf_of, group_of, primary_of, negated_of, unary_at, chain_turn, chain_at, choice_of, expr_at, deeper, expression_at}
use Rattle.acc_script.specs.Loops.{type_at, first_at, upper_bound_at, header_at, assign_of, assign_turn, body_at, accepted_loop, loop_at}
use Rattle.acc_token.specs.Tokens.{gap_at, number_len, token_len, token_at, exactly, expect, number_of, name_of}
use Rattle.test_grammar.specs.worked.Loops.{LoopTexts, LoopForms, LoopFaults}

pub loop_texts : LoopTexts
unfolding value_of fresh_name array_of index_at number_at offset_at read_behind leaf_of group_of primary_of negated_of unary_at chain_turn chain_at choice_of expr_at deeper expression_at type_at first_at upper_bound_at header_at assign_of assign_turn body_at accepted_loop loop_at gap_at number_len token_len token_at exactly expect number_of name_of
loop_texts = record {
  by_precedence = refl;
  choices_to_the_right = refl;
  choice_between = refl;
  products_to_the_left = refl;
  differences_to_the_left = refl;
  comparisons_to_the_left = refl;
  equalities_to_the_left = refl;
  parentheses = refl;
  choice_in_parentheses = refl;
  signs = refl;
  cells = refl;
  no_distance = refl;
  greatest = refl;
  sixty_four = refl;
  no_deeper = refl;
}

pub loop_forms : LoopForms
unfolding value_of fresh_name array_of index_at number_at offset_at read_behind leaf_of group_of primary_of negated_of unary_at chain_turn chain_at choice_of expr_at deeper expression_at type_at first_at upper_bound_at header_at assign_of assign_turn body_at accepted_loop loop_at gap_at number_len token_len token_at exactly expect number_of name_of
loop_forms = record {
  int = refl;
  long = refl;
  braces = refl;
  only_one = refl;
  lines = refl;
}

pub loop_faults : LoopFaults
unfolding value_of fresh_name array_of index_at number_at offset_at read_behind leaf_of group_of primary_of negated_of unary_at chain_turn chain_at choice_of expr_at deeper expression_at type_at first_at upper_bound_at header_at assign_of assign_turn body_at accepted_loop loop_at gap_at number_len token_len token_at exactly expect number_of name_of
loop_faults = record {
  cut_off = refl;
  cut_off_later = refl;
  other_word = refl;
  other_type = refl;
  index_is_an_array = refl;
  index_is_reserved = refl;
  index_is_long = refl;
  other_second = refl;
  second_is_an_array = refl;
  second_is_long = refl;
  second_is_a_number = refl;
  other_third = refl;
  other_comparison = refl;
  other_step = refl;
  bound_is_a_name = refl;
  large_first = refl;
  least_first = refl;
  below_least = refl;
  no_assign = refl;
  undeclared = refl;
  index_is_assigned = refl;
  assigned_elsewhere = refl;
  assigned_by_an_array = refl;
  assigned_at_a_distance = refl;
  second_undeclared = refl;
  nothing = refl;
  nothing_behind = refl;
  plus_sign = refl;
  two_plus = refl;
  no_colon = refl;
  colon_alone = refl;
  open_parenthesis = refl;
  closed_too_often = refl;
  assigned_twice = refl;
  reserved = refl;
  long_name = refl;
  unknown = refl;
  unknown_cell = refl;
  bare_array = refl;
  bare_array_behind = refl;
  bare_array_at_the_end = refl;
  bare_array_before_a_flag = refl;
  bare_array_before_a_zero = refl;
  index_with_a_bracket = refl;
  cell_by_a_number = refl;
  cell_by_an_array = refl;
  cell_by_a_product = refl;
  distance_is_a_name = refl;
  second_distance = refl;
  large_distance = refl;
  large_distance_below = refl;
  large_number = refl;
  large_behind_a_sign = refl;
  leading_zero = refl;
  parentheses_too_deep = refl;
  signs_too_deep = refl;
  choices_too_deep = refl;
  together_too_deep = refl;
  second_part_too_deep = refl;
  third_part_too_deep = refl;
  assigned_and_read = refl;
  assigned_later_and_read = refl;
  thirty_three_operands = refl;
  bound_too_far = refl;
  first_too_far = refl;
  distance_too_far = refl;
  seventeen_assigns = refl;
  first_of_two = refl;
}
