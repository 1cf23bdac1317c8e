-- The examples, computed.
use Rattle.std.proofs.Common.{refl}
use Rattle.acc_schedule.specs.Schedules.{times_of, host_events, queue_events, close_events, round_events, events_of, line_events, events_behind, schedule_of}
use Rattle.test_grammar.specs.worked.Schedules.{TwentyRounds, OneRound, WiderRound, EachLine, EachQueue, FaultyLines, FaultyHosts, FaultyQueues, FaultyCloses}

pub twenty_rounds : TwentyRounds
unfolding times_of host_events queue_events close_events round_events events_of line_events events_behind schedule_of
twenty_rounds = refl

pub one_round : OneRound
unfolding times_of host_events queue_events close_events round_events events_of line_events events_behind schedule_of
one_round = refl

pub wider_round : WiderRound
unfolding times_of host_events queue_events close_events round_events events_of line_events events_behind schedule_of
wider_round = (refl, refl)

pub each_line : EachLine
unfolding times_of host_events queue_events close_events round_events events_of line_events events_behind schedule_of
each_line = record {
  nothing = refl;
  host = refl;
  host_thrice = refl;
  take = refl;
  take_twice = refl;
  perform = refl;
  perform_twice = refl;
  close = refl;
  blanks = refl;
  in_order = refl;
}

pub each_queue : EachQueue
unfolding times_of host_events queue_events close_events round_events events_of line_events events_behind schedule_of
each_queue = refl

pub faulty_lines : FaultyLines
unfolding times_of host_events queue_events close_events round_events events_of line_events events_behind schedule_of
faulty_lines = record {
  no_time = refl;
  too_often = refl;
  far_too_often = refl;
  leading_zero = refl;
  minus = refl;
  letter = refl;
  word_missing = refl;
  word_too_many = refl;
  other_word = refl;
  longer_word = refl;
  shorter_word = refl;
  blank = refl;
  comment_behind_blank = refl;
  carriage_return = refl;
  text_before_form = refl;
  text_before_name = refl;
  text_before_limit = refl;
  third_line = refl;
  fourth_line = refl;
}

pub faulty_hosts : FaultyHosts
unfolding times_of host_events queue_events close_events round_events events_of line_events events_behind schedule_of
faulty_hosts = record {
  missing = refl;
  too_many = refl;
  leading_zero = refl;
  times_leading_zero = refl;
  not_a_number = refl;
  absent = refl;
  far_absent = refl;
  form_before_name = refl;
  count_before_name = refl;
  name_before_limit = refl;
  no_time = refl;
  too_often = refl;
  far_too_often = refl;
  second_line = refl;
}

pub faulty_queues : FaultyQueues
unfolding times_of host_events queue_events close_events round_events events_of line_events events_behind schedule_of
faulty_queues = record {
  missing = refl;
  both_missing = refl;
  too_many = refl;
  leading_zero = refl;
  times_not_a_number = refl;
  absent_device = refl;
  absent_queue = refl;
  first_absent_queue = refl;
  longer_queue = refl;
  queue_with_leading_zero = refl;
  queue_below_zero = refl;
  form_before_name = refl;
  device_form_before_name = refl;
  name_before_limit = refl;
  no_time = refl;
  too_often = refl;
}

pub faulty_closes : FaultyCloses
unfolding times_of host_events queue_events close_events round_events events_of line_events events_behind schedule_of
faulty_closes = record {
  times = refl;
  text_before_form = refl;
  longer_word = refl;
}
