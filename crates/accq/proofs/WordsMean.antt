-- The worked words, computed.
use Rattle.std.proofs.Common.{refl}
use Rattle.clap.proofs.OnLiterals.{clap_on_literals}
use Rattle.accq.specs.worked.Words.{AreAsked, AreRefused}

pub are_asked : AreAsked
unfolding clap_on_literals
are_asked = record { names = refl; before = refl; between = refl; behind = refl; all = refl; one_name = refl; around = refl; told = refl; behind_dashes = refl; one_file = refl; two_files = refl; word = refl; lines = refl; all_lines = refl; picture = refl; all_reports = refl; reports_behind = refl; prefixes = refl; prefixes_behind = refl; one_folder = refl; anew = refl; for_devices = refl }

pub are_refused : AreRefused
unfolding clap_on_literals
are_refused = record {
  no_device = refl;
  fifth_device = refl;
  many_cells = refl;
  wide_room = refl;
  plus = refl;
  twice = refl;
  without_a_number = refl;
  one_name = refl;
  no_name = refl;
  a_schedule = refl;
  no_room = refl;
  three_names = refl;
  unknown = refl;
  no_subcommand = refl;
  help = refl;
  help_behind = refl;
  progress_of_a_replay = refl;
  a_flag_with_a_value = refl;
  version = refl;
  no_file = refl;
  three_files = refl;
  room_of_a_check = refl;
  no_word = refl;
  two_words = refl;
  steps_of_no_file = refl;
  picture_of_a_replay = refl;
  no_script = refl;
  no_states = refl;
  many_states = refl;
  no_depth = refl;
  great_depth = refl;
  plus_depth = refl;
  short_prefixes = refl;
  close_of_a_run = refl;
  no_folder = refl;
  two_folders = refl;
  no_cells = refl;
  many_devices = refl;
}
