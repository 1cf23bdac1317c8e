-- The definitions computed from an input to its report, where memory is never refused.
use Rattle.std.specs.Prelude.{◌≡◌, ℕ, List, [], Result, Ok, codes}
use Rattle.acc_host.specs.declared.event.Event.{Event}
use Rattle.acc_core.specs.worked.Programs.{all_from}
use Rattle.acc_core.specs.Machine.{State}
use Rattle.acc_core.specs.Worlds.{first_state}
use Rattle.acc_token.specs.declared.read_fault.ReadFault.{ReadFault}
use Rattle.acc_token.specs.Faults.{◌>>=◌}
use Rattle.acc_explore.specs.Runs.{left_to_tell}
use Rattle.acc_driver.specs.Inputs.{parts}
use Rattle.acc_driver.specs.Replays.{configured, defaults, events_in}
use Rattle.acc_report.specs.Reports.{report}
use Rattle.acc_script.specs.Scripts.{ScriptView, script_of}

-- the state behind the events
abbrev pub left_by : ScriptView → List Event → State
left_by program events =
    (all_from events (record { replies = []; state = first_state (configured defaults program) program.programs })).state

abbrev pub replayed : List ℕ → Result (List ℕ) ReadFault
replayed text =
    script_of (parts text).script >>= λ program.
    events_in defaults program (parts text).schedule >>= λ events.
    Ok (report program.names program.programs (left_to_tell (left_by program events)))

abbrev pub reports : List ℕ → List ℕ → Type 0
reports text lines = replayed text ≡ Ok lines

-- nothing in, the least report out
abbrev pub NothingIsReplayed : Type 0
NothingIsReplayed = reports [] (codes "end\n")

-- the host's write under a present range is lost to the copy out
abbrev pub StaleCopyReport : Type 0
StaleCopyReport =
    reports
    (codes "long a[4] = {1,2,3,4};\nhost {\n#pragma acc enter data copyin(a)\na[0] = 9;\n#pragma acc exit data copyout(a)\nprint(a);\n}\n%%\nround 8\n")
    (codes "host 0\n1 2 3 4\ndone\nqueue 0 sync batches 2 operations 4 of 4\nend\n")

-- two enters and one exit leave one count
abbrev pub CountedTwiceReport : Type 0
CountedTwiceReport =
    reports
    (codes "long a[4];\nhost {\n#pragma acc enter data copyin(a)\n#pragma acc enter data copyin(a)\n#pragma acc exit data delete(a)\n}\n%%\nround 5\n")
    (codes "host 0\ndone\npresent 0 a[0:4] s 0 d 1\nqueue 0 sync batches 1 operations 2 of 2\nend\n")

-- a range that overlaps a present one is refused, in its line
abbrev pub OverlapReport : Type 0
OverlapReport =
    reports
    (codes "long a[8];\nhost {\n#pragma acc enter data copyin(a[0:4])\n#pragma acc enter data copyin(a[2:4])\n}\n%%\nround 4\n")
    (codes "host 0\nrefused 4 F6 PartlyPresent\npresent 0 a[0:4] s 0 d 1\nqueue 0 sync batches 1 operations 2 of 2\nend\n")

-- one round makes the block, and the copy into it is still to come
abbrev pub UnfinishedReport : Type 0
UnfinishedReport =
    reports
    (codes "long a[4];\nhost {\n#pragma acc enter data copyin(a)\n}\n%%\nround 1\n")
    (codes "host 0\nunfinished\npresent 0 a[0:4] s 0 d 1\nqueue 0 sync batches 1 operations 1 of 2\nend\n")
