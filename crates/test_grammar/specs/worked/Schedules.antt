-- The definition of a schedule's events, computed on small texts.
use Rattle.std.specs.Prelude.{◌≡◌, ℕ, List, [], ◌∷◌, length, Ok, codes}
use Rattle.acc_base.specs.declared.ids.QueueAt.{QueueAt}
use Rattle.acc_host.specs.declared.event.Event.{Event}
use Rattle.acc_host.specs.declared.event.Event.TheVariants.{Host, Take, Perform, Close}
use Rattle.acc_token.specs.declared.read_fault.ReadKind.{ReadKind}
use Rattle.acc_token.specs.declared.read_fault.ReadKind.TheVariants.{Text, Name, Limit, Form}
use Rattle.acc_schedule.specs.declared.schedule.TheConstants.{MAX_EVENTS}
use Rattle.acc_schedule.specs.declared.turn.TheConstants.{MAX_TIMES}
use Rattle.acc_token.specs.Faults.{fails, ◌>>=◌}
use Rattle.acc_schedule.specs.Schedules.{schedule_of}

-- without hosts a turn of the one device has 32 events
abbrev pub TwentyRounds : Type 0
TwentyRounds = (schedule_of 0 1 (codes "round 20") >>= λ events. Ok (length events)) ≡ Ok 640

abbrev queue_on : ℕ → ℕ → QueueAt
queue_on d q = record { device = d; queue = q }

abbrev queue : ℕ → QueueAt
queue q = queue_on 0 q

-- a comment and an empty line are skipped; the host goes on before the queues have their turns
abbrev pub OneRound : Type 0
OneRound =
    schedule_of 1 1 (codes "# a\n\nround 1\n")
    ≡ Ok (Host 0
    ∷ Take (queue 0) ∷ Perform (queue 0) ∷ Take (queue 1) ∷ Perform (queue 1)
    ∷ Take (queue 2) ∷ Perform (queue 2) ∷ Take (queue 3) ∷ Perform (queue 3)
    ∷ Take (queue 4) ∷ Perform (queue 4) ∷ Take (queue 5) ∷ Perform (queue 5)
    ∷ Take (queue 6) ∷ Perform (queue 6) ∷ Take (queue 7) ∷ Perform (queue 7)
    ∷ Take (queue 8) ∷ Perform (queue 8) ∷ Take (queue 9) ∷ Perform (queue 9)
    ∷ Take (queue 10) ∷ Perform (queue 10) ∷ Take (queue 11) ∷ Perform (queue 11)
    ∷ Take (queue 12) ∷ Perform (queue 12) ∷ Take (queue 13) ∷ Perform (queue 13)
    ∷ Take (queue 14) ∷ Perform (queue 14) ∷ Take (queue 15) ∷ Perform (queue 15) ∷ [])

-- hosts and devices in order; blanks may stand before, between and behind words
abbrev pub WiderRound : Type 0
WiderRound =
    (schedule_of 2 0 (codes " \tround  2\t") ≡ Ok (Host 0 ∷ Host 1 ∷ Host 0 ∷ Host 1 ∷ []))
    × ((schedule_of 3 4 (codes "round 1\nround 2") >>= λ events. Ok (length events)) ≡ Ok 393)

-- with two hosts and two devices
abbrev gives : List ℕ → List Event → Type 0
gives text events = schedule_of 2 2 text ≡ Ok events

-- each kind of line, with N and without
pub record EachLine : Type 0 where
  pub nothing : gives (codes "") []
  pub host : gives (codes "host 1") (Host 1 ∷ [])
  pub host_thrice : gives (codes "host 0 3") (Host 0 ∷ Host 0 ∷ Host 0 ∷ [])
  pub take : gives (codes "take 1 sync") (Take (queue_on 1 0) ∷ [])
  pub take_twice : gives (codes "take 0 noval 2") (Take (queue_on 0 1) ∷ Take (queue_on 0 1) ∷ [])
  pub perform : gives (codes "do 1 0") (Perform (queue_on 1 2) ∷ [])
  pub perform_twice : gives (codes "do 0 13 2") (Perform (queue_on 0 15) ∷ Perform (queue_on 0 15) ∷ [])
  pub close : gives (codes "close") (Close ∷ [])
  pub blanks : gives (codes "\thost\t1\t \t2 \n close\t") (Host 1 ∷ Host 1 ∷ Close ∷ [])
  pub in_order : gives (codes "take 0 1\nhost 0\n# do 9\n\ndo 0 1\nclose\n") (Take (queue_on 0 3) ∷ Host 0 ∷ Perform (queue_on 0 3) ∷ Close ∷ [])

-- each word of a queue
abbrev pub EachQueue : Type 0
EachQueue =
    gives (codes "take 1 sync\ntake 1 noval\ntake 1 0\ntake 1 1\ntake 1 2\ntake 1 3\ntake 1 4\ntake 1 5\ntake 1 6\ntake 1 7\ntake 1 8\ntake 1 9\ntake 1 10\ntake 1 11\ntake 1 12\ntake 1 13")
    (Take (queue_on 1 0) ∷ Take (queue_on 1 1) ∷ Take (queue_on 1 2) ∷ Take (queue_on 1 3)
    ∷ Take (queue_on 1 4) ∷ Take (queue_on 1 5) ∷ Take (queue_on 1 6) ∷ Take (queue_on 1 7)
    ∷ Take (queue_on 1 8) ∷ Take (queue_on 1 9) ∷ Take (queue_on 1 10) ∷ Take (queue_on 1 11)
    ∷ Take (queue_on 1 12) ∷ Take (queue_on 1 13) ∷ Take (queue_on 1 14) ∷ Take (queue_on 1 15) ∷ [])

abbrev refused : List ℕ → ℕ → ReadKind → Type 0
refused text line kind = schedule_of 1 1 text ≡ fails line kind

pub record FaultyLines : Type 0 where
  pub no_time : refused (codes "round 0") 1 Limit
  pub too_often : refused (codes "round 10001") 1 Limit
  pub far_too_often : refused (codes "round 36893488147419103233") 1 Limit
  pub leading_zero : refused (codes "round 01") 1 Form
  pub minus : refused (codes "round -1") 1 Form
  pub letter : refused (codes "round x") 1 Form
  pub word_missing : refused (codes "round") 1 Form
  pub word_too_many : refused (codes "round 1 2") 1 Form
  pub other_word : refused (codes "perform 0 0") 1 Form
  pub longer_word : refused (codes "rounds 1") 1 Form
  pub shorter_word : refused (codes "d 0 0") 1 Form
  pub blank : refused (codes " ") 1 Form
  pub comment_behind_blank : refused (codes " # a") 1 Form
  pub carriage_return : refused (codes "round 1\r") 1 Text
  pub text_before_form : refused (codes "take\r") 1 Text
  pub text_before_name : refused (codes "host 5\r") 1 Text
  pub text_before_limit : refused (codes "round 0\r") 1 Text
  pub third_line : refused (codes "round 1\n# a\r\nround 0\nround x") 3 Limit
  pub fourth_line : refused (codes "\n\n# a\ntake 0\nround 0\n") 4 Form

pub record FaultyHosts : Type 0 where
  pub missing : refused (codes "host") 1 Form
  pub too_many : refused (codes "host 0 1 1") 1 Form
  pub leading_zero : refused (codes "host 01") 1 Form
  pub times_leading_zero : refused (codes "host 0 01") 1 Form
  pub not_a_number : refused (codes "host x") 1 Form
  pub absent : refused (codes "host 1") 1 Name
  pub far_absent : refused (codes "host 99999999999999999999999") 1 Name
  pub form_before_name : refused (codes "host 5 x") 1 Form
  pub count_before_name : refused (codes "host 5 1 1") 1 Form
  pub name_before_limit : refused (codes "host 5 0") 1 Name
  pub no_time : refused (codes "host 0 0") 1 Limit
  pub too_often : refused (codes "host 0 10001") 1 Limit
  pub far_too_often : refused (codes "host 0 99999999999999999999999") 1 Limit
  pub second_line : refused (codes "host 0 10000\nhost 1\nhost x") 2 Name

pub record FaultyQueues : Type 0 where
  pub missing : refused (codes "do 0") 1 Form
  pub both_missing : refused (codes "take") 1 Form
  pub too_many : refused (codes "take 0 1 1 1") 1 Form
  pub leading_zero : refused (codes "do 00 1") 1 Form
  pub times_not_a_number : refused (codes "take 0 1 -1") 1 Form
  pub absent_device : refused (codes "take 1 0") 1 Name
  pub absent_queue : refused (codes "take 0 20") 1 Name
  pub first_absent_queue : refused (codes "do 0 14") 1 Name
  pub longer_queue : refused (codes "do 0 synch") 1 Name
  pub queue_with_leading_zero : refused (codes "do 0 01") 1 Name
  pub queue_below_zero : refused (codes "take 0 -1") 1 Name
  pub form_before_name : refused (codes "take 0 x 01") 1 Form
  pub device_form_before_name : refused (codes "do x x") 1 Form
  pub name_before_limit : refused (codes "take 0 x 0") 1 Name
  pub no_time : refused (codes "do 0 sync 0") 1 Limit
  pub too_often : refused (codes "take 0 noval 10001") 1 Limit

pub record FaultyCloses : Type 0 where
  pub times : refused (codes "close 1") 1 Form
  pub text_before_form : refused (codes "close 1\r") 1 Text
  pub longer_word : refused (codes "closed") 1 Form

-- With a hundred hosts and no device 10,000 rounds have 1,000,000 events, and none may follow.
pub record FullSchedule : Type 0 where
  pub full : (schedule_of 100 0 (codes "round 10000") >>= λ events. Ok (length events)) ≡ Ok 1000000
  pub one_more : schedule_of 100 0 (codes "round 10000\n\nclose\nround x") ≡ fails 3 Limit
  pub name_before_limit : schedule_of 100 0 (codes "round 10000\nhost 100") ≡ fails 2 Name

-- the limits, as numbers
pub record ScheduleLimits : Type 0 where
  pub times : MAX_TIMES ≡ 10000
  pub events : MAX_EVENTS ≡ 1000000
