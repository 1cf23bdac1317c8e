-- The events that can do something name hosts and queues that are there.
use Rattle.std.proofs.Common.{ℕ, zero, suc, ◌*◌, ◌/◌, ◌%◌, ◌<◌, ◌≤◌, Bool, true, false, [], ◌∷◌, ◌++◌, length, arith}
use Rattle.std.specs.Prelude.{All}
use Rattle.std.proofs.lemmas.List.Elements.{All-append, All-cons, All-nil}
use Rattle.acc_base.specs.declared.ids.TheConstants.{QUEUES}
use Rattle.acc_base.specs.Queues.{at_seat, queue_count}
use Rattle.acc_host.specs.declared.event.Event.TheVariants.{Host, Take, Perform, Close}
use Rattle.acc_explore.specs.Runs.{closing_events, events_of_hosts, events_of_queues}
use Rattle.acc_explore.specs.Spellings.{EventsAreNamed, IsNamed}

module _ (hosts devices : ℕ) where
  hosts_named : (n : ℕ) → n ≤ hosts → All (IsNamed hosts devices) (events_of_hosts n)
  hosts_named zero few = All-nil (IsNamed hosts devices)
  hosts_named (suc n) few = All-cons (IsNamed hosts devices) (Host n) (events_of_hosts n) (omega (arith, few)) (hosts_named n (omega (arith, few)))

  queues_named : (n : ℕ) → n ≤ devices * QUEUES → All (IsNamed hosts devices) (events_of_queues n)
  queues_named zero few = All-nil (IsNamed hosts devices)
  queues_named (suc n) few =
      let device : n / QUEUES < devices = omega (arith, few) in
      let queue : n % QUEUES < QUEUES = omega arith in
      All-cons (IsNamed hosts devices) (Take (at_seat n)) (Perform (at_seat n) ∷ events_of_queues n) (device, queue)
      (All-cons (IsNamed hosts devices) (Perform (at_seat n)) (events_of_queues n) (device, queue) (queues_named n (omega (arith, few))))

  close_named : (closing : Bool) → All (IsNamed hosts devices) (closing_events closing)
  close_named true = All-cons (IsNamed hosts devices) Close [] tt (All-nil (IsNamed hosts devices))
  close_named false = All-nil (IsNamed hosts devices)

pub events_named : EventsAreNamed
events_named closing w =
    let named = IsNamed (length w.hosts) w.config.devices in
    All-append named (events_of_hosts (length w.hosts)) (events_of_queues (queue_count w.config) ++ closing_events closing)
    (hosts_named (length w.hosts) w.config.devices (length w.hosts) (omega arith))
    (All-append named (events_of_queues (queue_count w.config)) (closing_events closing)
    (queues_named (length w.hosts) w.config.devices (queue_count w.config) (omega arith)) (close_named (length w.hosts) w.config.devices closing))
