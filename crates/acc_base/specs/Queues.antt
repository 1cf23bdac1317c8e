-- The activity queues of the devices, and their order (OpenACC API 3.0, 2.16, Asynchronous Behavior).
use Rattle.std.specs.Prelude.{ℕ, zero, suc, ◌+◌, ◌*◌, ◌/◌, ◌%◌, Bool, ◌&&◌, ◌==◌, List, [], ◌∷◌}
use Rattle.std.specs.List.{list_all}
use Rattle.acc_base.specs.declared.ids.QueueAt.{QueueAt}
use Rattle.acc_base.specs.declared.ids.TheConstants.{FIRST_VALUE, QUEUES, VALUES}
use Rattle.acc_base.specs.Configurations.{Configuration}

-- so many numbers, one after another, from this one on
abbrev pub numbers_from : ℕ → ℕ → List ℕ
numbers_from first zero = []
numbers_from first (suc count) = first ∷ numbers_from (first + 1) count

-- the queues of a device, in their order
abbrev pub every_queue : List ℕ
every_queue = numbers_from 0 QUEUES

-- the first two of them
abbrev pub sync : ℕ
sync = 0

abbrev pub noval : ℕ
noval = 1

-- the queue of an async value of zero or more: the values share the others
abbrev pub queue_of_value : ℕ → ℕ
queue_of_value value = value % VALUES + FIRST_VALUE

-- numbers by queue, of which each is 0
abbrev pub is_nothing : List ℕ → Bool
is_nothing counts = list_all (λ n. n == 0) counts

abbrev pub same_queue : QueueAt → QueueAt → Bool
same_queue a b = (a.device == b.device) && (a.queue == b.queue)

-- the index of a queue among those of all devices, by device, then in queue order
abbrev pub seat : QueueAt → ℕ
seat at = at.device * QUEUES + at.queue

-- the queue with this index among them
abbrev pub at_seat : ℕ → QueueAt
at_seat index = record { device = index / QUEUES; queue = index % QUEUES }

-- how many queues all devices of a configuration have
abbrev pub queue_count : Configuration → ℕ
queue_count config = config.devices * QUEUES
