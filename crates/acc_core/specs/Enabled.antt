-- When a queue of a world can go on, and whether an operation is left.
use Rattle.std.specs.Prelude.{◌≡◌, Bool, true, false, ◌||◌}
use Rattle.acc_base.specs.declared.ids.QueueAt.{QueueAt}
use Rattle.acc_host.specs.declared.event.Event.TheVariants as event
use Rattle.acc_core.specs.Machine.{State, labels_of, step}
use Rattle.acc_host.specs.declared.state.Reply.{Reply}
use Rattle.acc_host.specs.declared.state.Reply.TheVariants as reply
use Rattle.acc_work.specs.Enabled.{any_left}

abbrev pub is_did : Reply → Bool
is_did reply.Did = true
is_did reply.Idle = false
is_did (reply.Refused fault) = false
is_did (reply.Remaining count) = false

-- A queue is enabled where it can take a batch, or perform an operation.
abbrev pub is_enabled : State → QueueAt → Bool
is_enabled w at = is_did (step false w (event.Take at)).reply || is_did (step false w (event.Perform at)).reply

-- An operation was placed and isn't performed.
abbrev pub is_left : State → Bool
is_left w = any_left (labels_of w) w.work

abbrev pub SomeEnabled : State → Type 0
SomeEnabled w = (at : QueueAt) × (is_enabled w at ≡ true)
