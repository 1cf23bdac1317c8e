-- A directive may go first where no other host has one left to place, and no queue can be full: whether it is refused, its batch and
-- its answer depend on the directives before it alone, and its batch stands behind all others of its queue.
use Rattle.std.specs.Prelude.{ℕ, Bool, true, false, ◌&&◌, ◌==◌, slice_get, Option, Some, None}
use Rattle.std.specs.List.{list_all}
use Rattle.acc_base.specs.Queues.{at_seat, numbers_from, queue_count}
use Rattle.acc_core.specs.Machine.{State}
use Rattle.acc_explore.specs.Reductions.{Commutes}
use Rattle.acc_explore.specs.Takes.{never_fills, unplaced, unplaced_by}
use Rattle.acc_host.specs.declared.event.Event.TheVariants as event
use Rattle.acc_host.specs.Hosts.{HostView, wants}
use Rattle.acc_host.specs.Steps.{Want, stays, sets, refuses, places, awaits, records}

abbrev pub is_placement : Want → Bool
is_placement (places d) = true
is_placement stays = false
is_placement (sets ids) = false
is_placement (refuses fault) = false
is_placement (awaits device counts) = false
is_placement (records item) = false

-- A host is ready to place a directive, and all directives that are still to be placed are its own.
abbrev pub places_alone : State → Option HostView → Bool
places_alone w None = false
places_alone w (Some host) = is_placement (wants w.config.devices host) && (unplaced w.hosts == unplaced_by host)

-- each queue that is there has room for all of them
abbrev pub all_have_room : State → Bool
all_have_room w = list_all (λ n. never_fills w (at_seat n)) (numbers_from 0 (queue_count w.config))

-- a host may place the directive that it stands at before anybody else goes on
abbrev pub may_place : ℕ → State → Bool
may_place h w = places_alone w (slice_get w.hosts h) && all_have_room w

-- Where the owner may not close, its step commutes with every other event.
abbrev pub PlacementsCommute : Type 0
PlacementsCommute = (h : ℕ) → Commutes false (may_place h) (event.Host h)
