-- A host that waits, or asks, for what is performed may go first: nothing undoes that, and nobody else sees that it goes on
-- (OpenACC API 3.0, 2.16.3, Wait Directive, and 3.2, Runtime Library Routines).
use Rattle.std.specs.Prelude.{ℕ, ◌+◌, ◌-◌, Bool, false, ◌&&◌, nat_le, List, [], ◌∷◌, length, slice_get, Option, Some, None}
use Rattle.acc_core.specs.Machine.{State, labels_of}
use Rattle.acc_explore.specs.Reductions.{Commutes}
use Rattle.acc_host.specs.declared.event.Event.TheVariants as event
use Rattle.acc_host.specs.Hosts.{HostView, wants}
use Rattle.acc_host.specs.Steps.{Want, stays, sets, refuses, places, awaits, records}
use Rattle.acc_work.specs.declared.item.ItemLabel.{ItemLabel}
use Rattle.acc_work.specs.declared.item.ItemLabel.TheVariants as to_record
use Rattle.acc_work.specs.declared.log.TheConstants.{MAX_HOST_ITEMS}
use Rattle.acc_work.specs.Logs.{all_done, all_items}

-- a question is answered yes
abbrev pub is_reached_item : State → ItemLabel → Bool
is_reached_item w (to_record.Write array cell value) = false
is_reached_item w (to_record.Print range) = false
is_reached_item w (to_record.Seen device counts) = false
is_reached_item w (to_record.Test device counts) = all_done (labels_of w) w.work device 0 counts

-- what a host waits or asks for is performed
abbrev pub is_reached : State → Want → Bool
is_reached w stays = false
is_reached w (sets ids) = false
is_reached w (refuses fault) = false
is_reached w (places d) = false
is_reached w (awaits device counts) = all_done (labels_of w) w.work device 0 counts
is_reached w (records item) = is_reached_item w item

abbrev pub stands_at_reached : State → Option HostView → Bool
stands_at_reached w None = false
stands_at_reached w (Some host) = is_reached w (wants w.config.devices host)

-- the statements that hosts have still to end
abbrev pub statements_left : List HostView → ℕ
statements_left [] = 0
statements_left (host ∷ hosts) = (length host.statements - host.ended) + statements_left hosts

-- Each of them leaves one item more at most, so that no order of them meets the limit.
abbrev pub items_fit : State → Bool
items_fit w = nat_le (all_items w.work + statements_left w.hosts) MAX_HOST_ITEMS

-- a host stands at such a wait or question
abbrev pub is_at_reached : ℕ → State → Bool
is_at_reached h w = stands_at_reached w (slice_get w.hosts h) && items_fit w

-- Its step commutes with every other event.
abbrev pub ReachedWaitsCommute : Type 0
ReachedWaitsCommute = (closing : Bool) (h : ℕ) → Commutes closing (is_at_reached h) (event.Host h)
