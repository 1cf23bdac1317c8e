-- What closing leaves, computed on short histories.
use Rattle.std.specs.Prelude.{◌≡◌, ℕ, negsuc, List, [], ◌∷◌, map, Option, Some, None}
use Rattle.acc_base.specs.declared.fault.Fault.{Fault}
use Rattle.acc_base.specs.declared.fault.Fault.TheVariants as fault
use Rattle.acc_base.specs.declared.ids.QueueAt.{QueueAt}
use Rattle.acc_base.specs.declared.ids.TheConstants.{QUEUES}
use Rattle.acc_batch.specs.declared.label.Label.{Label}
use Rattle.acc_batch.specs.declared.label.OpLabel.{OpLabel}
use Rattle.acc_batch.specs.declared.label.OpLabel.TheVariants.{Make, Close}
use Rattle.acc_present.specs.Presences.{presences}
use Rattle.acc_place.specs.declared.directive.Clause.TheVariants as clause
use Rattle.acc_place.specs.declared.directive.Kind.TheVariants as kind
use Rattle.acc_place.specs.declared.directive.PlaceEntry.{PlaceEntry}
use Rattle.acc_place.specs.declared.directive.PlaceEntry.TheVariants.{Accepted, Closing, Closed}
use Rattle.acc_place.specs.declared.directive.Target.TheVariants.{Value}
use Rattle.acc_place.specs.declared.directive.Waits.TheVariants as waits
use Rattle.acc_place.specs.Accepting.{refusal}
use Rattle.acc_place.specs.worked.Awaits.{a, async, enters, few_cells, queue}
use Rattle.acc_place.specs.Directives.{Directive}
use Rattle.acc_place.specs.worked.Directives.{directive, presence, question, region, region_end, update}
use Rattle.acc_place.specs.Histories.{standing, AllAccepted}
use Rattle.acc_place.specs.Standings.{Standing}

abbrev pub sync : QueueAt
sync = record { device = 0; queue = 0 }

abbrev pub sync_beside : QueueAt
sync_beside = record { device = 1; queue = 0 }

-- a directive behind three items of its host, then closing, then the closes of two queues; the latest first
abbrev pub entered : List PlaceEntry
entered = Accepted 0 (async 1 (enters a)) ∷ []

abbrev pub closing : List PlaceEntry
closing = Closing ∷ entered

abbrev pub two_closed : List PlaceEntry
two_closed = Closed (queue 1) ∷ Closed sync_beside ∷ closing

abbrev pub left_by : List PlaceEntry → Standing
left_by history = standing few_cells history (3 ∷ [])

abbrev pub placed_by : List PlaceEntry → List (QueueAt × (ℕ × (ℕ × (ℕ × List OpLabel))))
placed_by history = map (λ (l : Label). (l.at, (l.number, (l.host, (l.items_done, l.ops))))) (left_by history).labels

abbrev pub fault_after : List PlaceEntry → Directive → Option Fault
fault_after history d = refusal few_cells (left_by history) 0 d

-- The close of a queue is its last batch, numbered behind those that were placed there, of no host's directive.
abbrev pub LastBatches : Type 0
LastBatches =
    (placed_by closing ≡ (queue 1, (1, (0, (3, Make a 1 ∷ [])))) ∷ [])
    × (placed_by two_closed
    ≡ (queue 1, (1, (0, (3, Make a 1 ∷ []))))
    ∷ (sync_beside, (1, (0, (0, Close ∷ []))))
    ∷ (queue 1, (2, (0, (0, Close ∷ []))))
    ∷ [])

abbrev pub nowhere : Directive → Directive
nowhere d = record d { device = 2 }

abbrev pub badly : Directive → Directive
badly d = record d { target = Value (negsuc 5) }

abbrev pub test_all : Directive
test_all = record (directive kind.AsyncTest []) { waits = waits.All }

-- Once closing has begun each directive is refused for it, whatever else is wrong with it.
abbrev pub RefusedForClosing : Type 0
RefusedForClosing =
    (fault_after entered (update clause.UpdateSelf a) ≡ None)
    × (fault_after closing (update clause.UpdateSelf a) ≡ Some fault.Closed)
    × (fault_after two_closed (update clause.UpdateSelf a) ≡ Some fault.Closed)
    × (fault_after entered (nowhere (enters a)) ≡ Some fault.BadDevice)
    × (fault_after closing (nowhere (enters a)) ≡ Some fault.Closed)
    × (fault_after closing (badly (enters a)) ≡ Some fault.Closed)
    × (fault_after closing (question a) ≡ Some fault.Closed)
    × (fault_after closing test_all ≡ Some fault.Closed)
    × (fault_after closing region_end ≡ Some fault.Closed)

-- A data construct that a host is inside then can't be left, and stays counted.
abbrev pub inside : List PlaceEntry
inside = Accepted 0 (region clause.Create a) ∷ []

abbrev pub RegionsStay : Type 0
RegionsStay =
    (fault_after inside region_end ≡ None)
    × (fault_after (Closing ∷ inside) region_end ≡ Some fault.Closed)
    × (presences ((left_by (Closed sync ∷ Closing ∷ inside)).marks 0) ≡ presence a 1 1 0 ∷ [])

abbrev pub IsLawful : List PlaceEntry → Type 0
IsLawful history = AllAccepted few_cells history (3 ∷ [])

-- Closing begins once, no directive is accepted behind it, and each queue that is there is closed once, behind it.
abbrev pub ClosedOnce : Type 0
ClosedOnce =
    IsLawful two_closed
    × (¬ IsLawful (Closing ∷ two_closed))
    × (¬ IsLawful (Accepted 0 (question a) ∷ closing))
    × (¬ IsLawful (Closed sync ∷ entered))
    × (¬ IsLawful (Closed (queue 1) ∷ two_closed))
    × (¬ IsLawful (Closed (record { device = 2; queue = 0 }) ∷ closing))
    × (¬ IsLawful (Closed (record { device = 0; queue = QUEUES }) ∷ closing))
