-- What batches of several queues await, computed on short histories.
use Rattle.std.specs.Prelude.{◌≡◌, ◌+◌, false, ℕ, ℤ, pos, negsuc, List, [], ◌∷◌, map, replicate, slice_set, Some, None}
use Rattle.acc_base.specs.declared.fault.Fault.TheVariants.{BadAsync, DeviceFull}
use Rattle.acc_base.specs.declared.ids.QueueAt.{QueueAt}
use Rattle.acc_base.specs.declared.ids.TheConstants.{QUEUES, VALUES}
use Rattle.acc_base.specs.declared.range.Range.{Range}
use Rattle.acc_base.specs.Configurations.{Configuration, configuration}
use Rattle.acc_batch.specs.declared.label.Label.{Label}
use Rattle.acc_batch.specs.declared.label.OpLabel.{OpLabel}
use Rattle.acc_batch.specs.declared.label.OpLabel.TheVariants.{Make, CopyIn, CopyOut, Release, Run, Await}
use Rattle.acc_kernel.specs.declared.operator.Operator.TheVariants.{Plus}
use Rattle.acc_kernel.specs.Kernels.{Loop, loop}
use Rattle.acc_kernel.specs.Trees.{Number, Read, Binary}
use Rattle.acc_place.specs.declared.directive.Clause.TheVariants as clause
use Rattle.acc_place.specs.Directives.{Directive}
use Rattle.acc_place.specs.declared.directive.Kind.TheVariants as kind
use Rattle.acc_place.specs.declared.directive.PlaceEntry.{PlaceEntry}
use Rattle.acc_place.specs.declared.directive.PlaceEntry.TheVariants.{Accepted}
use Rattle.acc_place.specs.declared.directive.Target.TheVariants.{Unvalued, Value}
use Rattle.acc_place.specs.declared.directive.Waits.TheVariants as waits
use Rattle.acc_place.specs.Accepting.{refusal}
use Rattle.acc_place.specs.Batches.{answer_of}
use Rattle.acc_place.specs.worked.Directives.{directive, item}
use Rattle.acc_place.specs.Histories.{standing}
use Rattle.acc_place.specs.Standings.{Standing, walk_of}
use Rattle.acc_place.specs.Targets.{queue_meant, target_queue}

-- two devices of eight cells, one host, an array of eight cells, and one of one
abbrev pub few_cells : Configuration
few_cells = configuration 2 1 (replicate 8 (pos 0) ∷ (pos 0 ∷ []) ∷ []) 8 64

abbrev pub a : Range
a = record { array = 0; lo = 0; len = 8 }

abbrev pub b : Range
b = record { array = 1; lo = 0; len = 1 }

abbrev pub async : ℕ → Directive → Directive
async v d = record d { target = Value (pos v) }

abbrev pub waiting : List ℤ → Directive → Directive
waiting vs d = record d { waits = waits.Listed vs }

abbrev pub history_of : List Directive → List PlaceEntry
history_of ds = map (λ d. Accepted 0 d) ds

abbrev pub left_by : List Directive → Standing
left_by ds = standing few_cells (history_of ds) (map (λ d. 0) ds)

abbrev pub placed_by : List Directive → List (QueueAt × (ℕ × List OpLabel))
placed_by ds = map (λ (l : Label). (l.at, (l.number, l.ops))) (left_by ds).labels

abbrev pub queue : ℕ → QueueAt
queue v = record { device = 0; queue = v + 2 }

abbrev pub counts_up : Loop
counts_up = loop (pos 0) (pos 2) (record { array = 0; value = Binary Plus (Read 0 (pos 0)) (Number (pos 1)) } ∷ [])

abbrev pub enters : Range → Directive
enters r = directive kind.EnterData (item clause.Create r ∷ [])

abbrev pub runs : Directive
runs = directive (kind.Loop counts_up) (item clause.Present a ∷ [])

-- a loop on another queue awaits the maker of its block, and what releases the block awaits the loop
abbrev pub ReleaseAwaitsTheLoop : Type 0
ReleaseAwaitsTheLoop =
    placed_by (async 1 (directive (kind.ExitData false) (item clause.Copyout a ∷ [])) ∷ async 2 runs ∷ async 1 (enters a) ∷ [])
    ≡ (queue 1, (1, Make a 1 ∷ []))
    ∷ (queue 2, (1, Await 3 1 ∷ Run counts_up ((1, a) ∷ []) ∷ []))
    ∷ (queue 1, (2, Await 4 1 ∷ CopyOut a 1 ∷ Release 1 ∷ []))
    ∷ []

-- each use on another queue awaits the maker anew, and not the uses
abbrev pub UsesAwaitTheMaker : Type 0
UsesAwaitTheMaker =
    placed_by (async 2 (directive (kind.Update false) (item clause.UpdateSelf a ∷ [])) ∷ async 2 runs ∷ async 1 (directive kind.EnterData (item clause.Copyin a ∷ [])) ∷ [])
    ≡ (queue 1, (1, Make a 1 ∷ CopyIn a 1 ∷ []))
    ∷ (queue 2, (1, Await 3 1 ∷ Run counts_up ((1, a) ∷ []) ∷ []))
    ∷ (queue 2, (2, Await 3 1 ∷ CopyOut a 1 ∷ []))
    ∷ []

-- a range that has left isn't counted, though its release is queued
abbrev pub FullWhereItIsPresent : Type 0
FullWhereItIsPresent =
    refusal few_cells (left_by (async 2 (enters b) ∷ async 1 (directive (kind.ExitData false) (item clause.Delete a ∷ [])) ∷ enters a ∷ [])) 0 (async 2 (enters a)) ≡ Some DeviceFull

-- a wait that goes to a queue places its awaits alone, none of its own queue, and none where there is nothing to await
abbrev pub WaitsAlone : Type 0
WaitsAlone =
    placed_by (
    async 2 (record (directive kind.Wait []) { waits = waits.All })
    ∷ async 2 (waiting (pos 1 ∷ []) (directive kind.Wait []))
    ∷ async 1 (waiting (pos 1 ∷ []) (directive kind.Wait []))
    ∷ async 1 (enters b)
    ∷ waiting (pos 3 ∷ []) (directive kind.Wait [])
    ∷ []
    )
    ≡ (queue 1, (1, Make b 1 ∷ [])) ∷ (queue 2, (1, Await 3 1 ∷ [])) ∷ (queue 2, (2, Await 3 1 ∷ [])) ∷ []

-- a value below -2 is none, in a target or in a wait
abbrev pub NoSuchQueue : Type 0
NoSuchQueue =
    (refusal few_cells (left_by []) 0 (record (enters a) { target = Value (negsuc 4) }) ≡ Some BadAsync)
    × (refusal few_cells (left_by []) 0 (waiting (negsuc 4 ∷ []) (enters a)) ≡ Some BadAsync)

-- the other device's blocks and queues are its own
abbrev pub DevicesApart : Type 0
DevicesApart =
    placed_by (record (async 1 (enters a)) { device = 1 } ∷ async 2 (enters a) ∷ [])
    ≡ (queue 2, (1, Make a 1 ∷ [])) ∷ (record { device = 1; queue = 3 }, (1, Make a 1 ∷ [])) ∷ []

-- the counts of the answer, behind a batch on queue 1 and two on queue 2
abbrev pub counts_behind : Directive → List ℕ
counts_behind d =
    let st = left_by (async 2 runs ∷ async 2 runs ∷ async 1 (enters a) ∷ []) in
    (answer_of st d (walk_of st 0 d)).counts

-- no batch on any queue
abbrev none : List ℕ
none = replicate QUEUES 0

-- a wait on queue sync, and a question, are answered by how many batches were placed on each queue that they name
abbrev pub CountsOfWaits : Type 0
CountsOfWaits =
    (counts_behind (waiting (pos 1 ∷ []) (directive kind.Wait [])) ≡ slice_set none 3 1)
    × (counts_behind (record (directive kind.Wait []) { waits = waits.All }) ≡ slice_set (slice_set none 3 1) 4 2)
    × (counts_behind (waiting (pos 1 ∷ []) (directive kind.AsyncTest [])) ≡ slice_set none 3 1)
    × (counts_behind (async 2 (waiting (pos 1 ∷ []) (directive kind.Wait []))) ≡ none)

-- Values of zero or more go round the queues behind noval; `async` without an argument, and a value of -1, name the queue of
-- the host's default, and -2 names queue sync.
abbrev pub QueuesOfValues : Type 0
QueuesOfValues =
    (queue_meant (negsuc 0) (pos (VALUES + 1)) ≡ queue_meant (negsuc 0) (pos 1))
    × (queue_meant (negsuc 0) (pos 1) ≡ Some 3)
    × (queue_meant (pos 3) (negsuc 0) ≡ Some 5)
    × (queue_meant (negsuc 0) (negsuc 0) ≡ Some 1)
    × (target_queue (pos 3) Unvalued ≡ Some 5)
    × (target_queue (pos 3) (Value (negsuc 1)) ≡ Some 0)
    × (target_queue (pos 3) (Value (negsuc 2)) ≡ None)
