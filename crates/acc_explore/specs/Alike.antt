-- States that no event tells apart, and that have one report.
use Rattle.std.specs.Prelude.{◌≡◌, ℕ, ℤ, Bool, IsTrue, List, length}
use Rattle.acc_base.specs.declared.ids.QueueAt.{QueueAt}
use Rattle.acc_base.specs.declared.range.Range.{Range}
use Rattle.acc_batch.specs.declared.entry.WorkEntry.{WorkEntry}
use Rattle.acc_batch.specs.Labels.{on_queue}
use Rattle.acc_batch.specs.Lives.{HoldsBlock}
use Rattle.acc_core.specs.Legality.{IsLegalState}
use Rattle.acc_core.specs.Machine.{State, Outcome, standing_of, step}
use Rattle.acc_explore.specs.Runs.{report_of}
use Rattle.acc_host.specs.declared.event.Event.{Event}
use Rattle.acc_host.specs.declared.program.HostProgram.{HostProgram}
use Rattle.acc_host.specs.Entries.{Own, items_shown, own_of}
use Rattle.acc_memory.specs.Values.{Cell, Host_cell, Block_cell, is_in}
use Rattle.acc_place.specs.Regions.{regions_of}
use Rattle.acc_place.specs.Standings.{Standing}
use Rattle.acc_present.specs.Presences.{presences}
use Rattle.acc_work.specs.Logs.{performed, device_ops, all_items, value}

-- a cell of a host array, or of a block that is live behind this log
abbrev pub IsLive : List WorkEntry → Cell → Type 0
IsLive work (Host_cell array cell) = Unit {0}
IsLive work (Block_cell device block cell) = (r : Range) × HoldsBlock (device_ops device work) block r × IsTrue (is_in r cell)

-- Live cells have the same values behind both logs.
abbrev pub SameCells : List (List ℤ) → List WorkEntry → List WorkEntry → Type 0
SameCells arrays old new = (c : Cell) → IsLive old c → value arrays old c ≡ value arrays new c

-- Two work logs show the same: how many operations each queue has performed, the items of each host, how many items there are,
-- and the live cells. In which order queues and hosts came is left open.
pub record AlikeLogs (arrays : List (List ℤ)) (old new : List WorkEntry) : Type 0 where
  pub done : (at : QueueAt) → length (performed at old) ≡ length (performed at new)
  pub shown : (host : ℕ) → items_shown host old ≡ items_shown host new
  pub items : all_items old ≡ all_items new
  pub cells : SameCells arrays old new

-- Two place histories leave alike: each queue the same batches in order, each device the same present ranges with their counters and
-- blocks, each host inside the same data constructs; and closing has begun in both, or in neither. In which order hosts and queues came
-- is left open.
pub record AlikePlaces (old new : Standing) : Type 0 where
  pub placed : (at : QueueAt) → on_queue at old.labels ≡ on_queue at new.labels
  pub present : (device : ℕ) → presences (old.marks device) ≡ presences (new.marks device)
  pub inside : (host : ℕ) → regions_of host old.regions ≡ regions_of host new.regions
  pub closing : old.closing ≡ new.closing

-- a host's own directives, with what each was answered, and behind how many items of the host
abbrev pub own_directives : State → ℕ → List Own
own_directives w host = own_of w.config host w.history w.counts

-- Two states are of one configuration, have taken as many batches of each queue, and their hosts stand alike; what they have accepted
-- leaves alike, and each host has the same directives of its own; and their work logs show the same.
pub record Alike (old new : State) : Type 0 where
  pub config : old.config ≡ new.config
  pub taken : old.taken ≡ new.taken
  pub hosts : old.hosts ≡ new.hosts
  pub places : AlikePlaces (standing_of old) (standing_of new)
  pub own : (host : ℕ) → own_directives old host ≡ own_directives new host
  pub work : AlikeLogs old.config.arrays old.work new.work

-- The replies are equal, and the states alike.
pub record AlikeOutcome (old new : Outcome) : Type 0 where
  pub reply : old.reply ≡ new.reply
  pub state : Alike old.state new.state

-- Each event gets one reply of both, and leads to two that are alike again, with the same choice of memory.
abbrev pub StepKeepsAlike : Type 0
StepKeepsAlike =
    (no_memory : Bool) (old new : State) (e : Event) → IsLegalState old → IsLegalState new → Alike old new
    → AlikeOutcome (step no_memory old e) (step no_memory new e)

-- Both have one report.
abbrev pub SameReports : Type 0
SameReports =
    (names : List (List ℕ)) (programs : List HostProgram) (old new : State) → IsLegalState old → IsLegalState new → Alike old new
    → report_of names programs old ≡ report_of names programs new

-- Being alike is an equivalence of legal states.
abbrev pub AlikeIsEquivalence : Type 0
AlikeIsEquivalence =
    (a b c : State) → IsLegalState a → IsLegalState b → IsLegalState c
    → Alike a a × (Alike a b → Alike b a) × (Alike a b → Alike b c → Alike a c)
