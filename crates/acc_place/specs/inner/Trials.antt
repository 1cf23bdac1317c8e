-- Where a directive is tried: what has to be known there, and what is left where it has no fault, in the table's own words.
-- Only private contracts and proofs cite it.
use Rattle.std.specs.Prelude.{All, ◌≡◌, ℕ, ◌+◌, ◌<◌, ◌≤◌, max, Bool, true, false, List, length, map, replicate, Option, None, if◌then◌else◌}
use Rattle.std.specs.List.{flat_map}
use Rattle.std.specs.Option.{option_map}
use Rattle.acc_base.specs.declared.fault.Fault.{Fault}
use Rattle.acc_base.specs.declared.ids.TheConstants.{QUEUES}
use Rattle.acc_base.specs.declared.range.Range.{Range}
use Rattle.acc_base.specs.Queues.{every_queue}
use Rattle.acc_batch.specs.declared.label.Label.{Label}
use Rattle.acc_batch.specs.declared.label.OpLabel.{OpLabel}
use Rattle.acc_batch.specs.Awaits.{with_awaits}
use Rattle.acc_batch.specs.Labels.{has_number}
use Rattle.acc_batch.specs.Ops.{HasItsCells}
use Rattle.acc_present.specs.Notes.{Note}
use Rattle.acc_present.specs.declared.entry.TheConstants.{COUNTER_LIMIT}
use Rattle.acc_present.specs.Drafts.{DraftView, drafted, IsDraft}
use Rattle.acc_place.specs.Directives.{Directive}
use Rattle.acc_place.specs.declared.directive.DataItem.{DataItem}
use Rattle.acc_place.specs.declared.directive.Placed.{Placed}
use Rattle.acc_place.specs.declared.directive.TheConstants.{MAX_ITEMS}
use Rattle.acc_place.specs.declared.judge.Known.{Known}
use Rattle.acc_place.specs.declared.marked.Marked.{Marked}
use Rattle.acc_place.specs.Batches.{counts_queues}
use Rattle.acc_place.specs.Counters.{IsEnteredBy, entered_ranges}
use Rattle.acc_base.specs.Configurations.{lengths_of}
use Rattle.acc_place.specs.inner.Noting.{awaits_from, ended_range, last_made, last_used, note_found, used_ranges}
use Rattle.acc_place.specs.inner.Places.{queue_in}
use Rattle.acc_place.specs.Regions.{regions_on}
use Rattle.acc_place.specs.Standings.{loop_in, subject_by}
use Rattle.acc_place.specs.Targets.{is_alone, queue_by, queues_named}
use Rattle.acc_place.specs.inner.Judging.{Holding, holding, holding_between, limit_fault, fault_or, first_fault_in, past_fault, all_marked, all_steps, run_in, marked_ops, AllLow, StaysBy}

-- The items of a directive, the draft with their marks, and what became of them.
pub record TrialView : Type 0 where
  pub draft : DraftView
  pub steps : List Marked
  pub items : List DataItem

-- what the device has, as far as it is known
abbrev pub held_by : Known → Holding
held_by k = holding k.table.now.presences k.opened

-- the items that a host's directive acts on
abbrev pub items_by : Known → ℕ → Directive → List DataItem
items_by k host d = (subject_by (lengths_of k.config.now.arrays) k.regions.now host d d.kind).items

-- the faults of its items, and then of its loop
abbrev pub items_fault : Known → ℕ → Directive → Option Fault
items_fault k host d =
    fault_or (first_fault_in k.config.now d.kind (held_by k) (items_by k host d)) (past_fault (loop_in d.kind) (items_by k host d))

-- its first fault, where its device is there
abbrev pub fault_by : Known → ℕ → Directive → Option Fault
fault_by k host d =
    fault_or (limit_fault k.accepted k.regions.now host d (length (items_by k host d))) (items_fault k host d)

-- what became of its items, where it has none
abbrev pub steps_by : Known → ℕ → Directive → List Marked
steps_by k host d = all_steps d.kind (held_by k) (items_by k host d)

-- the operations of its batch but for the awaits
abbrev pub ops_by : Known → ℕ → Directive → List OpLabel
ops_by k host d =
    marked_ops (run_in (loop_in d.kind) (items_by k host d) (holding_between d.kind (held_by k) (items_by k host d)).presences)
    (steps_by k host d)

-- how many batches were placed on a queue of a device, if it is named
abbrev pub named_count : List (List Label) → ℕ → List ℕ → ℕ → ℕ
named_count queues device named q = if has_number named q then length (queue_in queues (record { device = device; queue = q })) else 0

-- where they are asked for
abbrev pub counts_in : Bool → List (List Label) → ℕ → List ℕ → List ℕ
counts_in true queues device named = map (named_count queues device named) every_queue
counts_in false queues device named = replicate QUEUES 0

-- what a directive is answered whose batch has this label, if it has one, where its question is answered so
abbrev pub placed_by : Known → Directive → Option Label → Bool → Placed
placed_by k d label present =
    record {
      batch = option_map (λ (l : Label). (l.at, l.number)) label;
      counts = counts_in (counts_queues d.kind (queue_by d.kind d)) k.labels.now.queues k.at.device (queues_named d);
      present = present;
    }

-- the number of the next batch on the directive's queue
abbrev pub next_in : Known → ℕ
next_in k = length (queue_in k.labels.now.queues k.at) + 1

-- the number that a batch of these operations and steps awaits of a queue, by what the table has noted
abbrev pub number_in : Known → (Range → ℕ → Note) → List ℕ → List OpLabel → List Marked → ℕ → ℕ
number_in k notes named ops steps q =
    max (named_count k.labels.now.queues k.at.device named q)
    (max (last_made (note_found notes k.table.now.presences) (flat_map used_ranges ops) q) (last_used (note_found notes k.table.now.presences) (flat_map ended_range steps) q))

-- these operations, behind what they await
abbrev pub behind_noted : Known → (Range → ℕ → Note) → Directive → List OpLabel → List Marked → List OpLabel
behind_noted k notes d ops steps =
    with_awaits (is_alone d) (awaits_from k.at.queue 0 (map (number_in k notes (queues_named d) ops steps) every_queue)) ops

-- a batch with this label can be made
abbrev pub CanBeMade : Label → Type 0
CanBeMade l = (0 < length l.ops) × All HasItsCells l.ops

-- The table is one of the configuration; its counters can take the items of one more directive; and what the open regions
-- of the device have entered is present.
pub record IsKnown (k : Known) : Type 0 where
  pub capacity : k.table.now.capacity ≡ k.config.now.capacity
  pub low : AllLow COUNTER_LIMIT MAX_ITEMS k.table.now.presences
  pub few : k.opened + MAX_ITEMS ≤ COUNTER_LIMIT
  pub entered : IsEnteredBy (entered_ranges (regions_on k.at.device k.regions.now)) k.table.now.presences

-- A host's directive was tried, and has no fault: the draft has the marks of its items, and the steps say what became of them.
pub record IsTried (k : Known) (host : ℕ) (d : Directive) (w : TrialView) : Type 0 where
  pub faultless : fault_by k host d ≡ None
  pub whole : w.items ≡ items_by k host d
  pub stays : StaysBy d.kind w.items
  pub draft : IsDraft k.table.now w.draft
  pub marks : drafted k.table.now w.draft ≡ (holding_between d.kind (held_by k) w.items).presences
  pub changed : length w.draft.changed ≤ length w.items
  pub became : w.steps ≡ all_marked d.kind (held_by k) w.items
