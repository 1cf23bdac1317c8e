-- What the items of a directive make of a device's table, item by item, in the table's own words. Only private contracts
-- and proofs cite it: what a public call promises is said by the definitions, which proofs tie to these.
use Rattle.std.specs.Prelude.{All, ◌≡◌, ℕ, ◌+◌, ◌<◌, ◌≤◌, ⊤, Bool, true, false, ◌&&◌, ◌||◌, not, nat_lt, nat_le, List, [], ◌∷◌, ◌++◌, length, map, filter, is_some, Option, Some, None, IfSome, if◌then◌else◌}
use Rattle.std.specs.List.{flat_map}
use Rattle.std.specs.Option.{option_and_then, option_to_list}
use Rattle.acc_base.specs.declared.range.Range.{Range}
use Rattle.acc_base.specs.declared.fault.Fault.{Fault}
use Rattle.acc_base.specs.declared.fault.Fault.TheVariants.{BadAsync, TooMany, PartlyPresent, NotPresent, DeviceFull, OutsideRange, NoRegion}
use Rattle.acc_base.specs.Configurations.{Configuration}
use Rattle.acc_kernel.specs.Kernels.{Loop}
use Rattle.acc_present.specs.declared.change.Counter.{Counter}
use Rattle.acc_present.specs.declared.change.Counter.TheVariants.{Structured, Dynamic}
use Rattle.acc_present.specs.declared.entry.TheConstants.{COUNTER_LIMIT}
use Rattle.acc_present.specs.declared.held.Found.{Found}
use Rattle.acc_present.specs.declared.held.Found.TheVariants as look
use Rattle.acc_present.specs.declared.table.Left.{Left}
use Rattle.acc_present.specs.declared.table.Left.TheVariants as left
use Rattle.acc_present.specs.Legality.{IsEntered}
use Rattle.acc_present.specs.declared.change.Change.{Change}
use Rattle.acc_present.specs.declared.change.Change.TheVariants.{StructuredUp, StructuredDown, DynamicUp, DynamicDown, DynamicZero}
use Rattle.acc_present.specs.Marks.{Mark}
use Rattle.acc_present.specs.Lifetimes.{can_open}
use Rattle.acc_present.specs.Presences.{Presence, holder, is_present, is_partly_present, used_cells}
use Rattle.acc_present.specs.Tables.{TableView, counter_of, presences_after, left_of}
use Rattle.acc_place.specs.declared.directive.Clause.{Clause}
use Rattle.acc_place.specs.declared.directive.Clause.TheVariants.{UpdateSelf, UpdateDevice}
use Rattle.acc_place.specs.Directives.{Directive}
use Rattle.acc_place.specs.declared.directive.DataItem.{DataItem}
use Rattle.acc_place.specs.declared.directive.Kind.{Kind}
use Rattle.acc_place.specs.declared.directive.Kind.TheVariants as kind
use Rattle.acc_place.specs.declared.directive.Region.{Region}
use Rattle.acc_place.specs.declared.directive.TheConstants.{MAX_ITEMS, MAX_DIRECTIVES}
use Rattle.acc_batch.specs.declared.label.OpLabel.{OpLabel}
use Rattle.acc_batch.specs.declared.label.OpLabel.TheVariants as op
use Rattle.acc_place.specs.declared.ops.Group.{Group}
use Rattle.acc_place.specs.declared.ops.Group.TheVariants.{Makes, CopyIns, Updates, CopyOuts, Releases}
use Rattle.acc_place.specs.declared.marked.Marked.{Marked}
use Rattle.acc_place.specs.Accepting.{fault_where, first_fault, item_faults, wants_whole, wants_presence, is_too_deep, ends_no_region, is_past}
use Rattle.acc_place.specs.Batches.{copies_in, copies_out}
use Rattle.acc_place.specs.Loops.{StaysInside, uses_in}
use Rattle.acc_place.specs.Regions.{open_region}
use Rattle.acc_place.specs.Standings.{acts_if_present, asked_item, change_where, subject_left}
use Rattle.acc_place.specs.Targets.{has_bad_queue, waits_on_too_many}

-- What a device has: what is present there, and how many lifetimes were opened.
pub record Holding : Type 0 where
  pub presences : List Presence
  pub opened : ℕ

abbrev pub holding : List Presence → ℕ → Holding
holding ps n = record { presences = ps; opened = n }

abbrev pub mark_by : Change → Range → Mark
mark_by change r = record { change = change; range = r }

-- the change opens a lifetime
abbrev pub opens_one : Option Change → List Presence → Range → Bool
opens_one None ps r = false
opens_one (Some change) ps r = can_open change && not (is_present ps r)

abbrev pub opened_after : Bool → ℕ → ℕ
opened_after true n = n + 1
opened_after false n = n

abbrev pub presences_by : Option Change → Range → ℕ → List Presence → List Presence
presences_by None r block ps = ps
presences_by (Some change) r block ps = presences_after (mark_by change r) block ps

unfoldable pub holding_after : Option Change → Range → Holding → Holding
holding_after change r h =
    record {
      presences = presences_by change r (h.opened + 1) h.presences;
      opened = opened_after (opens_one change h.presences r) h.opened;
    }

-- the change of an item in its turn, where these are present
abbrev pub change_in : Kind → List Presence → DataItem → Option Change
change_in k ps i = change_where (asked_item k i) (is_present ps i.range)

abbrev pub holding_with : Kind → DataItem → Holding → Holding
holding_with k i h = holding_after (change_in k h.presences i) i.range h

-- an item is looked for before it is marked; an exit changes nothing where its range is absent
abbrev pub wants_look : Kind → Clause → Bool
wants_look kind.Data c = acts_if_present kind.Data c
wants_look k c = false

-- after items of a directive of this kind
abbrev pub holding_after_all : Kind → Holding → List DataItem → Holding
holding_after_all k h [] = h
holding_after_all k h (i ∷ is) = holding_after_all k (holding_with k i h) is

-- ## Items

-- the items that are written: a directive's own, or those of the data construct that it ends
abbrev pub written_by : List Region → ℕ → Directive → Kind → List DataItem
written_by rs host d kind.EndData = (subject_left d (open_region host rs)).items
written_by rs host d k = d.items

-- the device where it acts: its own, or that of the data construct
abbrev pub device_by : List Region → ℕ → Directive → Kind → ℕ
device_by rs host d kind.EndData = (subject_left d (open_region host rs)).device
device_by rs host d k = d.device

-- the items that leave once more at a directive's end: all of a loop's
abbrev pub ends_of : Kind → List DataItem → List DataItem
ends_of (kind.Loop k) items = items
ends_of k items = []

-- what a device has once a directive's items have left their marks, and once its ends have
abbrev pub holding_between : Kind → Holding → List DataItem → Holding
holding_between k h items = holding_after_all k h items

abbrev pub holding_behind : Kind → Holding → List DataItem → Holding
holding_behind k h items = holding_after_all kind.EndData (holding_between k h items) (ends_of k items)

-- ## Faults

-- The fault of an item, where those before it have left their marks.
unfoldable pub fault_in : Configuration → Kind → List Presence → DataItem → Option Fault
fault_in config k ps i =
    first_fault (item_faults config k i ps (opens_one (change_in k ps i) ps i.range) (used_cells ps + i.range.len))

abbrev pub can_open_by : Option Change → Bool
can_open_by None = false
can_open_by (Some change) = can_open change

-- the fault of an item that was found so, where so many cells are free
abbrev pub found_fault : Kind → DataItem → Found → ℕ → Option Fault
found_fault k i look.Partly free = fault_where (wants_whole k) PartlyPresent
found_fault k i (look.Present e) free = None
found_fault k i look.Absent free =
    first_fault (
    fault_where (wants_presence k i.clause) NotPresent
    ∷ fault_where (can_open_by (change_where (asked_item k i) false) && nat_lt free i.range.len) DeviceFull
    ∷ []
    )

-- The faults of a directive on a device that is there that don't depend on its ranges.
unfoldable pub limit_fault : ℕ → List Region → ℕ → Directive → ℕ → Option Fault
limit_fault accepted rs host d count =
    first_fault (
    fault_where (has_bad_queue d) BadAsync
    ∷ fault_where (nat_lt MAX_ITEMS count || (waits_on_too_many d.waits || (is_too_deep d.kind host rs || nat_le MAX_DIRECTIVES accepted))) TooMany
    ∷ fault_where (ends_no_region d.kind (open_region host rs)) NoRegion
    ∷ []
    )

abbrev pub fault_or : Option Fault → Option Fault → Option Fault
fault_or (Some fault) other = Some fault
fault_or None other = other

abbrev pub first_fault_in : Configuration → Kind → Holding → List DataItem → Option Fault
first_fault_in config k h [] = None
first_fault_in config k h (i ∷ is) =
    fault_or (fault_in config k h.presences i) (first_fault_in config k (holding_with k i h) is)

-- a loop that reaches past the ranges of its items
abbrev pub past_fault : Option Loop → List DataItem → Option Fault
past_fault k items = fault_where (is_past k items) OutsideRange

-- it stays in them
abbrev pub StaysBy : Kind → List DataItem → Type 0
StaysBy (kind.Loop k) items = StaysInside k items
StaysBy k items = ⊤

-- and they are present
abbrev pub AllHeldFor : Kind → List Presence → List DataItem → Type 0
AllHeldFor (kind.Loop k) ps items = All (λ i. is_present ps i.range ≡ true) items
AllHeldFor k ps items = ⊤

-- ## What became of an item

abbrev pub block_held : Option Presence → Option ℕ
block_held None = None
block_held (Some p) = Some p.block

abbrev pub is_found : Found → Bool
is_found look.Absent = false
is_found look.Partly = false
is_found (look.Present e) = true

abbrev pub block_found : Found → Option ℕ
block_found look.Absent = None
block_found look.Partly = None
block_found (look.Present e) = Some e.block

abbrev pub block_opened : Bool → ℕ → Option ℕ
block_opened true n = Some (n + 1)
block_opened false n = None

abbrev pub block_ended : Left → Option ℕ
block_ended left.Nothing = None
block_ended left.Counted = None
block_ended (left.Ended b) = Some b

abbrev pub ended_by : Option Change → List Presence → Range → Option ℕ
ended_by None ps r = None
ended_by (Some change) ps r = if can_open change then None else block_ended (left_of (holder ps r) change)

unfoldable pub marked_in : Option Change → Holding → DataItem → Marked
marked_in change h i =
    record {
      item = i;
      held = block_held (holder h.presences i.range);
      opened = block_opened (opens_one change h.presences i.range) h.opened;
      ended = ended_by change h.presences i.range;
    }

abbrev pub all_marked : Kind → Holding → List DataItem → List Marked
all_marked k h [] = []
all_marked k h (i ∷ is) = marked_in (change_in k h.presences i) h i ∷ all_marked k (holding_with k i h) is

-- and of those that leave at the directive's end, behind them
abbrev pub all_steps : Kind → Holding → List DataItem → List Marked
all_steps k h items =
    all_marked k h items ++ all_marked kind.EndData (holding_between k h items) (ends_of k items)

-- the items that were counted: each was present, or was opened
abbrev pub has_counted : Marked → Bool
has_counted t = is_some t.held || is_some t.opened

abbrev pub counted_steps : List Marked → List DataItem
counted_steps ts = map (λ (t : Marked). t.item) (filter has_counted ts)

-- ## The operations

-- a loop runs on what is present
abbrev pub run_in : Option Loop → List DataItem → List Presence → List OpLabel
run_in None items ps = []
run_in (Some k) items ps = op.Run k (uses_in k items ps) ∷ []

-- the block that an operation of a group is for
abbrev pub block_of : Group → Marked → Option ℕ
block_of Makes t = t.opened
block_of CopyIns t = t.opened
block_of Updates t = t.held
block_of CopyOuts t = t.ended
block_of Releases t = t.ended

abbrev pub update_for : Clause → ℕ → Range → Option OpLabel
update_for UpdateSelf b r = Some (op.CopyOut r b)
update_for UpdateDevice b r = Some (op.CopyIn r b)
update_for c b r = None

abbrev pub op_for : Group → Clause → ℕ → Range → Option OpLabel
op_for Makes c b r = Some (op.Make r b)
op_for CopyIns c b r = if copies_in c then Some (op.CopyIn r b) else None
op_for Updates c b r = update_for c b r
op_for CopyOuts c b r = if copies_out c then Some (op.CopyOut r b) else None
op_for Releases c b r = Some (op.Release b)

-- what became of an item, as its operation of a group, if it has one
abbrev pub op_of : Group → Marked → Option OpLabel
op_of g t = option_and_then (λ b. op_for g t.item.clause b t.item.range) (block_of g t)

abbrev pub group_ops : Group → Marked → List OpLabel
group_ops g t = option_to_list (op_of g t)

unfoldable pub marked_ops : List OpLabel → List Marked → List OpLabel
marked_ops run ts =
    flat_map (group_ops Makes) ts
    ++ (flat_map (group_ops CopyIns) ts
    ++ (run
    ++ (flat_map (group_ops Updates) ts
    ++ (flat_map (group_ops CopyOuts) ts
    ++ flat_map (group_ops Releases) ts))))

-- ## Room and conditions

-- every present range can be counted up so often
abbrev pub AllLow : ℕ → ℕ → List Presence → Type 0
AllLow limit n [] = Unit {0}
AllLow limit n (p ∷ ps) = (p.s + p.d + n ≤ limit) × AllLow limit n ps

-- a table has room for so many items
pub record HasRoomFor (n : ℕ) (t : TableView) (opened : ℕ) : Type 0 where
  pub room : length t.presences + n ≤ t.room
  pub low : AllLow COUNTER_LIMIT n t.presences
  pub few : opened + n ≤ COUNTER_LIMIT

-- A range can be entered.
pub record CanEnter (counter : Counter) (r : Range) (ps : List Presence) (capacity : ℕ) : Type 0 where
  pub cells : 0 < r.len
  pub whole : is_partly_present ps r ≡ false
  pub low : IfSome (holder ps r) (λ p. counter_of counter p < COUNTER_LIMIT)
  pub fits : holder ps r ≡ None → used_cells ps + r.len ≤ capacity

-- An item of this range can leave its mark.
abbrev pub CanMark : Option Change → Range → List Presence → ℕ → Type 0
CanMark None r ps capacity = 0 < r.len
CanMark (Some StructuredUp) r ps capacity = CanEnter Structured r ps capacity
CanMark (Some StructuredDown) r ps capacity = (0 < r.len) × IsEntered (holder ps r)
CanMark (Some DynamicUp) r ps capacity = CanEnter Dynamic r ps capacity
CanMark (Some DynamicDown) r ps capacity = 0 < r.len
CanMark (Some DynamicZero) r ps capacity = 0 < r.len

-- a region leaves only what it has entered
abbrev pub HasEntered : Option Change → Range → List Presence → Type 0
HasEntered None r ps = ⊤
HasEntered (Some StructuredUp) r ps = ⊤
HasEntered (Some StructuredDown) r ps = IsEntered (holder ps r)
HasEntered (Some DynamicUp) r ps = ⊤
HasEntered (Some DynamicDown) r ps = ⊤
HasEntered (Some DynamicZero) r ps = ⊤

-- so does each item in its turn
abbrev pub AllEntered : Kind → Holding → List DataItem → Type 0
AllEntered k h [] = ⊤
AllEntered k h (i ∷ is) = HasEntered (change_in k h.presences i) i.range h.presences × AllEntered k (holding_with k i h) is

-- The range has cells; where a change is asked for, it isn't partly present; and it fits, where that opens a lifetime, on a
-- device of this capacity.
pub record IsFine (capacity : ℕ) (change : Option Change) (ps : List Presence) (r : Range) : Type 0 where
  pub cells : 0 < r.len
  pub whole : IfSome change (λ made. is_partly_present ps r ≡ false)
  pub fits : opens_one change ps r ≡ true → used_cells ps + r.len ≤ capacity

-- so is each item in its turn
abbrev pub AllFine : ℕ → Kind → Holding → List DataItem → Type 0
AllFine capacity k h [] = ⊤
AllFine capacity k h (i ∷ is) =
    IsFine capacity (change_in k h.presences i) h.presences i.range × AllFine capacity k (holding_with k i h) is
