-- What a history leaves, and what a directive marks after it, item by item (OpenACC API 3.0, 2.6.5, Data Construct,
-- 2.6.6, Enter Data and Exit Data Directives, 2.6.7, Reference Counters, 2.7, Data Clauses, and 2.11, Combined Constructs).
use Rattle.std.specs.Prelude.{ℕ, Bool, true, false, ◌&&◌, not, List, [], ◌∷◌, ◌++◌, map, Option, Some, None, ◌==◌, if◌then◌else◌}
use Rattle.acc_base.specs.declared.ids.QueueAt.{QueueAt}
use Rattle.acc_base.specs.declared.range.Range.{Range}
use Rattle.acc_batch.specs.declared.label.Label.{Label}
use Rattle.acc_place.specs.Directives.{Directive}
use Rattle.acc_place.specs.declared.directive.Clause.{Clause}
use Rattle.acc_place.specs.declared.directive.Clause.TheVariants.{NoCreate}
use Rattle.acc_place.specs.declared.directive.DataItem.{DataItem}
use Rattle.acc_place.specs.declared.directive.Kind.{Kind}
use Rattle.acc_place.specs.declared.directive.Kind.TheVariants as kind
use Rattle.acc_place.specs.declared.directive.Region.{Region}
use Rattle.acc_present.specs.declared.change.Change.{Change}
use Rattle.acc_present.specs.declared.change.Change.TheVariants.{StructuredUp, StructuredDown, DynamicUp, DynamicDown, DynamicZero}
use Rattle.acc_present.specs.Marks.{Mark}
use Rattle.acc_present.specs.Presences.{presences, is_present}
use Rattle.acc_kernel.specs.Kernels.{Loop}
use Rattle.acc_place.specs.Implicit.{implicit_items}
use Rattle.acc_place.specs.Regions.{open_region}
use Rattle.acc_place.specs.Targets.{is_alone, queue_by, queues_named}

-- What a directive finds: how many cells each host array has; and what a history leaves, which is the marks on each
-- device, the latest first, the data constructs that the hosts are inside, the latest first, the batches, in the order of
-- placing, how many directives were accepted, whether closing has begun, and which queues are closed.
pub record Standing : Type 0 where
  pub lengths : List ℕ
  pub marks : ℕ → List Mark
  pub regions : List Region
  pub labels : List Label
  pub accepted : ℕ
  pub closing : Bool
  pub closed : List QueueAt

-- An item in its turn; the change that is asked for, if any; and whether it is asked for only where the item's range is present.
pub record AskedItem : Type 0 where
  pub item : DataItem
  pub change : Option Change
  pub if_present : Bool

-- Where a directive acts, and on what: the queue of its batch; the queues that it waits for, and whether it is for these
-- awaits alone; its items; the loop that it runs then, if it is one; and its items once more, as they leave at the loop's end.
pub record Walk : Type 0 where
  pub device : ℕ
  pub queue : ℕ
  pub waits : List ℕ
  pub alone : Bool
  pub items : List AskedItem
  pub runs : Option Loop
  pub ends : List AskedItem

-- what a directive asks of each of its items
abbrev pub exit_by : Bool → Change
exit_by true = DynamicZero
exit_by false = DynamicDown

abbrev pub change_by : Kind → Option Change
change_by kind.Data = Some StructuredUp
change_by kind.EndData = Some StructuredDown
change_by kind.EnterData = Some DynamicUp
change_by (kind.ExitData finalize) = Some (exit_by finalize)
change_by (kind.Update if_present) = None
change_by (kind.Loop k) = Some StructuredUp
change_by kind.Wait = None
change_by kind.AsyncTest = None
change_by kind.IsPresent = None

-- `exit data` and the clause `no_create` are about what is present, and take no action elsewhere
abbrev pub acts_if_present : Kind → Clause → Bool
acts_if_present kind.Data NoCreate = true
acts_if_present (kind.ExitData finalize) c = true
acts_if_present k c = false

abbrev pub asked_item : Kind → DataItem → AskedItem
asked_item k i = record { item = i; change = change_by k; if_present = acts_if_present k i.clause }

abbrev pub all_asked : Kind → List DataItem → List AskedItem
all_asked k items = map (asked_item k) items

-- What a directive acts on.
pub record Subject : Type 0 where
  pub device : ℕ
  pub items : List DataItem

abbrev pub subject_left : Directive → Option Region → Subject
subject_left d None = record { device = d.device; items = [] }
subject_left d (Some r) = record { device = r.device; items = r.items }

-- The end of a data construct acts on the device and the items of its entry, each other directive on its own; a loop has
-- implicit items behind them.
abbrev pub subject_by : List ℕ → List Region → ℕ → Directive → Kind → Subject
subject_by lengths rs host d kind.EndData = subject_left d (open_region host rs)
subject_by lengths rs host d (kind.Loop k) = record { device = d.device; items = d.items ++ implicit_items lengths rs host d k }
subject_by lengths rs host d k = record { device = d.device; items = d.items }

abbrev pub loop_in : Kind → Option Loop
loop_in (kind.Loop k) = Some k
loop_in k = None

-- all items of a loop leave at its end, as those of a data construct do
abbrev pub ends_by : Kind → List DataItem → List AskedItem
ends_by (kind.Loop k) items = all_asked kind.EndData items
ends_by k items = []

abbrev pub walk_on : Subject → Directive → Walk
walk_on s d =
    record {
      device = s.device;
      queue = queue_by d.kind d;
      waits = queues_named d;
      alone = is_alone d;
      items = all_asked d.kind s.items;
      runs = loop_in d.kind;
      ends = ends_by d.kind s.items;
    }

unfoldable pub walk_of : Standing → ℕ → Directive → Walk
walk_of st host d = walk_on (subject_by st.lengths st.regions host d d.kind) d

-- the change of an item in its turn, where its range is present or not
abbrev pub change_where : AskedItem → Bool → Option Change
change_where a present = if a.if_present && not present then None else a.change

abbrev pub change_at : List Mark → AskedItem → Option Change
change_at before a = change_where a (is_present (presences before) a.item.range)

-- it leaves a mark
abbrev pub marks_with : List Mark → Range → Option Change → List Mark
marks_with before r None = before
marks_with before r (Some change) = record { change = change; range = r } ∷ before

-- the marks after an item in its turn
abbrev pub marked_by : List Mark → AskedItem → List Mark
marked_by before a = marks_with before a.item.range (change_at before a)

-- A visit of an item: all marks of the device before it and after it.
pub record Visit : Type 0 where
  pub item : DataItem
  pub before : List Mark
  pub after : List Mark

-- The items are walked in order, each after the marks of those before it.
abbrev pub visits : List Mark → List AskedItem → List Visit
visits before [] = []
visits before (a ∷ rest) =
    record { item = a.item; before = before; after = marked_by before a } ∷ visits (marked_by before a) rest

abbrev pub marks_after : List Mark → List AskedItem → List Mark
marks_after before [] = before
marks_after before (a ∷ rest) = marks_after (marked_by before a) rest

-- The items that leave a mark: those that a data construct has counted are the items of its end.
abbrev pub counted_with : Option Change → DataItem → List DataItem → List DataItem
counted_with None i items = items
counted_with (Some change) i items = i ∷ items

abbrev pub counted_among : List Mark → List AskedItem → List DataItem
counted_among before [] = []
counted_among before (a ∷ rest) = counted_with (change_at before a) a.item (counted_among (marked_by before a) rest)

-- the marks between a walk's items and their ends, and behind both
abbrev pub marks_between : List Mark → Walk → List Mark
marks_between before walk = marks_after before walk.items

-- those of its items that are counted
abbrev pub counted_items : List Mark → Walk → List DataItem
counted_items before walk = counted_among before walk.items

abbrev pub marks_behind : List Mark → Walk → List Mark
marks_behind before walk = marks_after (marks_between before walk) walk.ends

-- the visits of a walk: of its items, and of their ends
abbrev pub all_visits : List Mark → Walk → List Visit
all_visits before walk = visits before walk.items ++ visits (marks_between before walk) walk.ends

abbrev pub with_marks : ℕ → List Mark → (ℕ → List Mark) → ℕ → List Mark
with_marks device marks others k = if k == device then marks else others k
