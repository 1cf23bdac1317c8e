-- What a host does for a statement: the ids that it sets, what it asks of its engine, and what it owes after a directive.
use Rattle.std.specs.Prelude.{ℕ, ℤ, zero, suc, pos, negsuc, Bool, true, false, ◌==◌, nat_lt, List, map, Option, Some, None, Result, Ok, Err, if◌then◌else◌}
use Rattle.acc_base.specs.declared.fault.Fault.{Fault}
use Rattle.acc_base.specs.declared.fault.Fault.TheVariants.{BadDevice, BadAsync}
use Rattle.acc_base.specs.declared.ids.QueueAt.{QueueAt}
use Rattle.acc_base.specs.Queues.{every_queue, is_nothing}
use Rattle.acc_place.specs.Directives.{Directive}
use Rattle.acc_place.specs.declared.directive.Kind.{Kind}
use Rattle.acc_place.specs.declared.directive.Kind.TheVariants as kind
use Rattle.acc_place.specs.declared.directive.Placed.{Placed}
use Rattle.acc_work.specs.declared.item.ItemLabel.{ItemLabel}
use Rattle.acc_work.specs.declared.item.ItemLabel.TheVariants as to_record
use Rattle.acc_host.specs.declared.program.Act.{Act}
use Rattle.acc_host.specs.declared.program.Act.TheVariants as act
use Rattle.acc_host.specs.declared.state.Ids.{Ids}

-- a directive as its host places it
abbrev pub with_ids : Ids → Directive → Directive
with_ids ids d = record d { device = ids.device; default = ids.default }

-- device 0, and acc_async_noval
abbrev pub first_ids : Ids
first_ids = record { device = 0; default = negsuc 0 }

-- what is no async value is refused
abbrev pub is_async : ℤ → Bool
is_async (pos v) = true
is_async (negsuc zero) = true
is_async (negsuc (suc zero)) = true
is_async (negsuc (suc (suc n))) = false

-- a default of acc_async_noval changes nothing
abbrev pub set_default : ℤ → ℤ → ℤ
set_default (pos v) old = pos v
set_default (negsuc zero) old = old
set_default (negsuc (suc n)) old = negsuc (suc n)

-- the ids after a statement that has ended
abbrev pub ids_after : Act → Ids → Ids
ids_after (act.SetDevice n) ids = record ids { device = n }
ids_after (act.SetAsync v) ids = record ids { default = set_default v ids.default }
ids_after (act.Place d) ids = ids
ids_after (act.Write array cell value) ids = ids
ids_after (act.Print range) ids = ids
ids_after act.ShowDevice ids = ids
ids_after act.ShowDevices ids = ids

-- the item that a host has still to record for a directive
pub data Owed : Type 0 where
  nothing_owed : Owed
  owes_seen : ℕ → List ℕ → Owed
  owes_test : ℕ → List ℕ → Owed

-- the counts of one batch alone
abbrev pub alone : ℕ → ℕ → List ℕ
alone queue number = map (λ q. if q == queue then number else 0) every_queue

-- a batch on queue sync is waited for
abbrev pub owed_batch : Option (QueueAt × ℕ) → Owed
owed_batch None = nothing_owed
owed_batch (Some b) = if b.0.queue == 0 then owes_seen b.0.device (alone b.0.queue b.1) else nothing_owed

abbrev pub owed_counts : Kind → ℕ → List ℕ → Option (QueueAt × ℕ) → Owed
owed_counts kind.Wait device counts batch = if is_nothing counts then nothing_owed else owes_seen device counts
owed_counts kind.AsyncTest device counts batch = if is_nothing counts then nothing_owed else owes_test device counts
owed_counts kind.Data device counts batch = owed_batch batch
owed_counts kind.EndData device counts batch = owed_batch batch
owed_counts kind.EnterData device counts batch = owed_batch batch
owed_counts (kind.ExitData finalize) device counts batch = owed_batch batch
owed_counts (kind.Update if_present) device counts batch = owed_batch batch
owed_counts (kind.Loop k) device counts batch = owed_batch batch
owed_counts kind.IsPresent device counts batch = owed_batch batch

abbrev pub owed_by : Directive → Placed → Owed
owed_by d placed = owed_counts d.kind d.device placed.counts placed.batch

-- what a host does next
pub data Want : Type 0 where
  -- it was refused, or has ended all statements
  stays : Want
  -- a statement of its own ends, and leaves these ids
  sets : Ids → Want
  -- a statement of its own is refused
  refuses : Fault → Want
  -- the engine is to place a directive, to see what was placed, or to record an item
  places : Directive → Want
  awaits : ℕ → List ℕ → Want
  records : ItemLabel → Want

abbrev pub set_or_refuse : Bool → Fault → Ids → Want
set_or_refuse true fault ids = sets ids
set_or_refuse false fault ids = refuses fault

-- the same, where the ids that are left are known, or the fault
abbrev pub set_by : Result Ids Fault → Want
set_by (Ok ids) = sets ids
set_by (Err fault) = refuses fault

abbrev pub wanted : ℕ → Ids → Act → Want
wanted devices ids (act.Place d) = places (with_ids ids d)
wanted devices ids (act.Write array cell value) = records (to_record.Write array cell value)
wanted devices ids (act.Print range) = records (to_record.Print range)
wanted devices ids (act.SetDevice n) = set_or_refuse (nat_lt n devices) BadDevice (ids_after (act.SetDevice n) ids)
wanted devices ids (act.SetAsync v) = set_or_refuse (is_async v) BadAsync (ids_after (act.SetAsync v) ids)
wanted devices ids act.ShowDevice = sets ids
wanted devices ids act.ShowDevices = sets ids
