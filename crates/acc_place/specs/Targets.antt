-- How a directive names queues (OpenACC API 3.0, 2.16, Asynchronous Behavior: 2.16.1, async clause, and 2.16.2, wait clause).
use Rattle.std.specs.Prelude.{ℕ, zero, suc, Bool, true, false, ◌||◌, ◌&&◌, ◌==◌, not, Option, Some, None, ℤ, pos, negsuc, List, [], map, nat_lt, length}
use Rattle.std.specs.List.{list_any, flat_map}
use Rattle.std.specs.Option.{option_to_list}
use Rattle.acc_base.specs.Queues.{every_queue, noval, queue_of_value, sync}
use Rattle.acc_place.specs.Directives.{Directive}
use Rattle.acc_place.specs.declared.directive.Kind.{Kind}
use Rattle.acc_place.specs.declared.directive.Kind.TheVariants as kind
use Rattle.acc_place.specs.declared.directive.Target.{Target}
use Rattle.acc_place.specs.declared.directive.Target.TheVariants.{Plain, Unvalued, Value}
use Rattle.acc_place.specs.declared.directive.Waits.{Waits}
use Rattle.acc_place.specs.declared.directive.Waits.TheVariants as waits
use Rattle.acc_place.specs.declared.directive.TheConstants.{MAX_WAITS}

-- A value of zero or more uses a queue that such values share; -1 is acc_async_noval, and -2 acc_async_sync.
abbrev pub queue_of_own : ℤ → Option ℕ
queue_of_own (pos v) = Some (queue_of_value v)
queue_of_own (negsuc zero) = Some noval
queue_of_own (negsuc (suc zero)) = Some sync
queue_of_own (negsuc (suc (suc n))) = None

-- where a clause says acc_async_noval, the host's default is meant
abbrev pub queue_meant : ℤ → ℤ → Option ℕ
queue_meant default (negsuc zero) = queue_of_own default
queue_meant default v = queue_of_own v

-- the queue that an async clause names; without one it is sync
abbrev pub target_queue : ℤ → Target → Option ℕ
target_queue default Plain = Some sync
target_queue default Unvalued = queue_of_own default
target_queue default (Value v) = queue_meant default v

-- the queues that a wait names, as they are written; without arguments all of the device are meant
abbrev pub queues_written : ℤ → Waits → List (Option ℕ)
queues_written default waits.Nothing = []
queues_written default waits.All = map Some every_queue
queues_written default (waits.Listed vs) = map (queue_meant default) vs

-- the queues that a directive waits for
abbrev pub queues_named : Directive → List ℕ
queues_named d = flat_map option_to_list (queues_written d.default d.waits)

-- a value that names no queue
abbrev pub is_bad : Option ℕ → Bool
is_bad None = true
is_bad (Some q) = false

abbrev pub has_bad_queue : Directive → Bool
has_bad_queue d = is_bad (target_queue d.default d.target) || list_any is_bad (queues_written d.default d.waits)

-- its wait has more values than it may
abbrev pub waits_on_too_many : Waits → Bool
waits_on_too_many waits.Nothing = false
waits_on_too_many waits.All = false
waits_on_too_many (waits.Listed vs) = nat_lt MAX_WAITS (length vs)

abbrev pub or_sync : Option ℕ → ℕ
or_sync None = sync
or_sync (Some q) = q

-- The queue of a directive's batch; the end of a data construct is on queue sync.
abbrev pub queue_by : Kind → Directive → ℕ
queue_by kind.EndData d = sync
queue_by k d = or_sync (target_queue d.default d.target)

abbrev pub is_wait : Kind → Bool
is_wait kind.Wait = true
is_wait k = false

-- A `wait` directive that goes to a queue is for its awaits alone; one on queue sync holds its host back.
abbrev pub is_alone : Directive → Bool
is_alone d = is_wait d.kind && not (queue_by d.kind d == sync)
