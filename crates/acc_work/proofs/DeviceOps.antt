-- What a log has of a queue and of a device.
use Rattle.std.proofs.Common.{inl, inr, ◌≡◌, ℕ, Bool, true, false, List, [], ◌∷◌, ap}
use Rattle.std.specs.Prelude.{Contains, ◌==◌}
use Rattle.std.proofs.lemmas.Bool.{cases_Bool, eqb-true, eq-eqb}
use Rattle.std.proofs.lemmas.List.Elements.{Contains-append_left, Contains-push, Contains-push_cases}
use Rattle.acc_base.specs.declared.ids.QueueAt.{QueueAt}
use Rattle.acc_base.specs.Queues.{same_queue}
use Rattle.acc_base.proofs.Members.{no_member}
use Rattle.acc_base.proofs.SameQueue.{same_queue_is, same_queue_itself}
use Rattle.acc_batch.specs.declared.label.OpLabel.{OpLabel}
use Rattle.acc_batch.specs.declared.entry.WorkEntry.{WorkEntry}
use Rattle.acc_batch.specs.declared.entry.WorkEntry.TheVariants as entry
use Rattle.acc_work.specs.Logs.{one_more, performed, device_ops}

more_member : (b : Bool) (ops : List OpLabel) (o op : OpLabel) → Contains ops op → Contains (one_more b ops o) op
more_member true ops o op h = Contains-append_left ops (o ∷ []) op h
more_member false ops o op h = h

-- An operation of a device was performed by one of its queues.
pub record ByQueue (device : ℕ) (work : List WorkEntry) (op : OpLabel) : Type 0 where
  pub at : QueueAt
  pub of_device : at.device ≡ device
  pub member : Contains (performed at work) op

pub by_queue : (device : ℕ) (work : List WorkEntry) (op : OpLabel) → Contains (device_ops device work) op → ByQueue device work op
by_queue device [] op h = absurd (no_member op h)
by_queue device (entry.Op at o ∷ before) op h = elim (cases_Bool (at.device == device)) [
  | inl here ↦ elim (Contains-push_cases (device_ops device before) o op (rw here at h)) [
    | inl old ↦ (let f = by_queue device before op old in record { at = f.at; of_device = f.of_device; member = more_member (same_queue at f.at) (performed f.at before) o op f.member })
    | inr same ↦ record { at = at; of_device = eqb-true at.device device here; member = rw (same_queue_itself at, ← same) (Contains-push (performed at before) o) }
  ]
  | inr other ↦ (let f = by_queue device before op (rw other at h) in record { at = f.at; of_device = f.of_device; member = more_member (same_queue at f.at) (performed f.at before) o op f.member })
]
by_queue device (entry.Item host s ∷ before) op h = (let f = by_queue device before op h in record { at = f.at; of_device = f.of_device; member = f.member })

-- what a queue performed its device did
pub by_device : (at : QueueAt) (work : List WorkEntry) (op : OpLabel) → Contains (performed at work) op → Contains (device_ops at.device work) op
by_device at [] op h = absurd (no_member op h)
by_device at (entry.Op q o ∷ before) op h = elim (cases_Bool (same_queue q at)) [
  | inl same ↦ elim (Contains-push_cases (performed at before) o op (rw same at h)) [
    | inl old ↦ more_member (q.device == at.device) (device_ops at.device before) o op (by_device at before op old)
    | inr e ↦
        let here : (q.device == at.device) ≡ true = eq-eqb q.device at.device (ap (λ (z : QueueAt). z.device) (same_queue_is q at same)) in
        rw (here, ← e) (Contains-push (device_ops at.device before) o)
  ]
  | inr differ ↦ more_member (q.device == at.device) (device_ops at.device before) o op (by_device at before op (rw differ at h))
]
by_device at (entry.Item host s ∷ before) op h = by_device at before op h
