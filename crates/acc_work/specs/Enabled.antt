-- When queues can go on: where labels are in order and hosts have their items, some queue can, as long as something is left.
use Rattle.std.specs.Prelude.{◌≡◌, ℕ, ◌-◌, ◌≤◌, Bool, true, false, ◌&&◌, ◌||◌, nat_lt, List, [], ◌∷◌, length, take, drop, All, Option}
use Rattle.std.specs.List.{list_any}
use Rattle.acc_base.specs.declared.ids.QueueAt.{QueueAt}
use Rattle.acc_batch.specs.declared.label.Label.{Label}
use Rattle.acc_batch.specs.declared.label.OpLabel.{OpLabel}
use Rattle.acc_batch.specs.Awaits.{AllOrdered}
use Rattle.acc_batch.specs.Labels.{on_queue, ops_of, batch_at}
use Rattle.acc_batch.specs.declared.entry.WorkEntry.{WorkEntry}
use Rattle.acc_work.specs.Logs.{performed, items_of, await_allows, host_allows}

-- the batches of a queue that were placed and not taken, where it took so many
abbrev pub held_of : List Label → ℕ → QueueAt → ℕ
held_of labels taken at = length (on_queue at labels) - taken

-- what it took and didn't perform
abbrev pub rest_of : List Label → List WorkEntry → ℕ → QueueAt → List OpLabel
rest_of labels work taken at = drop (length (performed at work)) (ops_of (take taken (on_queue at labels)))

-- the batch of the queue's next operation
abbrev pub next_label : List Label → List WorkEntry → QueueAt → Option Label
next_label labels work at = batch_at (on_queue at labels) (length (performed at work))

-- a batch can be taken where nothing is left of those before it
abbrev pub can_take : ℕ → List OpLabel → Bool
can_take held [] = nat_lt 0 held
can_take held (op ∷ ops) = false

-- an operation can be performed where it comes next, what it awaits is performed, and its host has the items before its batch
abbrev pub can_perform_next : List Label → List WorkEntry → QueueAt → List OpLabel → Bool
can_perform_next labels work at [] = false
can_perform_next labels work at (op ∷ ops) = await_allows labels work at.device op && host_allows (next_label labels work at) work

abbrev pub enabled_by : List Label → List WorkEntry → ℕ → QueueAt → List OpLabel → Bool
enabled_by labels work held at rest = can_take held rest || can_perform_next labels work at rest

-- A queue can take a batch, or perform an operation.
abbrev pub enabled : List Label → List WorkEntry → ℕ → QueueAt → Bool
enabled labels work taken at = enabled_by labels work (held_of labels taken at) at (rest_of labels work taken at)

-- an operation was placed on the queue and isn't performed
abbrev pub has_left : List Label → List WorkEntry → QueueAt → Bool
has_left labels work at = nat_lt (length (performed at work)) (length (ops_of (on_queue at labels)))

-- An operation was placed and isn't performed.
abbrev pub any_left : List Label → List WorkEntry → Bool
any_left labels work = list_any (λ (l : Label). has_left labels work l.at) labels

-- the queue of some batch can go on
abbrev pub any_enabled : List Label → List WorkEntry → (QueueAt → ℕ) → Bool
any_enabled labels work taken = list_any (λ (l : Label). enabled labels work (taken l.at) l.at) labels

-- Each batch's host has the items that it had at the batch's directive.
abbrev pub HaveItems : List Label → List WorkEntry → Type 0
HaveItems labels work = All (λ (l : Label). l.items_done ≤ items_of l.host work) labels

-- Where an operation was placed and isn't performed, the queue of some batch can go on, whatever the queues took and performed.
abbrev pub NeverStuck : Type 0
NeverStuck =
    (labels : List Label) (work : List WorkEntry) (taken : QueueAt → ℕ)
    → AllOrdered [] labels → HaveItems labels work → any_left labels work ≡ true → any_enabled labels work taken ≡ true
