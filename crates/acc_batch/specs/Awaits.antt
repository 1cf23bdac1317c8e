-- Which batches of the other queues of a device a batch awaits, and how labels stand that do so (OpenACC API 3.0, 2.16,
-- Asynchronous Behavior).
use Rattle.std.specs.Prelude.{◌≡◌, ℕ, ◌+◌, ◌<◌, ◌≤◌, Bool, true, false, ◌==◌, ◌||◌, max, List, [], ◌∷◌, ◌++◌, length, map, All, Contains, if◌then◌else◌}
use Rattle.std.specs.List.{flat_map}
use Rattle.acc_base.specs.declared.ids.QueueAt.{QueueAt}
use Rattle.acc_base.specs.declared.ids.TheConstants.{QUEUES}
use Rattle.acc_base.specs.Queues.{every_queue}
use Rattle.acc_batch.specs.declared.label.OpLabel.{OpLabel}
use Rattle.acc_batch.specs.declared.label.OpLabel.TheVariants.{Await, Close}
use Rattle.acc_batch.specs.declared.label.Label.{Label}
use Rattle.acc_batch.specs.Labels.{on_queue, made_blocks, used_blocks, released_blocks, has_number, makes_block, touches_block, greatest, last_number}

-- The last of a queue's batches that is awaited, by its number: all of them where the queue is named; those that made what
-- is used; those that made or used what is released.
abbrev pub awaited_number : Bool → List Label → List ℕ → List ℕ → ℕ
awaited_number named labels used released =
    max (if named then length labels else 0)
    (max (greatest (map (λ b. last_number (makes_block b) labels) used)) (greatest (map (λ b. last_number (touches_block b) labels) released)))

-- none of the batch's own queue
abbrev pub await_of : ℕ → ℕ → ℕ → List OpLabel
await_of own q n = if (q == own) || (n == 0) then [] else Await q n ∷ []

abbrev pub number_awaited : List ℕ → QueueAt → List Label → List ℕ → List ℕ → ℕ → ℕ
number_awaited named own labels used released q =
    awaited_number (has_number named q) (on_queue (record { device = own.device; queue = q }) labels) used released

abbrev pub awaits : List ℕ → QueueAt → List Label → List ℕ → List ℕ → List OpLabel
awaits named own labels used released = flat_map (λ q. await_of own.queue q (number_awaited named own labels used released q)) every_queue

-- awaits with nothing behind them are a batch of a `wait` directive alone
abbrev pub with_awaits : Bool → List OpLabel → List OpLabel → List OpLabel
with_awaits alone before [] = if alone then before else []
with_awaits alone before (op ∷ ops) = before ++ op ∷ ops

-- These operations, behind what a batch of them on a queue awaits.
abbrev pub behind_awaits : Bool → List ℕ → QueueAt → List Label → List OpLabel → List OpLabel
behind_awaits alone named own labels ops =
    with_awaits alone (awaits named own labels (flat_map used_blocks ops) (flat_map released_blocks ops)) ops

-- The awaits of a batch stand before its other operations.
abbrev pub is_await : OpLabel → Bool
is_await (Await q n) = true
is_await op = false

pub record AwaitsFirst (ops : List OpLabel) : Type 0 where
  pub first : List OpLabel
  pub second : List OpLabel
  pub split : ops ≡ first ++ second
  pub all_await : All (λ op. is_await op ≡ true) first
  pub none_awaits : All (λ op. is_await op ≡ false) second

-- One batch needs an earlier one for a block: it uses what that one made, or releases what that one made or used.
pub data Needs (l m : Label) (b : ℕ) : Type 0 where
  uses_made : Contains (flat_map used_blocks l.ops) b → Contains (flat_map made_blocks m.ops) b → Needs l m b
  releases_made : Contains (flat_map released_blocks l.ops) b → Contains (flat_map made_blocks m.ops) b → Needs l m b
  releases_used : Contains (flat_map released_blocks l.ops) b → Contains (flat_map used_blocks m.ops) b → Needs l m b

-- It stands behind it: on the same queue, or it awaits it.
pub data StandsBehind (l m : Label) : Type 0 where
  one_queue : m.at ≡ l.at → StandsBehind l m
  awaited : (n : ℕ) → m.number ≤ n → Contains l.ops (Await m.at.queue n) → StandsBehind l m

-- A label among those before it, on whatever device and queue.
pub record IsOrdered (before : List Label) (l : Label) : Type 0 where
  pub numbered : l.number ≡ length (on_queue l.at before) + 1
  pub awaits_first : AwaitsFirst l.ops
  pub awaits_placed : (q n : ℕ) → Contains l.ops (Await q n) → n ≤ length (on_queue (record { device = l.at.device; queue = q }) before)
  pub behind : (m : Label) (b : ℕ) → Contains before m → m.at.device ≡ l.at.device → Needs l m b → StandsBehind l m

-- Labels in the order of placing, behind these.
abbrev pub AllOrdered : List Label → List Label → Type 0
AllOrdered before [] = Unit {0}
AllOrdered before (l ∷ ls) = IsOrdered before l × AllOrdered (before ++ l ∷ []) ls

-- The label of a batch of these operations, on a queue behind these labels.
abbrev pub label_behind : Bool → List ℕ → QueueAt → List Label → ℕ → ℕ → List OpLabel → Label
label_behind alone named own labels host items_done ops =
    record { at = own; number = length (on_queue own labels) + 1; host = host; items_done = items_done; ops = behind_awaits alone named own labels ops }

-- The label of a queue's close, behind these labels: of no directive, and placed last on its queue.
abbrev pub close_label : QueueAt → List Label → Label
close_label at labels = record { at = at; number = length (on_queue at labels) + 1; host = 0; items_done = 0; ops = Close ∷ [] }

-- each is numbered from 1, on a queue of a device
abbrev pub AreNumberedLabels : List Label → Type 0
AreNumberedLabels labels = (m : Label) → Contains labels m → (0 < m.number) × (m.at.queue < QUEUES)

-- A batch behind its awaits stands behind every batch that it needs, whichever queues are named beside them.
abbrev pub BatchesAreOrdered : Type 0
BatchesAreOrdered =
    (alone : Bool) (named : List ℕ) (own : QueueAt) (labels : List Label) (host items_done : ℕ) (ops : List OpLabel)
    → AreNumberedLabels labels → AllOrdered [] labels → All (λ op. is_await op ≡ false) ops
    → IsOrdered labels (label_behind alone named own labels host items_done ops)

-- So does the close of a queue, behind whatever was placed.
abbrev pub ClosesAreOrdered : Type 0
ClosesAreOrdered = (at : QueueAt) (labels : List Label) → IsOrdered labels (close_label at labels)
