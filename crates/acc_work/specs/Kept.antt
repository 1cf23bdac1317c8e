-- What every work log keeps against the labels of its batches (OpenACC API 3.0, 2.16, Asynchronous Behavior).
use Rattle.std.specs.Prelude.{◌≡◌, ◌<◌, ℤ, List, ◌++◌, length, All}
use Rattle.acc_base.specs.declared.ids.QueueAt.{QueueAt}
use Rattle.acc_batch.specs.declared.label.Label.{Label}
use Rattle.acc_batch.specs.Labels.{on_queue}
use Rattle.acc_batch.specs.declared.entry.WorkEntry.{WorkEntry}
use Rattle.acc_work.specs.Lives.{AllLive}
use Rattle.acc_work.specs.Orders.{InOrder, InHostOrder, AllAwaited}

-- What a queue performed is a prefix of its batches, each operation stands behind all that it awaits and behind its host's
-- items, each item shows what is so, and blocks are live where they are used.
pub record IsKept (arrays : List (List ℤ)) (labels : List Label) (work : List WorkEntry) : Type 0 where
  pub prefix : InOrder labels work
  pub awaited : AllAwaited labels work
  pub host_order : InHostOrder arrays labels work
  pub live_blocks : AllLive arrays work

-- More labels behind those of a queue, each with an operation.
pub record Extended (old new : List Label) : Type 0 where
  pub more : List Label
  pub is : new ≡ old ++ more
  pub filled : All (λ (l : Label). 0 < length l.ops) more

-- Each queue has its labels, and maybe more behind them.
abbrev pub Extends : List Label → List Label → Type 0
Extends old new = (at : QueueAt) → Extended (on_queue at old) (on_queue at new)
