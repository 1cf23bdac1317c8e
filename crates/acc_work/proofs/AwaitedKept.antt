-- What is awaited stays performed where an operation is performed.
use Rattle.std.proofs.Common.{◌≡◌, ℕ, true, List, ◌∷◌}
use Rattle.std.proofs.lemmas.Bool.{leb-true}
use Rattle.std.proofs.lemmas.List.Elements.{All-push}
use Rattle.acc_base.specs.declared.ids.QueueAt.{QueueAt}
use Rattle.acc_batch.specs.declared.label.Label.{Label}
use Rattle.acc_batch.specs.declared.label.OpLabel.{OpLabel}
use Rattle.acc_batch.specs.declared.label.OpLabel.TheVariants.{Make, CopyIn, CopyOut, Release, Run, Await, Close}
use Rattle.acc_batch.specs.declared.entry.WorkEntry.{WorkEntry}
use Rattle.acc_batch.specs.declared.entry.WorkEntry.TheVariants as entry
use Rattle.acc_work.specs.Logs.{performed, batches_done, await_allows}
use Rattle.acc_work.specs.Orders.{IsReached, AllAwaited}
use Rattle.acc_work.proofs.AwaitsReached.{reached_now}

-- an operation that the test allows has what it awaits performed
allowed_reached : (labels : List Label) (work : List WorkEntry) (device : ℕ) (op : OpLabel) → await_allows labels work device op ≡ true → IsReached labels work device op
allowed_reached labels work device (Await q n) h = leb-true n (batches_done labels work (record { device = device; queue = q })) h
allowed_reached labels work device (Make r b) h = tt
allowed_reached labels work device (CopyIn r b) h = tt
allowed_reached labels work device (CopyOut r b) h = tt
allowed_reached labels work device (Release b) h = tt
allowed_reached labels work device (Run k uses) h = tt
allowed_reached labels work device Close h = tt

-- one more operation that the test allows
pub awaited_performed : (labels : List Label) (work : List WorkEntry) (at : QueueAt) (op : OpLabel) → AllAwaited labels work → await_allows labels work at.device op ≡ true → AllAwaited labels (entry.Op at op ∷ work)
awaited_performed labels work at op h allowed =
    (All-push (IsReached labels work at.device) (performed at work) op (reached_now labels work h at) (allowed_reached labels work at.device op allowed), h)
