-- A loop that is out stays due.
use Rattle.std.proofs.Common.{inl, inr, ◌≡◌, ℕ, ◌+◌, ◌<◌, true, false, List, ◌∷◌, length, sym, ◌∙◌, arith, Option, Some, None}
use Rattle.std.specs.Prelude.{IsTrue, ◌==◌}
use Rattle.std.proofs.lemmas.Bool.{cases_Bool, leb-true, le-leb}
use Rattle.acc_base.specs.declared.ids.QueueAt.{QueueAt}
use Rattle.acc_base.specs.declared.ids.TheConstants.{QUEUES}
use Rattle.acc_base.specs.Queues.{seat}
use Rattle.acc_batch.specs.declared.label.Label.{Label}
use Rattle.acc_batch.specs.declared.label.OpLabel.{OpLabel}
use Rattle.acc_batch.specs.declared.entry.Told.{Told}
use Rattle.acc_batch.specs.declared.entry.WorkEntry.{WorkEntry}
use Rattle.acc_batch.specs.declared.entry.WorkEntry.TheVariants as entry
use Rattle.acc_work.specs.Lanes.{LaneView, lane_in, lanes_with, last_of}
use Rattle.acc_work.specs.Logs.{host_allows, items_of}
use Rattle.acc_work.specs.Works.{OutIsDue}
use Rattle.acc_work.proofs.Lanes.{each_lane}

-- what a host has before a batch it has after another entry too
pub allows_performed : (last : Option Label) (at : QueueAt) (op : OpLabel) (work : List WorkEntry) → IsTrue (host_allows last work) → IsTrue (host_allows last (entry.Op at op ∷ work))
allows_performed None at op work h = h
allows_performed (Some l) at op work h = h

pub allows_told : (last : Option Label) (host : ℕ) (what : Told) (work : List WorkEntry) → IsTrue (host_allows last work) → IsTrue (host_allows last (entry.Item host what ∷ work))
allows_told None host what work h = h
allows_told (Some l) host what work h = elim (cases_Bool (host == l.host)) [
  | inl same ↦ rw same (le-leb l.items_done (items_of l.host work + 1) (let low = leb-true l.items_done (items_of l.host work) h in omega (arith, low)))
  | inr other ↦ rw other h
]

-- nothing of a lane is out
pub not_out : (work : List WorkEntry) (lane : LaneView) → lane.out ≡ false → OutIsDue work lane
not_out work lane in_place out = absurd (let no : false ≡ true = sym in_place ∙ out in cc)

-- One lane is set, and the log grows.
pub due_with : (work work' : List WorkEntry) (lanes : List LaneView) (at : QueueAt) (new : LaneView) → at.queue < QUEUES → seat at < length lanes → ((other : QueueAt) → OutIsDue work (lane_in lanes other)) → OutIsDue work' new
    → ((last : Option Label) → IsTrue (host_allows last work) → IsTrue (host_allows last work')) → (other : QueueAt) → OutIsDue work' (lane_in (lanes_with lanes at new) other)
due_with work work' lanes at new low there all own grows =
    each_lane (λ other lane. OutIsDue work lane) (λ other lane. OutIsDue work' lane) lanes at new low there all own (λ other differ lane h out. grows (last_of lane.taken) (h out))
