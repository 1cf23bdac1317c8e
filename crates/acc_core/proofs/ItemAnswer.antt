-- An item of a host joins the log of an accelerator, and what the call is answered.
use Rattle.std.proofs.Common.{◌≡◌, ℕ, ◌<◌, Bool, true, false, cond, List, ◌∷◌, length, map, Option, Some, None, Result, Ok, Err, refl, sym, ap, subst, ◌∙◌, arith}
use Rattle.std.specs.Prelude.{not, nat_le, IfOk, IfErr, OnOk, OnErr}
use Rattle.std.proofs.lemmas.Bool.{leb-false, lt-leb}
use Rattle.acc_base.specs.declared.fault.Fault.{Fault}
use Rattle.acc_base.specs.declared.fault.Fault.TheVariants.{BadRange, TooMany}
use Rattle.acc_host.specs.Engines.{Call, Wait, Record, MayRecord, without_item}
use Rattle.acc_work.specs.declared.item.ItemLabel.{ItemLabel}
use Rattle.acc_work.specs.declared.item.Shown.{Shown}
use Rattle.acc_work.specs.declared.item.Shown.TheVariants as shown
use Rattle.acc_batch.specs.declared.entry.Told.{Told}
use Rattle.acc_batch.specs.declared.entry.Told.TheVariants as told
use Rattle.acc_work.specs.declared.log.TheConstants.{MAX_HOST_ITEMS}
use Rattle.acc_batch.specs.declared.entry.WorkEntry.{WorkEntry}
use Rattle.acc_batch.specs.declared.entry.WorkEntry.TheVariants as entry
use Rattle.acc_work.specs.Orders.{ShowsTruth}
use Rattle.acc_work.specs.Items.{has_cells, shown_by}
use Rattle.acc_work.specs.Logs.{all_items, all_done, value}
use Rattle.acc_core.specs.Machine.{State, labels_of, told_of, can_tell, item_answer, unless, wait_answer}
use Rattle.acc_core.specs.inner.Answers.{Makes}
use Rattle.acc_core.specs.inner.Queues.{QueueView, queue_in}
use Rattle.acc_core.specs.inner.Ties.{IsAccelerator, QueueIs, all_batches_left}
use Rattle.acc_work.specs.Lanes.{LaneView, lane_in}
use Rattle.acc_work.specs.Works.{WorkView, HasRecorded, HasTold, Tells, item_fault, taken_counts, taken_labels}
use Rattle.acc_work.specs.declared.item.ItemLabel.TheVariants as to_record
use Rattle.acc_core.proofs.BatchesDone.{all_done_taken}
use Rattle.acc_core.proofs.PerformOp.{KeepsWork, with_work}
use Rattle.acc_core.proofs.StepChanges.{tells_truth}
use Rattle.acc_core.proofs.LegalSteps.{legal_item}
use Rattle.acc_work.specs.Remembering.{Remembers}

-- an item that shows what is so joins the log
told_item : (w : State) (v v' : WorkView) (queues : List QueueView) (h : ℕ) (item : Told) → IsAccelerator w v queues → v.work ≡ w.work → HasTold v v' h item → all_items w.work < MAX_HOST_ITEMS
    → ShowsTruth w.config.arrays (labels_of w) item w.work → IsAccelerator (with_work w v') v' queues
told_item w v v' queues h item a same s few truth =
    let q = a.parts in
    let work : v'.work ≡ entry.Item h item ∷ w.work = s.work ∙ ap (λ r. entry.Item h item ∷ r) same in
    subst (λ work. IsAccelerator (record w { work = work }) v' queues) (sym work) (record {
      legal = legal_item w h item a.legal truth;
      few_items = omega (arith, few);
      parts = record {
        each = λ at. subst (λ lanes. QueueIs w.config (labels_of w) at (lane_in lanes at) (queue_in queues at)) (sym s.lanes) (q.each at);
        count = q.count;
        devices = ap length s.devices ∙ q.devices;
        filled = q.filled;
        hosts = q.hosts;
      };
      opening = s.opening ∙ a.opening;
    })

-- an item leaves the batches that were taken
taken_kept : (v v' : WorkView) (h : ℕ) (what : Told) → HasTold v v' h what → taken_counts v' ≡ taken_counts v
taken_kept v v' h what told = ap (λ lanes. map (λ (l : LaneView). length l.taken) lanes) told.lanes

-- an item other than a Seen can be told where its cells are there
cells_tell : (w : State) (item : ItemLabel) → MayRecord item → can_tell w item ≡ has_cells w.config.arrays item
cells_tell w (to_record.Write array cell new_value) may = refl
cells_tell w (to_record.Print range) may = refl
cells_tell w (to_record.Seen device counts) may = absurd may
cells_tell w (to_record.Test device counts) may = refl

-- What an item tells: a print the values of its cells, a test whether each queue has performed its count.
told_is : (w : State) (v : WorkView) (item : ItemLabel) (what : Told) → Remembers v.arrays v.work v.memory → v.arrays ≡ w.config.arrays → v.work ≡ w.work
    → ((device : ℕ) (counts : List ℕ) → all_done (taken_labels v) v.work device 0 counts ≡ all_done (labels_of w) w.work device 0 counts) → Tells v item what → what ≡ told_of w item
told_is w v (to_record.Write array cell new_value) what r opening same reached t = t
told_is w v (to_record.Print range) what r opening same reached t = t.1 ∙ ap (told.Print range) (t.2 (value w.config.arrays w.work) (rw (opening, same) at r.shows))
told_is w v (to_record.Seen device counts) what r opening same reached t = t
told_is w v (to_record.Test device counts) what r opening same reached t = t ∙ ap (λ answer. told.Test device answer counts) (reached device counts)

-- What recording an item of a host does to an accelerator.
record IsRecorded (w : State) (v v' : WorkView) (queues : List QueueView) (h : ℕ) (item : ItemLabel) (got : Shown) : Type 0 where
  pub answer : got ≡ shown_by (told_of w item)
  pub taken : taken_counts v' ≡ taken_counts v
  pub work : v'.work ≡ entry.Item h (told_of w item) ∷ w.work
  pub keeps : IsAccelerator (with_work w v') v' queues
  pub left : all_batches_left v'.lanes queues ≡ all_batches_left v.lanes queues

is_recorded : (w : State) (v v' : WorkView) (queues : List QueueView) (h : ℕ) (item : ItemLabel) (got : Shown) → IsAccelerator w v queues → KeepsWork v → v.work ≡ w.work → all_items w.work < MAX_HOST_ITEMS → can_tell w item ≡ true
    → HasRecorded v v' h item got → IsRecorded w v v' queues h item got
is_recorded w v v' queues h item got a k same few can r =
    let reached : (device : ℕ) (counts : List ℕ) → all_done (taken_labels v) v.work device 0 counts ≡ all_done (labels_of w) w.work device 0 counts = λ device counts. all_done_taken w v queues device 0 counts a.parts k.order same in
    let told : r.0 ≡ told_of w item = told_is w v item r.0 k.memory a.opening same reached r.1 in
    record {
      answer = r.2 ∙ ap shown_by told;
      taken = taken_kept v v' h r.0 r.3;
      work = r.3.work ∙ (ap (λ log. entry.Item h r.0 ∷ log) same ∙ ap (λ what. entry.Item h what ∷ w.work) told);
      keeps = told_item w v v' queues h r.0 a same r.3 few (rw told (tells_truth w item can));
      left = ap (λ lanes. all_batches_left lanes queues) r.3.lanes;
    }

-- ## What a call is answered

-- Where nothing but want of memory would be a fault, the cells are there, and the run may have one item more.
no_fault : (work : List WorkEntry) (there : Bool) → item_fault false work there ≡ None → (all_items work < MAX_HOST_ITEMS) × (there ≡ true)
no_fault work there none = by (nat_le MAX_HOST_ITEMS (all_items work)) refl there none
  where
    by : (full : Bool) → nat_le MAX_HOST_ITEMS (all_items work) ≡ full → (there : Bool) → cond full (Some TooMany) (cond (not there) (Some BadRange) None) ≡ None → (all_items work < MAX_HOST_ITEMS) × (there ≡ true)
    by true is there none = cc
    by false is true none = (leb-false MAX_HOST_ITEMS (all_items work) is, refl)
    by false is false none = cc

-- What a call of a host makes of an accelerator.
pub record IsAnswered (w : State) (v v' : WorkView) (queues : List QueueView) (h : ℕ) (call : Call) : Type 0 where
  pub makes : Makes w h call (with_work w v')
  pub taken : taken_counts v' ≡ taken_counts v
  pub keeps : IsAccelerator (with_work w v') v' queues
  pub left : all_batches_left v'.lanes queues ≡ all_batches_left v.lanes queues

-- one that changes nothing
unchanged : (w : State) (v v' : WorkView) (queues : List QueueView) (h : ℕ) (call : Call) → IsAccelerator w v queues → v.work ≡ w.work → v' ≡ v → Makes w h call w → IsAnswered w v v' queues h call
unchanged w v v' queues h call a same kept makes =
    subst (λ x. IsAnswered w v x queues h call) (sym kept) (record {
      makes = subst (λ work. Makes w h call (record w { work = work })) (sym same) makes;
      taken = refl;
      keeps = subst (λ work. IsAccelerator (record w { work = work }) v queues) (sym same) a;
      left = refl;
    })

pub item_answered : (w : State) (v v' : WorkView) (queues : List QueueView) (h : ℕ) (item : ItemLabel) (result : Result Shown (ItemLabel × Fault)) → IsAccelerator w v queues → KeepsWork v → v.work ≡ w.work → MayRecord item
    → IfOk result (λ got. HasRecorded v v' h item got) → OnOk result (item_fault false v.work (has_cells v.arrays item) ≡ None)
    → IfErr result (λ r. (lacks : Bool) × (item_fault lacks v.work (has_cells v.arrays item) ≡ Some r.1)) → OnErr result (v' ≡ v)
    → IsAnswered w v v' queues h (Record item (without_item result))
item_answered w v v' queues h item (Ok got) a k same may recorded free fault kept =
    let parts = no_fault v.work (has_cells v.arrays item) free in
    let few : all_items w.work < MAX_HOST_ITEMS = rw same at parts.0 in
    let can : can_tell w item ≡ true = cells_tell w item may ∙ (ap (λ arrays. has_cells arrays item) (sym a.opening) ∙ parts.1) in
    let none : nat_le MAX_HOST_ITEMS (all_items w.work) ≡ false = lt-leb MAX_HOST_ITEMS (all_items w.work) few in
    let r = is_recorded w v v' queues h item got a k same few can recorded in
    record {
      makes = (false, rw (none, can, r.answer) refl, ap (λ (work : List WorkEntry). record w { work = work }) r.work);
      taken = r.taken;
      keeps = r.keeps;
      left = r.left;
    }
item_answered w v v' queues h item (Err r) a k same may recorded free fault kept =
    let there : can_tell w item ≡ has_cells v.arrays item = cells_tell w item may ∙ ap (λ arrays. has_cells arrays item) (sym a.opening) in
    let is : item_fault fault.0 w.work (can_tell w item) ≡ Some r.1 =
    ap (λ b. item_fault fault.0 w.work b) there ∙ (ap (λ work. item_fault fault.0 work (has_cells v.arrays item)) (sym same) ∙ fault.1) in
    let answer : Err r.1 ≡ item_answer fault.0 w item = sym (ap (λ (o : Option Fault). unless o (shown_by (told_of w item))) is) in
    unchanged w v v' queues h (Record item (Err r.1)) a same kept (fault.0, answer, refl)

pub wait_answered : (w : State) (v v' : WorkView) (queues : List QueueView) (h device : ℕ) (counts : List ℕ) (result : Result Bool Fault) → IsAccelerator w v queues → KeepsWork v → v.work ≡ w.work
    → IfOk result (λ seen. seen ≡ all_done (taken_labels v) v.work device 0 counts)
    → (result ≡ Ok true → HasRecorded v v' h (to_record.Seen device counts) shown.Nothing) → (result ≡ Ok true → item_fault false v.work true ≡ None)
    → (result ≡ Ok false → v' ≡ v) → OnErr result (all_done (taken_labels v) v.work device 0 counts ≡ true)
    → IfErr result (λ f. (lacks : Bool) × (item_fault lacks v.work true ≡ Some f)) → OnErr result (v' ≡ v)
    → IsAnswered w v v' queues h (Wait device counts result)
wait_answered w v v' queues h device counts (Ok true) a k same answer seen free not_yet reached fault kept =
    let done : all_done (labels_of w) w.work device 0 counts ≡ true = sym (answer ∙ all_done_taken w v queues device 0 counts a.parts k.order same) in
    let few : all_items w.work < MAX_HOST_ITEMS = rw same at (no_fault v.work true (free refl)).0 in
    let none : nat_le MAX_HOST_ITEMS (all_items w.work) ≡ false = lt-leb MAX_HOST_ITEMS (all_items w.work) few in
    let r = is_recorded w v v' queues h (to_record.Seen device counts) shown.Nothing a k same few done (seen refl) in
    record {
      makes = (false, rw (done, none) refl, ap (λ (work : List WorkEntry). record w { work = work }) r.work);
      taken = r.taken;
      keeps = r.keeps;
      left = r.left;
    }
wait_answered w v v' queues h device counts (Ok false) a k same answer seen free not_yet reached fault kept =
    let early : all_done (labels_of w) w.work device 0 counts ≡ false = sym (answer ∙ all_done_taken w v queues device 0 counts a.parts k.order same) in
    unchanged w v v' queues h (Wait device counts (Ok false)) a same (not_yet refl) (false, rw early refl, refl)
wait_answered w v v' queues h device counts (Err f) a k same answer seen free not_yet reached fault kept =
    let done : all_done (labels_of w) w.work device 0 counts ≡ true = sym (all_done_taken w v queues device 0 counts a.parts k.order same) ∙ reached in
    let is : item_fault fault.0 w.work true ≡ Some f = ap (λ work. item_fault fault.0 work true) (sym same) ∙ fault.1 in
    let judged : wait_answer fault.0 w device counts ≡ unless (item_fault fault.0 w.work true) true = rw done refl in
    unchanged w v v' queues h (Wait device counts (Err f)) a same kept (fault.0, sym (judged ∙ ap (λ (o : Option Fault). unless o true) is), refl)
