-- What the work lock holds, after each change.
use Rattle.std.proofs.Common.{Option, Some, None, ◌≡◌, ℕ, zero, suc, ◌*◌, ◌<◌, ◌≤◌, true, false, List, [], ◌∷◌, ◌++◌, length, refl, sym, ap, ◌∙◌, arith, inl, inr}
use Rattle.std.specs.Prelude.{All, IfErr, IfNone, IfSome, OnOk, Result, Ok, Err, ℤ, slice_index_or, slice_set}
use Rattle.std.proofs.lemmas.Bool.{cases_lt}
use Rattle.std.proofs.lemmas.List.{length-set}
use Rattle.acc_base.specs.declared.ids.QueueAt.{QueueAt}
use Rattle.acc_base.specs.declared.ids.TheConstants.{QUEUES}
use Rattle.acc_base.specs.declared.config.TheConstants.{MAX_CELLS}
use Rattle.acc_base.specs.Configurations.{Configuration}
use Rattle.acc_base.specs.Queues.{same_queue, seat}
use Rattle.acc_batch.specs.declared.label.Label.{Label}
use Rattle.acc_batch.specs.declared.label.OpLabel.{OpLabel}
use Rattle.acc_batch.specs.declared.label.OpLabel.TheVariants as op_label
use Rattle.acc_batch.proofs.Seats.{each_seat, seat_absent, seat_kept, seat_set, seat_there}
use Rattle.acc_queue.specs.Tied.{Line}
use Rattle.acc_queue.specs.Seen.{Raised}
use Rattle.acc_run.specs.WorkSides.{AreEnds, Goes, IsWorkSide, IsLine, WorkSideView, no_line, line_in, published_by, raised_by}
use Rattle.acc_work.specs.declared.work.Done.{Done}
use Rattle.acc_work.specs.declared.work.Done.TheVariants as done
use Rattle.acc_work.specs.Jobs.{JobView, Commits, HasStarted, StartsLoop, given_back, performed_now}
use Rattle.acc_work.specs.Lanes.{LaneView, IsFresh, lane_in, lanes_with, lane_with_batch, lane_with_left, lane_with_out, no_lane}
use Rattle.acc_work.specs.Works.{WorkView, HasPerformed, HasQueue, KeepsOrder, Performs, lane_at}
use Rattle.acc_work.proofs.KeptSteps.{has_advanced, has_waited}
use Rattle.acc_work.proofs.Lanes.{each_lane, fresh_lane}

-- a queue that is there has a seat among the lanes, and among the ends
pub seat_lane : (w : WorkView) (at : QueueAt) → KeepsOrder w → HasQueue w at → seat at < length w.lanes
seat_lane w at k h = omega (arith, h.0, h.1, k.count)

pub seat_line : (config : Configuration) (w : WorkView) (ends : List Line) (at : QueueAt) → IsWorkSide config w ends → KeepsOrder w → HasQueue w at → seat at < length ends
seat_line config w ends at s k h = omega (arith, h.0, h.1, k.count, s.count)

-- what stands behind the last
past_end : (ends : List Line) (n : ℕ) → length ends ≤ n → slice_index_or ends n no_line ≡ no_line
past_end [] n h = refl
past_end (l ∷ ends) zero h = absurd (omega (arith, h))
past_end (l ∷ ends) (suc n) h = past_end ends n (omega (arith, h))

-- ## A queue takes a batch

abbrev pub filled_with : WorkView → QueueAt → Label → WorkView
filled_with w at b = record w { lanes = lanes_with w.lanes at (lane_with_batch (lane_at w at) b) }

pub has_taken : (config : Configuration) (w w' : WorkView) (ends : List Line) (at : QueueAt) (b : Label) (new : Line) → IsWorkSide config w ends → KeepsOrder w → HasQueue w at
    → w' ≡ filled_with w at b → new.at ≡ (line_in ends at).at → new.labels ≡ (line_in ends at).labels ++ b ∷ [] → IsWorkSide config w' (slice_set ends (seat at) new)
has_taken config w w' ends at b new s k h is same_at more = record {
  each = each_seat (λ q l. IsLine w q l) (λ q l. IsLine w' q l) no_line ends at new h.1 (seat_line config w ends at s k h) s.each mine others;
  count = length-set ends (seat at) new ∙ (s.count ∙ (sym (length-set w.lanes (seat at) (lane_with_batch (lane_at w at) b)) ∙ ap (λ (v : WorkView). length v.lanes) (sym is)));
  limits = rw is s.limits;
  arrays = ap (λ (v : WorkView). v.arrays) is ∙ s.arrays;
  devices = ap (λ (v : WorkView). length v.memory.devices) is ∙ s.devices;
}
  where
    mine : IsLine w' at new
    mine = rw is (record {
      here = λ device queue. same_at ∙ (s.each at).here device queue;
      took = more ∙ (ap (λ r. r ++ b ∷ []) (s.each at).took ∙ sym (ap (λ (x : LaneView). x.taken) (seat_set no_lane w.lanes at (lane_with_batch (lane_at w at) b) h.1 (seat_lane w at k h))));
    })

    others : (q : QueueAt) → same_queue at q ≡ false → (l : Line) → IsLine w q l → IsLine w' q l
    others q differ l x = rw is (record {
      here = x.here;
      took = x.took ∙ sym (ap (λ (y : LaneView). y.taken) (seat_kept no_lane w.lanes at q (lane_with_batch (lane_at w at) b) h.1 differ));
    })

-- ## A lane changes, and what its queue took stays

lane_changed : (config : Configuration) (w w' : WorkView) (ends : List Line) (at : QueueAt) (lane : LaneView) → IsWorkSide config w ends → KeepsOrder w → HasQueue w at
    → length w'.memory.devices ≡ length w.memory.devices → w'.lanes ≡ lanes_with w.lanes at lane → w'.arrays ≡ w.arrays → lane.taken ≡ (lane_at w at).taken → IsWorkSide config w' ends
lane_changed config w w' ends at lane s k h devices lanes arrays same = record {
  each = λ q. (let x = s.each q in record {
    here = λ device queue. x.here (omega (arith, device, devices)) queue;
    took = x.took ∙ sym (taken q);
  });
  count = s.count ∙ (sym (length-set w.lanes (seat at) lane) ∙ ap length (sym lanes));
  limits = rw arrays s.limits;
  arrays = arrays ∙ s.arrays;
  devices = devices ∙ s.devices;
}
  where
    taken : (q : QueueAt) → (lane_at w' q).taken ≡ (lane_at w q).taken
    taken q = ap (λ ls. (lane_in ls q).taken) lanes
        ∙ each_lane (λ o x. x ≡ lane_in w.lanes o) (λ o x. x.taken ≡ (lane_in w.lanes o).taken) w.lanes at lane h.1 (seat_lane w at k h) (λ o. refl) same (λ o differ x e. ap (λ (y : LaneView). y.taken) e) q

-- ## A queue performs an operation

has_gone : (config : Configuration) (w w' : WorkView) (ends : List Line) (at : QueueAt) (op : OpLabel) (ops : List OpLabel) → IsWorkSide config w ends → KeepsOrder w → HasQueue w at → HasPerformed w w' at op ops → IsWorkSide config w' ends
has_gone config w w' ends at op ops s k h p = lane_changed config w w' ends at (lane_with_left (lane_at w at) ops) s k h p.memory.devices p.lanes p.opening refl

pub after_perform : (config : Configuration) (w w' : WorkView) (ends : List Line) (at : QueueAt) (answer : Done) → IsWorkSide config w ends → KeepsOrder w → HasQueue w at → Performs w at answer w' → IsWorkSide config w' ends
after_perform config w w' ends at done.Op s k h p = (let a = has_advanced w w' at p in has_gone config w w' ends at a.op a.ops s k h a.performed)
after_perform config w w' ends at done.Idle s k h p = rw (has_waited w w' at p).same s

-- what it did
pub goes_after : (old : WorkSideView) (w' : WorkView) (progress : Raised) (at : QueueAt) (answer : Done) → KeepsOrder old.work → HasQueue old.work at → Performs old.work at answer w'
    → progress ≡ published_by answer (lane_at w' at).left old.progress at → Goes old at answer (record old { work = w'; progress = progress })
goes_after old w' progress at done.Op k h p is =
    let a = has_advanced old.work w' at p in
    let now : (lane_at w' at).left ≡ a.ops = ap (λ ls. (lane_in ls at).left) a.performed.lanes ∙ ap (λ (x : LaneView). x.left) (seat_set no_lane old.work.lanes at (lane_with_left (lane_at old.work at) a.ops) h.1 (seat_lane old.work at k h)) in
    record { config = refl; op = a.op; ops = a.ops; left = a.left; can = a.can; performed = a.performed; lines = refl; progress = is ∙ ap (λ ops. raised_by ops old.progress at) now }
goes_after old w' progress at done.Idle k h p is =
    let x = has_waited old.work w' at p in
    record { same = ap (λ (w : WorkView). record old { work = w; progress = progress }) x.same ∙ ap (λ (r : Raised). record old { progress = r }) is; why = x.cannot }

-- ## A loop goes out, and comes back

pub after_start : (config : Configuration) (w w' : WorkView) (ends : List Line) (at : QueueAt) (job : JobView) → IsWorkSide config w ends → KeepsOrder w → HasQueue w at → HasStarted w w' at job → IsWorkSide config w' ends
after_start config w w' ends at job s k h started =
    let out = lane_with_out (lane_at w at) true in
    rw started.new_is (lane_changed config w (record w { lanes = lanes_with w.lanes at out }) ends at out s k h refl refl refl refl)

pub after_going_out : (r : Option JobView) (config : Configuration) (w w' : WorkView) (ends : List Line) (at : QueueAt) → IsWorkSide config w ends → KeepsOrder w → HasQueue w at
    → IfSome r (λ job. HasStarted w w' at job) → IfNone r ((w' ≡ w) × (StartsLoop w at → ⊥)) → IsWorkSide config w' ends
after_going_out None config w w' ends at s k h started none = rw none.0 s
after_going_out (Some job) config w w' ends at s k h started none = after_start config w w' ends at job s k h started

pub after_commit : (config : Configuration) (w w' : WorkView) (ends : List Line) (at : QueueAt) → IsWorkSide config w ends → KeepsOrder w → HasQueue w at → Commits w w' at → IsWorkSide config w' ends
after_commit config w w' ends at s k h (performed_now kernel uses ops left live p) = has_gone config w w' ends at (op_label.Run kernel uses) ops s k h p
after_commit config w w' ends at s k h (given_back gone same) =
    let back = lane_with_out (lane_at w at) false in
    rw same (lane_changed config w (record w { lanes = lanes_with w.lanes at back }) ends at back s k h refl refl refl refl)

pub after_job : {A B : Type 0} (r : Result A B) (Out : Type 0) (Same Kept Stray : B → Type 0) (config : Configuration) (w w' : WorkView) (ends : List Line) (at : QueueAt) → IsWorkSide config w ends → KeepsOrder w → HasQueue w at
    → OnOk r (Out × Commits w w' at) → IfErr r (λ b. Same b × (w' ≡ w) × Kept b × Stray b) → IsWorkSide config w' ends
after_job (Ok a) Out Same Kept Stray config w w' ends at s k h committed back = after_commit config w w' ends at s k h committed.1
after_job (Err b) Out Same Kept Stray config w w' ends at s k h committed back = rw back.1 s

pub on_both : {A B : Type 0} (r : Result A B) (P S Q : Type 0) → (P → S → Q) → OnOk r P → OnOk r S → OnOk r Q
on_both (Ok a) P S Q f h k = f h k
on_both (Err b) P S Q f h k = tt

-- ## The first of all

pub first_side : (config : Configuration) (w : WorkView) (ends : List Line) → All (λ (cells : List ℤ). (1 ≤ length cells) × (length cells ≤ MAX_CELLS)) config.arrays → w.arrays ≡ config.arrays → length w.memory.devices ≡ config.devices
    → All IsFresh w.lanes → length w.lanes ≡ length w.memory.devices * QUEUES → AreEnds config ends → IsWorkSide config w ends
first_side config w ends limits arrays devices fresh count e = record {
  each = each;
  count = e.count ∙ (ap (λ n. n * QUEUES) (sym devices) ∙ sym count);
  limits = rw arrays limits;
  arrays = arrays;
  devices = devices;
}
  where
    lane : (at : QueueAt) → (lane_at w at).taken ≡ []
    lane at = (fresh_lane w.lanes at fresh).taken

    each : (at : QueueAt) → IsLine w at (line_in ends at)
    each at = elim (cases_lt at.queue QUEUES) [
      | inl low ↦ elim (cases_lt at.device config.devices) [
        | inl device ↦ (let x = e.each at (device, low) in record { here = λ d q. x.0; took = x.2 ∙ sym (lane at) })
        | inr past ↦
            let none_there : line_in ends at ≡ no_line = seat_there no_line ends at low ∙ past_end ends (seat at) (omega (arith, past, e.count)) in
            record { here = λ d q. absurd (omega (arith, d, past, devices)); took = ap (λ (l : Line). l.labels) none_there ∙ sym (lane at) }
      ]
      | inr past ↦ record { here = λ d q. absurd (omega (arith, q, past)); took = ap (λ (l : Line). l.labels) (seat_absent no_line ends at past) ∙ sym (lane at) }
    ]
