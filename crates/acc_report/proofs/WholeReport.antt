-- The parts of a report, put one after the other, are the report of what a run leaves.
use Rattle.std.proofs.Common.{◌≡◌, ℕ, zero, suc, ◌<◌, List, ◌++◌, length, codes, refl, ap, subst, ◌∙◌, arith}
use Rattle.acc_base.specs.declared.ids.QueueAt.{QueueAt}
use Rattle.acc_base.specs.declared.ids.TheConstants.{QUEUES}
use Rattle.acc_batch.specs.Labels.{on_queue, ops_of}
use Rattle.acc_host.specs.declared.program.HostProgram.{HostProgram}
use Rattle.acc_report.specs.Totals.{plain_batches, plain_ops}
use Rattle.acc_report.specs.Lines.{each_below, totals_text}
use Rattle.acc_report.specs.Puts.{Puts, Sink}
use Rattle.acc_report.specs.Reports.{Left, device_text, nth_host_text, queue_text, queues_text, report, standing_left}
use Rattle.acc_report.specs.declared.counted.Counted.{Counted}
use Rattle.acc_report.specs.inner.Counting.{IsCounted}
use Rattle.acc_work.specs.Logs.{performed}
use Rattle.acc_base.specs.Queues.{seat}
use Rattle.std.specs.Prelude.{slice_index_or}
use Rattle.acc_report.specs.inner.Standing.{counted_queue_text, counted_text, present_text}
use Rattle.acc_report.proofs.JoinedPuts.{puts_then}

each_same : (n : ℕ) (f g : ℕ → List ℕ) → ((i : ℕ) → i < n → f i ≡ g i) → each_below n f ≡ each_below n g
each_same zero f g same = refl
each_same (suc n) f g same =
    ap (λ (t : List ℕ). t ++ f n) (each_same n f g (λ i low. same i (omega (arith, low)))) ∙ ap (λ (t : List ℕ). each_below n g ++ t) (same n (omega arith))

devices_same : (names : List (List ℕ)) (left : Left) (n : ℕ) → each_below n (present_text names (standing_left left)) ≡ each_below n (device_text names left)
unfolding present_text device_text
devices_same names left n = each_same n (present_text names (standing_left left)) (device_text names left) (λ i low. refl)

queue_same : (left : Left) (counted : Counted) (at : QueueAt) → IsCounted left counted → at.device < left.config.devices → at.queue < QUEUES → counted_queue_text (standing_left left) counted at ≡ queue_text left at
unfolding counted_queue_text queue_text
queue_same left counted at h device queue =
    let labels = on_queue at (standing_left left).labels in
    let text = totals_text at (length (plain_batches labels)) in
    let operations = length (plain_ops (ops_of labels)) in
    ap (λ n. text n operations (slice_index_or counted.discarded.items (seat at) 0)) (h.done.each at device queue) ∙ ap (text (length (plain_ops (performed at left.work))) operations) (h.gone.each at device queue)

queues_same : (left : Left) (counted : Counted) → IsCounted left counted → each_below left.config.devices (counted_text (standing_left left) counted) ≡ each_below left.config.devices (queues_text left)
unfolding counted_text queues_text
queues_same left counted h =
    each_same left.config.devices (counted_text (standing_left left) counted) (queues_text left)
    (λ d device. each_same QUEUES (λ q. counted_queue_text (standing_left left) counted (record { device = d; queue = q })) (λ q. queue_text left (record { device = d; queue = q }))
    (λ q queue. queue_same left counted (record { device = d; queue = q }) h device queue))

pub whole_report : {old a b c new : Sink} (names : List (List ℕ)) (programs : List HostProgram) (left : Left) (counted : Counted) → IsCounted left counted
    → Puts old a (each_below (length left.hosts) (nth_host_text left programs)) → Puts a b (each_below left.config.devices (present_text names (standing_left left)))
    → Puts b c (each_below left.config.devices (counted_text (standing_left left) counted)) → Puts c new (codes "end\n") → Puts old new (report names programs left)
unfolding report
whole_report {old} {a} {b} {c} {new} names programs left counted is_counted hosts present queues end =
    puts_then hosts (puts_then (subst (Puts a b) (devices_same names left left.config.devices) present) (puts_then (subst (Puts b c) (queues_same left counted is_counted) queues) end))
