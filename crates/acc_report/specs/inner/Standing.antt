-- The lines of what is present and of the queues, by a standing and by counts. Only private contracts and proofs cite it.
use Rattle.std.specs.Prelude.{ℕ, List, length, slice_index_or}
use Rattle.std.specs.List.{flat_map}
use Rattle.acc_base.specs.declared.ids.QueueAt.{QueueAt}
use Rattle.acc_base.specs.declared.ids.TheConstants.{QUEUES}
use Rattle.acc_base.specs.Queues.{seat}
use Rattle.acc_batch.specs.Labels.{on_queue, ops_of}
use Rattle.acc_place.specs.Standings.{Standing}
use Rattle.acc_report.specs.Totals.{plain_batches, plain_ops}
use Rattle.acc_report.specs.declared.counted.Counted.{Counted}
use Rattle.acc_present.specs.Presences.{presences}
use Rattle.acc_report.specs.Lines.{each_below, presence_text, totals_text}

unfoldable pub present_text : List (List ℕ) → Standing → ℕ → List ℕ
present_text names st device = flat_map (presence_text names device) (presences (st.marks device))

unfoldable pub counted_queue_text : Standing → Counted → QueueAt → List ℕ
counted_queue_text st counted at =
    let labels = on_queue at st.labels in
    totals_text at (length (plain_batches labels)) (slice_index_or counted.performed.items (seat at) 0) (length (plain_ops (ops_of labels))) (slice_index_or counted.discarded.items (seat at) 0)

unfoldable pub counted_text : Standing → Counted → ℕ → List ℕ
counted_text st counted device = each_below QUEUES (λ q. counted_queue_text st counted (record { device = device; queue = q }))
