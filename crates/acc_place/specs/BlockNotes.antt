-- The note of a block, found in the labels of a device: which batch made it, and which of each queue was the last that made or used it.
use Rattle.std.specs.Prelude.{ℕ, ◌&&◌, ◌==◌, List, map, Option, Some, None}
use Rattle.std.specs.List.{find}
use Rattle.acc_base.specs.Queues.{every_queue}
use Rattle.acc_batch.specs.declared.label.Label.{Label}
use Rattle.acc_batch.specs.Labels.{on_queue, makes_block, touches_block, last_number}
use Rattle.acc_present.specs.Notes.{Note}

-- the batch of a device that made a block
abbrev pub maker_in : ℕ → ℕ → List Label → Option Label
maker_in device b labels = find (λ (l : Label). (l.at.device == device) && makes_block b l) labels

abbrev pub queue_made : Option Label → ℕ
queue_made None = 0
queue_made (Some l) = l.at.queue

abbrev pub number_made : Option Label → ℕ
number_made None = 0
number_made (Some l) = l.number

-- the last batch of a queue that made or used it
abbrev pub last_use : ℕ → List Label → ℕ → ℕ → ℕ
last_use device labels b q = last_number (touches_block b) (on_queue (record { device = device; queue = q }) labels)

unfoldable pub note_of : ℕ → List Label → ℕ → Note
note_of device labels b =
    record {
      queue = queue_made (maker_in device b labels);
      number = number_made (maker_in device b labels);
      uses = map (last_use device labels b) every_queue;
    }
