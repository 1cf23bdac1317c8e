-- The answer to a directive, as a place holds it. Only a private contract and proofs cite it.
use Rattle.std.specs.Prelude.{◌≡◌, ◌<◌, replicate, false, Some, None}
use Rattle.acc_base.specs.Queues.{is_nothing}
use Rattle.acc_base.specs.declared.ids.TheConstants.{QUEUES}
use Rattle.acc_batch.specs.Counted.{one_count}
use Rattle.acc_place.specs.declared.answer.Form.{Form}
use Rattle.acc_place.specs.declared.answer.Form.TheVariants.{Plain, Batch, One, Whole}
use Rattle.acc_place.specs.declared.directive.Placed.{Placed}

abbrev pub placed_of : Form → Placed
placed_of (Plain present) = record { batch = None; counts = replicate QUEUES 0; present = present }
placed_of (Batch at number) = record { batch = Some (at, number); counts = replicate QUEUES 0; present = false }
placed_of (One queue count) = record { batch = None; counts = one_count queue count; present = false }
placed_of (Whole counts_nothing placed) = placed

-- What a form says of its counts is so.
abbrev pub IsForm : Form → Type 0
IsForm (Plain present) = Unit {0}
IsForm (Batch at number) = Unit {0}
IsForm (One queue count) = (queue < QUEUES) × (is_nothing (one_count queue count) ≡ false)
IsForm (Whole counts_nothing placed) = counts_nothing ≡ is_nothing placed.counts
