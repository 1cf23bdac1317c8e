-- What is told of a queue: its close is apart.
use Rattle.std.specs.Prelude.{Bool, not, nat_lt, List, length}
use Rattle.std.specs.List.{filter}
use Rattle.acc_batch.specs.declared.label.Label.{Label}
use Rattle.acc_batch.specs.declared.label.OpLabel.{OpLabel}
use Rattle.acc_place.specs.Sound.{is_close}

-- operations, but for closes
abbrev pub plain_ops : List OpLabel → List OpLabel
plain_ops ops = filter (λ op. not (is_close op)) ops

-- a batch has another operation than a close
abbrev pub has_plain_ops : Label → Bool
has_plain_ops l = nat_lt 0 (length (plain_ops l.ops))

abbrev pub plain_batches : List Label → List Label
plain_batches labels = filter has_plain_ops labels
