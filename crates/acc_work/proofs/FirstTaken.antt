-- Labels against those that a queue took.
use Rattle.std.proofs.Common.{◌≡◌, List, ◌++◌, length, drop}
use Rattle.acc_batch.specs.declared.label.Label.{Label}

-- the labels that were taken stand first among these
abbrev pub BeginsWith : List Label → List Label → Type 0
BeginsWith taken labels = labels ≡ taken ++ drop (length taken) labels
