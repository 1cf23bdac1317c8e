use Rattle.std.proofs.Common.{◌≡◌, codes, ◌∷◌, ◌++◌, take}
use Rattle.std.specs.List.{flat_map}
use Rattle.acc_batch.specs.declared.label.OpLabel.{OpLabel}
use Rattle.acc_report.specs.Puts.{Puts, sink}
use Rattle.acc_steps.specs.Lines.{op_word}
use Rattle.acc_steps.proofs.words.put_op_words.Given as goal

abbrev pub invariant-loop-op : goal.invariant-loop-op
invariant-loop-op g l =
    (first : OpLabel) × (l.ops ≡ first ∷ l.others)
    × Puts (sink (g.W.Write.contents l.fn.out) l.fn.failed) (sink (g.W.Write.contents l.out) l.failed)
    (op_word first ++ flat_map (λ p. codes ", " ++ op_word p) (take l.op-index l.others))
