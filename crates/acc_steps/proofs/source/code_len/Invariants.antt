use Rattle.std.proofs.Common.{◌≡◌, ◌+◌, length}
use Rattle.acc_steps.specs.declared.source.Part.TheVariants.{Code}
use Rattle.acc_steps.specs.Lines.{code_len}
use Rattle.acc_steps.proofs.source.code_len.Given as goal

abbrev pub invariant-loop-rest : goal.invariant-loop-rest
invariant-loop-rest l = record {
  left : length l.line ≡ l.len + length l.rest;
  value : code_len Code l.line ≡ l.len + code_len l.part l.rest;
}

abbrev pub decreases-loop-rest : goal.decreases-loop-rest
decreases-loop-rest l = length l.rest
