use Rattle.std.proofs.Common.{◌≡◌, ◌≤◌, length, take}
use Rattle.std.specs.Prelude.{vec_capacity}
use Rattle.acc_host.proofs.program.HostProgram.try_clone.Given as goal

abbrev pub invariant-loop-statement : goal.invariant-loop-statement
invariant-loop-statement l = record {
  made : l.statements.items ≡ take l.statement-index l.self.statements;
  room : length l.self.statements ≤ vec_capacity l.statements;
}
