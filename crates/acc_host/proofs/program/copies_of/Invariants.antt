use Rattle.std.proofs.Common.{◌≡◌, ◌≤◌, length, take}
use Rattle.std.specs.Prelude.{vec_capacity}
use Rattle.acc_host.proofs.program.copies_of.Given as goal

abbrev pub invariant-loop-program : goal.invariant-loop-program
invariant-loop-program l = record {
  copied : l.copies.items ≡ take l.program-index l.programs;
  room : length l.programs ≤ vec_capacity l.copies;
}
