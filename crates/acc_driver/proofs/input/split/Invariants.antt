use Rattle.std.proofs.Common.{◌≤◌, length}
use Rattle.acc_driver.proofs.SplitText.{LineBegins}
use Rattle.acc_driver.proofs.input.split.Given as goal

abbrev pub invariant-loop : goal.invariant-loop
invariant-loop l = record {
  begins : LineBegins l.text l.start;
  far : l.counter ≤ l.start;
  within : l.start ≤ length l.text;
}
