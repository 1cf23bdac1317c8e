use Rattle.std.proofs.Common.{Err}
use Rattle.acc_driver.specs.Replays.{driver_fault}
use Rattle.acc_cases.proofs.case.replayed.Goals as goal

pub returns-in-Ok-line_of : goal.returns-in-Ok-line_of
returns-in-Ok-line_of c = record {
  came = record {
    answer = Err (driver_fault c.in-Err.fault);
    written = _;
    answers = rw c.new-written.ensures.items at c.in-Err.ensures.answers;
    from = c.in-Ok-line_of.ensures;
  };
  fault = tt {0};
}
