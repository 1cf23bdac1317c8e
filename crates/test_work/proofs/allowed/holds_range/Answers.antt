use Rattle.acc_memory.specs.Memories.{row_with, rows_on}
use Rattle.test_work.proofs.Finding.{made_is}
use Rattle.test_work.proofs.allowed.holds_range.Goals as goal

pub returns-in-Some : goal.returns-in-Some
returns-in-Some c held = record {
  whole_range = c.in-Some.whole;
  held = made_is (rows_on c.args.memory.now 0) c.args.block (row_with c.args.block c.in-Some.whole c.in-Some.field-0-1.now) (rw c.new.ensures at c.in-Some.ensures);
  inside = c.contains.ensures.set.0 held;
}
