use Rattle.std.proofs.Common.{◌≡◌, take}
use Rattle.acc_report.specs.Puts.{sink}
use Rattle.acc_steps.specs.Lines.{words_told}
use Rattle.acc_steps.specs.Walks.{TellsSteps}
use Rattle.acc_steps.proofs.walk.tell_steps.Given as goal

abbrev pub invariant-loop-next : goal.invariant-loop-next
invariant-loop-next g l = record {
  number : l.number ≡ l.next-index;
  told : TellsSteps (words_told l.telling) (take l.next-index l.events) l.fn.world l.world
      (sink (g.W.Write.contents l.fn.out) l.fn.failed) (sink (g.W.Write.contents l.out) l.failed);
}
