use Rattle.acc_work.specs.contracts.work.Work.{the_view}
use Rattle.acc_work.proofs.KeptSteps.{tells_so}
use Rattle.acc_work.proofs.ToldItems.{told_with, tells_it}
use Rattle.acc_work.proofs.WorkSteps.{work_told}
use Rattle.acc_work.proofs.work.Work.record.Goals as goal

pub invariant_of-self-2 : goal.invariant_of-self-2
invariant_of-self-2 c =
    let w = the_view c.self.inside in
    let claimed = c.claim_one.ensures.claimed c.if-not-claim_one.false in
    let what = c.tell-what.result in
    let can = rw (← c.self.view_is) at c.requires.item in
    let told = rw (c.answer_to-answer.ensures, ← c.self.view_is, c.item.view_is) at c.tell-what.ensures.told in
    let truth = tells_so w.arrays w c.args.item what c.self.invariant.memory can (tells_it w c.args.item what told) in
    let h = told_with w c.tell-what.new.memory c.args.host what c.tell-what.ensures.memory in
    rw (c.push_item.ensures, claimed.work) (work_told w _ c.args.host what c.claim_one.new.self.free c.claim_one.new.self.unclaimed c.self.invariant h truth claimed.room)
