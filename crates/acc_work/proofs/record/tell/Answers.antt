use Rattle.std.proofs.Common.{length, refl, ap, ◌∙◌, arith}
use Rattle.std.proofs.Math.Nat.{min-eq_left}
use Rattle.acc_memory.proofs.ShownValues.{shows_values}
use Rattle.acc_work.proofs.ToldItems.{length_from}
use Rattle.acc_work.proofs.record.tell.Goals as goal

pub of-requires : goal.of-requires
of-requires c =
    let room = rw c.in-Print.is at c.requires.room in
    let item = rw c.in-Print.is at c.requires.item in
    let all = rw (min-eq_left item.1) at room in
    let count = ap length c.host_cells.ensures ∙ length_from _ c.in-Print.range.lo c.in-Print.range.len in
    omega (arith, all, count)

pub returns-in-Print-clause-told : goal.returns-in-Print-clause-told
returns-in-Print-clause-told c =
    rw c.in-Print.is (c.set.new.self, refl, λ was shows. c.set.ensures ∙ (c.of.ensures ∙ (c.host_cells.ensures ∙ shows_values c.args.memory.now c.in-Print.range was shows)))
