use Rattle.std.proofs.Common.{◌≡◌, ◌+◌, None, refl, ◌∙◌, arith}
use Rattle.acc_memory.specs.inner.Marks.{block_of}
use Rattle.acc_memory.proofs.ByNumber.{set_at}
use Rattle.acc_memory.proofs.Marked.{made_kept, made_risen}
use Rattle.acc_memory.proofs.makes.risen.Goals as goal

pub returns-then-not-remove-clause-made : goal.returns-then-not-remove-clause-made
returns-then-not-remove-clause-made c block =
    made_kept c.loop-next.all_to c.in-Some.next c.loop-next.marks c.remove.new.self block c.if-not-remove.ensures.there c.remove.ensures.gone ∙ c.loop-next.invariant block

pub returns-then-not-remove-clause-all : goal.returns-then-not-remove-clause-all
returns-then-not-remove-clause-all c low =
    let next : c.in-Some.next ≡ c.loop-next.all_to + 1 = omega (arith, c.in-Some.ensures) in
    rw (← next) (set_at block_of c.in-Some.next c.in-Some.next None c.loop-next.marks c.remove.new.self c.remove.ensures.gone refl)

pub loop-next-preserved : goal.loop-next-preserved
loop-next-preserved c block =
    let next : c.in-Some.next ≡ c.loop-next.all_to + 1 = omega (arith, c.in-Some.ensures) in
    made_risen c.loop-next.all_to c.in-Some.next c.loop-next.marks c.remove.new.self block next c.if-not-remove.ensures.there c.remove.ensures.gone ∙ c.loop-next.invariant block
