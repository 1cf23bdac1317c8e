use Rattle.std.proofs.Common.{sym}
use Rattle.acc_memory.proofs.Marked.{made_put, none_marked}
use Rattle.acc_memory.proofs.makes.Makes.note.Goals as goal

pub put-requires : goal.put-requires
put-requires c =
    none_marked c.self.inside.all_to c.args.mark.block c.self.inside.others (rw (c.value.ensures, ← c.self.view_is) at (sym c.if-not-is_made.ensures))

pub returns-then-not-is_made : goal.returns-then-not-is_made
returns-then-not-is_made c block =
    rw (← c.self.view_is) (made_put c.self.inside.all_to c.args.mark c.self.inside.others c.put.new.self block c.put.ensures)
