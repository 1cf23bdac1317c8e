use Rattle.std.proofs.Common.{◌≡◌, false, ap, sym, ◌∙◌, arith}
use Rattle.std.specs.Prelude.{◌&&◌, is_some, nat_le, nat_lt}
use Rattle.std.proofs.lemmas.Bool.Decides.{nat_tests}
use Rattle.acc_memory.proofs.Found.{some_copied}
use Rattle.acc_memory.proofs.Marked.{made_past}
use Rattle.acc_memory.proofs.makes.Makes.is_made.Goals as goal
use Rattle.acc_memory.proofs.makes.Makes.is_made.Goals.{then-number-gt0, else-number-gt0}

pub returns-else-number-self : goal.returns-else-number-self
returns-else-number-self c =
    let past : (nat_lt 0 c.args.block && nat_le c.args.block c.self.inside.all_to) ≡ false =
    elim c.if-number-gt0.branch [ then-number-gt0 w ↦ grind (arith, nat_tests) | else-number-gt0 w ↦ grind (arith, nat_tests) ] in
    rw (← c.self.view_is)
    (c.is_some.ensures ∙ (some_copied c.get.result ∙ (ap is_some (rw c.number-number.ensures at c.get.ensures) ∙ sym (made_past c.self.inside.all_to c.args.block c.self.inside.others past))))
