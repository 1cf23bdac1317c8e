use Rattle.std.proofs.Common.{sym, ◌∙◌, arith}
use Rattle.acc_host.proofs.OwnRead.{next_gave, next_had}
use Rattle.acc_host.proofs.own_entries.OwnEntries.next.Goals as goal
use Rattle.acc_host.proofs.own_entries.OwnEntries.next.Goals.{in-Gave, in-Had}

pub returns : goal.returns
returns c =
    let s = c.self.inside in
    elim c.match-first.branch [
      | in-Gave w ↦
          rw (w.in-Gave.is, w.self-is)
          (sym c.self.view_is ∙ next_gave s.gone s.directive w.in-Gave.own s.directives _ _ s.item s.items (rw w.in-Gave.is at c.in-Some.ensures) w.next-self-inside.ensures)
      | in-Had w ↦
          rw (w.in-Had.is, w.self-is)
          (sym c.self.view_is
          ∙ next_had s.gone w.saturating_add-self-inside.result s.directive s.directives s.item w.in-Had.what s.items _ _ (rw w.in-Had.is at c.in-Some.ensures)
          (λ room. omega (arith, room, w.saturating_add-self-inside.ensures)) w.next-self-inside-in-Had.ensures)
    ]
