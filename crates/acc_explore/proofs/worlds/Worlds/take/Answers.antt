use Rattle.std.proofs.Common.{Option, Some, set, sym, subst, ◌∙◌, arith}
use Rattle.std.specs.Prelude.{IfSome}
use Rattle.std.proofs.lemmas.List.Elements.{All-get_or, All-set}
use Rattle.acc_explore.specs.declared.worlds.Kept.{Kept}
use Rattle.acc_explore.specs.inner.Searching.{IsWorldOf}
use Rattle.acc_explore.proofs.worlds.Worlds.take.Goals as goal

pub returns-clause-left : goal.returns-clause-left
returns-clause-left c = λ start arrivals all.
    let P : Option Kept → Type 0 = λ seat. IfSome seat (IsWorldOf start arrivals) in
    let seats = c.args.self.now.seats.items in
    let i = c.seat_of-seat.result in
    let was : P (Some c.in-Some.kept) = subst P (sym c.index_mut.ensures.value ∙ (sym c.take.ensures.value ∙ c.in-Some.is)) (All-get_or P seats i c.index_mut.result.now (omega (arith, c.if-seat-len.false, c.len.ensures)) all) in
    All-set P (set seats i c.take.new.self) i (Some c.in-Some.kept) was (All-set P seats i c.take.new.self (rw c.take.ensures.after tt) all)
