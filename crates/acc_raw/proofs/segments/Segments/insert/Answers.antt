use Rattle.std.proofs.Common.{◌*◌, ◌≤◌, length, sym, ap, subst, arith}
use Rattle.std.proofs.lemmas.List.Edits.{length-insert}
use Rattle.acc_raw.specs.declared.segments.TheConstants.{EACH}
use Rattle.acc_raw.specs.inner.Segments.{Ascend, seats_of, up_to}
use Rattle.acc_raw.proofs.Ascending.{ascend_insert}
use Rattle.acc_raw.proofs.Indexing.{count_within}
use Rattle.acc_raw.proofs.segments.Segments.insert.Goals as goal

pub invariant_of-self : goal.invariant_of-self
invariant_of-self c =
    let ss = seats_of c.self.inside.shelf.filled.items in let seat = c.args.seat in let more = length-insert ss (up_to seat.key ss) seat (count_within seat.key ss) in
    let many = ap length c.insert.ensures.seats in let space = rw (← c.self.view_is) at c.requires in (
      c.insert.ensures.kept,
      subst Ascend (sym c.insert.ensures.seats) (ascend_insert ss seat c.self.invariant.1),
      omega (arith, c.self.invariant.2, many, more),
      omega (arith, c.self.invariant.2, space),
      subst (λ n. c.self.inside.room ≤ n * EACH) (sym c.insert.ensures.count) c.self.invariant.4,
    )
