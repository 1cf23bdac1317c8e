use Rattle.std.proofs.Common.{◌*◌, ◌-◌, ◌≤◌, length, sym, ap, subst, arith}
use Rattle.std.proofs.lemmas.List.Edits.{length-remove}
use Rattle.std.proofs.lemmas.Option.{slice_get_within}
use Rattle.acc_raw.specs.declared.segments.TheConstants.{EACH}
use Rattle.acc_raw.specs.inner.Segments.{Ascend, number_of, seats_of}
use Rattle.acc_raw.proofs.Ascending.{ascend_remove}
use Rattle.acc_raw.proofs.segments.Segments.take_floor.Goals as goal

pub invariant_of-self : goal.invariant_of-self
invariant_of-self c =
    let ss = seats_of c.self.inside.shelf.filled.items in let i = number_of c.self.inside.shelf.filled.items c.seek-spot.result - 1 in
    let less = length-remove ss i (slice_get_within ss i c.take.result c.take.ensures.seat) in let many = ap length c.take.ensures.seats in (
      c.take.ensures.kept,
      subst Ascend (sym c.take.ensures.seats) (ascend_remove ss i c.self.invariant.1),
      omega (arith, c.self.invariant.2, many, less),
      omega (arith, c.self.invariant.3),
      subst (λ n. c.self.inside.room ≤ n * EACH) (sym c.take.ensures.count) c.self.invariant.4,
    )
