use Rattle.std.proofs.Common.{◌≡◌, ◌-◌, true, false, sym, ap, ◌∙◌, refl, drop}
use Rattle.acc_base.specs.Ranges.{range_contains}
use Rattle.acc_present.specs.inner.Keys.{behind}
use Rattle.acc_present.proofs.EnterAndExit.{shown}
use Rattle.acc_present.proofs.EntryNotes.{noted_at}
use Rattle.acc_present.proofs.FloorEntries.{first_holds, here, none_around}
use Rattle.acc_present.proofs.EntryKeys.{keyed_behind}
use Rattle.acc_present.proofs.table.Table.find.Goals as goal

pub returns-in_err-first-clause-entry : goal.returns-in_err-first-clause-entry
returns-in_err-first-clause-entry c =
    let es = c.self.inside.entries.items in let r = c.args.range in let t = c.self.invariant.0.table in
    let count = keyed_behind r es c.self.inside.entries.keys c.iter_from.ensures.low c.self.invariant.1 in
    let none = none_around es r t c.requires (ap (λ n. drop (n - 1) es) (sym count) ∙ sym c.iter_from.ensures.entries ∙ c.in_err-first.ensures.steps.0) in
    rw (c.from_residual.ensures, ← c.self.view_is, none) refl

pub returns-then-contains-clause-entry : goal.returns-then-contains-clause-entry
returns-then-contains-clause-entry c =
    let es = c.self.inside.entries.items in let r = c.args.range in let t = c.self.invariant.0.table in let x = c.in_ok-first.first.now in
    let count = keyed_behind r es c.self.inside.entries.keys c.iter_from.ensures.low c.self.invariant.1 in
    let holds = first_holds es r t c.requires x c.next.new.self (ap (λ n. drop (n - 1) es) (sym count) ∙ sym c.iter_from.ensures.entries ∙ c.in_ok-first.ensures.steps) in
    let has : range_contains x.range r ≡ true = sym c.contains.ensures.bounds ∙ c.if-contains.true in
    rw (← c.self.view_is) (sym (holds ∙ rw has refl))

pub returns-then-contains-clause-noted : goal.returns-then-contains-clause-noted
returns-then-contains-clause-noted c =
    let es = c.self.inside.entries.items in let r = c.args.range in let t = c.self.invariant.0.table in let x = c.in_ok-first.first.now in
    let count = keyed_behind r es c.self.inside.entries.keys c.iter_from.ensures.low c.self.invariant.1 in
    let at = here es r t c.requires x c.next.new.self (ap (λ n. drop (n - 1) es) (sym count) ∙ sym c.iter_from.ensures.entries ∙ c.in_ok-first.ensures.steps) in
    rw (← c.self.view_is) (λ notes h. noted_at notes es (behind r (shown es) - 1) x h at.low at.is)

pub returns-else-contains-clause-entry : goal.returns-else-contains-clause-entry
returns-else-contains-clause-entry c =
    let es = c.self.inside.entries.items in let r = c.args.range in let t = c.self.invariant.0.table in let x = c.in_ok-first.first.now in
    let count = keyed_behind r es c.self.inside.entries.keys c.iter_from.ensures.low c.self.invariant.1 in
    let holds = first_holds es r t c.requires x c.next.new.self (ap (λ n. drop (n - 1) es) (sym count) ∙ sym c.iter_from.ensures.entries ∙ c.in_ok-first.ensures.steps) in
    let misses : range_contains x.range r ≡ false = sym c.contains.ensures.bounds ∙ c.if-contains.false in
    rw (← c.self.view_is) (sym (holds ∙ rw misses refl))
