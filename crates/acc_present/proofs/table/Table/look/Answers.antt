use Rattle.std.proofs.Common.{◌≡◌, ◌-◌, sym, ap, ◌∙◌, refl, drop, None}
use Rattle.acc_present.specs.Presences.{holder}
use Rattle.acc_present.specs.Tables.{entry_presence}
use Rattle.acc_present.specs.inner.Keys.{behind}
use Rattle.acc_present.proofs.EnterAndExit.{shown}
use Rattle.acc_present.proofs.EntryNotes.{noted_at}
use Rattle.acc_present.proofs.FloorEntries.{first_holds, first_meets, here, holder_found, holder_missed, no_second, none_around, none_meets, one_second, second_meets}
use Rattle.acc_present.proofs.Holder.{is_present-none, is_present-some, not_partly}
use Rattle.acc_present.proofs.EntryKeys.{keyed_behind}
use Rattle.acc_present.proofs.table.Table.look.Goals as goal

pub returns-in-None-clause-look : goal.returns-in-None-clause-look
returns-in-None-clause-look c =
    let es = c.self.inside.entries.items in let r = c.args.range in let t = c.self.invariant.0.table in
    let count = keyed_behind r es c.self.inside.entries.keys c.iter_from-around.ensures.low c.self.invariant.1 in
    let none = none_around es r t c.requires (ap (λ n. drop (n - 1) es) (sym count) ∙ sym c.iter_from-around.ensures.entries ∙ c.in-None.ensures.steps.0) in
    rw (← c.self.view_is, none) (refl, refl)

pub returns-then-contains-clause-look : goal.returns-then-contains-clause-look
returns-then-contains-clause-look c =
    let es = c.self.inside.entries.items in let r = c.args.range in let t = c.self.invariant.0.table in let x = c.in-Some.first.now in
    let count = keyed_behind r es c.self.inside.entries.keys c.iter_from-around.ensures.low c.self.invariant.1 in
    let way = ap (λ n. drop (n - 1) es) (sym count) ∙ sym c.iter_from-around.ensures.entries ∙ c.in-Some.ensures.steps in
    let seen = first_holds es r t c.requires x c.next.new.self way ∙ holder_found x r (sym c.contains.ensures.bounds ∙ c.if-contains.true) in
    rw (← c.self.view_is) (seen, not_partly (shown es) r (is_present-some (shown es) r (entry_presence x) seen))

pub returns-then-contains-clause-noted : goal.returns-then-contains-clause-noted
returns-then-contains-clause-noted c =
    let es = c.self.inside.entries.items in let r = c.args.range in let t = c.self.invariant.0.table in let x = c.in-Some.first.now in
    let count = keyed_behind r es c.self.inside.entries.keys c.iter_from-around.ensures.low c.self.invariant.1 in
    let way = ap (λ n. drop (n - 1) es) (sym count) ∙ sym c.iter_from-around.ensures.entries ∙ c.in-Some.ensures.steps in
    let at = here es r t c.requires x c.next.new.self way in
    rw (← c.self.view_is) (λ notes h. noted_at notes es (behind r (shown es) - 1) x h at.low at.is)

pub returns-then-overlaps-clause-look : goal.returns-then-overlaps-clause-look
returns-then-overlaps-clause-look c =
    let es = c.self.inside.entries.items in let r = c.args.range in let t = c.self.invariant.0.table in let x = c.in-Some.first.now in
    let count = keyed_behind r es c.self.inside.entries.keys c.iter_from-around.ensures.low c.self.invariant.1 in
    let way = ap (λ n. drop (n - 1) es) (sym count) ∙ sym c.iter_from-around.ensures.entries ∙ c.in-Some.ensures.steps in
    let none : holder (shown es) r ≡ None = first_holds es r t c.requires x c.next.new.self way ∙ holder_missed x r (sym c.contains.ensures.bounds ∙ c.if-contains.false) in
    let absent = is_present-none (shown es) r none in
    let meets = first_meets es r t c.requires x c.next.new.self way (sym c.overlaps.ensures.bounds ∙ c.if-overlaps.true) in
    rw (← c.self.view_is) (rw (meets, absent) refl)

pub returns-then-overlaps-2-clause-look : goal.returns-then-overlaps-2-clause-look
returns-then-overlaps-2-clause-look c =
    let es = c.self.inside.entries.items in let r = c.args.range in let t = c.self.invariant.0.table in let x = c.in-Some.first.now in
    let count = keyed_behind r es c.self.inside.entries.keys c.iter_from-around.ensures.low c.self.invariant.1 in
    let way = ap (λ n. drop (n - 1) es) (sym count) ∙ sym c.iter_from-around.ensures.entries ∙ c.in-Some.ensures.steps in
    let none : holder (shown es) r ≡ None = first_holds es r t c.requires x c.next.new.self way ∙ holder_missed x r (sym c.contains.ensures.bounds ∙ c.if-contains.false) in
    let absent = is_present-none (shown es) r none in
    let meets = second_meets es r t c.requires x c.next.new.self way c.in-Some-next.second.now c.next-2.new.self c.in-Some-next.ensures.steps (sym c.overlaps-in-Some-next.ensures.bounds ∙ c.if-overlaps-2.true) in
    rw (← c.self.view_is) (rw (meets, absent) refl)

pub returns-else-overlaps-2-clause-look : goal.returns-else-overlaps-2-clause-look
returns-else-overlaps-2-clause-look c =
    let es = c.self.inside.entries.items in let r = c.args.range in let t = c.self.invariant.0.table in let x = c.in-Some.first.now in
    let count = keyed_behind r es c.self.inside.entries.keys c.iter_from-around.ensures.low c.self.invariant.1 in
    let way = ap (λ n. drop (n - 1) es) (sym count) ∙ sym c.iter_from-around.ensures.entries ∙ c.in-Some.ensures.steps in
    let none : holder (shown es) r ≡ None = first_holds es r t c.requires x c.next.new.self way ∙ holder_missed x r (sym c.contains.ensures.bounds ∙ c.if-contains.false) in
    let absent = is_present-none (shown es) r none in
    let apart = none_meets es r t c.requires x c.next.new.self way (sym c.overlaps.ensures.bounds ∙ c.if-overlaps.false)
    (one_second c.next.new.self c.in-Some-next.second.now c.next-2.new.self r c.in-Some-next.ensures.steps (sym c.overlaps-in-Some-next.ensures.bounds ∙ c.if-overlaps-2.false)) in
    rw (← c.self.view_is) (none, rw apart refl)

pub returns-in-None-next-clause-look : goal.returns-in-None-next-clause-look
returns-in-None-next-clause-look c =
    let es = c.self.inside.entries.items in let r = c.args.range in let t = c.self.invariant.0.table in let x = c.in-Some.first.now in
    let count = keyed_behind r es c.self.inside.entries.keys c.iter_from-around.ensures.low c.self.invariant.1 in
    let way = ap (λ n. drop (n - 1) es) (sym count) ∙ sym c.iter_from-around.ensures.entries ∙ c.in-Some.ensures.steps in
    let none : holder (shown es) r ≡ None = first_holds es r t c.requires x c.next.new.self way ∙ holder_missed x r (sym c.contains.ensures.bounds ∙ c.if-contains.false) in
    let absent = is_present-none (shown es) r none in
    let apart = none_meets es r t c.requires x c.next.new.self way (sym c.overlaps.ensures.bounds ∙ c.if-overlaps.false) (no_second c.next.new.self r c.in-None-next.ensures.steps.0) in
    rw (← c.self.view_is) (none, rw apart refl)
