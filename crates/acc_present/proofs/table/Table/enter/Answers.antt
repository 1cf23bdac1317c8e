use Rattle.std.proofs.Common.{◌≡◌, ◌-◌, sym, ap, subst, ◌∙◌, refl, Some}
use Rattle.std.specs.Option.{option_copied_mut}
use Rattle.acc_raw.specs.Indices.{last_of, up_to}
use Rattle.acc_present.specs.Presences.{Presence}
use Rattle.acc_present.specs.inner.Invariants.{IsTable}
use Rattle.acc_present.specs.inner.Keys.{AreKeyed, key_of}
use Rattle.acc_present.proofs.EnterAndExit.{shown, entered_again}
use Rattle.acc_present.proofs.EntryNotes.{noted_at, noted_set}
use Rattle.acc_present.proofs.FloorEntries.{floor_kept, keyed_found, keyed_missed, keyed_none, last_at}
use Rattle.acc_present.proofs.Holder.{is_present-none}
use Rattle.acc_present.proofs.EntryKeys.{keyed_set}
use Rattle.acc_present.proofs.table.Table.enter.Goals as goal

pub open-requires-clause-absent : goal.open-requires-clause-absent
open-requires-clause-absent c =
    let es = c.self.inside.entries.items in let ks = c.self.inside.entries.keys in let r = c.args.range in
    let none = keyed_none es ks r c.floor_mut.ensures.low c.self.invariant.1 c.self.invariant.0.table c.requires.cells (sym c.floor_mut.ensures.value ∙ ap option_copied_mut c.in_default.is) in
    none

pub open-requires-clause-capacity : goal.open-requires-clause-capacity
open-requires-clause-capacity c =
    let es = c.self.inside.entries.items in let ks = c.self.inside.entries.keys in let r = c.args.range in
    let none = keyed_none es ks r c.floor_mut.ensures.low c.self.invariant.1 c.self.invariant.0.table c.requires.cells (sym c.floor_mut.ensures.value ∙ ap option_copied_mut c.in_default.is) in
    (rw (← c.self.view_is) at c.requires.capacity) none

pub open-requires-clause-room : goal.open-requires-clause-room
open-requires-clause-room c =
    let es = c.self.inside.entries.items in let ks = c.self.inside.entries.keys in let r = c.args.range in
    let none = keyed_none es ks r c.floor_mut.ensures.low c.self.invariant.1 c.self.invariant.0.table c.requires.cells (sym c.floor_mut.ensures.value ∙ ap option_copied_mut c.in_default.is) in
    (rw (← c.self.view_is) at c.requires.room) none

pub returns-in_default-clause-presences : goal.returns-in_default-clause-presences
returns-in_default-clause-presences c =
    rw (← c.self.view_is) c.open.ensures.presences

pub returns-in_default-clause-notes : goal.returns-in_default-clause-notes
returns-in_default-clause-notes c =
    let es = c.self.inside.entries.items in let ks = c.self.inside.entries.keys in let r = c.args.range in
    let none = keyed_none es ks r c.floor_mut.ensures.low c.self.invariant.1 c.self.invariant.0.table c.requires.cells (sym c.floor_mut.ensures.value ∙ ap option_copied_mut c.in_default.is) in
    rw (← c.self.view_is) (λ notes h fresh. c.open.ensures.notes notes h (fresh none))

pub returns-in_default-clause-result : goal.returns-in_default-clause-result
returns-in_default-clause-result c =
    let es = c.self.inside.entries.items in let ks = c.self.inside.entries.keys in let r = c.args.range in
    let none = keyed_none es ks r c.floor_mut.ensures.low c.self.invariant.1 c.self.invariant.0.table c.requires.cells (sym c.floor_mut.ensures.value ∙ ap option_copied_mut c.in_default.is) in
    rw (← c.self.view_is) (c.open.ensures.result ∙ rw (is_present-none (shown es) r none) refl)

pub invariant_of-self-then-not-contains : goal.invariant_of-self-then-not-contains
invariant_of-self-then-not-contains c =
    let es = c.self.inside.entries.items in let ks = c.self.inside.entries.keys in let r = c.args.range in let x = c.in-Some.entry.now in let i = up_to (key_of r) ks - 1 in
    let e : last_of es (up_to (key_of r) ks) ≡ Some x = sym c.floor_mut.ensures.value ∙ ap option_copied_mut c.in-Some.is in
    subst (λ l. IsTable (shown l) c.self.inside.used c.self.inside.capacity × AreKeyed l ks) (sym (floor_kept es (up_to (key_of r) ks) x e)) c.self.invariant

pub open-requires-then-not-contains-clause-absent : goal.open-requires-then-not-contains-clause-absent
open-requires-then-not-contains-clause-absent c =
    let es = c.self.inside.entries.items in let ks = c.self.inside.entries.keys in let r = c.args.range in let x = c.in-Some.entry.now in let i = up_to (key_of r) ks - 1 in
    let e : last_of es (up_to (key_of r) ks) ≡ Some x = sym c.floor_mut.ensures.value ∙ ap option_copied_mut c.in-Some.is in
    let none = keyed_missed es ks r c.floor_mut.ensures.low c.self.invariant.1 c.self.invariant.0.table c.requires.cells x e (sym c.contains.ensures.bounds ∙ c.if-not-contains.true) in
    let kept = floor_kept es (up_to (key_of r) ks) x e in
    rw kept none

pub open-requires-then-not-contains-clause-whole : goal.open-requires-then-not-contains-clause-whole
open-requires-then-not-contains-clause-whole c =
    let es = c.self.inside.entries.items in let ks = c.self.inside.entries.keys in let r = c.args.range in let x = c.in-Some.entry.now in let i = up_to (key_of r) ks - 1 in
    let e : last_of es (up_to (key_of r) ks) ≡ Some x = sym c.floor_mut.ensures.value ∙ ap option_copied_mut c.in-Some.is in
    let kept = floor_kept es (up_to (key_of r) ks) x e in
    rw kept (rw (← c.self.view_is) at c.requires.whole)

pub open-requires-then-not-contains-clause-capacity : goal.open-requires-then-not-contains-clause-capacity
open-requires-then-not-contains-clause-capacity c =
    let es = c.self.inside.entries.items in let ks = c.self.inside.entries.keys in let r = c.args.range in let x = c.in-Some.entry.now in let i = up_to (key_of r) ks - 1 in
    let e : last_of es (up_to (key_of r) ks) ≡ Some x = sym c.floor_mut.ensures.value ∙ ap option_copied_mut c.in-Some.is in
    let none = keyed_missed es ks r c.floor_mut.ensures.low c.self.invariant.1 c.self.invariant.0.table c.requires.cells x e (sym c.contains.ensures.bounds ∙ c.if-not-contains.true) in
    let kept = floor_kept es (up_to (key_of r) ks) x e in
    rw kept ((rw (← c.self.view_is) at c.requires.capacity) none)

pub open-requires-then-not-contains-clause-room : goal.open-requires-then-not-contains-clause-room
open-requires-then-not-contains-clause-room c =
    let es = c.self.inside.entries.items in let ks = c.self.inside.entries.keys in let r = c.args.range in let x = c.in-Some.entry.now in let i = up_to (key_of r) ks - 1 in
    let e : last_of es (up_to (key_of r) ks) ≡ Some x = sym c.floor_mut.ensures.value ∙ ap option_copied_mut c.in-Some.is in
    let none = keyed_missed es ks r c.floor_mut.ensures.low c.self.invariant.1 c.self.invariant.0.table c.requires.cells x e (sym c.contains.ensures.bounds ∙ c.if-not-contains.true) in
    let kept = floor_kept es (up_to (key_of r) ks) x e in
    rw kept ((rw (← c.self.view_is) at c.requires.room) none)

pub returns-then-not-contains-clause-presences : goal.returns-then-not-contains-clause-presences
returns-then-not-contains-clause-presences c =
    let es = c.self.inside.entries.items in let ks = c.self.inside.entries.keys in let r = c.args.range in let x = c.in-Some.entry.now in let i = up_to (key_of r) ks - 1 in
    let e : last_of es (up_to (key_of r) ks) ≡ Some x = sym c.floor_mut.ensures.value ∙ ap option_copied_mut c.in-Some.is in
    let kept = floor_kept es (up_to (key_of r) ks) x e in
    rw (← c.self.view_is) (rw kept at c.open-then-not-contains.ensures.presences)

pub returns-then-not-contains-clause-notes : goal.returns-then-not-contains-clause-notes
returns-then-not-contains-clause-notes c =
    let es = c.self.inside.entries.items in let ks = c.self.inside.entries.keys in let r = c.args.range in let x = c.in-Some.entry.now in let i = up_to (key_of r) ks - 1 in
    let e : last_of es (up_to (key_of r) ks) ≡ Some x = sym c.floor_mut.ensures.value ∙ ap option_copied_mut c.in-Some.is in
    let none = keyed_missed es ks r c.floor_mut.ensures.low c.self.invariant.1 c.self.invariant.0.table c.requires.cells x e (sym c.contains.ensures.bounds ∙ c.if-not-contains.true) in
    let kept = floor_kept es (up_to (key_of r) ks) x e in
    rw (← c.self.view_is) (λ notes h fresh. (rw kept at c.open-then-not-contains.ensures.notes) notes h (fresh none))

pub returns-then-not-contains-clause-result : goal.returns-then-not-contains-clause-result
returns-then-not-contains-clause-result c =
    let es = c.self.inside.entries.items in let ks = c.self.inside.entries.keys in let r = c.args.range in let x = c.in-Some.entry.now in let i = up_to (key_of r) ks - 1 in
    let e : last_of es (up_to (key_of r) ks) ≡ Some x = sym c.floor_mut.ensures.value ∙ ap option_copied_mut c.in-Some.is in
    let none = keyed_missed es ks r c.floor_mut.ensures.low c.self.invariant.1 c.self.invariant.0.table c.requires.cells x e (sym c.contains.ensures.bounds ∙ c.if-not-contains.true) in
    rw (← c.self.view_is) (c.open-then-not-contains.ensures.result ∙ rw (is_present-none (shown es) r none) refl)

pub count_up-requires : goal.count_up-requires
count_up-requires c =
    let es = c.self.inside.entries.items in let ks = c.self.inside.entries.keys in let r = c.args.range in let x = c.in-Some.entry.now in let i = up_to (key_of r) ks - 1 in
    let e : last_of es (up_to (key_of r) ks) ≡ Some x = sym c.floor_mut.ensures.value ∙ ap option_copied_mut c.in-Some.is in
    let f = keyed_found es ks r c.floor_mut.ensures.low c.self.invariant.1 c.self.invariant.0.table c.requires.cells x e (sym c.contains.ensures.bounds ∙ c.if-not-contains.false) in
    rw f.seen at (rw (← c.self.view_is) at c.requires.low)

pub invariant_of-self-2 : goal.invariant_of-self-2
invariant_of-self-2 c =
    let es = c.self.inside.entries.items in let ks = c.self.inside.entries.keys in let r = c.args.range in let x = c.in-Some.entry.now in let i = up_to (key_of r) ks - 1 in
    let e : last_of es (up_to (key_of r) ks) ≡ Some x = sym c.floor_mut.ensures.value ∙ ap option_copied_mut c.in-Some.is in
    let f = keyed_found es ks r c.floor_mut.ensures.low c.self.invariant.1 c.self.invariant.0.table c.requires.cells x e (sym c.contains.ensures.bounds ∙ c.if-not-contains.false) in
    let y = c.count_up.new.entry in let l = last_at es (up_to (key_of r) ks) x e in
    ((entered_again es r c.args.counter c.args.block i x y c.self.inside.used c.self.inside.capacity c.self.invariant.0 c.requires.cells f c.count_up.ensures.presence).table, keyed_set es ks i x y l.low l.is (ap (λ (p : Presence). p.range) c.count_up.ensures.presence) c.self.invariant.1)

pub returns-clause-presences : goal.returns-clause-presences
returns-clause-presences c =
    let es = c.self.inside.entries.items in let ks = c.self.inside.entries.keys in let r = c.args.range in let x = c.in-Some.entry.now in let i = up_to (key_of r) ks - 1 in
    let e : last_of es (up_to (key_of r) ks) ≡ Some x = sym c.floor_mut.ensures.value ∙ ap option_copied_mut c.in-Some.is in
    let f = keyed_found es ks r c.floor_mut.ensures.low c.self.invariant.1 c.self.invariant.0.table c.requires.cells x e (sym c.contains.ensures.bounds ∙ c.if-not-contains.false) in
    let y = c.count_up.new.entry in let l = last_at es (up_to (key_of r) ks) x e in
    rw (← c.self.view_is) (entered_again es r c.args.counter c.args.block i x y c.self.inside.used c.self.inside.capacity c.self.invariant.0 c.requires.cells f c.count_up.ensures.presence).same

pub returns-clause-notes : goal.returns-clause-notes
returns-clause-notes c =
    let es = c.self.inside.entries.items in let ks = c.self.inside.entries.keys in let r = c.args.range in let x = c.in-Some.entry.now in let i = up_to (key_of r) ks - 1 in
    let e : last_of es (up_to (key_of r) ks) ≡ Some x = sym c.floor_mut.ensures.value ∙ ap option_copied_mut c.in-Some.is in
    let y = c.count_up.new.entry in let l = last_at es (up_to (key_of r) ks) x e in
    let range : y.range ≡ x.range = ap (λ (p : Presence). p.range) c.count_up.ensures.presence in let block : y.block ≡ x.block = ap (λ (p : Presence). p.block) c.count_up.ensures.presence in
    rw (← c.self.view_is) (λ notes h fresh. noted_set notes es i y h (c.count_up.ensures.note ∙ (noted_at notes es i x h l.low l.is ∙ (ap (λ q. notes q x.block) (sym range) ∙ ap (λ b. notes y.range b) (sym block)))))

pub returns-clause-result : goal.returns-clause-result
returns-clause-result c =
    let es = c.self.inside.entries.items in let ks = c.self.inside.entries.keys in let r = c.args.range in let x = c.in-Some.entry.now in let i = up_to (key_of r) ks - 1 in
    let e : last_of es (up_to (key_of r) ks) ≡ Some x = sym c.floor_mut.ensures.value ∙ ap option_copied_mut c.in-Some.is in
    let f = keyed_found es ks r c.floor_mut.ensures.low c.self.invariant.1 c.self.invariant.0.table c.requires.cells x e (sym c.contains.ensures.bounds ∙ c.if-not-contains.false) in
    rw (← c.self.view_is) (rw f.held refl)
