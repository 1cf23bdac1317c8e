use Rattle.std.proofs.Common.{◌≡◌, ◌-◌, true, sym, ap, subst, ◌∙◌, Some}
use Rattle.std.specs.Option.{option_copied_mut}
use Rattle.acc_base.specs.Ranges.{range_contains}
use Rattle.acc_raw.specs.Indices.{last_of, up_to}
use Rattle.acc_present.specs.Notes.{HasNotes, changed_at, used_by}
use Rattle.acc_present.specs.Presences.{Presence}
use Rattle.acc_present.specs.inner.Invariants.{IsTable}
use Rattle.acc_present.specs.inner.Keys.{AreKeyed, key_of}
use Rattle.acc_present.proofs.EntryNotes.{noted, none_contains, noted_change, noted_none, shown_kept}
use Rattle.acc_present.proofs.FloorEntries.{floor_kept, keyed_missed, keyed_none, last_at}
use Rattle.acc_present.proofs.Holder.{is_present-none}
use Rattle.acc_present.proofs.EntryKeys.{keyed_set}
use Rattle.acc_present.proofs.EnterAndExit.{shown}
use Rattle.acc_present.proofs.table.Table.note_use.Goals as goal

pub returns-in_default-clause-notes : goal.returns-in_default-clause-notes
returns-in_default-clause-notes c =
    let es = c.self.inside.entries.items in let r = c.args.range in let t = c.self.invariant.0.table in
    let none = keyed_none es c.self.inside.entries.keys r c.floor_mut.ensures.low c.self.invariant.1 t c.requires.cells (sym c.floor_mut.ensures.value ∙ ap option_copied_mut c.in_default.is) in
    rw (← c.self.view_is) (λ notes h. noted_none notes r (used_by c.args.queue c.args.batch) es (none_contains (shown es) r (is_present-none (shown es) r none)) h)

pub invariant_of-self-then-not-contains : goal.invariant_of-self-then-not-contains
invariant_of-self-then-not-contains c =
    let t = c.self.inside in let x = c.in-Some.entry.now in let k = up_to (key_of c.args.range) t.entries.keys in
    let same = floor_kept t.entries.items k x (sym c.floor_mut.ensures.value ∙ ap option_copied_mut c.in-Some.is) in
    subst (λ es. IsTable (shown es) t.used t.capacity × AreKeyed es t.entries.keys) (sym same) c.self.invariant

pub returns-then-not-contains-clause-presences : goal.returns-then-not-contains-clause-presences
returns-then-not-contains-clause-presences c =
    let t = c.self.inside in let k = up_to (key_of c.args.range) t.entries.keys in
    rw (← c.self.view_is) (ap shown (floor_kept t.entries.items k c.in-Some.entry.now (sym c.floor_mut.ensures.value ∙ ap option_copied_mut c.in-Some.is)))

pub returns-then-not-contains-clause-notes : goal.returns-then-not-contains-clause-notes
returns-then-not-contains-clause-notes c =
    let es = c.self.inside.entries.items in let ks = c.self.inside.entries.keys in let r = c.args.range in let x = c.in-Some.entry.now in let t = c.self.invariant.0.table in
    let e : last_of es (up_to (key_of r) ks) ≡ Some x = sym c.floor_mut.ensures.value ∙ ap option_copied_mut c.in-Some.is in
    let none = keyed_missed es ks r c.floor_mut.ensures.low c.self.invariant.1 t c.requires.cells x e (sym c.contains.ensures.bounds ∙ c.if-not-contains.true) in
    rw (← c.self.view_is) (λ notes h. subst (λ l. HasNotes (changed_at r (used_by c.args.queue c.args.batch) notes) (noted l)) (sym (floor_kept es (up_to (key_of r) ks) x e))
    (noted_none notes r (used_by c.args.queue c.args.batch) es (none_contains (shown es) r (is_present-none (shown es) r none)) h))

pub invariant_of-self-2 : goal.invariant_of-self-2
invariant_of-self-2 c =
    let t = c.self.inside in let es = t.entries.items in let ks = t.entries.keys in let x = c.in-Some.entry.now in let y = c.use_by.new.entry in let k = up_to (key_of c.args.range) ks in
    let l = last_at es k x (sym c.floor_mut.ensures.value ∙ ap option_copied_mut c.in-Some.is) in
    let kept = shown_kept es (k - 1) x y l.low l.is c.use_by.ensures.presence in
    (subst (λ ps. IsTable ps t.used t.capacity) (sym kept) c.self.invariant.0, keyed_set es ks (k - 1) x y l.low l.is (ap (λ (p : Presence). p.range) c.use_by.ensures.presence) c.self.invariant.1)

pub returns-clause-presences : goal.returns-clause-presences
returns-clause-presences c =
    let es = c.self.inside.entries.items in let x = c.in-Some.entry.now in let k = up_to (key_of c.args.range) c.self.inside.entries.keys in
    let l = last_at es k x (sym c.floor_mut.ensures.value ∙ ap option_copied_mut c.in-Some.is) in
    rw (← c.self.view_is) (shown_kept es (k - 1) x c.use_by.new.entry l.low l.is c.use_by.ensures.presence)

pub returns-clause-notes : goal.returns-clause-notes
returns-clause-notes c =
    let es = c.self.inside.entries.items in let r = c.args.range in let x = c.in-Some.entry.now in let y = c.use_by.new.entry in let k = up_to (key_of r) c.self.inside.entries.keys in
    let l = last_at es k x (sym c.floor_mut.ensures.value ∙ ap option_copied_mut c.in-Some.is) in
    let has : range_contains x.range r ≡ true = sym c.contains.ensures.bounds ∙ c.if-not-contains.false in
    rw (← c.self.view_is) (λ notes h. noted_change notes r (used_by c.args.queue c.args.batch) es (k - 1) x y c.self.invariant.0.table l.low l.is c.requires.cells has
    (ap (λ (p : Presence). p.range) c.use_by.ensures.presence) (ap (λ (p : Presence). p.block) c.use_by.ensures.presence) c.use_by.ensures.note h)
