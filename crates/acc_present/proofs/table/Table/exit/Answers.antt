use Rattle.std.proofs.Common.{◌≡◌, ◌-◌, true, false, sym, ap, subst, ◌∙◌, arith, refl, set, remove, Some}
use Rattle.std.specs.Option.{option_copied_mut}
use Rattle.acc_raw.specs.Indices.{last_of, up_to}
use Rattle.acc_present.specs.Notes.{HasNotes}
use Rattle.acc_present.specs.Presences.{Presence}
use Rattle.acc_present.specs.Tables.{counter_of, changed_counter, entry_presence, has_count}
use Rattle.acc_present.specs.declared.table.Left.TheVariants.{Counted, Ended}
use Rattle.acc_present.specs.inner.Invariants.{IsTable}
use Rattle.acc_present.specs.inner.Keys.{AreKeyed, key_of}
use Rattle.acc_present.proofs.KeptAfter.{kept_none}
use Rattle.acc_present.proofs.EnterAndExit.{PlacedAt, shown, becomes_removed, becomes_set, cells_at, exit_at_zero, left_nothing, left_settled, says_nothing, says_settled}
use Rattle.acc_present.proofs.EntryNotes.{noted, noted_at, noted_remove, noted_set}
use Rattle.acc_present.proofs.FloorEntries.{floor_kept, keyed_found, keyed_missed, keyed_none, last_at}
use Rattle.acc_present.proofs.Holder.{is_present-none}
use Rattle.acc_present.proofs.EntryKeys.{keyed_remove, keyed_set}
use Rattle.acc_present.proofs.table.Table.exit.Goals as goal

pub returns-in_default-clause-presences : goal.returns-in_default-clause-presences
returns-in_default-clause-presences c =
    let es = c.self.inside.entries.items in let ks = c.self.inside.entries.keys in let r = c.args.range in let t = c.self.invariant.0.table in
    let none = keyed_none es ks r c.floor_mut.ensures.low c.self.invariant.1 t c.requires.cells (sym c.floor_mut.ensures.value ∙ ap option_copied_mut c.in_default.is) in
    rw (← c.self.view_is) (sym (kept_none (record { change = c.args.change; range = r }) (shown es) t (is_present-none (shown es) r none)))

pub returns-in_default-clause-result : goal.returns-in_default-clause-result
returns-in_default-clause-result c =
    let es = c.self.inside.entries.items in let ks = c.self.inside.entries.keys in let r = c.args.range in let t = c.self.invariant.0.table in
    let none = keyed_none es ks r c.floor_mut.ensures.low c.self.invariant.1 t c.requires.cells (sym c.floor_mut.ensures.value ∙ ap option_copied_mut c.in_default.is) in
    rw (← c.self.view_is) (rw none refl)

pub invariant_of-self-then-not-contains : goal.invariant_of-self-then-not-contains
invariant_of-self-then-not-contains c =
    let es = c.self.inside.entries.items in let ks = c.self.inside.entries.keys in let r = c.args.range in let x = c.in-Some.entry.now in let i = up_to (key_of r) ks - 1 in
    let e : last_of es (up_to (key_of r) ks) ≡ Some x = sym c.floor_mut.ensures.value ∙ ap option_copied_mut c.in-Some.is in
    subst (λ l. IsTable (shown l) c.self.inside.used c.self.inside.capacity × AreKeyed l ks) (sym (floor_kept es (up_to (key_of r) ks) x e)) c.self.invariant

pub returns-then-not-contains-clause-notes : goal.returns-then-not-contains-clause-notes
returns-then-not-contains-clause-notes c =
    let es = c.self.inside.entries.items in let ks = c.self.inside.entries.keys in let r = c.args.range in let x = c.in-Some.entry.now in let i = up_to (key_of r) ks - 1 in
    let e : last_of es (up_to (key_of r) ks) ≡ Some x = sym c.floor_mut.ensures.value ∙ ap option_copied_mut c.in-Some.is in
    rw (← c.self.view_is) (λ notes h. subst (λ l. HasNotes notes (noted l)) (sym (floor_kept es (up_to (key_of r) ks) x e)) h)

pub invariant_of-self-then-count_of-eq0 : goal.invariant_of-self-then-count_of-eq0
invariant_of-self-then-count_of-eq0 c =
    let es = c.self.inside.entries.items in let ks = c.self.inside.entries.keys in let r = c.args.range in let x = c.in-Some.entry.now in let i = up_to (key_of r) ks - 1 in
    let e : last_of es (up_to (key_of r) ks) ≡ Some x = sym c.floor_mut.ensures.value ∙ ap option_copied_mut c.in-Some.is in
    subst (λ l. IsTable (shown l) c.self.inside.used c.self.inside.capacity × AreKeyed l ks) (sym (floor_kept es (up_to (key_of r) ks) x e)) c.self.invariant

pub returns-then-count_of-eq0-clause-notes : goal.returns-then-count_of-eq0-clause-notes
returns-then-count_of-eq0-clause-notes c =
    let es = c.self.inside.entries.items in let ks = c.self.inside.entries.keys in let r = c.args.range in let x = c.in-Some.entry.now in let i = up_to (key_of r) ks - 1 in
    let e : last_of es (up_to (key_of r) ks) ≡ Some x = sym c.floor_mut.ensures.value ∙ ap option_copied_mut c.in-Some.is in
    rw (← c.self.view_is) (λ notes h. subst (λ l. HasNotes notes (noted l)) (sym (floor_kept es (up_to (key_of r) ks) x e)) h)

pub returns-then-not-contains-clause-presences : goal.returns-then-not-contains-clause-presences
returns-then-not-contains-clause-presences c =
    let es = c.self.inside.entries.items in let ks = c.self.inside.entries.keys in let r = c.args.range in let x = c.in-Some.entry.now in let i = up_to (key_of r) ks - 1 in
    let e : last_of es (up_to (key_of r) ks) ≡ Some x = sym c.floor_mut.ensures.value ∙ ap option_copied_mut c.in-Some.is in
    let none = keyed_missed es ks r c.floor_mut.ensures.low c.self.invariant.1 c.self.invariant.0.table c.requires.cells x e (sym c.contains.ensures.bounds ∙ c.if-not-contains.true) in
    rw (← c.self.view_is) (ap shown (floor_kept es (up_to (key_of r) ks) x e) ∙ sym (kept_none (record { change = c.args.change; range = r }) (shown es) c.self.invariant.0.table (is_present-none (shown es) r none)))

pub returns-then-not-contains-clause-result : goal.returns-then-not-contains-clause-result
returns-then-not-contains-clause-result c =
    let es = c.self.inside.entries.items in let ks = c.self.inside.entries.keys in let r = c.args.range in let x = c.in-Some.entry.now in let i = up_to (key_of r) ks - 1 in
    let e : last_of es (up_to (key_of r) ks) ≡ Some x = sym c.floor_mut.ensures.value ∙ ap option_copied_mut c.in-Some.is in
    let none = keyed_missed es ks r c.floor_mut.ensures.low c.self.invariant.1 c.self.invariant.0.table c.requires.cells x e (sym c.contains.ensures.bounds ∙ c.if-not-contains.true) in
    rw (← c.self.view_is) (rw none refl)

pub returns-then-count_of-eq0-clause-presences : goal.returns-then-count_of-eq0-clause-presences
returns-then-count_of-eq0-clause-presences c =
    let es = c.self.inside.entries.items in let ks = c.self.inside.entries.keys in let r = c.args.range in let x = c.in-Some.entry.now in let i = up_to (key_of r) ks - 1 in
    let e : last_of es (up_to (key_of r) ks) ≡ Some x = sym c.floor_mut.ensures.value ∙ ap option_copied_mut c.in-Some.is in
    let f = keyed_found es ks r c.floor_mut.ensures.low c.self.invariant.1 c.self.invariant.0.table c.requires.cells x e (sym c.contains.ensures.bounds ∙ c.if-not-contains.false) in
    let nought : counter_of (changed_counter c.args.change) (entry_presence x) ≡ 0 = sym c.count_of.ensures ∙ c.if-count_of-eq0.true in
    rw (← c.self.view_is) (ap shown (floor_kept es (up_to (key_of r) ks) x e) ∙ left_nothing es (record { change = c.args.change; range = r }) i x c.self.inside.used c.self.inside.capacity c.self.invariant.0 c.requires.cells f (exit_at_zero c.args.change (entry_presence x) c.requires.exit nought))

pub returns-then-count_of-eq0-clause-result : goal.returns-then-count_of-eq0-clause-result
returns-then-count_of-eq0-clause-result c =
    let es = c.self.inside.entries.items in let ks = c.self.inside.entries.keys in let r = c.args.range in let x = c.in-Some.entry.now in let i = up_to (key_of r) ks - 1 in
    let e : last_of es (up_to (key_of r) ks) ≡ Some x = sym c.floor_mut.ensures.value ∙ ap option_copied_mut c.in-Some.is in
    let f = keyed_found es ks r c.floor_mut.ensures.low c.self.invariant.1 c.self.invariant.0.table c.requires.cells x e (sym c.contains.ensures.bounds ∙ c.if-not-contains.false) in
    let nought : counter_of (changed_counter c.args.change) (entry_presence x) ≡ 0 = sym c.count_of.ensures ∙ c.if-count_of-eq0.true in
    rw (← c.self.view_is) (rw f.seen (says_nothing (entry_presence x) c.args.change nought))

pub invariant_of-self-then-has_count : goal.invariant_of-self-then-has_count
invariant_of-self-then-has_count c =
    let es = c.self.inside.entries.items in let ks = c.self.inside.entries.keys in let r = c.args.range in let x = c.in-Some.entry.now in let i = up_to (key_of r) ks - 1 in
    let e : last_of es (up_to (key_of r) ks) ≡ Some x = sym c.floor_mut.ensures.value ∙ ap option_copied_mut c.in-Some.is in
    let f = keyed_found es ks r c.floor_mut.ensures.low c.self.invariant.1 c.self.invariant.0.table c.requires.cells x e (sym c.contains.ensures.bounds ∙ c.if-not-contains.false) in
    let y = c.counted_down-after.result in let l = last_at es (up_to (key_of r) ks) x e in
    let counted : has_count (entry_presence y) ≡ true = sym c.has_count.ensures ∙ c.if-has_count.true in
    let b = becomes_set es i y (entry_presence y) (entry_presence x) c.self.inside.used c.self.inside.capacity c.self.invariant.0 f.low f.is refl (ap (λ (p : Presence). p.range) c.counted_down-after.ensures.presence) counted in
    (b.table, keyed_set es ks i x y l.low l.is (ap (λ (p : Presence). p.range) c.counted_down-after.ensures.presence) c.self.invariant.1)

pub returns-then-has_count-clause-presences : goal.returns-then-has_count-clause-presences
returns-then-has_count-clause-presences c =
    let es = c.self.inside.entries.items in let ks = c.self.inside.entries.keys in let r = c.args.range in let x = c.in-Some.entry.now in let i = up_to (key_of r) ks - 1 in
    let e : last_of es (up_to (key_of r) ks) ≡ Some x = sym c.floor_mut.ensures.value ∙ ap option_copied_mut c.in-Some.is in
    let f = keyed_found es ks r c.floor_mut.ensures.low c.self.invariant.1 c.self.invariant.0.table c.requires.cells x e (sym c.contains.ensures.bounds ∙ c.if-not-contains.false) in
    let y = c.counted_down-after.result in let l = last_at es (up_to (key_of r) ks) x e in
    let counted : has_count (entry_presence y) ≡ true = sym c.has_count.ensures ∙ c.if-has_count.true in
    let b = becomes_set es i y (entry_presence y) (entry_presence x) c.self.inside.used c.self.inside.capacity c.self.invariant.0 f.low f.is refl (ap (λ (p : Presence). p.range) c.counted_down-after.ensures.presence) counted in
    rw (← c.self.view_is) (left_settled es (record { change = c.args.change; range = r }) i x y (shown (set es i y)) c.self.inside.used c.self.inside.capacity c.self.invariant.0 c.requires.cells f c.counted_down-after.ensures.presence (rw counted b.same))

pub returns-then-has_count-clause-notes : goal.returns-then-has_count-clause-notes
returns-then-has_count-clause-notes c =
    let es = c.self.inside.entries.items in let ks = c.self.inside.entries.keys in let r = c.args.range in let x = c.in-Some.entry.now in let i = up_to (key_of r) ks - 1 in
    let e : last_of es (up_to (key_of r) ks) ≡ Some x = sym c.floor_mut.ensures.value ∙ ap option_copied_mut c.in-Some.is in
    let y = c.counted_down-after.result in let l = last_at es (up_to (key_of r) ks) x e in
    let range : y.range ≡ x.range = ap (λ (p : Presence). p.range) c.counted_down-after.ensures.presence in let block : y.block ≡ x.block = ap (λ (p : Presence). p.block) c.counted_down-after.ensures.presence in
    rw (← c.self.view_is) (λ notes h. noted_set notes es i y h (c.counted_down-after.ensures.note ∙ (noted_at notes es i x h l.low l.is ∙ (ap (λ q. notes q x.block) (sym range) ∙ ap (λ b. notes y.range b) (sym block)))))

pub returns-then-has_count-clause-result : goal.returns-then-has_count-clause-result
returns-then-has_count-clause-result c =
    let es = c.self.inside.entries.items in let ks = c.self.inside.entries.keys in let r = c.args.range in let x = c.in-Some.entry.now in let i = up_to (key_of r) ks - 1 in
    let e : last_of es (up_to (key_of r) ks) ≡ Some x = sym c.floor_mut.ensures.value ∙ ap option_copied_mut c.in-Some.is in
    let f = keyed_found es ks r c.floor_mut.ensures.low c.self.invariant.1 c.self.invariant.0.table c.requires.cells x e (sym c.contains.ensures.bounds ∙ c.if-not-contains.false) in
    let y = c.counted_down-after.result in let l = last_at es (up_to (key_of r) ks) x e in
    let counted : has_count (entry_presence y) ≡ true = sym c.has_count.ensures ∙ c.if-has_count.true in
    let some = λ (z : counter_of (changed_counter c.args.change) (entry_presence x) ≡ 0). c.if-count_of-eq0.false (c.count_of.ensures ∙ z) in
    rw (← c.self.view_is) (rw f.seen (says_settled (entry_presence x) (entry_presence y) c.args.change Counted some c.counted_down-after.ensures.presence (rw counted refl)))

pub remove-requires : goal.remove-requires
remove-requires c =
    let es = c.self.inside.entries.items in let ks = c.self.inside.entries.keys in let r = c.args.range in let x = c.in-Some.entry.now in let i = up_to (key_of r) ks - 1 in
    let e : last_of es (up_to (key_of r) ks) ≡ Some x = sym c.floor_mut.ensures.value ∙ ap option_copied_mut c.in-Some.is in
    (last_at es (up_to (key_of r) ks) x e).some

pub overflow_sub-self : goal.overflow_sub-self
overflow_sub-self c =
    let es = c.self.inside.entries.items in let ks = c.self.inside.entries.keys in let r = c.args.range in let x = c.in-Some.entry.now in let i = up_to (key_of r) ks - 1 in
    let e : last_of es (up_to (key_of r) ks) ≡ Some x = sym c.floor_mut.ensures.value ∙ ap option_copied_mut c.in-Some.is in
    let f = keyed_found es ks r c.floor_mut.ensures.low c.self.invariant.1 c.self.invariant.0.table c.requires.cells x e (sym c.contains.ensures.bounds ∙ c.if-not-contains.false) in
    let at : PlacedAt (shown es) i c.counted_down-after.result.range = record { low = f.low; here = entry_presence x; is = f.is; same = ap (λ (p : Presence). p.range) (sym c.counted_down-after.ensures.presence) } in
    omega (arith, cells_at (shown es) i c.counted_down-after.result.range c.self.inside.used c.self.inside.capacity c.self.invariant.0 at, c.from.ensures)

pub invariant_of-self-2 : goal.invariant_of-self-2
invariant_of-self-2 c =
    let es = c.self.inside.entries.items in let ks = c.self.inside.entries.keys in let r = c.args.range in let x = c.in-Some.entry.now in let i = up_to (key_of r) ks - 1 in
    let e : last_of es (up_to (key_of r) ks) ≡ Some x = sym c.floor_mut.ensures.value ∙ ap option_copied_mut c.in-Some.is in
    let f = keyed_found es ks r c.floor_mut.ensures.low c.self.invariant.1 c.self.invariant.0.table c.requires.cells x e (sym c.contains.ensures.bounds ∙ c.if-not-contains.false) in
    let at : PlacedAt (shown es) i c.counted_down-after.result.range = record { low = f.low; here = entry_presence x; is = f.is; same = ap (λ (p : Presence). p.range) (sym c.counted_down-after.ensures.presence) } in
    let kept = floor_kept es (up_to (key_of r) ks) x e in
    rw (c.remove.ensures.items, c.remove.ensures.keys, c.from.ensures) (rw kept ((becomes_removed es i c.counted_down-after.result.range c.self.inside.used c.self.inside.capacity c.self.invariant.0 at).table, keyed_remove es ks i c.self.invariant.1))

pub returns-clause-presences : goal.returns-clause-presences
returns-clause-presences c =
    let es = c.self.inside.entries.items in let ks = c.self.inside.entries.keys in let r = c.args.range in let x = c.in-Some.entry.now in let i = up_to (key_of r) ks - 1 in
    let e : last_of es (up_to (key_of r) ks) ≡ Some x = sym c.floor_mut.ensures.value ∙ ap option_copied_mut c.in-Some.is in
    let f = keyed_found es ks r c.floor_mut.ensures.low c.self.invariant.1 c.self.invariant.0.table c.requires.cells x e (sym c.contains.ensures.bounds ∙ c.if-not-contains.false) in
    let at : PlacedAt (shown es) i c.counted_down-after.result.range = record { low = f.low; here = entry_presence x; is = f.is; same = ap (λ (p : Presence). p.range) (sym c.counted_down-after.ensures.presence) } in
    let kept = floor_kept es (up_to (key_of r) ks) x e in
    let over : has_count (entry_presence c.counted_down-after.result) ≡ false = sym c.has_count.ensures ∙ c.if-has_count.false in
    rw (← c.self.view_is, c.remove.ensures.items) (rw kept (left_settled es (record { change = c.args.change; range = r }) i x c.counted_down-after.result (shown (remove es i)) c.self.inside.used c.self.inside.capacity c.self.invariant.0 c.requires.cells f c.counted_down-after.ensures.presence (rw over (becomes_removed es i c.counted_down-after.result.range c.self.inside.used c.self.inside.capacity c.self.invariant.0 at).same)))

pub returns-clause-notes : goal.returns-clause-notes
returns-clause-notes c =
    let es = c.self.inside.entries.items in let ks = c.self.inside.entries.keys in let r = c.args.range in let x = c.in-Some.entry.now in let i = up_to (key_of r) ks - 1 in
    let e : last_of es (up_to (key_of r) ks) ≡ Some x = sym c.floor_mut.ensures.value ∙ ap option_copied_mut c.in-Some.is in
    let kept = floor_kept es (up_to (key_of r) ks) x e in
    rw (← c.self.view_is, c.remove.ensures.items) (λ notes h. rw kept (noted_remove notes es i h))

pub returns-clause-result : goal.returns-clause-result
returns-clause-result c =
    let es = c.self.inside.entries.items in let ks = c.self.inside.entries.keys in let r = c.args.range in let x = c.in-Some.entry.now in let i = up_to (key_of r) ks - 1 in
    let e : last_of es (up_to (key_of r) ks) ≡ Some x = sym c.floor_mut.ensures.value ∙ ap option_copied_mut c.in-Some.is in
    let f = keyed_found es ks r c.floor_mut.ensures.low c.self.invariant.1 c.self.invariant.0.table c.requires.cells x e (sym c.contains.ensures.bounds ∙ c.if-not-contains.false) in
    let over : has_count (entry_presence c.counted_down-after.result) ≡ false = sym c.has_count.ensures ∙ c.if-has_count.false in
    let some = λ (z : counter_of (changed_counter c.args.change) (entry_presence x) ≡ 0). c.if-count_of-eq0.false (c.count_of.ensures ∙ z) in
    rw (← c.self.view_is) (rw f.seen (says_settled (entry_presence x) (entry_presence c.counted_down-after.result) c.args.change (Ended c.counted_down-after.result.block) some c.counted_down-after.ensures.presence (rw over refl)))
