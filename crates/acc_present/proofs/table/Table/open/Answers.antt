use Rattle.std.proofs.Common.{◌≡◌, sym, ap, ◌∙◌}
use Rattle.acc_raw.specs.Indices.{up_to}
use Rattle.acc_present.specs.Presences.{Presence}
use Rattle.acc_present.specs.inner.Keys.{behind, key_of}
use Rattle.acc_present.proofs.EnterAndExit.{shown, entered_new}
use Rattle.acc_present.proofs.EntryNotes.{noted_insert}
use Rattle.acc_present.proofs.EntryKeys.{keyed_behind, keyed_insert}
use Rattle.acc_present.proofs.table.Table.open.Goals as goal

pub invariant_of-self : goal.invariant_of-self
invariant_of-self c =
    let es = c.self.inside.entries.items in let ks = c.self.inside.entries.keys in let r = c.args.range in let e = c.new_entry.result in
    let b = entered_new es r c.args.counter c.args.block e c.self.inside.used c.self.inside.capacity c.self.invariant.0 c.requires.cells (rw (← c.self.view_is) at c.requires.absent) (rw (← c.self.view_is) at c.requires.whole) (rw (← c.self.view_is) at c.requires.capacity) c.new_entry.ensures.presence in
    let same : e.range ≡ r = ap (λ (p : Presence). p.range) c.new_entry.ensures.presence in
    let count : up_to (key_of e.range) ks ≡ behind r (shown es) = keyed_behind e.range es ks c.insert.ensures.low c.self.invariant.1 ∙ ap (λ q. behind q (shown es)) same in
    rw (c.insert.ensures.items, c.insert.ensures.keys, c.from.ensures) (rw count b.table, keyed_insert es ks (up_to (key_of e.range) ks) e c.insert.ensures.low c.self.invariant.1)

pub returns-clause-presences : goal.returns-clause-presences
returns-clause-presences c =
    let es = c.self.inside.entries.items in let ks = c.self.inside.entries.keys in let r = c.args.range in let e = c.new_entry.result in
    let b = entered_new es r c.args.counter c.args.block e c.self.inside.used c.self.inside.capacity c.self.invariant.0 c.requires.cells (rw (← c.self.view_is) at c.requires.absent) (rw (← c.self.view_is) at c.requires.whole) (rw (← c.self.view_is) at c.requires.capacity) c.new_entry.ensures.presence in
    let same : e.range ≡ r = ap (λ (p : Presence). p.range) c.new_entry.ensures.presence in
    let count : up_to (key_of e.range) ks ≡ behind r (shown es) = keyed_behind e.range es ks c.insert.ensures.low c.self.invariant.1 ∙ ap (λ q. behind q (shown es)) same in
    rw (← c.self.view_is, c.insert.ensures.items, count) b.same

pub returns-clause-notes : goal.returns-clause-notes
returns-clause-notes c =
    let es = c.self.inside.entries.items in let e = c.new_entry.result in
    let range : e.range ≡ c.args.range = ap (λ (p : Presence). p.range) c.new_entry.ensures.presence in
    let block : e.block ≡ c.args.block = ap (λ (p : Presence). p.block) c.new_entry.ensures.presence in
    rw (← c.self.view_is, c.insert.ensures.items) (λ notes h fresh. noted_insert notes es _ e h
    (c.new_entry.ensures.note ∙ (sym fresh ∙ (ap (λ r. notes r c.args.block) (sym range) ∙ ap (λ b. notes e.range b) (sym block)))))
