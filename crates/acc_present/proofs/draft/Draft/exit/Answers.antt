use Rattle.std.proofs.Common.{◌≡◌, map, sym, ◌∙◌, None, arith}
use Rattle.acc_present.specs.Presences.{holder}
use Rattle.acc_present.specs.Tables.{counter_of, changed_counter, held_presence}
use Rattle.acc_present.specs.Drafts.{with_changed}
use Rattle.acc_present.proofs.KeptAfter.{kept_none}
use Rattle.acc_present.proofs.DraftMarks.{placed_for, draft_stays, settled_cells, draft_settled}
use Rattle.acc_present.proofs.EnterAndExit.{exit_at_zero, says_nothing, says_settled}
use Rattle.acc_present.proofs.Holder.{is_present-none}
use Rattle.acc_present.proofs.draft.Draft.exit.Goals as goal

pub returns-in-None-clause-drafted : goal.returns-in-None-clause-drafted
returns-in-None-clause-drafted c =
    let qs = with_changed (map held_presence c.self.inside.changed.items) c.args.table.now.presences in
    let k = rw (← c.self.view_is) at c.requires.draft in
    let none : holder qs c.args.range ≡ None = sym c.in-None.ensures.held in
    rw (← c.self.view_is) (c.in-None.ensures.same ∙ sym (kept_none (record { change = c.args.change; range = c.args.range }) qs k.after (is_present-none qs c.args.range none)))

pub returns-then-count_of-eq0-clause-drafted : goal.returns-then-count_of-eq0-clause-drafted
returns-then-count_of-eq0-clause-drafted c =
    let es = c.index_for.new.changed.items in
    let x = c.index.result.now in
    let k = rw (← c.self.view_is) at c.requires.draft in
    let f = placed_for k c.args.range es c.in-Some.i x c.in-Some.ensures.same c.in-Some.ensures.held (omega (arith, c.in-Some.ensures.within)) c.index.ensures in
    let zero : counter_of (changed_counter c.args.change) (held_presence x) ≡ 0 = sym c.count_of.ensures ∙ c.if-count_of-eq0.true in
    rw (← c.self.view_is) (draft_stays k (record { change = c.args.change; range = c.args.range }) es c.in-Some.i x f c.requires.cells (exit_at_zero c.args.change (held_presence x) c.requires.exit zero))

pub returns-then-count_of-eq0-clause-result : goal.returns-then-count_of-eq0-clause-result
returns-then-count_of-eq0-clause-result c =
    let es = c.index_for.new.changed.items in
    let x = c.index.result.now in
    let k = rw (← c.self.view_is) at c.requires.draft in
    let f = placed_for k c.args.range es c.in-Some.i x c.in-Some.ensures.same c.in-Some.ensures.held (omega (arith, c.in-Some.ensures.within)) c.index.ensures in
    let zero : counter_of (changed_counter c.args.change) (held_presence x) ≡ 0 = sym c.count_of.ensures ∙ c.if-count_of-eq0.true in
    rw (← c.self.view_is) (rw f.seen (says_nothing (held_presence x) c.args.change zero))

pub put_or_end-requires-clause-cells : goal.put_or_end-requires-clause-cells
put_or_end-requires-clause-cells c =
    let es = c.index_for.new.changed.items in
    let x = c.index.result.now in
    let k = rw (← c.self.view_is) at c.requires.draft in
    let f = placed_for k c.args.range es c.in-Some.i x c.in-Some.ensures.same c.in-Some.ensures.held (omega (arith, c.in-Some.ensures.within)) c.index.ensures in
    settled_cells k (record { change = c.args.change; range = c.args.range }) es c.in-Some.i x c.counted_down.result f c.requires.cells c.counted_down.ensures

pub returns-else-count_of-eq0-clause-drafted : goal.returns-else-count_of-eq0-clause-drafted
returns-else-count_of-eq0-clause-drafted c =
    let es = c.index_for.new.changed.items in
    let x = c.index.result.now in
    let k = rw (← c.self.view_is) at c.requires.draft in
    let f = placed_for k c.args.range es c.in-Some.i x c.in-Some.ensures.same c.in-Some.ensures.held (omega (arith, c.in-Some.ensures.within)) c.index.ensures in
    rw (← c.self.view_is)
    (draft_settled k (record { change = c.args.change; range = c.args.range }) es c.in-Some.i x c.counted_down.result c.put_or_end.new.self f c.requires.cells c.counted_down.ensures c.put_or_end.ensures.changed c.put_or_end.ensures.used).same

pub returns-else-count_of-eq0-clause-draft : goal.returns-else-count_of-eq0-clause-draft
returns-else-count_of-eq0-clause-draft c =
    let es = c.index_for.new.changed.items in
    let x = c.index.result.now in
    let k = rw (← c.self.view_is) at c.requires.draft in
    let f = placed_for k c.args.range es c.in-Some.i x c.in-Some.ensures.same c.in-Some.ensures.held (omega (arith, c.in-Some.ensures.within)) c.index.ensures in
    (draft_settled k (record { change = c.args.change; range = c.args.range }) es c.in-Some.i x c.counted_down.result c.put_or_end.new.self f c.requires.cells c.counted_down.ensures c.put_or_end.ensures.changed c.put_or_end.ensures.used).draft

pub returns-else-count_of-eq0-clause-result : goal.returns-else-count_of-eq0-clause-result
returns-else-count_of-eq0-clause-result c =
    let es = c.index_for.new.changed.items in
    let x = c.index.result.now in
    let k = rw (← c.self.view_is) at c.requires.draft in
    let f = placed_for k c.args.range es c.in-Some.i x c.in-Some.ensures.same c.in-Some.ensures.held (omega (arith, c.in-Some.ensures.within)) c.index.ensures in
    let some = λ (z : counter_of (changed_counter c.args.change) (held_presence x) ≡ 0). c.if-count_of-eq0.false (c.count_of.ensures ∙ z) in
    rw (← c.self.view_is) (rw f.seen (says_settled (held_presence x) (held_presence c.counted_down.result) c.args.change c.put_or_end.result some c.counted_down.ensures c.put_or_end.ensures.result))
