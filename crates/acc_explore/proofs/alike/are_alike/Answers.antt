use Rattle.std.proofs.Common.{◌≡◌, List, reverse, sym, ap, subst, ◌∙◌}
use Rattle.std.specs.Prelude.{All}
use Rattle.std.proofs.lemmas.List.{reverse-reverse}
use Rattle.acc_batch.specs.declared.entry.WorkEntry.{WorkEntry}
use Rattle.acc_explore.specs.inner.Comparing.{HoldSameMade}
use Rattle.acc_explore.proofs.AlikeWorlds.{IsKept, alike_worlds}
use Rattle.acc_host.specs.Entries.{items_shown}
use Rattle.acc_place.proofs.AnswersKept.{All-reversed}
use Rattle.acc_work.specs.Logs.{all_items}
use Rattle.acc_explore.proofs.alike.are_alike.Goals as goal

pub returns : goal.returns
returns c = λ cells.
    let v = c.args.old.now in
    let w = c.args.new.now in
    let a = c.keeps.ensures in
    let b = c.keeps-2.ensures in
    let old : IsKept v = record { legal = a.legal; stand = a.stand; taken = a.taken; in_order = a.in_order; outside = a.outside } in
    let new : IsKept w = record { legal = b.legal; stand = b.stand; taken = b.taken; in_order = b.in_order; outside = b.outside } in
    let same = c.if-not-leave_alike.false in
    let items = c.have_same_items.ensures in
    let shown = c.if-not-have_same_items.false in
    let one : reverse c.log.result.now.items ≡ v.work = ap reverse c.log.ensures ∙ reverse-reverse v.work in
    let two : reverse c.log-else-not-leave_alike.result.now.items ≡ w.work = ap reverse c.log-else-not-leave_alike.ensures ∙ reverse-reverse w.work in
    alike_worlds v w old new (record { config = c.requires.config; statements = c.requires.statements })
    (record {
      hosts = c.all_stand_alike.ensures c.if-not-all_stand_alike.false;
      progress = c.have_same_progress.ensures c.if-not-have_same_progress.false;
      places = c.leave_alike.ensures.places same;
      own = c.leave_alike.ensures.own same;
      shown = λ host.
          sym (ap (λ (work : List WorkEntry). items_shown host work) one) ∙ (items.shown shown host ∙ ap (λ (work : List WorkEntry). items_shown host work) two);
      items = sym (ap all_items one) ∙ (items.all shown ∙ ap all_items two);
      arrays = c.hold_same_cells.ensures.arrays cells;
      blocks = subst (All (HoldSameMade v w)) (reverse-reverse v.work) (All-reversed (HoldSameMade v w) (reverse v.work) (c.hold_same_cells.ensures.blocks cells));
    })
