use Rattle.std.proofs.Common.{◌≡◌, Some, None, sym, ap, ◌∙◌}
use Rattle.std.specs.Option.{option_map}
use Rattle.acc_batch.specs.Labels.{on_queue}
use Rattle.acc_core.specs.Machine.{labels_of}
use Rattle.acc_place.specs.Plans.{nth_batch}
use Rattle.acc_report.proofs.JoinedPuts.{puts_then, puts_nothing}
use Rattle.acc_steps.specs.Lines.{batch_text}
use Rattle.acc_steps.proofs.words.put_batch.Goals as goal

pub returns-in-Some : goal.returns-in-Some
unfolding batch_text
returns-in-Some g c =
    let placed = rw (c.place.ensures.config, c.place.ensures.history, c.place.ensures.counts) at c.placed.ensures in
    let there : nth_batch (on_queue c.args.at (labels_of c.args.world.now)) c.args.number ≡ Some c.in-Some.label.now =
    sym placed ∙ ap (option_map (λ l. l.now)) c.in-Some.is in
    let ops = c.as_slice.ensures ∙ c.get.ensures in
    rw there (puts_then c.put.ensures (puts_then c.put_number.ensures (puts_then c.put-2.ensures (puts_then c.put_queue.ensures (puts_then c.put-in-Some.ensures (rw ops at c.put_op_words.ensures))))))

pub returns-in_default : goal.returns-in_default
unfolding batch_text
returns-in_default g c =
    let placed = rw (c.place.ensures.config, c.place.ensures.history, c.place.ensures.counts) at c.placed.ensures in
    let none : nth_batch (on_queue c.args.at (labels_of c.args.world.now)) c.args.number ≡ None =
    sym placed ∙ ap (option_map (λ l. l.now)) c.in_default.is in
    rw none (puts_then c.put.ensures (puts_then c.put_number.ensures (puts_then c.put-2.ensures (puts_then c.put_queue.ensures (puts_nothing _)))))
