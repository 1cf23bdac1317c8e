use Rattle.std.proofs.Common.{◌≡◌, ap, ◌∙◌}
use Rattle.std.specs.Option.{option_map}
use Rattle.std.specs.Prelude.{reverse, slice_get}
use Rattle.acc_place.specs.Answers.{answers_of}
use Rattle.acc_report.proofs.JoinedPuts.{puts_then}
use Rattle.acc_steps.specs.Lines.{accepted_text}
use Rattle.acc_steps.proofs.PutSteps.{last_of_reverse}
use Rattle.acc_steps.proofs.words.put_accepted.Goals as goal

pub returns : goal.returns
unfolding accepted_text
returns g c =
    let w = c.args.world.now in
    let answers = answers_of w.config w.history w.counts in
    let entry : option_map (λ e. e.now) c.last.result ≡ slice_get w.history 0 =
    c.last.ensures.value ∙ last_of_reverse w.history c.history.result.now (c.history.ensures.history ∙ ap reverse c.place.ensures.history) in
    let answer : option_map (λ a. a.now) c.last-2.result ≡ slice_get answers 0 =
    c.last-2.ensures.value ∙ last_of_reverse answers c.answers.result.now (rw (c.place-2.ensures.config, c.place-2.ensures.history, c.place-2.ensures.counts) at c.answers.ensures.answers) in
    puts_then (rw entry at c.put_entry.ensures) (rw answer at c.put_placed.ensures)
