use Rattle.acc_driver.proofs.ReplayAnswers.{whole_input}
use Rattle.acc_driver.proofs.replays.replay_one.Goals as goal

pub returns-in-Ok-clause-answers : goal.returns-in-Ok-clause-answers
returns-in-Ok-clause-answers g c =
    let answers = rw (c.split.ensures.script, c.split.ensures.schedule, c.as_slice.ensures.value) at c.replay_texts.ensures.answers in
    rw c.of_input.ensures (whole_input (g.R.Read.remaining c.args.reader.now) c.in-Ok.text.items c.args.options _ _ _ c.in-Ok.ensures.bytes answers)
