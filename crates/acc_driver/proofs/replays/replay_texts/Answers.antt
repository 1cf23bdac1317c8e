use Rattle.std.proofs.Common.{rules}
use Rattle.acc_script.specs.Scripts.{view_of_script}
use Rattle.acc_driver.specs.Replays.{of_input}
use Rattle.acc_driver.proofs.ReplayAnswers.{schedule_answered, script_answered}
use Rattle.acc_driver.proofs.replays.replay_texts.Goals as goal

pub returns-in-Ok-clause-answers : goal.returns-in-Ok-clause-answers
returns-in-Ok-clause-answers g c =
    schedule_answered c.args.options c.args.script.now c.args.schedule.now (view_of_script c.in-Ok.script) _ _ (of_input c.replay_script.result)
    c.in-Ok.ensures.found c.replay_script.ensures.answers

pub returns-in-Err-clause-answers : goal.returns-in-Err-clause-answers
returns-in-Err-clause-answers g c =
    script_answered c.args.options c.args.script.now c.args.schedule.now _ _ c.in-Err.fault c.in-Err.ensures.refused (search rules)
