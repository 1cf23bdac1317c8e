use Rattle.acc_script.specs.Scripts.{view_of_script}
use Rattle.acc_driver.proofs.ExploreAnswers.{first_explored}
use Rattle.acc_driver.proofs.explorations.explore_behind.Goals as goal

pub returns-in-Ok-clause-answers : goal.returns-in-Ok-clause-answers
returns-in-Ok-clause-answers g c =
    let says = rw c.hosts_of-hosts.ensures at c.in-Ok.ensures in
    let answers = rw c.as_slice-events.ensures.value at c.explore_events.ensures.answers in
    first_explored c.args.options c.args.exploring c.args.schedule.now (view_of_script c.args.script) c.in-Ok.events.items _ _ c.explore_events.result says answers
