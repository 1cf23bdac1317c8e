use Rattle.accq.proofs.StatusReplay.{input_sent}
use Rattle.accq.proofs.replays.replay_input.Goals as goal

pub returns-clause-answers : goal.returns-clause-answers
returns-clause-answers g c =
    input_sent (g.R.Read.remaining c.args.input.now) _ _ _ c.in_ok-ended.ended c.sent.result c.in_ok-ended.ensures.answers
    (record { same = c.sent.ensures.same; fault = c.sent.ensures.fault; kept = c.sent.ensures.kept })
