use Rattle.accq.proofs.StatusReplay.{file_sent}
use Rattle.accq.proofs.replays.run_file.Goals as goal

pub returns-clause-answers : goal.returns-clause-answers
returns-clause-answers g c =
    file_sent c.args.asked.now.options (g.S.Store.holds c.args.files.now c.args.asked.now.script.now) (g.F.Read.remaining c.in-Some.file) _ _ _ c.in_ok-ended.ended c.sent.result
    c.in-Some.ensures.bytes c.in_ok-ended.ensures.answers
    (record { same = c.sent.ensures.same; fault = c.sent.ensures.fault; kept = c.sent.ensures.kept })
