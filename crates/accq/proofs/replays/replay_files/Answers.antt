use Rattle.std.proofs.Common.{Ok}
use Rattle.accq.specs.Words.{replay_by}
use Rattle.accq.proofs.StatusReplay.{files_answered, files_sent}
use Rattle.accq.proofs.replays.replay_files.Goals as goal

pub returns-clause-answers : goal.returns-clause-answers
returns-clause-answers g c =
    let holds = g.S.Store.holds c.args.files.now in
    let asked = replay_by c.args.asked.now in
    let old = g.W.Write.contents c.args.output.now in
    let written = g.W.Write.contents c.replay.new.writer in
    let whole = files_answered holds asked (g.F.Read.remaining c.in-Some.script) (g.F.Read.remaining c.in-Some-open.schedule) old written (Ok c.in_ok-ended.ended) c.in-Some.ensures.bytes c.in-Some-open.ensures.bytes c.in_ok-ended.ensures.answers in
    files_sent holds asked old written _ c.in_ok-ended.ended c.sent.result whole
    (record { same = c.sent.ensures.same; fault = c.sent.ensures.fault; kept = c.sent.ensures.kept })
