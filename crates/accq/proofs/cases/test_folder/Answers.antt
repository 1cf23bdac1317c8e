use Rattle.accq.specs.Words.{test_by}
use Rattle.accq.proofs.CasesTested.{tests_sent}
use Rattle.accq.proofs.cases.test_folder.Goals as goal

pub returns : goal.returns
returns g c =
    tests_sent (test_by c.args.asked.now) (g.S.Folders.files_in c.args.files.now c.args.asked.now.folder.now) (g.D.Folder.files c.in-Ok.folder)
    (g.D.Folder.files c.test_all.new.folder) c.in_ok-tally.tally c.sent.result c.in-Ok.ensures c.in_ok-tally.ensures.tested c.sent.ensures.same
    c.sent.ensures.fault
