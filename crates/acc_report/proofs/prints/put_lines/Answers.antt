use Rattle.acc_report.proofs.PrintedLines.{put_more}
use Rattle.acc_report.proofs.prints.put_lines.Goals as goal

pub loop-statement-preserved : goal.loop-statement-preserved
loop-statement-preserved g c =
    let l = c.loop-statement in
    put_more _ _ _ c.args.devices l.device c.put_statement-device.result l.statement-index c.statement-item.result c.args.statements.now l.entries c.put_statement-device.new.entries _
    c.loop-statement-test.true c.statement-item.is c.put_statement-device.ensures.device c.put_statement-device.ensures.left l.invariant c.put_statement-device.ensures.puts
