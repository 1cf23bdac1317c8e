use Rattle.acc_host.proofs.NotesNothing.{notes_nothing}
use Rattle.acc_run.proofs.work_side.WorkSide.item.Goals as goal

pub tell-requires-clause-reached : goal.tell-requires-clause-reached
tell-requires-clause-reached c = notes_nothing c.self.inside.work c.args.item c.requires.item
