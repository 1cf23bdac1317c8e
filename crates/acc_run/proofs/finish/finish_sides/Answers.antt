use Rattle.std.proofs.Common.{List, sym, subst}
use Rattle.acc_host.specs.Legality.{Histories}
use Rattle.acc_run.specs.Finishing.{AreOfOneRun, Finished}
use Rattle.acc_run.specs.Tokens.{TokenView}
use Rattle.acc_run.proofs.LegalRun.{ended_finished}
use Rattle.acc_run.proofs.finish.finish_sides.Goals as goal

pub returns-in-Ok-clause-finished : goal.returns-in-Ok-clause-finished
returns-in-Ok-clause-finished c =
    let p = c.args.sides.place in
    let w = c.args.sides.work in
    let tokens = c.args.tokens.items in
    let keeps = c.keeps-2.ensures in
    let one : AreOfOneRun c.args.config.now p w tokens = subst (λ (ts : List TokenView). AreOfOneRun c.args.config.now p w ts) c.as_slice.ensures.value c.in-Ok.ensures.one in
    subst (λ (h : Histories). Finished tokens h) (sym c.outcome_of.ensures.histories)
    (ended_finished c.args.config.now p w tokens c.keeps.ensures.accepted (record { arrays = keeps.arrays; devices = keeps.devices; order = keeps.order; kept = keeps.kept }) c.in-Ok.ensures.ended one)
