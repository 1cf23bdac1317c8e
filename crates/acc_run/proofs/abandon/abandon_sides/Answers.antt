use Rattle.std.proofs.Common.{List, sym, subst}
use Rattle.acc_host.specs.Legality.{Histories}
use Rattle.acc_run.specs.Finishing.{Abandoned, AreOfOneRun}
use Rattle.acc_run.specs.Tokens.{TokenView}
use Rattle.acc_run.proofs.Abandoning.{abandoned}
use Rattle.acc_run.proofs.abandon.abandon_sides.Goals as goal

pub returns-in-Ok-clause-abandoned : goal.returns-in-Ok-clause-abandoned
returns-in-Ok-clause-abandoned c =
    let p = c.args.sides.place in
    let w = c.args.sides.work in
    let tokens = c.args.tokens.items in
    let keeps = c.keeps-2.ensures in
    let one : AreOfOneRun c.args.config.now p w tokens = subst (λ (ts : List TokenView). AreOfOneRun c.args.config.now p w ts) c.as_slice.ensures.value c.in-Ok.ensures.one in
    subst (λ (h : Histories). Abandoned tokens h c.in-Ok.discarded.items) (sym c.outcome_of-outcome.ensures.histories)
    (abandoned c.args.config.now p w tokens c.in-Ok.discarded.items c.keeps.ensures.accepted (record { arrays = keeps.arrays; devices = keeps.devices; order = keeps.order; kept = keeps.kept }) one c.in-Ok.ensures.listed)
