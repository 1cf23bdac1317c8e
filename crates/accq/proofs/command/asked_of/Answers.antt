use Rattle.std.proofs.Common.{◌∙◌, inr, sym}
use Rattle.clap.specs.Words.{app_of}
use Rattle.accq.proofs.WordsRead.{asked_found, asked_refused, is_free}
use Rattle.accq.proofs.command.asked_of.Goals as goal

pub returns-in-Some-clause-asked : goal.returns-in-Some-clause-asked
returns-in-Some-clause-asked g c =
    let command = c.args.parser.now in
    asked_found (app_of command) _ c.in-Ok.matches c.requires c.in-Ok.ensures.ok.2 (c.in-Ok.ensures.kinds (is_free (app_of command) c.requires))
    ∙ sym c.in-Some.ensures.value

pub returns-in-Ok-clause-refused : goal.returns-in-Ok-clause-refused
returns-in-Ok-clause-refused g c =
    let command = c.args.parser.now in
    inr (
    asked_found (app_of command) _ c.in-Ok.matches c.requires c.in-Ok.ensures.ok.2 (c.in-Ok.ensures.kinds (is_free (app_of command) c.requires))
    ∙ sym c.in-None.ensures.value
    )

pub returns-clause-refused : goal.returns-clause-refused
returns-clause-refused g c =
    let command = c.args.parser.now in
    asked_refused (app_of command) _ c.in-Err.error c.requires (c.in-Err.ensures.kinds (is_free (app_of command) c.requires))
