use Rattle.std.proofs.Common.{◌∙◌}
use Rattle.clap.specs.declared.parser.matches.ArgMatches.TheViews.{out-ArgMatches}
use Rattle.accq.proofs.WordsRead.{asked_entered}
use Rattle.accq.proofs.command.asked_in_subcommand.Goals as goal

pub returns-in-Some-clause-value : goal.returns-in-Some-clause-value
returns-in-Some-clause-value c =
    c.asked_behind.ensures.value
    ∙ asked_entered (out-ArgMatches c.args.matches.now).subcommand c.in-Some.name.now _ c.in-Some.ensures.name c.in-Some.ensures.rows
