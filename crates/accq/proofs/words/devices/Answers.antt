use Rattle.std.proofs.Common.{rules, ◌≡◌, ◌∙◌, ap}
use Rattle.std.specs.Prelude.{codes}
use Rattle.clap.specs.Words.{rule_of}
use Rattle.accq.specs.Words.{number_rule}
use Rattle.accq.proofs.words.devices.Goals as goal

pub returns-clause-rule : goal.returns-clause-rule
returns-clause-rule c =
    let from : rule_of c.number.result ≡ number_rule (codes "devices") (codes "1") c.from.result = search rules in
    from ∙ ap (number_rule (codes "devices") (codes "1")) c.from.ensures
