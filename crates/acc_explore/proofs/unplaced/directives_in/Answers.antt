use Rattle.std.proofs.Common.{rules, ◌≡◌, ◌∙◌}
use Rattle.std.specs.Prelude.{count_by}
use Rattle.std.proofs.iter.runs.Made.{chains}
use Rattle.acc_explore.specs.Takes.{places_directive}
use Rattle.acc_host.specs.declared.program.Statement.{Statement}
use Rattle.acc_host.specs.Hosts.{bare_act}
use Rattle.acc_explore.proofs.UnplacedDirectives.{counted_bare}
use Rattle.acc_explore.proofs.unplaced.directives_in.Goals as goal

pub returns : goal.returns
returns c =
    let counted : c.count.result ≡ count_by (λ (s : Statement). places_directive (bare_act s.act)) c.args.statements.now = search (rules, chains) in
    counted ∙ counted_bare c.args.statements.now
