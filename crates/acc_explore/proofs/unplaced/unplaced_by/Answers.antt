use Rattle.std.proofs.Common.{◌≡◌, ◌+◌, ◌∙◌, drop, inl, inr, sym, ap}
use Rattle.std.proofs.lemmas.List.{drop-drop}
use Rattle.acc_explore.specs.Takes.{count_directives, unplaced_in}
use Rattle.acc_explore.proofs.unplaced.unplaced_by.Goals as goal

pub returns-in-Ready : goal.returns-in-Ready
returns-in-Ready c =
    c.directives_in.ensures ∙ (ap count_directives c.remaining-remaining.ensures ∙ ap (unplaced_in c.args.host.now) (sym c.in-Ready.is ∙ c.phase.ensures))

pub returns-in-Waits : goal.returns-in-Waits
returns-in-Waits c =
    let host = c.args.host.now in
    let behind : c.directives_behind.result ≡ count_directives (drop (host.ended + 1) host.statements) =
    c.directives_behind.ensures ∙ (ap (λ ss. count_directives (drop 1 ss)) c.remaining-remaining.ensures ∙ ap count_directives (drop-drop 1 host.ended host.statements)) in
    elim c.in-Waits.is [
      | inl waits ↦ behind ∙ ap (unplaced_in host) (sym waits.2 ∙ c.phase.ensures)
      | inr asks ↦ behind ∙ ap (unplaced_in host) (sym asks.2 ∙ c.phase.ensures)
    ]
