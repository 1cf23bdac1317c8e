use Rattle.std.proofs.Common.{◌≡◌, sym, ◌∙◌, None}
use Rattle.acc_present.specs.Presences.{holder}
use Rattle.acc_place.proofs.AwaitedNumbers.{none_raised}
use Rattle.acc_place.proofs.awaits.raise_used.Goals as goal

pub returns-in-None : goal.returns-in-None
returns-in-None c = λ notes h f is.
    let none : holder c.args.table.now.presences c.args.range ≡ None = sym c.in-None.ensures.entry in
    rw none (is ∙ none_raised f)
