use Rattle.std.proofs.Common.{Ok, Err, refl, rules}
use Rattle.acc_host.specs.declared.state.After.TheVariants as go
use Rattle.acc_host.proofs.turn.turn.Goals as goal

pub returns-in-Err-clause-moves : goal.returns-in-Err-clause-moves
returns-in-Err-clause-moves g c =
    record {
      goes = Err c.in-Err.fault;
      asks = search rules;
      adds = search rules;
      on = c.move_on-in-Err.ensures;
    }

pub returns-in-Refused-clause-moves : goal.returns-in-Refused-clause-moves
returns-in-Refused-clause-moves g c =
    record {
      goes = Ok go.Idle;
      asks = search rules;
      adds = search rules;
      on = record { ended_is = refl; ids_is = refl; phase_is = refl; reply_is = refl };
    }
