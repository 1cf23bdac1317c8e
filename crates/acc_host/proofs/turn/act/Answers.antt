use Rattle.std.proofs.Common.{Ok, Err, rules}
use Rattle.acc_host.specs.declared.state.After.TheVariants as go
use Rattle.acc_host.proofs.turn.act.Goals as goal

pub returns-in-Ok-clause-moves : goal.returns-in-Ok-clause-moves
returns-in-Ok-clause-moves g c =
    record {
      goes = Ok c.owed_by.result;
      asks = search rules;
      adds = search rules;
      on = c.move_on.ensures;
    }

pub returns-in-Err-clause-moves : goal.returns-in-Err-clause-moves
returns-in-Err-clause-moves g c =
    record {
      goes = Err c.in-Err.fault;
      asks = search rules;
      adds = search rules;
      on = c.move_on-in-Err.ensures;
    }

pub returns-in-Err-print-clause-moves : goal.returns-in-Err-print-clause-moves
returns-in-Err-print-clause-moves g c =
    record {
      goes = Err c.in-Err-print.fault;
      asks = search rules;
      adds = search rules;
      on = c.move_on-in-Err-print.ensures;
    }

pub returns-in-Ok-with_device-clause-moves : goal.returns-in-Ok-with_device-clause-moves
returns-in-Ok-with_device-clause-moves g c =
    record {
      goes = Ok (go.Set c.in-Ok-with_device.set);
      asks = search rules;
      adds = search rules;
      on = c.move_on-in-Ok-with_device.ensures;
    }

pub returns-in-Err-with_device-clause-moves : goal.returns-in-Err-with_device-clause-moves
returns-in-Err-with_device-clause-moves g c =
    record {
      goes = Err c.in-Err-with_device.fault;
      asks = search rules;
      adds = search rules;
      on = c.move_on-in-Err-with_device.ensures;
    }

pub returns-in-Ok-with_default-clause-moves : goal.returns-in-Ok-with_default-clause-moves
returns-in-Ok-with_default-clause-moves g c =
    record {
      goes = Ok (go.Set c.in-Ok-with_default.set);
      asks = search rules;
      adds = search rules;
      on = c.move_on-in-Ok-with_default.ensures;
    }

pub returns-in-Err-with_default-clause-moves : goal.returns-in-Err-with_default-clause-moves
returns-in-Err-with_default-clause-moves g c =
    record {
      goes = Err c.in-Err-with_default.fault;
      asks = search rules;
      adds = search rules;
      on = c.move_on-in-Err-with_default.ensures;
    }

pub returns-in-ShowDevice-clause-moves : goal.returns-in-ShowDevice-clause-moves
returns-in-ShowDevice-clause-moves g c =
    record {
      goes = Ok (go.Set c.args.ids.now);
      asks = search rules;
      adds = search rules;
      on = c.move_on-in-ShowDevice.ensures;
    }
