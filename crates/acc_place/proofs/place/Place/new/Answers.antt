use Rattle.std.proofs.Common.{arith, ap, ◌∙◌}
use Rattle.std.specs.Prelude.{is_some}
use Rattle.acc_place.specs.declared.closes.Close.{Close}
use Rattle.acc_place.proofs.KeptCloses.{at_hand_is, closes_new}
use Rattle.acc_place.proofs.StandingIn.{first_place}
use Rattle.acc_place.proofs.place.Place.new.Goals as goal

pub invariant_of-result : goal.invariant_of-result
invariant_of-result c =
    let devices = c.in_ok-devices.ensures in
    let labels = c.in_ok-labels.ensures in
    let closes = c.in_ok-closes.ensures in
    let history = c.in_ok-history in (
      first_place c.args.config history.history.items c.new-3.result.items c.new-4.result.items c.in_ok-devices.devices.items c.new-5.result.items c.in_ok-labels.labels.queues
          history.ensures.items c.new-3.ensures.items c.new-4.ensures.items c.new-5.ensures.items devices.count devices.empty labels.count labels.none,
      closes_new c.args.config history.history.items c.new-3.result.items c.in_ok-closes.closes.items _ c.in_ok-labels.labels.room history.ensures.items closes.count closes.new
          (omega (arith, history.ensures.capacity, c.len.ensures)),
    )

pub returns-clause-closes : goal.returns-clause-closes
returns-clause-closes c at there =
    let closes = c.in_ok-closes.ensures in
    at_hand_is c.args.config c.in_ok-closes.closes.items at closes.count there ∙ ap (λ (x : Close). is_some x.batch) (closes.new at there)
