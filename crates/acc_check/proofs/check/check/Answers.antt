use Rattle.acc_check.proofs.check.check.Goals as goal

pub returns-in-Ok-clause-told : goal.returns-in-Ok-clause-told
returns-in-Ok-clause-told g c =
    let tells = rw c.in-Some.is at c.in_ok-told.ensures.told in
    let appends = rw c.as_slice.ensures.value at c.in-Ok.ensures.bytes in
    (c.in-Some.told.items, tells, appends)
