use Rattle.acc_place.proofs.device.Device.mark.Goals as goal

pub returns-in-Some-StructuredDown-clause-notes : goal.returns-in-Some-StructuredDown-clause-notes
returns-in-Some-StructuredDown-clause-notes c = λ notes fresh h. c.leave.ensures.notes notes h

pub returns-in-Some-DynamicDown-clause-notes : goal.returns-in-Some-DynamicDown-clause-notes
returns-in-Some-DynamicDown-clause-notes c = λ notes fresh h. c.leave-in-Some-DynamicDown.ensures.notes notes h

pub returns-in-Some-DynamicZero-clause-notes : goal.returns-in-Some-DynamicZero-clause-notes
returns-in-Some-DynamicZero-clause-notes c = λ notes fresh h. c.finalize.ensures.notes notes h
