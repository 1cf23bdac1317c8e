use Rattle.std.proofs.Common.{◌≡◌, ◌∙◌, length}
use Rattle.std.proofs.lemmas.List.{take_at}
use Rattle.acc_batch.proofs.PackedValues.{packed, packed_back}
use Rattle.acc_batch.proofs.values.many.Goals as goal

pub returns-clause-kept : goal.returns-clause-kept
returns-clause-kept c =
    let long : length c.write_all.new.bytes ≡ c.resize.new.self.len = c.write_all.auto.bytes ∙ c.deref_mut.ensures.len in
    let whole = c.shrink_to_fit.ensures.items ∙ take_at c.write_all.new.bytes _ _ long ∙ c.write_all.ensures in
    packed c.args.width _ c.args.cells.now c.requires.least whole

pub returns-clause-values : goal.returns-clause-values
returns-clause-values c =
    let long : length c.write_all.new.bytes ≡ c.resize.new.self.len = c.write_all.auto.bytes ∙ c.deref_mut.ensures.len in
    let whole = c.shrink_to_fit.ensures.items ∙ take_at c.write_all.new.bytes _ _ long ∙ c.write_all.ensures in
    packed_back c.args.width _ c.args.cells.now c.requires.least whole
