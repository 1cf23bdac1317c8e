use Rattle.std.proofs.Common.{◌≡◌, []}
use Rattle.std.proofs.lemmas.List.Elements.{All-map}
use Rattle.acc_place.proofs.labels.Labels.new.Goals as goal

pub returns-clause-none : goal.returns-clause-none
returns-clause-none c = All-map (λ labels. labels ≡ []) (λ v. v.items) c.loop.queues.items c.loop.invariant.none
