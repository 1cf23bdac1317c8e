use Rattle.std.proofs.Common.{◌∙◌, ℕ, map, max, refl, sym, arith}
use Rattle.std.proofs.lemmas.Int.{to_z-of_z}
use Rattle.std.specs.List.{flat_map}
use Rattle.std.specs.Option.{option_to_list}
use Rattle.acc_base.specs.Queues.{every_queue}
use Rattle.acc_base.proofs.EachQueue.{none_each}
use Rattle.acc_place.specs.Targets.{queue_meant}
use Rattle.acc_place.specs.inner.Trials.{named_count}
use Rattle.acc_place.proofs.AwaitedNumbers.{same_for}
use Rattle.acc_place.proofs.awaits.listed_counts.Goals as goal

pub returns : goal.returns
returns c =
    let count : ℕ → ℕ = named_count c.args.labels.now.queues c.args.device (flat_map option_to_list (map (queue_meant c.args.default) c.args.values.now)) in
    let default_fits = c.ranges.default in
    let raised = simp to_z-of_z at c.raise_named.ensures in
    raised (λ q. 0) (sym (none_each (λ q. 0) (λ q. refl))) ∙ same_for (λ q. max 0 (count q)) count every_queue (λ q. omega arith)
