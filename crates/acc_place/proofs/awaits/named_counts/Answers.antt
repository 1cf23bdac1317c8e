use Rattle.std.proofs.Common.{◌≡◌, ◌∙◌, ℕ, ◌<◌, true, cond, [], length, map, refl, sym, ap, rules}
use Rattle.std.proofs.lemmas.Int.{to_z-of_z}
use mir.Syntax.{w64}
use mir.Val.{SFits}
use Rattle.std.specs.List.{flat_map}
use Rattle.std.specs.Option.{option_to_list}
use Rattle.acc_base.specs.declared.ids.TheConstants.{QUEUES}
use Rattle.acc_base.specs.Queues.{every_queue}
use Rattle.acc_base.proofs.EachQueue.{none_each, same_each}
use Rattle.acc_batch.specs.Labels.{has_number}
use Rattle.acc_place.specs.declared.directive.Waits.TheVariants as waits
use Rattle.acc_place.specs.Targets.{queues_named, queues_written}
use Rattle.acc_place.specs.inner.Places.{queue_in}
use Rattle.acc_place.specs.inner.Trials.{named_count}
use Rattle.acc_place.proofs.AwaitedNumbers.{all_named}
use Rattle.acc_place.proofs.awaits.named_counts.Goals as goal

pub returns-in-Nothing : goal.returns-in-Nothing
returns-in-Nothing c =
    let d = c.args.directive.now in
    let none : queues_named d ≡ [] = ap (λ w. flat_map option_to_list (queues_written d.default w)) (sym c.waits.ensures ∙ c.in-Nothing.is) in
    rw none (sym (none_each (named_count c.args.labels.now.queues c.args.device []) (λ q. refl)))

pub returns-in-All : goal.returns-in-All
returns-in-All c =
    let d = c.args.directive.now in
    let queues = c.args.labels.now.queues in
    let count : ℕ → ℕ = λ q. length (queue_in queues (record { device = c.args.device; queue = q })) in
    let all : (q : ℕ) → q < QUEUES → has_number (queues_named d) q ≡ true =
    λ q low. ap (λ w. has_number (flat_map option_to_list (queues_written d.default w)) q) (sym c.waits.ensures ∙ c.in-All.is) ∙ all_named q low in
    c.all_counts.ensures ∙ same_each count (named_count queues c.args.device (queues_named d)) (λ q low. sym (ap (λ b. cond b (count q) 0) (all q low)))

pub returns-in-Listed : goal.returns-in-Listed
returns-in-Listed c =
    let d = c.args.directive.now in
    let queues = c.args.labels.now.queues in
    let values = c.as_slice.result.now in
    let listed : d.waits ≡ waits.Listed values = sym c.waits.ensures ∙ (c.in-Listed.is ∙ ap waits.Listed (sym c.as_slice.ensures)) in
    let default_fits : SFits w64 c.default.result = search rules in
    let counted = simp to_z-of_z at c.listed_counts.ensures in
    rw c.default.ensures at counted ∙ ap (λ w. map (named_count queues c.args.device (flat_map option_to_list (queues_written d.default w))) every_queue) (sym listed)
