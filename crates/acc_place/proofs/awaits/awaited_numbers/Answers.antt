use Rattle.std.proofs.Common.{◌≡◌, ◌∙◌, ℕ, max, sym, ap}
use Rattle.std.specs.List.{flat_map}
use Rattle.std.specs.Option.{option_to_list}
use Rattle.acc_base.specs.Queues.{every_queue}
use Rattle.acc_base.specs.declared.range.Range.{Range}
use Rattle.acc_present.specs.Notes.{Note}
use Rattle.acc_place.specs.declared.ops.Group.{Group}
use Rattle.acc_place.specs.declared.ops.Group.TheVariants.{CopyIns, Updates, CopyOuts}
use Rattle.acc_place.specs.inner.Noting.{ended_range, last_made, last_used, note_found, used_ranges}
use Rattle.acc_place.specs.Targets.{queues_named}
use Rattle.acc_place.specs.inner.Trials.{named_count, number_in}
use Rattle.acc_place.specs.inner.Judging.{group_ops, marked_ops}
use Rattle.acc_place.proofs.AwaitedNumbers.{made_by_groups, regrouped, same_for}
use Rattle.acc_place.proofs.awaits.awaited_numbers.Goals as goal

pub returns : goal.returns
returns c = λ notes h.
    let k = c.args.known.now in
    let found : Range → Note = note_found notes k.table.now.presences in
    let ts = c.args.steps.now in
    let run = option_to_list c.args.run.now in
    let uses : Group → ℕ → ℕ = λ g q. last_made found (flat_map used_ranges (flat_map (group_ops g) ts)) q in
    let named : ℕ → ℕ = named_count k.labels.now.queues k.at.device (queues_named c.args.directive.now) in
    let one : ℕ → ℕ = λ q. max (named q) (uses CopyIns q) in
    let two : ℕ → ℕ = λ q. max (one q) (last_made found (flat_map used_ranges run) q) in
    let three : ℕ → ℕ = λ q. max (two q) (uses Updates q) in
    let four : ℕ → ℕ = λ q. max (three q) (uses CopyOuts q) in
    let first = c.raise_group.ensures notes h named c.named_counts-numbers.ensures in
    let second = c.raise_if.ensures notes h one first in
    let third = c.raise_group-2.ensures notes h two second in
    let fourth = c.raise_group-3.ensures notes h three third in
    let ended : ℕ → ℕ = λ q. last_used found (flat_map ended_range ts) q in
    let all : ℕ → ℕ = number_in k notes (queues_named c.args.directive.now) (marked_ops run ts) ts in
    let last : (q : ℕ) → max (four q) (ended q) ≡ all q =
    λ q. regrouped (named q) (uses CopyIns q) (last_made found (flat_map used_ranges run) q) (uses Updates q) (uses CopyOuts q) (ended q)
    ∙ ap (λ n. max (named q) (max n (ended q))) (sym (made_by_groups found run ts q)) in
    c.raise_ended.ensures notes h four fourth ∙ same_for (λ q. max (four q) (ended q)) all every_queue last
