use Rattle.std.proofs.Common.{◌≡◌, ◌∙◌, ℕ, List, ◌++◌, ◌-◌, length, max, take, drop, get_or, ap, None, arith}
use Rattle.std.specs.List.{flat_map}
use Rattle.std.specs.Option.{option_to_list}
use Rattle.std.proofs.lemmas.Grind.{flat_map-append}
use Rattle.acc_base.specs.Queues.{every_queue}
use Rattle.acc_base.specs.declared.range.Range.{Range}
use Rattle.acc_batch.specs.declared.label.OpLabel.{OpLabel}
use Rattle.acc_present.specs.Notes.{Note}
use Rattle.acc_place.specs.declared.directive.Clause.TheVariants.{Copy}
use Rattle.acc_place.specs.declared.marked.Marked.{Marked}
use Rattle.acc_place.specs.inner.Noting.{last_made, note_found, used_ranges}
use Rattle.acc_place.specs.inner.Judging.{group_ops}
use Rattle.acc_place.proofs.AwaitedNumbers.{first_and_rest, made_both, same_for}
use Rattle.acc_place.proofs.awaits.+raise_group.Goals as goal

abbrev no_step : Marked
no_step = record { item = record { clause = Copy; range = record { array = 0; lo = 0; len = 0 } }; held = None; opened = None; ended = None }

pub returns-in-len1-up : goal.returns-in-len1-up
returns-in-len1-up t c = λ notes h f is.
    let found : Range → Note = note_found notes c.args.table.now.presences in
    let g = c.args.group in
    let ts = c.args.steps.now in
    let first = get_or ts 0 no_step in
    let rest = take (length ts - 1) (drop 1 ts) in
    let split = first_and_rest ts no_step c.in-len1-up.len_at_least in
    let uses = λ (ops : List OpLabel). flat_map used_ranges ops in
    let own = c.raise_if.ensures notes h f is in
    let made : (q : ℕ) → max (f q) (last_made found (uses (option_to_list c.op_of.result)) q) ≡ max (f q) (last_made found (uses (group_ops g first)) q) =
    λ q. ap (λ o. max (f q) (last_made found (uses (option_to_list o)) q)) c.op_of.ensures in
    let all : uses (flat_map (group_ops g) ts) ≡ uses (group_ops g first) ++ uses (flat_map (group_ops g) rest) =
    ap (λ xs. uses (flat_map (group_ops g) xs)) split ∙ flat_map-append used_ranges (group_ops g first) (flat_map (group_ops g) rest) in
    let one : ℕ → ℕ = λ q. max (f q) (last_made found (uses (group_ops g first)) q) in
    let last : (q : ℕ) → max (one q) (last_made found (uses (flat_map (group_ops g) rest)) q) ≡ max (f q) (last_made found (uses (flat_map (group_ops g) ts)) q) =
    λ q. omega (arith, made_both found (uses (group_ops g first)) (uses (flat_map (group_ops g) rest)) q, ap (λ xs. last_made found xs q) all) in
    c.raise_group.ensures notes h one (own ∙ same_for (λ q. max (f q) (last_made found (uses (option_to_list c.op_of.result)) q)) one every_queue made)
    ∙ same_for (λ q. max (one q) (last_made found (uses (flat_map (group_ops g) rest)) q)) (λ q. max (f q) (last_made found (uses (flat_map (group_ops g) ts)) q)) every_queue last
