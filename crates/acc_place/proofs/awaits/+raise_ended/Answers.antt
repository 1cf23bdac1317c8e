use Rattle.std.proofs.Common.{◌≡◌, ◌∙◌, ℕ, ◌++◌, ◌-◌, length, max, take, drop, get_or, ap, None, arith}
use Rattle.std.specs.List.{flat_map}
use Rattle.acc_base.specs.Queues.{every_queue}
use Rattle.acc_base.specs.declared.range.Range.{Range}
use Rattle.acc_present.specs.Notes.{Note}
use Rattle.acc_place.specs.declared.directive.Clause.TheVariants.{Copy}
use Rattle.acc_place.specs.declared.marked.Marked.{Marked}
use Rattle.acc_place.specs.inner.Noting.{ended_range, last_used, note_found}
use Rattle.acc_place.proofs.AwaitedNumbers.{first_and_rest, used_both, same_for}
use Rattle.acc_place.proofs.awaits.+raise_ended.Goals as goal

abbrev no_step : Marked
no_step = record { item = record { clause = Copy; range = record { array = 0; lo = 0; len = 0 } }; held = None; opened = None; ended = None }

pub returns-in-len1-up : goal.returns-in-len1-up
returns-in-len1-up t c = λ notes h f is.
    let found : Range → Note = note_found notes c.args.table.now.presences in
    let ts = c.args.steps.now in
    let first = get_or ts 0 no_step in
    let rest = take (length ts - 1) (drop 1 ts) in
    let split = first_and_rest ts no_step c.in-len1-up.len_at_least in
    let all : flat_map ended_range ts ≡ ended_range first ++ flat_map ended_range rest = ap (flat_map ended_range) split in
    let one : ℕ → ℕ = λ q. max (f q) (last_used found (ended_range first) q) in
    let last : (q : ℕ) → max (one q) (last_used found (flat_map ended_range rest) q) ≡ max (f q) (last_used found (flat_map ended_range ts) q) =
    λ q. omega (arith, used_both found (ended_range first) (flat_map ended_range rest) q, ap (λ xs. last_used found xs q) all) in
    c.raise_ended.ensures notes h one (c.raise_step.ensures notes h f is)
    ∙ same_for (λ q. max (one q) (last_used found (flat_map ended_range rest) q)) (λ q. max (f q) (last_used found (flat_map ended_range ts) q)) every_queue last
