use Rattle.std.proofs.Common.{◌≡◌, ◌∙◌, ℕ, ◌-◌, length, max, take, drop, get_or, sym, ap}
use Rattle.acc_base.specs.Queues.{every_queue}
use Rattle.acc_base.specs.declared.range.Range.{Range}
use Rattle.acc_kernel.specs.Jobs.{Use}
use Rattle.acc_present.specs.Notes.{Note}
use Rattle.acc_place.specs.inner.Noting.{last_made, made_at, note_found}
use Rattle.acc_place.proofs.AwaitedNumbers.{first_and_rest, made_first, same_for}
use Rattle.acc_place.proofs.awaits.+raise_uses.Goals as goal

pub returns-in-len1-up : goal.returns-in-len1-up
returns-in-len1-up t c = λ notes h f is.
    let found : Range → Note = note_found notes c.args.table.now.presences in
    let us = c.args.uses.now in
    let none : Use = c.index-uses-0.result in
    let first = get_or us 0 none in
    let rest = take (length us - 1) (drop 1 us) in
    let split = first_and_rest us none c.in-len1-up.len_at_least in
    let one : ℕ → ℕ = λ q. max (f q) (made_at q (found first.1)) in
    let last : (q : ℕ) → max (one q) (last_made found rest q) ≡ max (f q) (last_made found us q) =
    λ q. made_first found f first rest q ∙ ap (λ xs. max (f q) (last_made found xs q)) (sym split) in
    c.raise_uses.ensures notes h one (c.raise_range.ensures notes h f is)
    ∙ same_for (λ q. max (one q) (last_made found rest q)) (λ q. max (f q) (last_made found us q)) every_queue last
