use Rattle.std.proofs.Common.{◌≡◌, ◌∙◌, ℕ, cond, max, sym, ap}
use Rattle.std.specs.Prelude.{◌==◌}
use Rattle.std.specs.Option.{option_to_list}
use Rattle.acc_base.specs.Queues.{every_queue}
use Rattle.acc_place.specs.inner.Trials.{named_count}
use Rattle.acc_place.proofs.AwaitedNumbers.{named_alone, none_raised, same_for}
use Rattle.acc_place.proofs.awaits.raise_placed.Goals as goal

pub returns-in-None : goal.returns-in-None
returns-in-None c = λ f is. rw c.in-None.is (is ∙ none_raised f)

pub returns-in-Some : goal.returns-in-Some
returns-in-Some c = λ f is.
    let queues = c.args.labels.now.queues in
    let device = c.args.device in
    let queue = c.in-Some.queue in
    let alone : (q : ℕ) → max (f q) (cond (queue == q) c.placed_on.result 0) ≡ max (f q) (named_count queues device (option_to_list c.args.queue) q) =
    λ q. ap (max (f q)) (ap (λ n. cond (queue == q) n 0) c.placed_on.ensures ∙ (named_alone queues device queue q ∙ ap (λ o. named_count queues device (option_to_list o) q) (sym c.in-Some.is))) in
    c.raise.ensures f is ∙ same_for (λ q. max (f q) (cond (queue == q) c.placed_on.result 0)) (λ q. max (f q) (named_count queues device (option_to_list c.args.queue) q)) every_queue alone
