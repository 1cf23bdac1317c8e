use Rattle.std.proofs.Common.{◌≡◌, ◌∙◌, ℕ, ◌++◌, ◌-◌, length, map, max, take, drop, get_or, ap, arith, rules}
use Rattle.std.specs.Prelude.{ℤ, pos}
use Rattle.std.proofs.lemmas.Int.{to_z-of_z}
use mir.Syntax.{w64}
use mir.Val.{SFits}
use Rattle.std.specs.List.{flat_map}
use Rattle.std.specs.Option.{option_to_list}
use Rattle.acc_base.specs.Queues.{every_queue}
use Rattle.acc_place.specs.Targets.{queue_meant}
use Rattle.acc_place.specs.inner.Trials.{named_count}
use Rattle.acc_place.proofs.AwaitedNumbers.{first_and_rest, named_both, same_for}
use Rattle.acc_place.proofs.awaits.+raise_named.Goals as goal

pub returns-in-len1-up : goal.returns-in-len1-up
returns-in-len1-up t c = λ f is.
    let queues = c.args.labels.now.queues in
    let device = c.args.device in
    let vs = c.args.values.now in
    let none : ℤ = pos 0 in
    let first = get_or vs 0 none in
    let rest = take (length vs - 1) (drop 1 vs) in
    let split = first_and_rest vs none c.in-len1-up.len_at_least in
    let here = option_to_list c.queue_of.result in
    let default_fits = c.ranges.default in
    let first_fits : SFits w64 first = search rules in
    let read : c.queue_of.result ≡ queue_meant c.args.default first = simp to_z-of_z at c.queue_of.ensures in
    let more = simp to_z-of_z at c.raise_named.ensures in
    let others = flat_map option_to_list (map (queue_meant c.args.default) rest) in
    let one : ℕ → ℕ = λ q. max (f q) (named_count queues device here q) in
    let last : (q : ℕ) → max (one q) (named_count queues device others q) ≡ max (f q) (named_count queues device (flat_map option_to_list (map (queue_meant c.args.default) vs)) q) =
    λ q. omega (arith, named_both queues device here others q, ap (λ o. named_count queues device (option_to_list o ++ others) q) read, ap (λ xs. named_count queues device (flat_map option_to_list (map (queue_meant c.args.default) xs)) q) split) in
    more one (c.raise_placed.ensures f is)
    ∙ same_for (λ q. max (one q) (named_count queues device others q)) (λ q. max (f q) (named_count queues device (flat_map option_to_list (map (queue_meant c.args.default) vs)) q)) every_queue last
