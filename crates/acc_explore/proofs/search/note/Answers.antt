use Rattle.std.proofs.Common.{◌≡◌, ◌∙◌, ◌+◌, ◌∷◌, [], ℕ, List, length, reverse, sym, ap, subst, arith}
use Rattle.std.proofs.lemmas.List.{length-reverse, reverse-append}
use Rattle.acc_explore.specs.Arrivals.{found_at}
use Rattle.acc_explore.specs.declared.arrival.Arrival.{Arrival}
use Rattle.acc_explore.specs.inner.Searching.{AreAtHand, start_of}
use Rattle.acc_explore.proofs.WorldsAtHand.{at_hand_more, newest_state}
use Rattle.acc_explore.proofs.search.note.Goals as goal

pub returns-clause-worlds : goal.returns-clause-worlds
returns-clause-worlds c =
    let start = start_of c.args.task.now in
    let items = c.args.found.now.arrivals.items in
    let a = c.args.arrival in
    let more : reverse c.push.new.self.items ≡ a ∷ reverse items = ap reverse c.in_ok-push.ensures.items ∙ reverse-append items (a ∷ []) in
    let next : length (reverse items) + 1 ≡ c.len-count.result + 1 = omega (arith, c.len-count.ensures, length-reverse items) in
    subst (λ (xs : List Arrival). AreAtHand start xs c.put.new.self.seats.items) (sym more)
    (c.put.ensures.kept start (a ∷ reverse items) (omega (arith, next))
    (c.requires.led ∙ (newest_state start a (reverse items) ∙ ap (λ (k : ℕ). (found_at start (a ∷ reverse items) k).state) next))
    (at_hand_more start a (reverse items) c.args.found.now.worlds.seats.items c.requires.worlds))
