use Rattle.std.proofs.Common.{rules, sym, ap, ◌∙◌, ◌≡◌, ◌<◌, ℕ, subst, length}
use Rattle.atomic_table.specs.Table.{Me}
use Rattle.atomic_table.specs.Seated.{TableId}
use Rattle.acc_queue.specs.declared.knows.Knows.{Knows}
use Rattle.acc_queue.specs.Seen.{Seen, max_each}
use Rattle.acc_queue.proofs.ProgressSteps.{joins, length-max_each}
use Rattle.acc_queue.proofs.progress.Reader.join.Goals as goal

pub join_seat-requires : goal.join_seat-requires
join_seat-requires c =
    let same : c.other.inside.seat.table_id ≡ c.self.inside.seat.table_id = ap (λ (s : Seen). s.table) c.other.view_is ∙ c.requires ∙ sym (ap (λ (s : Seen). s.table) c.self.view_is) in
    let here : c.self.inside.seat.table_id ≡ c.deref.result.now.shared.table_id = search rules in
    (here, same ∙ here, (search rules), (search rules), joins c.self.inside.seat.id c.self.inside.seat.me.0 c.other.inside.seat.id c.other.inside.seat.me.0 (search rules))

pub invariant_of-self : goal.invariant_of-self
invariant_of-self c = let j = c.join_seat.ensures in let me = c.self.invariant in let their = c.other.invariant in
    let same : c.other.inside.seat.table_id ≡ c.self.inside.seat.table_id = ap (λ (s : Seen). s.table) c.other.view_is ∙ c.requires ∙ sym (ap (λ (s : Seen). s.table) c.self.view_is) in
    let xs = c.self.inside.seat.me.0.numbers in let ys = c.other.inside.seat.me.0.numbers in
    let alike : length xs ≡ length ys = me.2 ∙ sym (their.2 ∙ ap (λ (z : TableId). z.words) same) in (
      j.0 ∙ me.0,
      ap (λ (m : Me ℕ Knows). m.0.writes) j.2 ∙ me.1,
      ap (λ (m : Me ℕ Knows). length m.0.numbers) j.2 ∙ length-max_each xs ys alike ∙ me.2 ∙ sym (ap (λ (z : TableId). z.words) j.0),
      ap (λ (m : Me ℕ Knows). m.1) j.2 ∙ me.3,
      subst (λ (z : TableId). 0 < z.words) (sym j.0) me.4,
    )
