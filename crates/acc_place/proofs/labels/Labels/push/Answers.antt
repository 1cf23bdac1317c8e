use Rattle.std.proofs.Common.{[], ◌∷◌, ◌++◌, map, sym, ap, ◌∙◌}
use Rattle.std.specs.Prelude.{slice_set, vec_capacity, ◌-◌}
use Rattle.std.proofs.lemmas.List.{length-map, map-set}
use Rattle.acc_base.specs.Queues.{seat}
use Rattle.acc_place.proofs.SliceSet.{shown_at, shown_same}
use Rattle.acc_place.proofs.labels.Labels.push.Goals as goal

pub returns-clause-queues : goal.returns-clause-queues
returns-clause-queues c =
    let qs = c.self.inside.queues.items in
    let n = seat c.args.label.at in
    let low = rw (← c.self.view_is, length-map qs (λ v. v.items)) at c.requires.seat in
    let is = rw c.seat-seat.ensures at c.index_mut.ensures.value in
    let old = shown_at (λ v. v.items) qs n c.index_mut.result.now [] low is in
    rw (← c.self.view_is, c.seat-seat.ensures)
    (map-set (λ v. v.items) qs n c.push_reserved.new.self
    ∙ (ap (λ ls. slice_set (map (λ v. v.items) qs) n ls) c.push_reserved.ensures.items ∙ ap (λ ls. slice_set (map (λ v. v.items) qs) n (ls ++ c.args.label ∷ [])) (sym old)))

pub returns-clause-room : goal.returns-clause-room
returns-clause-room c =
    rw (← c.self.view_is) (shown_same (λ v. vec_capacity v - 1) c.self.inside.queues.items c.seat-seat.result c.index_mut.result.now c.push_reserved.new.self c.index_mut.ensures.value (ap (λ n. n - 1) c.push_reserved.ensures.capacity))
