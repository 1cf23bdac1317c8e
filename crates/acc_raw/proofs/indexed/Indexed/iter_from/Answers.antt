use Rattle.std.proofs.Common.{◌≡◌, ◌-◌, sym, ap, ◌∙◌, drop, arith}
use Rattle.acc_raw.specs.Indices.{up_to}
use Rattle.acc_raw.specs.inner.Segments.{up_to as up_to_seats}
use Rattle.acc_raw.specs.inner.Wired.{place_at, values}
use Rattle.acc_raw.proofs.Indexing.{begins_at, count_within, last_names, many_seats, none_before, same_count}
use Rattle.acc_raw.proofs.indexed.Indexed.iter_from.Goals as goal
use Rattle.acc_raw.proofs.indexed.Indexed.iter_from.Goals.{in-Some, in-None}

pub at-requires : goal.at-requires
at-requires g c =
    let ps = c.self.inside.nodes.store.links in let ss = c.self.inside.seats.items in let n = up_to_seats c.args.key ss in
    let count : c.before-2.result.n ≡ n - 1 = c.before-2.ensures ∙ ap (λ k. k - 1) c.count_up_to.ensures in
    let many = many_seats ps ss c.self.invariant.1 in let within = count_within c.args.key ss in (
      c.self.invariant.0,
      elim c.match-floor.branch [
        | in-Some w ↦ w.at-is ∙ begins_at ps ss c.self.invariant.1 n w.in-Some.place (sym w.in-Some.is ∙ c.floor.ensures) ∙ ap (λ k. place_at ps k) (sym count)
        | in-None w ↦
            let none = none_before ps n (omega (arith, many, within)) (sym w.in-None.is ∙ c.floor.ensures ∙ last_names ps ss c.self.invariant.1 n) in
            w.at-is ∙ c.self.invariant.0.first ∙ ap (λ k. place_at ps k) (sym (count ∙ ap (λ k. k - 1) none))
      ],
      omega (arith, count, many, within),
    )

pub returns : goal.returns
returns g c =
    let ps = c.self.inside.nodes.store.links in let ss = c.self.inside.seats.items in
    c.at.ensures ∙ ap (λ k. drop k (values ps)) (c.before-2.ensures ∙ ap (λ k. k - 1) (c.count_up_to.ensures ∙ same_count c.args.key ss)) ∙ ap (λ v. drop (up_to c.args.key v.keys - 1) v.items) c.self.view_is
