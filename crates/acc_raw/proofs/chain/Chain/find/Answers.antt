use Rattle.std.proofs.Common.{◌==◌, sym, ap, ◌∙◌, find, slice_get}
use Rattle.std.proofs.lemmas.List.Folds.{find_at}
use Rattle.acc_raw.specs.inner.Wired.{values}
use Rattle.acc_raw.proofs.Places.{at_is}
use Rattle.acc_raw.proofs.Showing.{none_at, value_at}
use Rattle.acc_raw.proofs.chain.Chain.find.Goals as goal

pub get-requires : goal.get-requires
get-requires g c = at_is c.self.inside.nodes.store.links c.seek-sought.result.index.n c.in-Some.at (sym c.in-Some.is ∙ c.seek-sought.ensures.place.0)

pub returns-in-Some : goal.returns-in-Some
returns-in-Some g c =
    let ps = c.self.inside.nodes.store.links in let n = c.seek-sought.result.index.n in let f = λ (x : g.row.T.Denot). g.T.Keyed.key_of x == c.args.key in
    sym (value_at ps n c.in-Some.at.ptr c.get.result.now c.get.ensures) ∙ ap (λ k. slice_get (values ps) k) c.seek-sought.ensures.first ∙ sym (find_at f (values ps)) ∙ ap (λ vs. find f vs) c.self.view_is

pub returns-in-None : goal.returns-in-None
returns-in-None g c =
    let ps = c.self.inside.nodes.store.links in let n = c.seek-sought.result.index.n in let f = λ (x : g.row.T.Denot). g.T.Keyed.key_of x == c.args.key in
    sym (none_at ps n (sym c.seek-sought.ensures.place.0 ∙ c.in-None.is)) ∙ ap (λ k. slice_get (values ps) k) c.seek-sought.ensures.first ∙ sym (find_at f (values ps)) ∙ ap (λ vs. find f vs) c.self.view_is
