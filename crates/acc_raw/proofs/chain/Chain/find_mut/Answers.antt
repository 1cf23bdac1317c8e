use Rattle.std.proofs.Common.{◌==◌, sym, ap, ◌∙◌, find, slice_get, slice_set}
use Rattle.std.specs.List.{position_or_len}
use Rattle.std.proofs.lemmas.List.Folds.{find_at}
use mathlib.Core.Logic.{inr}
use Rattle.acc_raw.specs.inner.Wired.{values}
use Rattle.acc_raw.proofs.Changing.{ends_same, values-other, wired-other}
use Rattle.acc_raw.proofs.Places.{at_is}
use Rattle.acc_raw.proofs.Showing.{none_at, value_at}
use Rattle.acc_raw.proofs.chain.Chain.find_mut.Goals as goal

pub get_mut-link-requires : goal.get_mut-link-requires
get_mut-link-requires g c = at_is c.self.inside.nodes.store.links c.seek-sought.result.index.n c.in-Some.at (sym c.in-Some.is ∙ c.seek-sought.ensures.place.0)

pub invariant_of-self-lent : goal.invariant_of-self-lent
invariant_of-self-lent g c = λ w.
    let ps = c.self.inside.nodes.store.links in let n = c.seek-sought.result.index.n in let p = c.in-Some.at.ptr in let l = c.get_mut-link.result.now in let e = c.get_mut-link.ensures.value in
    wired-other p l w ps n e c.self.invariant

pub returns-in-Some : goal.returns-in-Some
returns-in-Some g c =
    let ps = c.self.inside.nodes.store.links in let n = c.seek-sought.result.index.n in let f = λ (x : g.row.T.Denot). g.T.Keyed.key_of x == c.args.key in
    let p = c.in-Some.at.ptr in let l = c.get_mut-link.result.now in let e = c.get_mut-link.ensures.value in let first = c.seek-sought.ensures.first in (
      ends_same (λ w. values-other p l w ps n e ∙ ap (λ k. slice_set (values ps) k w) first ∙ ap (λ vs. slice_set vs (position_or_len f vs) w) c.self.view_is),
      record {
        value = sym (value_at ps n p l e) ∙ ap (λ k. slice_get (values ps) k) first ∙ sym (find_at f (values ps)) ∙ ap (λ vs. find f vs) c.self.view_is;
        writes_back = tt;
      },
    )

pub returns-in-None : goal.returns-in-None
returns-in-None g c =
    let ps = c.self.inside.nodes.store.links in let n = c.seek-sought.result.index.n in let f = λ (x : g.row.T.Denot). g.T.Keyed.key_of x == c.args.key in (
      ap inr c.self.view_is,
      record {
        value = sym (none_at ps n (sym c.seek-sought.ensures.place.0 ∙ c.in-None.is)) ∙ ap (λ k. slice_get (values ps) k) c.seek-sought.ensures.first ∙ sym (find_at f (values ps)) ∙ ap (λ vs. find f vs) c.self.view_is;
        writes_back = tt;
      },
    )
