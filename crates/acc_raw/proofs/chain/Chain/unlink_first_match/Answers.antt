use Rattle.std.proofs.Common.{◌==◌, sym, ap, ◌∙◌, find, remove, slice_get, Some}
use Rattle.std.specs.List.{position_or_len}
use Rattle.std.proofs.lemmas.List.Folds.{find_at}
use Rattle.acc_raw.specs.inner.Wired.{values}
use Rattle.acc_raw.proofs.Places.{at_is, end_at}
use Rattle.acc_raw.proofs.Showing.{length-values, none_at, remove_none, value_at}
use Rattle.acc_raw.proofs.Unlinking.{shown-unspliced}
use Rattle.acc_raw.proofs.chain.Chain.unlink_first_match.Goals as goal

pub returns-in-None-clause-node : goal.returns-in-None-clause-node
returns-in-None-clause-node g c =
    let ps = c.self.inside.nodes.store.links in let n = c.seek-sought.result.index.n in let f = λ (x : g.row.T.Denot). g.T.Keyed.key_of x == c.args.key in
    sym (none_at ps n (sym c.seek-sought.ensures.place.0 ∙ c.in-None.is)) ∙ ap (λ k. slice_get (values ps) k) c.seek-sought.ensures.first ∙ sym (find_at f (values ps)) ∙ ap (λ vs. find f vs) c.self.view_is

pub returns-in-None-clause-rest : goal.returns-in-None-clause-rest
returns-in-None-clause-rest g c =
    let ps = c.self.inside.nodes.store.links in let n = c.seek-sought.result.index.n in let f = λ (x : g.row.T.Denot). g.T.Keyed.key_of x == c.args.key in
    let end = end_at ps n c.seek-sought.ensures.place.1 (sym c.seek-sought.ensures.place.0 ∙ c.in-None.is) in
    sym c.self.view_is ∙ remove_none (values ps) ∙ ap (λ k. remove (values ps) k) (length-values ps ∙ sym end ∙ c.seek-sought.ensures.first) ∙ ap (λ vs. remove vs (position_or_len f vs)) c.self.view_is

pub unlink_at-link-requires-clause-there : goal.unlink_at-link-requires-clause-there
unlink_at-link-requires-clause-there g c = at_is c.self.inside.nodes.store.links c.seek-sought.result.index.n c.in-Some.at (sym c.in-Some.is ∙ c.seek-sought.ensures.place.0)

pub returns-clause-node : goal.returns-clause-node
returns-clause-node g c =
    let ps = c.self.inside.nodes.store.links in let n = c.seek-sought.result.index.n in let l = c.unlink_at-link.result.value in let f = λ (x : g.row.T.Denot). g.T.Keyed.key_of x == c.args.key in
    ap (λ v. Some v) c.of_link.ensures ∙ sym (value_at ps n c.in-Some.at.ptr l c.unlink_at-link.ensures.value) ∙ ap (λ k. slice_get (values ps) k) c.seek-sought.ensures.first ∙ sym (find_at f (values ps)) ∙ ap (λ vs. find f vs) c.self.view_is

pub returns-clause-rest : goal.returns-clause-rest
returns-clause-rest g c =
    let ps = c.self.inside.nodes.store.links in let n = c.seek-sought.result.index.n in let l = c.unlink_at-link.result.value in let f = λ (x : g.row.T.Denot). g.T.Keyed.key_of x == c.args.key in
    ap values c.unlink_at-link.ensures.links ∙ shown-unspliced (λ p v. v) ps n l ∙ ap (λ k. remove (values ps) k) c.seek-sought.ensures.first ∙ ap (λ vs. remove vs (position_or_len f vs)) c.self.view_is
