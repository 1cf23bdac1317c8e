use Rattle.std.proofs.Common.{◌≡◌, ◌<◌, ◌+◌, ◌-◌, suc, true, false, sym, ap, subst, ◌∙◌, None, Some, length, slice_get, add-one, arith}
use Rattle.std.specs.List.{position_or_len}
use Rattle.std.proofs.lemmas.Option.{slice_get_within}
use Rattle.acc_raw.specs.inner.Keys.{meets}
use Rattle.acc_raw.specs.inner.Links.{IsAt}
use Rattle.acc_raw.specs.inner.Wired.{place_at, values}
use Rattle.acc_raw.proofs.Places.{at_is, end_at}
use Rattle.acc_raw.proofs.Seeking.{left, left-end, left-here, left-past}
use Rattle.acc_raw.proofs.Unlinking.{wired_next}
use Rattle.acc_raw.proofs.keyed.seek.Goals as goal
use Rattle.acc_raw.proofs.keyed.seek.Goals.{in-Some+then-is_met, in_default}

pub get-link-requires : goal.get-link-requires
get-link-requires g c =
    let ps = c.args.nodes.now.store.links in let at = c.in-Some.place in
    subst (λ k. IsAt ps k at.ptr) (sym c.same.ensures) (at_is ps c.loop-at.index.n at (sym c.in-Some.is ∙ c.loop-at.invariant.place))

pub loop-at-smaller : goal.loop-at-smaller
loop-at-smaller g c =
    let ps = c.args.nodes.now.store.links in let n = c.loop-at.index.n in let p = c.in-Some.place.ptr in let l = c.get-link.result.now in
    let told = subst (λ k. slice_get ps k ≡ Some (p, l)) c.same.ensures c.get-link.ensures in
    let within = slice_get_within ps n (p, l) told in let next : c.after-index.result.n ≡ n + 1 = c.after-index.ensures in
    let less : length ps - c.after-index.result.n < length ps - n = omega (arith, within, next) in less

pub loop-at-preserved : goal.loop-at-preserved
loop-at-preserved g c =
    let ps = c.args.nodes.now.store.links in let n = c.loop-at.index.n in let p = c.in-Some.place.ptr in let l = c.get-link.result.now in
    let f = λ (x : g.row.T.Denot). meets c.args.aim (g.T.Keyed.key_of x) in
    let told = subst (λ k. slice_get ps k ≡ Some (p, l)) c.same.ensures c.get-link.ensures in
    let next : c.after-index.result.n ≡ suc n = c.after-index.ensures ∙ add-one n in let within = slice_get_within ps n (p, l) told in
    let other : f l.value ≡ false = ap (λ k. meets c.args.aim k) (sym c.key.ensures) ∙ sym c.is_met.ensures ∙ c.if-is_met.false in
    let first = c.loop-at.invariant.first in let past = left-past f ps n p l told other in
    let further : position_or_len f (values ps) ≡ suc n + left f ps (suc n) = omega (arith, first, past) in
    record {
      place = wired_next None ps n p l c.requires.wired told ∙ ap (λ k. place_at ps k) (sym next);
      within = omega (arith, within, next);
      first = subst (λ k. position_or_len f (values ps) ≡ k + left f ps k) (sym next) further;
    }

pub returns-clause-first : goal.returns-clause-first
returns-clause-first g c =
    let ps = c.args.nodes.now.store.links in let n = c.loop-at.index.n in let first = c.loop-at.invariant.first in
    let f = λ (x : g.row.T.Denot). meets c.args.aim (g.T.Keyed.key_of x) in
    elim c.match-at.branch [
      | in-Some+then-is_met w ↦
          let p = w.in-Some.place.ptr in let l = w.get-link.result.now in
          let told = subst (λ k. slice_get ps k ≡ Some (p, l)) w.same.ensures w.get-link.ensures in
          let met : f l.value ≡ true = ap (λ k. meets c.args.aim k) (sym w.key.ensures) ∙ sym w.is_met.ensures ∙ w.if-is_met.true in
          let here = left-here f ps n p l told met in omega (arith, first, here)
      | in_default w ↦
          let none : place_at ps n ≡ None = sym c.loop-at.invariant.place ∙ w.in_default.is in
          let end = left-end f ps n (end_at ps n c.loop-at.invariant.within none) in omega (arith, first, end)
    ]
