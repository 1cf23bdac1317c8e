-- A host's own statement commutes with every event of the others.
use Rattle.std.proofs.Common.{inl, inr, ◌⊎◌, ◌≡◌, ℕ, true, false, List, refl, sym, ap, ◌∙◌, subst, Some, None, Option, Ok, slice_get, slice_set}
use Rattle.std.proofs.lemmas.Bool.{cases_eq}
use Rattle.std.proofs.lemmas.List.{set_comm}
use Rattle.std.specs.Prelude.{IsTrue}
use Rattle.acc_host.specs.declared.state.Ids.{Ids}
use Rattle.acc_batch.proofs.Seats.{set_there}
use Rattle.acc_base.specs.Configurations.{Configuration}
use Rattle.acc_core.specs.Machine.{State, Outcome, step, standing_of, labels_of, is_there, ops_left, idle, host_step, named_step}
use Rattle.acc_host.specs.declared.event.Event.{Event}
use Rattle.acc_host.specs.declared.event.Event.TheVariants as event
use Rattle.acc_host.specs.declared.state.After.TheVariants as go
use Rattle.acc_host.specs.declared.state.Reply.TheVariants as reply
use Rattle.acc_host.specs.Hosts.{HostView, wants, host_after}
use Rattle.acc_host.specs.Steps.{Want, stays, sets, refuses, places, awaits, records}
use Rattle.acc_explore.specs.Explorations.{IsEnd}
use Rattle.acc_explore.specs.Alike.{Alike}
use Rattle.acc_explore.specs.OwnStatements.{OwnStatementsCommute, is_own, stands_at_own, is_at_own}
use Rattle.acc_explore.proofs.AlikeSteps.{alike_itself}
use Rattle.acc_explore.proofs.OtherHosts.{with_hosts, Apart, apart_take, apart_perform, apart_queue, apart_close, beside_want}

-- ## The own statement

-- A host stands at a statement that leaves these ids.
record StandsOwn (w : State) (h : ℕ) : Type 0 where
  pub host : HostView
  pub ids : Ids
  pub there : slice_get w.hosts h ≡ Some host
  pub want : wants w.config.devices host ≡ sets ids

own_want : (want : Want) → is_own want ≡ true → (ids : Ids) × (want ≡ sets ids)
own_want stays e = cc
own_want (sets ids) e = (ids, refl)
own_want (refuses fault) e = cc
own_want (places d) e = cc
own_want (awaits device counts) e = cc
own_want (records item) e = cc

stands_own : (w : State) (h : ℕ) → is_at_own h w ≡ true → StandsOwn w h
stands_own w h e = by (slice_get w.hosts h) refl e
  where
    by : (o : Option HostView) → slice_get w.hosts h ≡ o → stands_at_own w.config.devices o ≡ true → StandsOwn w h
    by None there e = cc
    by (Some host) there e = let own = own_want (wants w.config.devices host) e in record { host = host; ids = own.0; there = there; want = own.1 }

abbrev new_hosts : (w : State) (h : ℕ) → StandsOwn w h → List HostView
new_hosts w h own = slice_set w.hosts h (host_after (Ok (go.Set own.ids)) own.host)

step_own : (w : State) (h : ℕ) (own : StandsOwn w h) → (step false w (event.Host h)).state ≡ with_hosts w (new_hosts w h own)
step_own w h own =
    ap (λ (o : Option HostView). (named_step false w h o).state) own.there
    ∙ ap (λ (want : Want). (host_step false w h own.host want).state) own.want

abbrev Moves : State → ℕ → Event → Type 0
Moves w h x =
    IsTrue (is_at_own h (step false w x).state)
    × Alike (step false (step false w (event.Host h)).state x).state (step false (step false w x).state (event.Host h)).state

finish : (w : State) (h : ℕ) (x : Event) (own : StandsOwn w h) (hosts : List HostView) → (step false w x).state.config ≡ w.config
    → slice_get (step false w x).state.hosts h ≡ Some own.host
    → (step false (with_hosts w (new_hosts w h own)) x).state ≡ with_hosts (step false w x).state hosts
    → slice_set (step false w x).state.hosts h (host_after (Ok (go.Set own.ids)) own.host) ≡ hosts → Moves w h x
finish w h x own hosts config there same set =
    let s = (step false w x).state in
    let want : wants s.config.devices own.host ≡ sets own.ids = ap (λ (c : Configuration). wants c.devices own.host) config ∙ own.want in
    let again : StandsOwn s h = record { host = own.host; ids = own.ids; there = there; want = want } in
    let first : (step false (step false w (event.Host h)).state x).state ≡ with_hosts s hosts = ap (λ (v : State). (step false v x).state) (step_own w h own) ∙ same in
    let second : (step false s (event.Host h)).state ≡ with_hosts s hosts = step_own s h again ∙ ap (with_hosts s) set in (
      ap (stands_at_own s.config.devices) there ∙ ap is_own want,
      subst (λ (v : State). Alike (step false (step false w (event.Host h)).state x).state v) (first ∙ sym second) (alike_itself (step false (step false w (event.Host h)).state x).state),
    )

-- a queue's step, and the owner's
apart_moves : (w : State) (h : ℕ) (x : Event) (own : StandsOwn w h) → Apart w (new_hosts w h own) (step false w x) (step false (with_hosts w (new_hosts w h own)) x) → Moves w h x
apart_moves w h x own a =
    finish w h x own (new_hosts w h own) a.config (ap (λ (hs : List HostView). slice_get hs h) a.kept ∙ own.there) a.same
    (ap (λ (hs : List HostView). slice_set hs h (host_after (Ok (go.Set own.ids)) own.host)) a.kept)

-- another host's
beside_moves : (w : State) (h k : ℕ) (own : StandsOwn w h) → (k ≡ h → ⊥) → Moves w h (event.Host k)
beside_moves w h k own other = by (slice_get w.hosts k) refl
  where
    by : (o : Option HostView) → slice_get w.hosts k ≡ o → Moves w h (event.Host k)
    by None none =
        let there : slice_get (new_hosts w h own) k ≡ None = set_there w.hosts h k (host_after (Ok (go.Set own.ids)) own.host) (λ e. other (sym e)) ∙ none in
        let one : step false w (event.Host k) ≡ idle w = ap (named_step false w k) none in
        let two : step false (with_hosts w (new_hosts w h own)) (event.Host k) ≡ idle (with_hosts w (new_hosts w h own)) = ap (named_step false (with_hosts w (new_hosts w h own)) k) there in
        let s : (step false w (event.Host k)).state ≡ w = ap (λ (o : Outcome). o.state) one in
        finish w h (event.Host k) own (new_hosts w h own) (ap (λ (v : State). v.config) s) (ap (λ (v : State). slice_get v.hosts h) s ∙ own.there)
        (ap (λ (o : Outcome). o.state) two ∙ ap (λ (v : State). with_hosts v (new_hosts w h own)) (sym s))
        (ap (λ (v : State). slice_set v.hosts h (host_after (Ok (go.Set own.ids)) own.host)) s)
    by (Some host) here =
        let hosts = new_hosts w h own in
        let new = host_after (Ok (go.Set own.ids)) own.host in
        let there : slice_get hosts k ≡ Some host = set_there w.hosts h k new (λ e. other (sym e)) ∙ here in
        let b = beside_want w hosts k host (wants w.config.devices host) in
        let one : step false w (event.Host k) ≡ host_step false w k host (wants w.config.devices host) = ap (named_step false w k) here in
        let two : step false (with_hosts w hosts) (event.Host k) ≡ host_step false (with_hosts w hosts) k host (wants w.config.devices host) = ap (named_step false (with_hosts w hosts) k) there in
        let s : (step false w (event.Host k)).state ≡ (host_step false w k host (wants w.config.devices host)).state = ap (λ (o : Outcome). o.state) one in
        let hosts_are : (step false w (event.Host k)).state.hosts ≡ slice_set w.hosts k b.host = ap (λ (v : State). v.hosts) s ∙ b.first in
        finish w h (event.Host k) own (slice_set hosts k b.host) (ap (λ (v : State). v.config) s ∙ b.config)
        (ap (λ (hs : List HostView). slice_get hs h) hosts_are ∙ (set_there w.hosts k h b.host other ∙ own.there))
        (ap (λ (o : Outcome). o.state) two ∙ (b.same ∙ ap (λ (v : State). with_hosts v (slice_set hosts k b.host)) (sym s)))
        (ap (λ (hs : List HostView). slice_set hs h new) hosts_are ∙ set_comm w.hosts k h b.host new other)

keeps : (w : State) (h : ℕ) (x : Event) → StandsOwn w h → (x ≡ event.Host h) ⊎ ((step false w x).reply ≡ reply.Idle) ⊎ Moves w h x
keeps w h (event.Host k) own = elim (cases_eq k h) [
  | inl same ↦ inl (ap event.Host same)
  | inr other ↦ inr (inr (beside_moves w h k own other))
]
keeps w h (event.Take at) own =
    inr (inr (apart_moves w h (event.Take at) own
    (apart_queue (is_there w at) w (new_hosts w h own) _ _ (apart_take w (new_hosts w h own) (labels_of w) at (ops_left w (labels_of w) at)))))
keeps w h (event.Perform at) own =
    inr (inr (apart_moves w h (event.Perform at) own
    (apart_queue (is_there w at) w (new_hosts w h own) _ _ (apart_perform w (new_hosts w h own) (labels_of w) at (ops_left w (labels_of w) at)))))
keeps w h event.Close own = inr (inr (apart_moves w h event.Close own (apart_close w (new_hosts w h own) (standing_of w))))

-- it is still to come
no_end : (w : State) (h : ℕ) → StandsOwn w h → IsEnd w → ⊥
no_end w h own ends =
    let did : (step false w (event.Host h)).reply ≡ reply.Did =
    ap (λ (o : Option HostView). (named_step false w h o).reply) own.there
    ∙ ap (λ (want : Want). (host_step false w h own.host want).reply) own.want in
    let wrong : reply.Did ≡ reply.Idle = sym did ∙ ends (event.Host h) tt in
    cc

pub own_commute : OwnStatementsCommute
own_commute closing h = record {
  kept = λ w x l own may. keeps w h x (stands_own w h own);
  waits = λ w l own ends. no_end w h (stands_own w h own) ends;
}
