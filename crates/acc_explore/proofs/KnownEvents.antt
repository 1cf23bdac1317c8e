-- Each event that may come can do something, or leaves all as it is.
use Rattle.std.proofs.Common.{inl, inr, ◌⊎◌, ◌≡◌, ℕ, zero, suc, ◌<◌, Bool, true, false, ◌∷◌, ◌++◌, [], length, ap, subst, refl, Option, nat_lt, arith}
use Rattle.std.specs.Prelude.{Contains, IsTrue}
use Rattle.std.proofs.lemmas.Bool.{cases_Bool, cases_lt, cases_eq, and_parts, ltb-true}
use Rattle.std.proofs.lemmas.List.Elements.{Contains-append_left, Contains-append_right}
use Rattle.std.proofs.lemmas.Option.{slice_get_past}
use Rattle.acc_base.proofs.Members.{member_first, member_rest}
use Rattle.acc_base.specs.declared.ids.QueueAt.{QueueAt}
use Rattle.acc_base.specs.declared.ids.TheConstants.{QUEUES}
use Rattle.acc_base.specs.Queues.{at_seat, seat, queue_count}
use Rattle.acc_core.specs.Machine.{State, idle, is_there, named_step, step}
use Rattle.acc_host.specs.declared.event.Event.{Event}
use Rattle.acc_host.specs.declared.event.Event.TheVariants as event
use Rattle.acc_host.specs.Hosts.{HostView}
use Rattle.acc_explore.specs.Runs.{MayCome, events_of_hosts, events_of_queues, closing_events, open_events}

-- ## Those of the hosts and queues that are there are listed

host_listed : (n h : ℕ) → h < n → Contains (events_of_hosts n) (event.Host h)
host_listed zero h low = absurd (omega (arith, low))
host_listed (suc n) h low = elim (cases_eq h n) [
  | inl same ↦ rw same (member_first (event.Host n) (events_of_hosts n))
  | inr other ↦ member_rest (event.Host h) (event.Host n) (events_of_hosts n) (host_listed n h (omega (arith, low, other)))
]

take_listed : (n s : ℕ) → s < n → Contains (events_of_queues n) (event.Take (at_seat s))
take_listed zero s low = absurd (omega (arith, low))
take_listed (suc n) s low = elim (cases_eq s n) [
  | inl same ↦ rw same (member_first (event.Take (at_seat n)) (event.Perform (at_seat n) ∷ events_of_queues n))
  | inr other ↦
      member_rest (event.Take (at_seat s)) (event.Take (at_seat n)) (event.Perform (at_seat n) ∷ events_of_queues n)
      (member_rest (event.Take (at_seat s)) (event.Perform (at_seat n)) (events_of_queues n) (take_listed n s (omega (arith, low, other))))
]

perform_listed : (n s : ℕ) → s < n → Contains (events_of_queues n) (event.Perform (at_seat s))
perform_listed zero s low = absurd (omega (arith, low))
perform_listed (suc n) s low = elim (cases_eq s n) [
  | inl same ↦
      member_rest (event.Perform (at_seat s)) (event.Take (at_seat n)) (event.Perform (at_seat n) ∷ events_of_queues n)
      (rw same (member_first (event.Perform (at_seat n)) (events_of_queues n)))
  | inr other ↦
      member_rest (event.Perform (at_seat s)) (event.Take (at_seat n)) (event.Perform (at_seat n) ∷ events_of_queues n)
      (member_rest (event.Perform (at_seat s)) (event.Perform (at_seat n)) (events_of_queues n) (perform_listed n s (omega (arith, low, other))))
]

-- a queue that is there has its seat
pub record HasSeat (w : State) (at : QueueAt) : Type 0 where
  pub low : seat at < queue_count w.config
  pub same : at_seat (seat at) ≡ at

pub has_seat : (w : State) (at : QueueAt) → is_there w at ≡ true → HasSeat w at
has_seat w at there =
    let parts = and_parts (nat_lt at.device w.config.devices) (nat_lt at.queue QUEUES) there in
    let device : at.device < w.config.devices = ltb-true at.device w.config.devices parts.0 in
    let queue : at.queue < QUEUES = ltb-true at.queue QUEUES parts.1 in
    let d : (at_seat (seat at)).device ≡ at.device = omega (arith, queue) in
    let q : (at_seat (seat at)).queue ≡ at.queue = omega (arith, queue) in
    record { low = omega (arith, device, queue); same = λ i. record { device = d i; queue = q i } }

-- ## The others do nothing

abbrev pub Known : Bool → State → Event → Type 0
Known closing w e = Contains (open_events closing w) e ⊎ (step false w e ≡ idle w)

known_host : (closing : Bool) (w : State) (h : ℕ) → Known closing w (event.Host h)
known_host closing w h = elim (cases_lt h (length w.hosts)) [
  | inl low ↦ inl (Contains-append_left (events_of_hosts (length w.hosts)) (events_of_queues (queue_count w.config) ++ closing_events closing) (event.Host h) (host_listed (length w.hosts) h low))
  | inr high ↦ inr (ap (λ (host : Option HostView). named_step false w h host) (slice_get_past w.hosts h (omega (arith, high))))
]

known_take : (closing : Bool) (w : State) (at : QueueAt) → Known closing w (event.Take at)
known_take closing w at = elim (cases_Bool (is_there w at)) [
  | inl there ↦ (
      let s = has_seat w at there in
      inl (Contains-append_right (events_of_hosts (length w.hosts)) (events_of_queues (queue_count w.config) ++ closing_events closing) (event.Take at)
      (Contains-append_left (events_of_queues (queue_count w.config)) (closing_events closing) (event.Take at)
      (subst (λ (q : QueueAt). Contains (events_of_queues (queue_count w.config)) (event.Take q)) s.same (take_listed (queue_count w.config) (seat at) s.low))))
      )
  | inr none ↦ inr (rw none refl)
]

known_perform : (closing : Bool) (w : State) (at : QueueAt) → Known closing w (event.Perform at)
known_perform closing w at = elim (cases_Bool (is_there w at)) [
  | inl there ↦ (
      let s = has_seat w at there in
      inl (Contains-append_right (events_of_hosts (length w.hosts)) (events_of_queues (queue_count w.config) ++ closing_events closing) (event.Perform at)
      (Contains-append_left (events_of_queues (queue_count w.config)) (closing_events closing) (event.Perform at)
      (subst (λ (q : QueueAt). Contains (events_of_queues (queue_count w.config)) (event.Perform q)) s.same (perform_listed (queue_count w.config) (seat at) s.low))))
      )
  | inr none ↦ inr (rw none refl)
]

known_close : (closing : Bool) (w : State) → IsTrue closing → Known closing w event.Close
known_close true w e =
    inl (Contains-append_right (events_of_hosts (length w.hosts)) (events_of_queues (queue_count w.config) ++ event.Close ∷ []) event.Close
    (Contains-append_right (events_of_queues (queue_count w.config)) (event.Close ∷ []) event.Close (member_first event.Close [])))
known_close false w e = cc

pub known : (closing : Bool) (w : State) (e : Event) → MayCome closing e → Known closing w e
known closing w (event.Host h) may = known_host closing w h
known closing w (event.Take at) may = known_take closing w at
known closing w (event.Perform at) may = known_perform closing w at
known closing w event.Close may = known_close closing w may
