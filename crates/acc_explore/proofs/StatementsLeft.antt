-- How many statements the hosts have still to end, behind the step of one of them.
use Rattle.std.proofs.Common.{◌≡◌, ℕ, zero, suc, ◌+◌, ◌-◌, ◌≤◌, List, [], ◌∷◌, length, take, add-one, refl, ap, ◌∙◌, Some, None, Option, Ok, Err, Result, slice_get, slice_set, arith}
use Rattle.std.proofs.lemmas.Option.{slice_get_within}
use Rattle.acc_base.specs.declared.fault.Fault.{Fault}
use Rattle.acc_batch.proofs.Seats.{set_there}
use Rattle.acc_host.specs.declared.program.Statement.{Statement}
use Rattle.acc_host.specs.declared.state.After.{After}
use Rattle.acc_host.specs.declared.state.After.TheVariants as go
use Rattle.acc_host.specs.Hosts.{HostView, wants, wants_at, host_after}
use Rattle.acc_host.specs.Steps.{stays}
use Rattle.acc_explore.specs.ReachedWaits.{statements_left}

abbrev pub left_by : HostView → ℕ
left_by host = length host.statements - host.ended

-- the statements that it ends
abbrev pub ends : Result After Fault → ℕ
ends (Ok go.Idle) = 0
ends (Ok go.Ended) = 1
ends (Ok (go.Set ids)) = 1
ends (Ok (go.Waits what)) = 0
ends (Ok (go.Asks what)) = 0
ends (Err fault) = 0

-- A host that goes on has one left.
pub one_left : (devices : ℕ) (host : HostView) → (wants devices host ≡ stays → ⊥) → 1 ≤ left_by host
one_left devices host goes = by (slice_get host.statements host.ended) refl goes
  where
    by : (o : Option Statement) → slice_get host.statements host.ended ≡ o → (wants_at devices host.ids host.phase o ≡ stays → ⊥) → 1 ≤ left_by host
    by None there goes = absurd (goes refl)
    by (Some s) there goes = omega (arith, slice_get_within host.statements host.ended s there)

-- and ends it at most
pub fewer_left : (goes : Result After Fault) (host : HostView) → 1 ≤ left_by host → left_by (host_after goes host) + ends goes ≤ left_by host
fewer_left (Ok go.Idle) host some = omega arith
fewer_left (Ok go.Ended) host some = omega (arith, some)
fewer_left (Ok (go.Set ids)) host some = omega (arith, some)
fewer_left (Ok (go.Waits what)) host some = omega arith
fewer_left (Ok (go.Asks what)) host some = omega arith
fewer_left (Err fault) host some = omega arith

-- Of all hosts one has others left.
pub left_set : (hosts : List HostView) (k : ℕ) (host new : HostView) → slice_get hosts k ≡ Some host → statements_left (slice_set hosts k new) + left_by host ≡ statements_left hosts + left_by new
left_set [] k host new there = cc
left_set (first ∷ hosts) zero host new there =
    let same : first ≡ host = cc in
    let count : left_by first ≡ left_by host = ap left_by same in
    omega (arith, count)
left_set (first ∷ hosts) (suc k) host new there = omega (arith, left_set hosts k host new there)

pub left_of : (hosts : List HostView) (k : ℕ) (host : HostView) → slice_get hosts k ≡ Some host → left_by host ≤ statements_left hosts
left_of [] k host there = cc
left_of (first ∷ hosts) zero host there =
    let same : first ≡ host = cc in
    let count : left_by first ≡ left_by host = ap left_by same in
    omega (arith, count)
left_of (first ∷ hosts) (suc k) host there = omega (arith, left_of hosts k host there)

-- and two of them have no more than all
pub left_apart : (hosts : List HostView) (h k : ℕ) (one other : HostView) → slice_get hosts h ≡ Some one → slice_get hosts k ≡ Some other → (k ≡ h → ⊥) → left_by one + left_by other ≤ statements_left hosts
left_apart hosts h k one other at_h at_k differ =
    let none : HostView = record other { ended = length other.statements } in
    omega (arith, left_set hosts k other none at_k, left_of (slice_set hosts k none) h one (set_there hosts k h none differ ∙ at_h))

-- ## What is told of them

-- of the first hosts and of one more
pub left_more : (hosts : List HostView) (n : ℕ) (host : HostView) → slice_get hosts n ≡ Some host → statements_left (take (n + 1) hosts) ≡ statements_left (take n hosts) + left_by host
left_more hosts n host there = ap (λ k. statements_left (take k hosts)) (add-one n) ∙ by hosts n there
  where
    by : (hosts : List HostView) (n : ℕ) → slice_get hosts n ≡ Some host → statements_left (take (suc n) hosts) ≡ statements_left (take n hosts) + left_by host
    by [] n there = cc
    by (first ∷ hosts) zero there =
        let same : first ≡ host = cc in
        let count : left_by first ≡ left_by host = ap left_by same in
        omega (arith, count)
    by (first ∷ hosts) (suc n) there = omega (arith, by hosts n there)
