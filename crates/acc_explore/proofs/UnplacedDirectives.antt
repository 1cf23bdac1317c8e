-- How many directives the hosts still have to place, behind the step of one of them.
use Rattle.std.proofs.Common.{inl, inr, ◌≡◌, ℕ, zero, suc, ◌+◌, ◌≤◌, Bool, true, false, List, [], ◌∷◌, drop, take, map, add-one, refl, sym, ap, ◌∙◌, length, Some, None, Option, Ok, Err, Result, arith}
use Rattle.std.specs.Prelude.{count_by, filter, slice_get, slice_set}
use Rattle.std.proofs.lemmas.Bool.{cases_Bool}
use Rattle.std.proofs.lemmas.List.Sums.{length-filter}
use Rattle.acc_base.specs.declared.fault.Fault.{Fault}
use Rattle.acc_base.specs.declared.fault.Fault.TheVariants.{BadDevice}
use Rattle.acc_batch.proofs.Seats.{set_there}
use Rattle.acc_host.specs.declared.program.Act.{Act}
use Rattle.acc_host.specs.declared.program.Act.TheVariants as act
use Rattle.acc_host.specs.declared.program.Statement.{Statement}
use Rattle.acc_host.specs.declared.state.After.{After}
use Rattle.acc_host.specs.declared.state.After.TheVariants as go
use Rattle.acc_host.specs.declared.state.Ids.{Ids}
use Rattle.acc_host.specs.declared.state.Phase.{Phase}
use Rattle.acc_host.specs.declared.state.Phase.TheVariants as phase
use Rattle.acc_host.specs.Hosts.{HostView, bare, bare_act, wants, wants_at, host_after}
use Rattle.acc_host.specs.Steps.{stays, places, set_or_refuse, wanted}
use Rattle.acc_place.specs.Directives.{Directive}
use Rattle.acc_explore.specs.Takes.{places_directive, count_directives, unplaced_in, unplaced_by, unplaced}

-- those of the statements behind the one that a host stands at
abbrev pub behind : HostView → ℕ
behind host = count_directives (drop (host.ended + 1) host.statements)

-- A host that goes on has these left at most.
pub left_behind : (goes : Result After Fault) (host : HostView) → (goes ≡ Ok go.Idle → ⊥) → unplaced_by (host_after goes host) ≤ behind host
left_behind (Ok go.Idle) host busy = absurd (busy refl)
left_behind (Ok go.Ended) host busy = omega arith
left_behind (Ok (go.Set ids)) host busy = omega arith
left_behind (Ok (go.Waits what)) host busy = omega arith
left_behind (Ok (go.Asks what)) host busy = omega arith
left_behind (Err fault) host busy = omega arith

-- from one on, they are that one and those behind it
drop_at : {X : Type 0} (xs : List X) (n : ℕ) (x : X) → slice_get xs n ≡ Some x → drop n xs ≡ x ∷ drop (suc n) xs
drop_at [] n x there = cc
drop_at (y ∷ xs) zero x there =
    let same : y ≡ x = cc in
    ap (λ z. z ∷ xs) same
drop_at (y ∷ xs) (suc n) x there = drop_at xs n x there

no_fewer : (s : Statement) (rest : List Statement) → count_directives rest ≤ count_directives (s ∷ rest)
no_fewer s rest = elim (cases_Bool (places_directive s.act)) [
  | inl does ↦ rw does (omega arith)
  | inr not ↦ rw not (omega arith)
]

one_more : (s : Statement) (rest : List Statement) → places_directive s.act ≡ true → count_directives (s ∷ rest) ≡ count_directives rest + 1
one_more s rest does = rw does (omega arith)

next : (host : HostView) → behind host ≡ count_directives (drop (suc host.ended) host.statements)
next host = let same : host.ended + 1 ≡ suc host.ended = omega arith in ap (λ n. count_directives (drop n host.statements)) same

-- it had them before it went on
at_least : (devices : ℕ) (ids : Ids) (p : Phase) (host : HostView) (o : Option Statement) → slice_get host.statements host.ended ≡ o
    → (wants_at devices ids p o ≡ stays → ⊥) → behind host ≤ unplaced_in host p
at_least devices ids p host None there goes = absurd (goes refl)
at_least devices ids phase.Ready host (Some s) there goes =
    omega (arith, no_fewer s (drop (suc host.ended) host.statements), ap count_directives (drop_at host.statements host.ended s there), next host)
at_least devices ids (phase.Waits device counts) host (Some s) there goes = omega arith
at_least devices ids (phase.Asks device counts) host (Some s) there goes = omega arith
at_least devices ids (phase.Refused fault) host (Some s) there goes = absurd (goes refl)

pub had_before : (devices : ℕ) (host : HostView) → (wants devices host ≡ stays → ⊥) → behind host ≤ unplaced_by host
had_before devices host goes = at_least devices host.ids host.phase host (slice_get host.statements host.ended) refl goes

-- and one more, where it places a directive
sets_no_place : (b : Bool) (fault : Fault) (ids : Ids) (d : Directive) → set_or_refuse b fault ids ≡ places d → ⊥
sets_no_place true fault ids d e = cc
sets_no_place false fault ids d e = cc

placed_act : (devices : ℕ) (ids : Ids) (a : Act) (d : Directive) → wanted devices ids a ≡ places d → places_directive a ≡ true
placed_act devices ids (act.Place was) d e = refl
placed_act devices ids (act.Write array cell value) d e = cc
placed_act devices ids (act.Print range) d e = cc
placed_act devices ids (act.SetDevice n) d e = absurd (sets_no_place _ _ _ d e)
placed_act devices ids (act.SetAsync v) d e = absurd (sets_no_place _ _ _ d e)
placed_act devices ids act.ShowDevice d e = cc
placed_act devices ids act.ShowDevices d e = cc

one_at_least : (devices : ℕ) (ids : Ids) (p : Phase) (host : HostView) (o : Option Statement) (d : Directive) → slice_get host.statements host.ended ≡ o
    → wants_at devices ids p o ≡ places d → behind host + 1 ≤ unplaced_in host p
one_at_least devices ids p host None d there e = cc
one_at_least devices ids phase.Ready host (Some s) d there e =
    omega (arith, one_more s (drop (suc host.ended) host.statements) (placed_act devices ids s.act d e), ap count_directives (drop_at host.statements host.ended s there), next host)
one_at_least devices ids (phase.Waits device counts) host (Some s) d there e = cc
one_at_least devices ids (phase.Asks device counts) host (Some s) d there e = cc
one_at_least devices ids (phase.Refused fault) host (Some s) d there e = cc

pub had_one_more : (devices : ℕ) (host : HostView) (d : Directive) → wants devices host ≡ places d → behind host + 1 ≤ unplaced_by host
had_one_more devices host d e = one_at_least devices host.ids host.phase host (slice_get host.statements host.ended) d refl e

-- Of all hosts one has others left.
pub unplaced_set : (hosts : List HostView) (k : ℕ) (host new : HostView) → slice_get hosts k ≡ Some host → unplaced (slice_set hosts k new) + unplaced_by host ≡ unplaced hosts + unplaced_by new
unplaced_set [] k host new there = cc
unplaced_set (first ∷ hosts) zero host new there =
    let same : first ≡ host = cc in
    let count : unplaced_by first ≡ unplaced_by host = ap unplaced_by same in
    omega (arith, count)
unplaced_set (first ∷ hosts) (suc k) host new there = omega (arith, unplaced_set hosts k host new there)

pub unplaced_of : (hosts : List HostView) (k : ℕ) (host : HostView) → slice_get hosts k ≡ Some host → unplaced_by host ≤ unplaced hosts
unplaced_of [] k host there = cc
unplaced_of (first ∷ hosts) zero host there =
    let same : first ≡ host = cc in
    let count : unplaced_by first ≡ unplaced_by host = ap unplaced_by same in
    omega (arith, count)
unplaced_of (first ∷ hosts) (suc k) host there = omega (arith, unplaced_of hosts k host there)

-- and two of them have no more than all
pub unplaced_apart : (hosts : List HostView) (h k : ℕ) (one other : HostView) → slice_get hosts h ≡ Some one → slice_get hosts k ≡ Some other → (k ≡ h → ⊥) → unplaced_by one + unplaced_by other ≤ unplaced hosts
unplaced_apart hosts h k one other at_h at_k differ =
    let none : HostView = record other { phase = phase.Refused BadDevice } in
    omega (arith, unplaced_set hosts k other none at_k, unplaced_of (slice_set hosts k none) h one (set_there hosts k h none differ ∙ at_h))

-- ## What is told of them

-- of statements, whatever ids their directives have
pub counted_bare : (statements : List Statement) → count_by (λ (s : Statement). places_directive (bare_act s.act)) statements ≡ count_directives (map bare statements)
counted_bare statements =
    sym (length-filter (λ (s : Statement). places_directive (bare_act s.act)) statements) ∙ filtered statements
  where
    filtered : (statements : List Statement) → length (filter (λ (s : Statement). places_directive (bare_act s.act)) statements) ≡ count_directives (map bare statements)
    filtered [] = refl
    filtered (s ∷ rest) = elim (cases_Bool (places_directive (bare_act s.act))) [
      | inl does ↦ rw does (ap suc (filtered rest))
      | inr not ↦ rw not (filtered rest)
    ]

-- of the first hosts and of one more
pub unplaced_more : (hosts : List HostView) (n : ℕ) (host : HostView) → slice_get hosts n ≡ Some host → unplaced (take (n + 1) hosts) ≡ unplaced (take n hosts) + unplaced_by host
unplaced_more hosts n host there = ap (λ k. unplaced (take k hosts)) (add-one n) ∙ by hosts n there
  where
    by : (hosts : List HostView) (n : ℕ) → slice_get hosts n ≡ Some host → unplaced (take (suc n) hosts) ≡ unplaced (take n hosts) + unplaced_by host
    by [] n there = cc
    by (first ∷ hosts) zero there =
        let same : first ≡ host = cc in
        let count : unplaced_by first ≡ unplaced_by host = ap unplaced_by same in
        omega (arith, count)
    by (first ∷ hosts) (suc n) there = omega (arith, by hosts n there)

-- the first ones have no more than all
pub unplaced_first : (hosts : List HostView) (n : ℕ) → unplaced (take n hosts) ≤ unplaced hosts
unplaced_first hosts zero = omega arith
unplaced_first [] (suc n) = omega arith
unplaced_first (first ∷ hosts) (suc n) = omega (arith, unplaced_first hosts n)
