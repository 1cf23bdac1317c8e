-- What tells that an event may go first.
use Rattle.std.proofs.Common.{◌≡◌, ℕ, Bool, false, not, List, [], ◌∷◌, sym, subst}
use Rattle.std.specs.Prelude.{IsTrue}
use Rattle.std.specs.List.{list_all}
use Rattle.std.proofs.lemmas.List.Folds.{list_all-map}
use Rattle.acc_base.specs.Configurations.{Configuration}
use Rattle.acc_base.specs.declared.ids.QueueAt.{QueueAt}
use Rattle.acc_core.specs.Legality.{IsLegalState}
use Rattle.acc_core.specs.Machine.{State, step}
use Rattle.acc_core.specs.Worlds.{first_state}
use Rattle.acc_host.specs.declared.event.Event.{Event}
use Rattle.acc_host.specs.declared.event.Event.TheVariants as event
use Rattle.acc_host.specs.declared.program.HostProgram.{HostProgram}
use Rattle.acc_host.specs.declared.program.Statement.{Statement}
use Rattle.acc_host.specs.Hosts.{bare, ready}
use Rattle.acc_explore.specs.ApartOperations.{is_at_apart}
use Rattle.acc_explore.specs.Arrivals.{events_to, found_at}
use Rattle.acc_explore.specs.declared.arrival.Arrival.{Arrival}
use Rattle.acc_explore.specs.OwnStatements.{is_at_own}
use Rattle.acc_explore.specs.Placements.{may_place}
use Rattle.acc_explore.specs.ReachedWaits.{is_at_reached}
use Rattle.acc_explore.specs.Reductions.{MayGoFirst}
use Rattle.acc_explore.specs.Runs.{after}
use Rattle.acc_explore.specs.Takes.{may_take}
use Rattle.acc_explore.specs.UnseenOperations.{asks_no_more, asks_queues, is_at_unseen, nobody_asks}
use Rattle.acc_explore.proofs.ApartFirst.{apart_commute}
use Rattle.acc_explore.proofs.ArrivalPaths.{events_lead}
use Rattle.acc_explore.proofs.Commuting.{goes_first}
use Rattle.acc_explore.proofs.OwnFirst.{own_commute}
use Rattle.acc_explore.proofs.PlacementsFirst.{placements_commute}
use Rattle.acc_explore.proofs.ReachedFirst.{reached_commute}
use Rattle.acc_explore.proofs.TakesFirst.{takes_commute}
use Rattle.acc_explore.proofs.UnseenFirst.{unseen_commute}
use Rattle.acc_explore.proofs.UnseenTests.{nobody_later}

-- ## Nobody asks

-- a program that asks nothing, statement by statement
pub asks_none : (program : HostProgram) → list_all (λ (s : Statement). not (asks_queues (bare s).act)) program.statements ≡ asks_no_more (ready program)
asks_none program = sym (list_all-map (λ (s : Statement). not (asks_queues s.act)) bare program.statements)

pub nobody_at_first : (config : Configuration) (programs : List HostProgram) → list_all (λ (program : HostProgram). asks_no_more (ready program)) programs ≡ nobody_asks (first_state config programs)
nobody_at_first config programs = sym (list_all-map asks_no_more ready programs)

pub nobody_after : (events : List Event) (w : State) → IsTrue (nobody_asks w) → IsTrue (nobody_asks (after w events))
nobody_after [] w nobody = nobody
nobody_after (e ∷ events) w nobody = nobody_after events (step false w e).state (nobody_later w e nobody)

pub nobody_found : (start : State) (arrivals : List Arrival) (n : ℕ) → IsTrue (nobody_asks start) → IsTrue (nobody_asks (found_at start arrivals n).state)
nobody_found start arrivals n nobody =
    subst (λ (w : State). IsTrue (nobody_asks w)) (events_lead start arrivals n).0 (nobody_after (events_to arrivals n) start nobody)

-- ## An own statement

-- ## It may go first

pub own_first : (w : State) (h : ℕ) → IsLegalState w → IsTrue (is_at_own h w) → (closing : Bool) → MayGoFirst closing w (event.Host h)
own_first w h l own closing = goes_first closing (is_at_own h) (event.Host h) (own_commute closing h) w l own

pub reached_first : (w : State) (h : ℕ) → IsLegalState w → IsTrue (is_at_reached h w) → (closing : Bool) → MayGoFirst closing w (event.Host h)
reached_first w h l reached closing = goes_first closing (is_at_reached h) (event.Host h) (reached_commute closing h) w l reached

pub unseen_first : (w : State) (at : QueueAt) → IsLegalState w → IsTrue (is_at_unseen at w) → (closing : Bool) → MayGoFirst closing w (event.Perform at)
unseen_first w at l unseen closing = goes_first closing (is_at_unseen at) (event.Perform at) (unseen_commute closing at) w l unseen

pub take_first : (w : State) (at : QueueAt) → IsLegalState w → IsTrue (may_take at w) → MayGoFirst false w (event.Take at)
take_first w at l may = goes_first false (may_take at) (event.Take at) (takes_commute at) w l may

pub place_first : (w : State) (h : ℕ) → IsLegalState w → IsTrue (may_place h w) → MayGoFirst false w (event.Host h)
place_first w h l may = goes_first false (may_place h) (event.Host h) (placements_commute h) w l may

pub apart_first : (w : State) (at : QueueAt) → IsLegalState w → IsTrue (is_at_apart at w) → MayGoFirst false w (event.Perform at)
apart_first w at l apart = goes_first false (is_at_apart at) (event.Perform at) (apart_commute at) w l apart
