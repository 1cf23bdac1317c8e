-- What holds of a world holds after each step.
use Rattle.std.proofs.Common.{sym, ◌≡◌, ℕ, ◌≤◌, Bool, true, false, cond, List, [], ◌∷◌, length, take, refl, ap, ◌∙◌}
use Rattle.std.specs.Prelude.{nat_lt}
use Rattle.std.proofs.lemmas.List.{length-map}
use Rattle.acc_place.specs.Closing.{left_open}
use Rattle.acc_base.specs.declared.config.TheConstants.{MAX_HOSTS}
use Rattle.acc_base.specs.Configurations.{Configuration}
use Rattle.acc_base.specs.declared.ids.QueueAt.{QueueAt}
use Rattle.acc_batch.specs.declared.label.Label.{Label}
use Rattle.acc_batch.specs.declared.label.OpLabel.{OpLabel}
use Rattle.acc_host.specs.declared.program.HostProgram.{HostProgram}
use Rattle.acc_host.specs.declared.state.HostState.{HostState}
use Rattle.acc_host.specs.declared.state.Reply.{Reply}
use Rattle.acc_host.specs.Hosts.{HostView}
use Rattle.acc_host.specs.declared.event.Event.{Event}
use Rattle.acc_host.specs.declared.event.Event.TheVariants as event
use Rattle.acc_core.specs.Following.{AllStand}
use Rattle.acc_core.specs.Legality.{IsLegalState}
use Rattle.acc_base.specs.Queues.{queue_count}
use Rattle.acc_host.specs.declared.state.Reply.TheVariants as reply
use Rattle.acc_core.specs.Machine.{State, Outcome, Step, Runs, standing_of, labels_of, is_there, batches_held, ops_left, can_perform, take_step, perform_step, queue_step, step}
use Rattle.acc_host.specs.Hosts.{AreNumbered}
use Rattle.acc_core.specs.Worlds.{first_state, IsWorld, Ran}
use Rattle.acc_core.proofs.CloseStep.{close_is}
use Rattle.acc_core.proofs.ClosedState.{closed_beside}
use Rattle.acc_core.proofs.HostLaws.{HostLaws}
use Rattle.acc_core.proofs.LegalSteps.{legal_start, Step-legal, runs_legal}
use Rattle.acc_core.proofs.RunParts.{Runs-cut}
use Rattle.acc_core.proofs.StandingHosts.{stands_start, Step-stands, runs_stand, AllStand-follow}

-- a world opens
pub opens : (laws : HostLaws) (config : Configuration) (programs : List HostProgram) (states : List HostState) (room : ℕ) (left : List HostProgram) (left_room : ℕ) → length programs ≤ MAX_HOSTS → AreNumbered 0 programs
    → states ≡ [] → length programs ≤ room → left ≡ [] → length programs ≤ left_room → IsWorld (first_state config programs) states room left left_room
opens laws config programs states room left left_room few numbered none enough no_left left_enough =
    record {
      few_hosts = simp length-map few;
      legal = legal_start (first_state config programs) refl refl;
      stand = stands_start laws config programs numbered;
      no_states = none;
      has_room = simp length-map enough;
      no_programs = no_left;
      has_programs_room = simp length-map left_enough;
    }

-- a step leaves a world
pub still_world : (laws : HostLaws) (old new : State) (e : Event) (r : Reply) (states : List HostState) (room : ℕ) (programs : List HostProgram) (programs_room : ℕ) → IsWorld old states room programs programs_room → length new.hosts ≡ length old.hosts → Step old e r new → IsWorld new states room programs programs_room
still_world laws old new e r states room programs programs_room w same s = record {
  few_hosts = rw same w.few_hosts;
  legal = Step-legal old new e r w.legal s;
  stand = Step-stands laws old new e r w.legal.counts w.stand s;
  no_states = w.no_states;
  has_room = rw same w.has_room;
  no_programs = w.no_programs;
  has_programs_room = rw same w.has_programs_room;
}

-- an outcome with other hosts
abbrev with_hosts : List HostView → Outcome → Outcome
with_hosts hosts o = record { reply = o.reply; state = record o.state { hosts = hosts } }

choice_hosts : (b : Bool) (hosts : List HostView) (x y other_x other_y : Outcome) → other_x ≡ with_hosts hosts x → other_y ≡ with_hosts hosts y → cond b other_x other_y ≡ with_hosts hosts (cond b x y)
choice_hosts true hosts x y other_x other_y e f = e
choice_hosts false hosts x y other_x other_y e f = f

queue_hosts : (there : Bool) (w : State) (hosts : List HostView) (o other : Outcome) → other ≡ with_hosts hosts o → queue_step there (record w { hosts = hosts }) other ≡ with_hosts hosts (queue_step there w o)
queue_hosts true w hosts o other e = e
queue_hosts false w hosts o other e = refl

take_hosts : (ops : List OpLabel) (w : State) (hosts : List HostView) (labels : List Label) (at : QueueAt) → take_step (record w { hosts = hosts }) labels at ops ≡ with_hosts hosts (take_step w labels at ops)
take_hosts [] w hosts labels at = choice_hosts (nat_lt 0 (batches_held w labels at)) hosts _ _ _ _ refl refl
take_hosts (op ∷ ops) w hosts labels at = refl

perform_hosts : (ops : List OpLabel) (w : State) (hosts : List HostView) (labels : List Label) (at : QueueAt) → perform_step (record w { hosts = hosts }) labels at ops ≡ with_hosts hosts (perform_step w labels at ops)
perform_hosts [] w hosts labels at = refl
perform_hosts (op ∷ ops) w hosts labels at =
    choice_hosts (can_perform labels w.work at op) hosts _ _ _ _ refl refl

-- a queue takes a batch, whichever hosts there are
pub takes : (w new : State) (hosts : List HostView) (at : QueueAt) (answer : Reply) → step false w (event.Take at) ≡ record { reply = answer; state = new } → Step (record w { hosts = hosts }) (event.Take at) answer (record new { hosts = hosts })
takes w new hosts at answer e =
    let labels = labels_of w in
    (false, queue_hosts (is_there w at) w hosts _ _ (take_hosts (ops_left w labels at) w hosts labels at) ∙ ap (λ o. with_hosts hosts o) e)

-- a queue performs an operation, whichever hosts there are
pub performs : (w new : State) (hosts : List HostView) (at : QueueAt) (answer : Reply) → step false w (event.Perform at) ≡ record { reply = answer; state = new } → Step (record w { hosts = hosts }) (event.Perform at) answer (record new { hosts = hosts })
performs w new hosts at answer e =
    let labels = labels_of w in
    (false, queue_hosts (is_there w at) w hosts _ _ (perform_hosts (ops_left w labels at) w hosts labels at) ∙ ap (λ o. with_hosts hosts o) e)

-- the owner closes, whichever hosts there are
pub closes_world : (w new : State) (hosts : List HostView) (answer : Reply) → step false w event.Close ≡ record { reply = answer; state = new } → Step (record w { hosts = hosts }) event.Close answer (record new { hosts = hosts })
closes_world w new hosts answer e =
    let same = closed_beside w hosts in (
      false,
      close_is (record w { hosts = hosts })
          ∙ (ap (λ v. record { reply = reply.Remaining (left_open (standing_of v) (queue_count w.config)); state = v }) same
          ∙ ap (λ o. with_hosts hosts o) (sym (close_is w) ∙ e)),
    )

-- a run of a world is legal wherever it is cut
pub has_run : (laws : HostLaws) (old new : State) (events : List Event) (replies : List Reply) → IsLegalState old → AllStand old 0 old.hosts → Runs old events replies new → Ran old events replies new
has_run laws old new events replies legal stand runs = record {
  runs = runs;
  cuts = λ first second same.
      let cut = Runs-cut first second replies old new (rw same runs) in
      let stands = runs_stand laws first (take (length first) replies) old cut.mid legal stand cut.before in
      record {
        mid = cut.mid;
        before = cut.before;
        legal = runs_legal first (take (length first) replies) old cut.mid legal cut.before;
        follow = AllStand-follow laws cut.mid stands;
        after = cut.after;
      };
}
