-- A host that is clear of an operation waits for it, or goes on to be clear of it.
use Rattle.std.proofs.Common.{inl, inr, ◌⊎◌, ◌≡◌, ℕ, ◌+◌, ◌<◌, ◌≤◌, Bool, true, false, not, ◌==◌, cond, List, length, drop, refl, ap, ◌∙◌, subst, Some, None, Option, Ok, Err, Result, nat_lt, slice_get, slice_set, slice_index_or, arith, add-one}
use Rattle.std.specs.List.{list_all}
use Rattle.std.proofs.lemmas.Bool.{and_parts, cases_lt, eqb-true, false_from_ne_true, ltb-true}
use Rattle.std.proofs.lemmas.List.{get_or_past}
use Rattle.acc_base.specs.declared.fault.Fault.{Fault}
use Rattle.acc_base.specs.declared.ids.QueueAt.{QueueAt}
use Rattle.acc_batch.specs.declared.label.OpLabel.{OpLabel}
use Rattle.acc_core.specs.Machine.{State, Outcome, host_outcome, host_step, item_answer, item_state, labels_of, named_step, place_answer, placed_state, step, unless, wait_answer, waited_state, with_directive}
use Rattle.acc_host.specs.declared.event.Event.TheVariants as event
use Rattle.acc_host.specs.declared.program.Act.{Act}
use Rattle.acc_host.specs.declared.program.Act.TheVariants as act
use Rattle.acc_host.specs.declared.program.Statement.{Statement}
use Rattle.acc_host.specs.declared.state.After.{After}
use Rattle.acc_host.specs.declared.state.After.TheVariants as go
use Rattle.acc_host.specs.declared.state.Ids.{Ids}
use Rattle.acc_host.specs.declared.state.Phase.{Phase}
use Rattle.acc_host.specs.declared.state.Phase.TheVariants as phase
use Rattle.acc_host.specs.declared.state.Reply.TheVariants as reply
use Rattle.acc_host.specs.Hosts.{HostView, after_answer, after_place, after_wait, host_after, owing, reply_to, wants, wants_at}
use Rattle.acc_host.specs.Steps.{Owed, nothing_owed, owes_seen, owes_test, owed_by, Want, stays, sets, refuses, places, awaits, records, set_or_refuse, wanted, with_ids}
use Rattle.acc_place.specs.declared.directive.Placed.{Placed}
use Rattle.acc_place.specs.Directives.{Directive}
use Rattle.acc_work.specs.declared.item.ItemLabel.{ItemLabel}
use Rattle.acc_work.specs.declared.item.Shown.{Shown}
use Rattle.acc_work.specs.Logs.{all_done, batches_done}
use Rattle.acc_work.specs.Works.{item_fault}
use Rattle.acc_explore.specs.ApartOperations.{any_conflict, host_accesses, keeps_clear, may_name, meets, to_begin, waits_for}
use Rattle.acc_explore.proofs.NextBesideHosts.{none_empty, want_accesses}
use Rattle.acc_explore.proofs.NobodyAsks.{all_at, all_behind}
use Rattle.acc_explore.proofs.UnseenTests.{done_at}

-- ## One that waits

-- it does nothing, as not all that it waits for is performed
pub waits_idle : (w : State) (at : QueueAt) (h : ℕ) (host : HostView) → slice_get w.hosts h ≡ Some host → waits_for w at host.phase ≡ true → (step false w (event.Host h)).reply ≡ reply.Idle
waits_idle w at h host there waits =
    ap (λ (o : Option HostView). (named_step false w h o).reply) there ∙ by host.phase (slice_get host.statements host.ended) waits
  where
    short : (device : ℕ) (counts : List ℕ) → device ≡ at.device → batches_done (labels_of w) w.work at < slice_index_or counts at.queue 0 → all_done (labels_of w) w.work device 0 counts ≡ false
    short device counts here few = false_from_ne_true (all_done (labels_of w) w.work device 0 counts) (λ done.
        elim (cases_lt at.queue (length counts)) [
          | inl low ↦ (
              let same : 0 + at.queue ≡ at.queue = omega arith in
              let enough : slice_index_or counts at.queue 0 ≤ batches_done (labels_of w) w.work at =
              subst (λ q. slice_index_or counts at.queue 0 ≤ batches_done (labels_of w) w.work (record { device = at.device; queue = q })) same
              (subst (λ d. slice_index_or counts at.queue 0 ≤ batches_done (labels_of w) w.work (record { device = d; queue = 0 + at.queue })) here (done_at (labels_of w) w.work device 0 counts at.queue done low)) in
              absurd (omega (arith, few, enough))
              )
          | inr past ↦ absurd (omega (arith, few, get_or_past counts at.queue 0 past))
        ])

    by : (p : Phase) (o : Option Statement) → waits_for w at p ≡ true → (host_step false w h host (wants_at w.config.devices host.ids p o)).reply ≡ reply.Idle
    by phase.Ready o e = cc
    by (phase.Waits device counts) None e = refl
    by (phase.Waits device counts) (Some s) e =
        let parts = and_parts (device == at.device) (nat_lt (batches_done (labels_of w) w.work at) (slice_index_or counts at.queue 0)) e in
        let none = short device counts (eqb-true device at.device parts.0) (ltb-true (batches_done (labels_of w) w.work at) (slice_index_or counts at.queue 0) parts.1) in
        ap (λ reached. reply_to (after_wait (cond reached (unless (item_fault false w.work true) true) (Ok false)))) none
    by (phase.Asks device counts) o e = cc
    by (phase.Refused fault) o e = cc

-- ## One that has nothing to begin that conflicts

abbrev apart_from : OpLabel → Statement → Bool
apart_from op s = not (meets op s.act)

pub isnt : (b : Bool) → not b ≡ true → b ≡ false
isnt true e = cc
isnt false e = refl

set_alone : (op : OpLabel) (b : Bool) (fault : Fault) (ids : Ids) → any_conflict (host_accesses op) (want_accesses (set_or_refuse b fault ids)) ≡ false
set_alone op true fault ids = none_empty (host_accesses op)
set_alone op false fault ids = none_empty (host_accesses op)

act_alone : (op : OpLabel) (devices : ℕ) (ids : Ids) (a : Act) → meets op a ≡ false → any_conflict (host_accesses op) (want_accesses (wanted devices ids a)) ≡ false
act_alone op devices ids (act.Place d) e = none_empty (host_accesses op)
act_alone op devices ids (act.Write array cell new_value) e = e
act_alone op devices ids (act.Print range) e = e
act_alone op devices ids (act.SetDevice n) e = set_alone op _ _ _
act_alone op devices ids (act.SetAsync v) e = set_alone op _ _ _
act_alone op devices ids act.ShowDevice e = e
act_alone op devices ids act.ShowDevices e = e

sets_no_place : (b : Bool) (fault : Fault) (ids : Ids) (d : Directive) → set_or_refuse b fault ids ≡ places d → ⊥
sets_no_place true fault ids d e = cc
sets_no_place false fault ids d e = cc

act_named : (op : OpLabel) (devices : ℕ) (ids : Ids) (a : Act) (d : Directive) → meets op a ≡ false → wanted devices ids a ≡ places d → may_name op d ≡ false
act_named op devices ids (act.Place was) d e is =
    let same : with_ids ids was ≡ d = cc in
    subst (λ (x : Directive). may_name op x ≡ false) same e
act_named op devices ids (act.Write array cell new_value) d e is = cc
act_named op devices ids (act.Print range) d e is = cc
act_named op devices ids (act.SetDevice n) d e is = absurd (sets_no_place _ _ _ d is)
act_named op devices ids (act.SetAsync v) d e is = absurd (sets_no_place _ _ _ d is)
act_named op devices ids act.ShowDevice d e is = cc
act_named op devices ids act.ShowDevices d e is = cc

module _ (op : OpLabel) (devices : ℕ) (host : HostView) (clear : keeps_clear op host ≡ true) where
  at_ready : (s : Statement) → slice_get host.statements host.ended ≡ Some s → list_all (apart_from op) (drop host.ended host.statements) ≡ true → meets op s.act ≡ false
  at_ready s e all = isnt (meets op s.act) (all_at (apart_from op) host.statements host.ended s all e)

  -- what it does next doesn't conflict
  pub want_alone : any_conflict (host_accesses op) (want_accesses (wants devices host)) ≡ false
  want_alone = by host.phase (slice_get host.statements host.ended) refl clear
    where
      by : (p : Phase) (o : Option Statement) → slice_get host.statements host.ended ≡ o → list_all (apart_from op) (to_begin host p) ≡ true → any_conflict (host_accesses op) (want_accesses (wants_at devices host.ids p o)) ≡ false
      by phase.Ready None e all = none_empty (host_accesses op)
      by (phase.Waits device counts) None e all = none_empty (host_accesses op)
      by (phase.Asks device counts) None e all = none_empty (host_accesses op)
      by (phase.Refused fault) None e all = none_empty (host_accesses op)
      by phase.Ready (Some s) e all = act_alone op devices host.ids s.act (at_ready s e all)
      by (phase.Waits device counts) (Some s) e all = none_empty (host_accesses op)
      by (phase.Asks device counts) (Some s) e all = none_empty (host_accesses op)
      by (phase.Refused fault) (Some s) e all = none_empty (host_accesses op)

  -- nor does it name what the operation touches, where it places something
  pub place_apart : (d : Directive) → wants devices host ≡ places d → may_name op d ≡ false
  place_apart d is = by host.phase (slice_get host.statements host.ended) refl clear is
    where
      by : (p : Phase) (o : Option Statement) → slice_get host.statements host.ended ≡ o → list_all (apart_from op) (to_begin host p) ≡ true → wants_at devices host.ids p o ≡ places d → may_name op d ≡ false
      by phase.Ready None e all is = cc
      by (phase.Waits device counts) None e all is = cc
      by (phase.Asks device counts) None e all is = cc
      by (phase.Refused fault) None e all is = cc
      by phase.Ready (Some s) e all is = act_named op devices host.ids s.act d (at_ready s e all) is
      by (phase.Waits device counts) (Some s) e all is = cc
      by (phase.Asks device counts) (Some s) e all is = cc
      by (phase.Refused fault) (Some s) e all is = cc

  -- where it goes on, it is clear behind that
  pub clear_after : (goes : Result After Fault) → (goes ≡ Ok go.Idle → ⊥) → (wants devices host ≡ stays → ⊥) → keeps_clear op (host_after goes host) ≡ true
  clear_after goes busy moves = by goes busy (later host.phase (slice_get host.statements host.ended) moves clear)
    where
      -- one that goes on wasn't refused
      later : (p : Phase) (o : Option Statement) → (wants_at devices host.ids p o ≡ stays → ⊥) → list_all (apart_from op) (to_begin host p) ≡ true → list_all (apart_from op) (drop (host.ended + 1) host.statements) ≡ true
      later phase.Ready o goes all = ap (λ n. list_all (apart_from op) (drop n host.statements)) (add-one host.ended) ∙ all_behind (apart_from op) host.statements host.ended all
      later (phase.Waits device counts) o goes all = all
      later (phase.Asks device counts) o goes all = all
      later (phase.Refused fault) None goes all = absurd (goes refl)
      later (phase.Refused fault) (Some s) goes all = absurd (goes refl)

      by : (goes : Result After Fault) → (goes ≡ Ok go.Idle → ⊥) → list_all (apart_from op) (drop (host.ended + 1) host.statements) ≡ true → list_all (apart_from op) (to_begin (host_after goes host) (host_after goes host).phase) ≡ true
      by (Ok go.Idle) busy all = absurd (busy refl)
      by (Ok go.Ended) busy all = all
      by (Ok (go.Set ids)) busy all = all
      by (Ok (go.Waits what)) busy all = all
      by (Ok (go.Asks what)) busy all = all
      by (Err fault) busy all = refl

-- ## How a host goes on

-- it has placed a directive
pub record Placing (w s : State) (h : ℕ) (want : Want) : Type 0 where
  pub d : Directive
  pub is : want ≡ places d
  pub labels : labels_of s ≡ labels_of (with_directive w h d)

pub record WentOn (w s : State) (h : ℕ) (host : HostView) (want : Want) : Type 0 where
  pub moves : want ≡ stays → ⊥
  pub goes : Result After Fault
  pub busy : goes ≡ Ok go.Idle → ⊥
  pub hosts : s.hosts ≡ slice_set w.hosts h (host_after goes host)
  pub labels : (labels_of s ≡ labels_of w) ⊎ Placing w s h want

module _ (w : State) (h : ℕ) (host : HostView) where
  -- it does nothing, or goes on
  abbrev pub Goes : Want → Outcome → Type 0
  Goes want o = (o.reply ≡ reply.Idle) ⊎ WentOn w o.state h host want

  by_wait : (device : ℕ) (counts : List ℕ) (answer : Result Bool Fault) → Goes (awaits device counts) (host_outcome (waited_state w h device counts answer) h host (after_wait answer))
  by_wait device counts (Ok true) = inr (record { moves = λ e. cc; goes = Ok go.Ended; busy = λ e. cc; hosts = refl; labels = inl refl })
  by_wait device counts (Ok false) = inl refl
  by_wait device counts (Err fault) = inr (record { moves = λ e. cc; goes = Err fault; busy = λ e. cc; hosts = refl; labels = inl refl })

  by_item : (item : ItemLabel) (answer : Result Shown Fault) → Goes (records item) (host_outcome (item_state w h item answer) h host (after_answer answer))
  by_item item (Ok shown) = inr (record { moves = λ e. cc; goes = Ok go.Ended; busy = λ e. cc; hosts = refl; labels = inl refl })
  by_item item (Err fault) = inr (record { moves = λ e. cc; goes = Err fault; busy = λ e. cc; hosts = refl; labels = inl refl })

  no_idle : (owed : Owed) → let goes : Result After Fault = Ok (owing owed) in goes ≡ Ok go.Idle → ⊥
  no_idle nothing_owed e = cc
  no_idle (owes_seen device counts) e = cc
  no_idle (owes_test device counts) e = cc

  by_place : (d : Directive) (answer : Result Placed Fault) → Goes (places d) (host_outcome (placed_state w h d answer) h host (after_place d answer))
  by_place d (Ok placed) =
      inr (record { moves = λ e. cc; goes = Ok (owing (owed_by d placed)); busy = no_idle (owed_by d placed); hosts = refl; labels = inr (record { d = d; is = refl; labels = refl }) })
  by_place d (Err fault) = inr (record { moves = λ e. cc; goes = Err fault; busy = λ e. cc; hosts = refl; labels = inl refl })

  pub went_on : (want : Want) → Goes want (host_step false w h host want)
  went_on stays = inl refl
  went_on (sets ids) = inr (record { moves = λ e. cc; goes = Ok (go.Set ids); busy = λ e. cc; hosts = refl; labels = inl refl })
  went_on (refuses fault) = inr (record { moves = λ e. cc; goes = Err fault; busy = λ e. cc; hosts = refl; labels = inl refl })
  went_on (places d) = by_place d (place_answer false w h d)
  went_on (awaits device counts) = by_wait device counts (wait_answer false w device counts)
  went_on (records item) = by_item item (item_answer false w item)
