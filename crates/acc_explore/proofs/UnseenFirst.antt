-- An unseen operation commutes with every event of the others.
use Rattle.std.proofs.Common.{inl, inr, ◌≡◌, true, false, ◌&&◌, ◌||◌, List, [], ◌∷◌, refl, ap, ◌∙◌, Some, None, Option, slice_get}
use Rattle.std.proofs.lemmas.Bool.{and_from, and_parts, or_cases}
use Rattle.acc_base.specs.declared.ids.QueueAt.{QueueAt}
use Rattle.acc_base.specs.Queues.{same_queue}
use Rattle.acc_batch.specs.declared.label.OpLabel.{OpLabel}
use Rattle.acc_batch.specs.declared.label.OpLabel.TheVariants.{Make, CopyIn, CopyOut, Release, Run, Await, Close}
use Rattle.acc_batch.specs.Ops.{HasItsCells}
use Rattle.acc_core.proofs.LegalSteps.{legal_performed}
use Rattle.acc_core.proofs.NextOfQueue.{next_uses_live}
use Rattle.acc_core.specs.Legality.{IsLegalState}
use Rattle.acc_core.specs.Machine.{State, can_perform, is_there, labels_of, named_step, ops_left, step, with_op}
use Rattle.acc_host.specs.declared.event.Event.{Event}
use Rattle.acc_host.specs.declared.event.Event.TheVariants as event
use Rattle.acc_host.specs.Hosts.{HostView, wants}
use Rattle.acc_explore.specs.declared.conflicts.Access.{Access}
use Rattle.acc_explore.specs.ApartOperations.{any_conflict, host_accesses}
use Rattle.acc_explore.specs.UnseenOperations.{UnseenOperationsCommute, begins_unseen, ends_no_batch, is_at_unseen, is_unseen, nobody_asks}
use Rattle.acc_explore.proofs.AlikeLogSteps.{next_has_cells}
use Rattle.acc_explore.proofs.StandingNext.{StandsNext, standing_kept, or_from}
use Rattle.acc_explore.proofs.NextTurned.{Moves, Turns, idle_by, moves_by, no_end}
use Rattle.acc_explore.proofs.NextBesideHosts.{host_turns, want_accesses}
use Rattle.acc_explore.proofs.NextBesideQueues.{LogsTurned, leaves_performed, perform_turns, take_turns}
use Rattle.acc_explore.proofs.NextBesideCloses.{turned_close}
use Rattle.acc_explore.proofs.UnseenCells.{op_turned}

-- ## The test, in its parts

-- The next operation of a queue is this one, and it is unseen.
record StandsUnseen (at : QueueAt) (w : State) (op : OpLabel) : Type 0 where
  next : StandsNext at w op
  unseen : is_unseen op ≡ true

stands_unseen : (at : QueueAt) (w : State) → is_at_unseen at w ≡ true → (op : OpLabel) × StandsUnseen at w op
stands_unseen at w e =
    let parts = and_parts (is_there w at) (begins_unseen w at (ops_left w (labels_of w) at)) e in
    by (ops_left w (labels_of w) at) refl parts.0 parts.1
  where
    by : (ops : List OpLabel) → ops_left w (labels_of w) at ≡ ops → is_there w at ≡ true → begins_unseen w at ops ≡ true → (op : OpLabel) × StandsUnseen at w op
    by [] left there e = cc
    by (op ∷ later) left there e =
        let none = ends_no_batch (labels_of w) w.work at op in
        let can = can_perform (labels_of w) w.work at op in
        let one = and_parts (is_unseen op) (can && (none || nobody_asks w)) e in
        let two = and_parts can (none || nobody_asks w) one.1 in
        (op, record { next = record { later = later; there = there; left = left; can = two.0; quiet = or_cases none (nobody_asks w) two.1 }; unseen = one.0 })

pub at_unseen : (at : QueueAt) (w : State) (op : OpLabel) → StandsNext at w op → is_unseen op ≡ true → is_at_unseen at w ≡ true
at_unseen at w op u unseen =
    let none = ends_no_batch (labels_of w) w.work at op in
    let can = can_perform (labels_of w) w.work at op in
    and_from (is_there w at) (begins_unseen w at (ops_left w (labels_of w) at)) u.there
    (ap (begins_unseen w at) u.left
    ∙ and_from (is_unseen op) (can && (none || nobody_asks w)) unseen
    (and_from can (none || nobody_asks w) u.can (or_from none (nobody_asks w) u.quiet)))

-- ## What it reaches

no_loop : (op : OpLabel) → is_unseen op ≡ true → HasItsCells op
no_loop (Make r b) u = tt
no_loop (CopyIn r b) u = cc
no_loop (CopyOut r b) u = cc
no_loop (Release b) u = tt
no_loop (Run k uses) u = cc
no_loop (Await q n) u = tt
no_loop Close u = cc

no_host_cell : (op : OpLabel) → is_unseen op ≡ true → (xs : List Access) → any_conflict (host_accesses op) xs ≡ false
no_host_cell (Make r b) u xs = refl
no_host_cell (CopyIn r b) u xs = cc
no_host_cell (CopyOut r b) u xs = cc
no_host_cell (Release b) u xs = refl
no_host_cell (Run k uses) u xs = cc
no_host_cell (Await q n) u xs = refl
no_host_cell Close u xs = cc

-- ## It commutes

module _ (at : QueueAt) (w : State) (op : OpLabel) (u : StandsNext at w op) (unseen : is_unseen op ≡ true) (l : IsLegalState w) where
  logs_turned : (q : QueueAt) (x : OpLabel) (later : List OpLabel) → same_queue at q ≡ false → is_there w q ≡ true → ops_left w (labels_of w) q ≡ x ∷ later
      → can_perform (labels_of w) w.work q x ≡ true → LogsTurned at w op u q x
  logs_turned q x later differ there left can =
      let again = standing_kept at w (with_op w q x) op u (leaves_performed at w op u q x differ) in
      op_turned w.config.arrays w.work at q op x unseen (next_uses_live w at op u.later l u.left) (next_uses_live (with_op w q x) at op again.later (legal_performed w q x later l left can) again.left)
      (next_uses_live w q x later l left) (next_has_cells w q x later l left)

  keeps : (x : Event) → Turns at w op x → Moves (is_at_unseen at) at w x
  keeps x t = moves_by (is_at_unseen at) at w op u x t (λ m. let s = (step false w x).state in at_unseen at s op (standing_kept at w s op u m.leaves) unseen)

  moves : (x : Event) → Moves (is_at_unseen at) at w x
  moves (event.Host h) = keeps (event.Host h) (by (slice_get w.hosts h) refl)
    where
      by : (o : Option HostView) → slice_get w.hosts h ≡ o → Turns at w op (event.Host h)
      by None e = idle_by at w op (event.Host h) (ap (named_step false w h) e)
      by (Some host) e = host_turns at w op u (no_loop op unseen) h host e (no_host_cell op unseen (want_accesses (wants w.config.devices host)))
  moves (event.Take q) = keeps (event.Take q) (take_turns at w op u q)
  moves (event.Perform q) = elim (perform_turns at w op u q (logs_turned q)) [ inl same ↦ inl same | inr t ↦ keeps (event.Perform q) t ]
  moves event.Close = keeps event.Close (inr (turned_close at w op))

pub unseen_commute : UnseenOperationsCommute
unseen_commute closing at = record {
  kept = λ w x l test may. let stands = stands_unseen at w test in moves at w stands.0 stands.1.next stands.1.unseen l x;
  waits = λ w l test ends. let stands = stands_unseen at w test in no_end at w stands.0 stands.1.next ends;
}
