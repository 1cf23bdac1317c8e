-- An operation that stands apart commutes with every event of the others.
use Rattle.std.proofs.Common.{inl, inr, ◌≡◌, ℕ, Bool, true, false, ◌||◌, List, ◌∷◌, refl, sym, ap, ◌∙◌, subst, Some, None, Option, slice_get, true≢false}
use Rattle.std.specs.List.{list_all}
use Rattle.std.proofs.lemmas.Bool.{or_cases}
use Rattle.acc_base.specs.declared.ids.QueueAt.{QueueAt}
use Rattle.acc_base.specs.Queues.{same_queue}
use Rattle.acc_batch.specs.declared.label.OpLabel.{OpLabel}
use Rattle.acc_batch.specs.Ops.{HasItsCells}
use Rattle.acc_core.specs.Legality.{IsLegalState}
use Rattle.acc_core.specs.Machine.{State, Outcome, can_perform, host_step, is_there, labels_of, named_step, ops_left, step}
use Rattle.acc_host.specs.declared.event.Event.{Event}
use Rattle.acc_host.specs.declared.event.Event.TheVariants as event
use Rattle.acc_host.specs.Hosts.{HostView, host_after, wants}
use Rattle.acc_explore.specs.ApartOperations.{ApartOperationsCommute, host_is_clear, is_at_apart, keeps_clear, waits_for}
use Rattle.acc_explore.specs.Runs.{MayCome}
use Rattle.acc_explore.proofs.AlikeLogSteps.{next_has_cells}
use Rattle.acc_explore.proofs.ApartHosts.{WentOn, clear_after, place_apart, waits_idle, want_alone, went_on}
use Rattle.acc_explore.proofs.ApartKept.{AddsClear, StandsApart, adds_none, apart_kept, next_apart, stands_apart}
use Rattle.acc_explore.proofs.ApartPlaced.{adds_clear}
use Rattle.acc_explore.proofs.Explored.{legal_step}
use Rattle.acc_explore.proofs.ApartCells.{apart_turned}
use Rattle.acc_explore.proofs.NextTurned.{Moves, Turns, moves_by, no_end}
use Rattle.acc_explore.proofs.NextBesideHosts.{host_turns}
use Rattle.acc_explore.proofs.NextBesideQueues.{LogsTurned, perform_turns, take_turns}
use Rattle.acc_explore.proofs.NobodyAsks.{all_get, all_set}
use Rattle.acc_explore.proofs.QueueSteps.{LeavesHosts, perform_leaves, take_leaves}

module _ (at : QueueAt) (w : State) (op : OpLabel) (a : StandsApart at w op) (l : IsLegalState w) where
  cells : HasItsCells op
  cells = next_has_cells w at op a.next.later l a.next.left

  -- a queue's step keeps the test
  by_queue : (x : Event) → LeavesHosts w (step false w x) → Turns at w op x → Moves (is_at_apart at) at w x
  by_queue x left t = moves_by (is_at_apart at) at w op a.next x t (λ m.
      apart_kept at w (step false w x).state op m.leaves (adds_none at w (step false w x).state op left.labels) a (ap (list_all (host_is_clear w at op)) left.hosts ∙ a.hosts))

  logs_turned : (q : QueueAt) (x : OpLabel) (later : List OpLabel) → same_queue at q ≡ false → is_there w q ≡ true → ops_left w (labels_of w) q ≡ x ∷ later
      → can_perform (labels_of w) w.work q x ≡ true → LogsTurned at w op a.next q x
  logs_turned q x later differ there left can = apart_turned w.config.arrays w.work at q op x (next_apart at w op a l q x later differ there left) cells (next_has_cells w q x later l left)

  -- so does a host's
  module _ (h : ℕ) (host : HostView) (there : slice_get w.hosts h ≡ Some host) where
    step_is : step false w (event.Host h) ≡ host_step false w h host (wants w.config.devices host)
    step_is = ap (named_step false w h) there

    hosts_kept : keeps_clear op host ≡ true → (s : State) → WentOn w s h host (wants w.config.devices host) → list_all (host_is_clear w at op) s.hosts ≡ true
    hosts_kept clear s went =
        let new = host_after went.goes host in
        ap (list_all (host_is_clear w at op)) went.hosts
        ∙ all_set (host_is_clear w at op) w.hosts h new a.hosts (either (waits_for w at new.phase) (keeps_clear op new) (clear_after op w.config.devices host clear went.goes went.busy went.moves))
      where
        either : (x y : Bool) → y ≡ true → (x || y) ≡ true
        either true y e = refl
        either false y e = e

    -- what it places, if it does, is clear
    adds : keeps_clear op host ≡ true → (s : State) → IsLegalState s → WentOn w s h host (wants w.config.devices host) → (q : QueueAt) → AddsClear at w s op q
    adds clear s m went = elim went.labels [
      | inl same ↦ adds_none at w s op same
      | inr placing ↦ adds_clear at w s op a l m h placing.d placing.labels (place_apart op w.config.devices host clear placing.d placing.is)
    ]

    clear_moves : keeps_clear op host ≡ true → Moves (is_at_apart at) at w (event.Host h)
    clear_moves clear = elim (went_on w h host (wants w.config.devices host)) [
      | inl idle ↦ inr (inl (ap (λ (o : Outcome). o.reply) step_is ∙ idle))
      | inr went ↦
          let s = (step false w (event.Host h)).state in
          let goes : WentOn w s h host (wants w.config.devices host) = subst (λ (o : Outcome). WentOn w o.state h host (wants w.config.devices host)) (sym step_is) went in
          moves_by (is_at_apart at) at w op a.next (event.Host h) (host_turns at w op a.next cells h host there (want_alone op w.config.devices host clear)) (λ m.
          apart_kept at w s op m.leaves (adds clear s (legal_step w (event.Host h) l) goes) a (hosts_kept clear s goes))
    ]

  by_host : (h : ℕ) (o : Option HostView) → slice_get w.hosts h ≡ o → Moves (is_at_apart at) at w (event.Host h)
  by_host h None e = inr (inl (ap (λ (o : Option HostView). (named_step false w h o).reply) e))
  by_host h (Some host) e = elim (or_cases (waits_for w at host.phase) (keeps_clear op host) (all_get (host_is_clear w at op) w.hosts h host a.hosts e)) [
    | inl waits ↦ inr (inl (waits_idle w at h host e waits))
    | inr clear ↦ clear_moves h host e clear
  ]

  moves : (x : Event) → MayCome false x → Moves (is_at_apart at) at w x
  moves (event.Host h) may = by_host h (slice_get w.hosts h) refl
  moves (event.Take q) may = by_queue (event.Take q) (take_leaves w q) (take_turns at w op a.next q)
  moves (event.Perform q) may = elim (perform_turns at w op a.next q (logs_turned q)) [ inl same ↦ inl same | inr t ↦ by_queue (event.Perform q) (perform_leaves w q) t ]
  moves event.Close may = absurd (true≢false (sym may))

pub apart_commute : ApartOperationsCommute
apart_commute at = record {
  kept = λ w x l test may. let stands = stands_apart at w test in moves at w stands.0 stands.1 l x may;
  waits = λ w l test ends. let stands = stands_apart at w test in no_end at w stands.0 stands.1.next ends;
}
