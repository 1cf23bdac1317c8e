-- An operation that comes next commutes with the owner's closes.
use Rattle.std.proofs.Common.{◌≡◌, ℕ, zero, suc, true, false, cond, List, [], ◌∷◌, ◌++◌, refl, sym, ap, ◌∙◌, arith}
use Rattle.std.proofs.lemmas.List.{append_assoc, append-nil}
use Rattle.acc_base.specs.declared.ids.QueueAt.{QueueAt}
use Rattle.acc_base.specs.Queues.{at_seat, queue_count}
use Rattle.acc_batch.proofs.Labels.{on_queue-append}
use Rattle.acc_batch.specs.Awaits.{close_label}
use Rattle.acc_batch.specs.declared.entry.WorkEntry.TheVariants as entry
use Rattle.acc_batch.specs.declared.label.Label.{Label}
use Rattle.acc_batch.specs.declared.label.OpLabel.{OpLabel}
use Rattle.acc_batch.specs.Labels.{on_queue}
use Rattle.acc_core.specs.Machine.{State, can_close, closes, labels_of, standing_of, step, with_closing, with_op}
use Rattle.acc_host.specs.declared.event.Event.TheVariants as event
use Rattle.acc_place.specs.declared.directive.PlaceEntry.{PlaceEntry}
use Rattle.acc_place.specs.declared.directive.PlaceEntry.TheVariants as noted
use Rattle.acc_place.specs.Histories.{standing}
use Rattle.acc_place.specs.Standings.{Standing}
use Rattle.acc_explore.proofs.AlikeLogs.{same_itself}
use Rattle.acc_explore.proofs.AlikeLogSteps.{closes_same}
use Rattle.acc_explore.proofs.NextTurned.{Turned}

-- More labels stand behind those of a history, once these entries are before it.
abbrev Behind : State → List PlaceEntry → List PlaceEntry → Type 0
Behind w entries history = (more : List Label) × ((standing w.config (entries ++ history) w.counts).labels ≡ (standing w.config history w.counts).labels ++ more)

one_behind : (w : State) (q : QueueAt) (entries history : List PlaceEntry) → Behind w entries history → Behind w (noted.Closed q ∷ entries) history
unfolding standing
one_behind w q entries history before =
    let close = close_label q (standing w.config (entries ++ history) w.counts).labels in
    (before.0 ++ close ∷ [], ap (λ (ls : List Label). ls ++ close ∷ []) before.1 ∙ append_assoc (standing w.config history w.counts).labels before.0 (close ∷ []))

closes_behind : (w : State) (st : Standing) (n : ℕ) (history : List PlaceEntry) → Behind w (closes w st n) history
closes_behind w st zero history = ([], sym (append-nil (standing w.config history w.counts).labels))
closes_behind w st (suc n) history =
    let before = closes_behind w st n history in
    elim (can_close w st (at_seat n)) as (λ b. Behind w (cond b (noted.Closed (at_seat n) ∷ closes w st n) (closes w st n)) history)
    [ true ↦ one_behind w (at_seat n) (closes w st n) history before | false ↦ before ]

-- beginning to close places none
begun_same : (w : State) (st : Standing) → (standing w.config (with_closing st w.history) w.counts).labels ≡ labels_of w
unfolding standing
begun_same w st = elim st.closing as (λ b. (standing w.config (cond b w.history (noted.Closing ∷ w.history)) w.counts).labels ≡ (standing w.config w.history w.counts).labels) [ true ↦ refl | false ↦ refl ]

pub turned_close : (at : QueueAt) (w : State) (op : OpLabel) → Turned at w op (step false w event.Close).state (step false (with_op w at op) event.Close).state
turned_close at w op =
    let st = standing_of w in
    let behind = closes_behind w st (queue_count w.config) (with_closing st w.history) in
    record {
      new = entry.Op at op ∷ w.work;
      moved = ap (λ (cs : List PlaceEntry). record (with_op w at op) { history = cs ++ with_closing st w.history }) (sym (closes_same w (entry.Op at op ∷ w.work) st (queue_count w.config)));
      logs = same_itself w.config.arrays (entry.Op at op ∷ w.work);
      leaves = record {
        config = refl;
        labels = λ q. (
          on_queue q behind.0,
          ap (on_queue q) (behind.1 ∙ ap (λ (ls : List Label). ls ++ behind.0) (begun_same w st)) ∙ on_queue-append q (labels_of w) behind.0,
        );
        taken = refl;
        same = refl;
        done = λ q. omega arith;
        items = λ host. omega arith;
        unasked = λ e. e;
      };
    }
