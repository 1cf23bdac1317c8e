-- What comes of an event before an operation that comes next on a queue, and behind it.
use Rattle.std.proofs.Common.{inl, inr, ◌⊎◌, ◌≡◌, Bool, true, false, List, ◌∷◌, refl, sym, ap, ◌∙◌, subst}
use Rattle.std.specs.Prelude.{IsTrue}
use Rattle.acc_base.specs.declared.ids.QueueAt.{QueueAt}
use Rattle.acc_batch.specs.declared.entry.WorkEntry.{WorkEntry}
use Rattle.acc_batch.specs.declared.entry.WorkEntry.TheVariants as entry
use Rattle.acc_batch.specs.declared.label.OpLabel.{OpLabel}
use Rattle.acc_core.specs.Machine.{State, Outcome, idle, step, with_op}
use Rattle.acc_host.specs.declared.event.Event.{Event}
use Rattle.acc_host.specs.declared.event.Event.TheVariants as event
use Rattle.acc_host.specs.declared.state.Reply.TheVariants as reply
use Rattle.acc_explore.specs.Alike.{Alike, AlikeLogs}
use Rattle.acc_explore.specs.Explorations.{IsEnd}
use Rattle.acc_explore.proofs.AlikeLogs.{same_itself}
use Rattle.acc_explore.proofs.AlikeSteps.{but_log}
use Rattle.acc_explore.proofs.LogReadings.{with_work}
use Rattle.acc_explore.proofs.StandingNext.{LeavesTest, StandsNext, leaves_itself, standing_kept, step_next}

-- Two states that another event leaves, of one and of the same behind the operation: but for their logs they are one, and these are
-- alike once the operation has come in both.
pub record Turned (at : QueueAt) (w : State) (op : OpLabel) (s t : State) : Type 0 where
  pub new : List WorkEntry
  pub moved : t ≡ with_work s new
  pub logs : AlikeLogs s.config.arrays new (entry.Op at op ∷ s.work)
  pub leaves : LeavesTest at w s

pub turned_itself : (at : QueueAt) (w : State) (op : OpLabel) → Turned at w op w (with_op w at op)
turned_itself at w op = record {
  new = entry.Op at op ∷ w.work;
  moved = refl;
  logs = same_itself w.config.arrays (entry.Op at op ∷ w.work);
  leaves = leaves_itself at w;
}

-- The event does nothing, or the operation may as well come behind it.
abbrev pub Turns : QueueAt → State → OpLabel → Event → Type 0
Turns at w op x = ((step false w x).reply ≡ reply.Idle) ⊎ Turned at w op (step false w x).state (step false (with_op w at op) x).state

-- where both steps are known
pub turns_by : (at : QueueAt) (w : State) (op : OpLabel) (x : Event) (o p : Outcome) → step false w x ≡ o → step false (with_op w at op) x ≡ p → Turned at w op o.state p.state → Turns at w op x
turns_by at w op x o p first second m = inr
    (subst (λ (q : Outcome). Turned at w op q.state (step false (with_op w at op) x).state) (sym first)
    (subst (λ (q : Outcome). Turned at w op o.state q.state) (sym second) m))

pub idle_by : (at : QueueAt) (w : State) (op : OpLabel) (x : Event) → step false w x ≡ idle w → Turns at w op x
idle_by at w op x e = inl (ap (λ (o : Outcome). o.reply) e)

-- then it commutes with the event
pub turned_alike : (at : QueueAt) (w : State) (op : OpLabel) → StandsNext at w op → (x : Event) → Turned at w op (step false w x).state (step false (with_op w at op) x).state
    → Alike (step false (step false w (event.Perform at)).state x).state (step false (step false w x).state (event.Perform at)).state
turned_alike at w op u x m =
    let s = (step false w x).state in
    let again = standing_kept at w s op u m.leaves in
    let first : (step false (step false w (event.Perform at)).state x).state ≡ with_work s m.new = ap (λ (o : Outcome). (step false o.state x).state) (step_next at w op u) ∙ m.moved in
    let second : (step false s (event.Perform at)).state ≡ with_op s at op = ap (λ (o : Outcome). o.state) (step_next at s op again) in
    subst (λ (v : State). Alike v (step false s (event.Perform at)).state) (sym first)
    (subst (Alike (with_work s m.new)) (sym second) (but_log (with_work s m.new) (entry.Op at op ∷ s.work) m.logs))

-- The event is the operation, or does nothing, or keeps a test and commutes with the operation.
abbrev pub Moves : (State → Bool) → QueueAt → State → Event → Type 0
Moves test at w x =
    (x ≡ event.Perform at) ⊎ ((step false w x).reply ≡ reply.Idle)
    ⊎ (IsTrue (test (step false w x).state)
    × Alike (step false (step false w (event.Perform at)).state x).state (step false (step false w x).state (event.Perform at)).state)

pub moves_by : (test : State → Bool) (at : QueueAt) (w : State) (op : OpLabel) → StandsNext at w op → (x : Event) → Turns at w op x
    → (Turned at w op (step false w x).state (step false (with_op w at op) x).state → test (step false w x).state ≡ true) → Moves test at w x
moves_by test at w op u x (inl idle) keeps = inr (inl idle)
moves_by test at w op u x (inr m) keeps = inr (inr (keeps m, turned_alike at w op u x m))

-- it is still to come
pub no_end : (at : QueueAt) (w : State) (op : OpLabel) → StandsNext at w op → IsEnd w → ⊥
no_end at w op u ends =
    let wrong : reply.Did ≡ reply.Idle = sym (ap (λ (o : Outcome). o.reply) (step_next at w op u)) ∙ ends (event.Perform at) tt in
    cc
