-- A queue that can take a batch, while it can't be full: who keeps that, and when an event commutes with the take.
use Rattle.std.proofs.Common.{inl, inr, ◌⊎◌, ◌≡◌, ℕ, ◌+◌, ◌<◌, ◌≤◌, true, false, ◌&&◌, cond, List, [], ◌∷◌, ◌++◌, length, take, drop, refl, sym, ap, ◌∙◌, subst, slice_set, nat_lt, arith}
use Rattle.std.specs.Prelude.{IsTrue, slice_index_or}
use Rattle.std.proofs.lemmas.Bool.{cases_lt, and_parts, and_from, ltb-true, lt-ltb, leb-true, le-leb}
use Rattle.std.proofs.lemmas.List.{get_or_past, get_or-set_same, get_or-set_other, length-append, take-append-le}
use Rattle.acc_base.specs.declared.ids.QueueAt.{QueueAt}
use Rattle.acc_base.specs.declared.ids.TheConstants.{QUEUES}
use Rattle.acc_base.specs.Configurations.{Configuration}
use Rattle.acc_base.specs.Queues.{same_queue, seat}
use Rattle.acc_batch.specs.declared.label.Label.{Label}
use Rattle.acc_batch.specs.declared.label.OpLabel.{OpLabel}
use Rattle.acc_batch.specs.Labels.{on_queue, ops_of}
use Rattle.acc_batch.proofs.Seats.{one_seat}
use Rattle.acc_core.specs.Machine.{State, Outcome, step, labels_of, is_there, is_empty, taken_on, batches_held, ops_left, idle, did, take_step, queue_step}
use Rattle.acc_host.specs.declared.event.Event.{Event}
use Rattle.acc_host.specs.declared.event.Event.TheVariants as event
use Rattle.acc_host.specs.declared.state.Reply.TheVariants as reply
use Rattle.acc_work.specs.Logs.{performed}
use Rattle.acc_explore.specs.Alike.{Alike}
use Rattle.acc_explore.specs.Takes.{never_fills, is_at_take, may_take, unplaced}
use Rattle.acc_explore.proofs.AlikeSteps.{alike_itself}

abbrev pub with_taken : State → List ℕ → State
with_taken w taken = record w { taken = taken }

-- the counts where a queue has taken one batch more
abbrev pub one_taken : List ℕ → QueueAt → List ℕ
one_taken taken at = slice_set taken (seat at) (slice_index_or taken (seat at) 0 + 1)

abbrev pub behind_take : State → QueueAt → State
behind_take w at = with_taken w (one_taken w.taken at)

-- ## The test

pub record IsFree (w : State) (at : QueueAt) : Type 0 where
  pub there : is_there w at ≡ true
  pub none_left : ops_left w (labels_of w) at ≡ []
  pub some : 0 < batches_held w (labels_of w) at
  pub room : batches_held w (labels_of w) at + unplaced w.hosts ≤ w.config.room

pub no_ops : (ops : List OpLabel) → is_empty ops ≡ true → ops ≡ []
no_ops [] e = refl
no_ops (op ∷ ops) e = cc

pub is_free : (w : State) (at : QueueAt) → may_take at w ≡ true → IsFree w at
is_free w at e =
    let held = batches_held w (labels_of w) at in
    let parts = and_parts (is_there w at) (is_at_take w at && never_fills w at) e in
    let rest = and_parts (is_at_take w at) (never_fills w at) parts.1 in
    let next = and_parts (is_empty (ops_left w (labels_of w) at)) (nat_lt 0 held) rest.0 in
    record {
      there = parts.0;
      none_left = no_ops (ops_left w (labels_of w) at) next.0;
      some = ltb-true 0 held next.1;
      room = leb-true (held + unplaced w.hosts) w.config.room rest.1;
    }

pub is_tested : (w : State) (at : QueueAt) → IsFree w at → may_take at w ≡ true
is_tested w at f =
    let held = batches_held w (labels_of w) at in
    and_from (is_there w at) (is_at_take w at && never_fills w at) f.there
    (and_from (is_at_take w at) (never_fills w at)
    (and_from (is_empty (ops_left w (labels_of w) at)) (nat_lt 0 held) (ap is_empty f.none_left) (lt-ltb 0 held f.some))
    (le-leb (held + unplaced w.hosts) w.config.room f.room))

pub low_queue : (w : State) (at : QueueAt) → is_there w at ≡ true → at.queue < QUEUES
low_queue w at there = ltb-true at.queue QUEUES (and_parts (nat_lt at.device w.config.devices) (nat_lt at.queue QUEUES) there).1

-- An event that leaves this keeps the test: it may place batches, as many as the hosts have directives less to place.
pub record Leaves (w v : State) (at : QueueAt) : Type 0 where
  pub config : v.config ≡ w.config
  pub taken : taken_on v at ≡ taken_on w at
  pub done : performed at v.work ≡ performed at w.work
  pub more : List Label
  pub placed : on_queue at (labels_of v) ≡ on_queue at (labels_of w) ++ more
  pub within : length more + unplaced v.hosts ≤ unplaced w.hosts

pub still_free : (w v : State) (at : QueueAt) → IsFree w at → Leaves w v at → IsFree v at
still_free w v at f x =
    let before = on_queue at (labels_of w) in
    let n = taken_on w at in
    let count = ap length x.placed ∙ length-append before x.more in
    let room = ap (λ (c : Configuration). c.room) x.config in
    record {
      there = ap (λ (c : Configuration). nat_lt at.device c.devices && nat_lt at.queue QUEUES) x.config ∙ f.there;
      none_left =
          ap (λ k. drop (length (performed at v.work)) (ops_of (take k (on_queue at (labels_of v))))) x.taken
          ∙ (ap (λ ops. drop (length ops) (ops_of (take n (on_queue at (labels_of v))))) x.done
          ∙ (ap (λ ls. drop (length (performed at w.work)) (ops_of (take n ls))) x.placed
          ∙ (ap (λ ls. drop (length (performed at w.work)) (ops_of ls)) (take-append-le n before x.more (omega (arith, f.some)))
          ∙ f.none_left)));
      some = omega (arith, f.some, count, x.taken);
      room = omega (arith, f.some, f.room, count, x.taken, x.within, room);
    }

-- ## The take

pub queue_there : (w : State) (at : QueueAt) → is_there w at ≡ true → (acts : List OpLabel → Outcome) {ops : List OpLabel} → ops_left w (labels_of w) at ≡ ops
    → queue_step (is_there w at) w (acts (ops_left w (labels_of w) at)) ≡ acts ops
queue_there w at there acts left = ap (λ b. queue_step b w (acts (ops_left w (labels_of w) at))) there ∙ ap acts left

pub takes_one : (w : State) (at : QueueAt) → is_there w at ≡ true → ops_left w (labels_of w) at ≡ [] → nat_lt 0 (batches_held w (labels_of w) at) ≡ true
    → step false w (event.Take at) ≡ did (behind_take w at)
takes_one w at there none some =
    queue_there w at there (take_step w (labels_of w) at) none ∙ ap (λ b. cond b (did (behind_take w at)) (idle w)) some

pub takes : (w : State) (at : QueueAt) → IsFree w at → step false w (event.Take at) ≡ did (behind_take w at)
takes w at f = takes_one w at f.there f.none_left (lt-ltb 0 (batches_held w (labels_of w) at) f.some)

-- no other queue sees it
pub taken_other : (w : State) (at other : QueueAt) → at.queue < QUEUES → other.queue < QUEUES → same_queue at other ≡ false → taken_on (behind_take w at) other ≡ taken_on w other
taken_other w at other low_at low_other differ =
    let apart : seat other ≡ seat at → ⊥ = λ e. (let no : true ≡ false = sym (one_seat at other low_at low_other (sym e)) ∙ differ in cc) in
    get_or-set_other w.taken (seat at) (seat other) (taken_on w at + 1) 0 apart

pub left_other : (w : State) (at other : QueueAt) → taken_on (behind_take w at) other ≡ taken_on w other
    → ops_left (behind_take w at) (labels_of w) other ≡ ops_left w (labels_of w) other
left_other w at other same = ap (λ n. drop (length (performed other w.work)) (ops_of (take n (on_queue other (labels_of w))))) same

-- the queue itself holds no more than before
pub holds_less : (w : State) (at : QueueAt) (labels : List Label) → batches_held (behind_take w at) labels at ≤ batches_held w labels at
holds_less w at labels = elim (cases_lt (seat at) (length w.taken)) [
  | inl low ↦ let now : taken_on (behind_take w at) at ≡ taken_on w at + 1 = get_or-set_same w.taken (seat at) (taken_on w at + 1) 0 low in omega (arith, now)
  | inr past ↦ let none : taken_on w at ≡ 0 = get_or_past w.taken (seat at) 0 past in omega (arith, none)
]

-- ## What commutes with it

abbrev pub Moves : State → QueueAt → Event → Type 0
Moves w at x =
    IsTrue (may_take at (step false w x).state)
    × Alike (step false (step false w (event.Take at)).state x).state (step false (step false w x).state (event.Take at)).state

abbrev pub Keeps : State → QueueAt → Event → Type 0
Keeps w at x = (x ≡ event.Take at) ⊎ ((step false w x).reply ≡ reply.Idle) ⊎ Moves w at x

pub finish : (w v : State) (at : QueueAt) (x : Event) → IsFree w at → (step false w x).state ≡ v → Leaves w v at → (step false (behind_take w at) x).state ≡ behind_take v at → Moves w at x
finish w v at x f here leaves again =
    let g = still_free w v at f leaves in
    let first : (step false (step false w (event.Take at)).state x).state ≡ behind_take v at = ap (λ (o : Outcome). (step false o.state x).state) (takes w at f) ∙ again in
    let second : (step false (step false w x).state (event.Take at)).state ≡ behind_take v at =
    ap (λ (u : State). (step false u (event.Take at)).state) here ∙ ap (λ (o : Outcome). o.state) (takes v at g) in (
      ap (may_take at) here ∙ is_tested v at g,
      subst (λ (u : State). Alike (step false (step false w (event.Take at)).state x).state u) (first ∙ sym second) (alike_itself (step false (step false w (event.Take at)).state x).state),
    )

pub is_idle : (w : State) (at : QueueAt) (x : Event) → step false w x ≡ idle w → Keeps w at x
is_idle w at x e = inr (inl (ap (λ (o : Outcome). o.reply) e))
