-- What the test of an operation that stands apart is told from.
use Rattle.std.proofs.Common.{◌⊎◌, ◌≡◌, ℕ, suc, ◌+◌, ◌-◌, ◌<◌, ◌≤◌, Bool, true, not, ◌&&◌, List, [], ◌∷◌, length, map, take, drop, refl, sym, ap, ◌∙◌, Some, slice_get, arith}
use Rattle.std.specs.List.{list_all}
use Rattle.std.proofs.lemmas.Bool.{and_from, or_right}
use Rattle.std.proofs.lemmas.List.{drop-drop, drop-map}
use Rattle.std.proofs.lemmas.List.Folds.{list_all-append, list_all-map}
use Rattle.acc_base.specs.Configurations.{Configuration}
use Rattle.acc_base.specs.declared.fault.Fault.{Fault}
use Rattle.acc_base.specs.declared.ids.QueueAt.{QueueAt}
use Rattle.acc_base.specs.Queues.{queue_count, same_queue}
use Rattle.acc_batch.proofs.Labels.{ops_of_all}
use Rattle.acc_batch.proofs.WholeBatches.{whole_covers}
use Rattle.acc_batch.specs.declared.label.Label.{Label}
use Rattle.acc_batch.specs.declared.label.OpLabel.{OpLabel}
use Rattle.acc_batch.specs.Labels.{on_queue, ops_of, whole_batches}
use Rattle.acc_core.specs.Enabled.{is_enabled}
use Rattle.acc_core.specs.Machine.{State, labels_of}
use Rattle.acc_core.specs.Progress.{next_by}
use Rattle.acc_host.specs.declared.program.Statement.{Statement}
use Rattle.acc_host.specs.declared.state.Phase.{Phase}
use Rattle.acc_host.specs.declared.state.Phase.TheVariants as phase
use Rattle.acc_host.specs.Hosts.{HostView, bare, bare_act}
use Rattle.acc_place.specs.declared.directive.PlaceEntry.{PlaceEntry}
use Rattle.acc_place.specs.Histories.{standing}
use Rattle.acc_place.specs.Plans.{PlaceView, standing_in}
use Rattle.acc_work.specs.Logs.{batches_done, performed}
use Rattle.acc_explore.specs.ApartOperations.{host_is_clear, is_at_apart, keeps_clear, meets, ops_conflict, ops_to_come, queue_is_clear, queues_are_clear, to_begin}
use Rattle.acc_explore.specs.inner.Unseen.{GoesOn}
use Rattle.acc_explore.specs.UnseenOperations.{nobody_asks}
use Rattle.acc_explore.proofs.ApartKept.{at_apart, behind_all, later_too}
use Rattle.acc_explore.proofs.UnseenTests.{told_next}

-- ## Statements

module _ (op : OpLabel) (host : HostView) (left : List Statement) (is : map bare left ≡ drop host.ended host.statements) where
  abbrev apart : Statement → Bool
  apart s = not (meets op s.act)

  -- the statements as a host has them, and as its view does
  bare_all : (n : ℕ) → list_all (λ (s : Statement). not (meets op (bare_act s.act))) (drop n left) ≡ list_all apart (drop n (drop host.ended host.statements))
  bare_all n = sym (ap (λ (ss : List Statement). list_all apart (drop n ss)) (sym is) ∙ (ap (list_all apart) (drop-map bare n left) ∙ list_all-map apart bare (drop n left)))

  abbrev pub AllApart : ℕ → Type 0
  AllApart n = list_all (λ (s : Statement). not (meets op (bare_act s.act))) (drop n left) ≡ true

  behind_apart : AllApart 1 → list_all apart (drop (host.ended + 1) host.statements) ≡ true
  behind_apart all = ap (list_all apart) (sym (drop-drop 1 host.ended host.statements)) ∙ (sym (bare_all 1) ∙ all)

  pub ready_clear : host.phase ≡ phase.Ready → AllApart 0 → keeps_clear op host ≡ true
  ready_clear now all = ap (λ (p : Phase). list_all apart (to_begin host p)) now ∙ (sym (bare_all 0) ∙ all)

  pub waiting_clear : (device : ℕ) (counts : List ℕ) → host.phase ≡ phase.Waits device counts → AllApart 1 → keeps_clear op host ≡ true
  waiting_clear device counts now all = ap (λ (p : Phase). list_all apart (to_begin host p)) now ∙ behind_apart all

  pub asking_clear : (device : ℕ) (counts : List ℕ) → host.phase ≡ phase.Asks device counts → AllApart 1 → keeps_clear op host ≡ true
  asking_clear device counts now all = ap (λ (p : Phase). list_all apart (to_begin host p)) now ∙ behind_apart all

  pub refused_clear : (fault : Fault) → host.phase ≡ phase.Refused fault → keeps_clear op host ≡ true
  refused_clear fault now = ap (λ (p : Phase). list_all apart (to_begin host p)) now

-- all, one by one
pub all_from_get : {X : Type 0} (p : X → Bool) (xs : List X) → ((i : ℕ) (x : X) → i < length xs → slice_get xs i ≡ Some x → p x ≡ true) → list_all p xs ≡ true
all_from_get p [] each = refl
all_from_get p (x ∷ xs) each = and_from (p x) (list_all p xs) (each 0 x (omega arith) refl) (all_from_get p xs (λ i y low at. each (suc i) y (omega (arith, low)) at))

-- ## Queues

labels_there : (w : State) (place : PlaceView) → place.config ≡ w.config → place.history ≡ w.history → place.counts ≡ w.counts → (standing_in place).labels ≡ labels_of w
labels_there w place config history counts =
    ap (λ (c : Configuration). (standing c place.history place.counts).labels) config
    ∙ (ap (λ (entries : List PlaceEntry). (standing w.config entries place.counts).labels) history ∙ ap (λ (ns : List ℕ). (standing w.config w.history ns).labels) counts)

ops_by_batch : (p : OpLabel → Bool) (labels : List Label) → list_all (λ (l : Label). list_all p l.ops) labels ≡ list_all p (ops_of labels)
ops_by_batch p [] = refl
ops_by_batch p (l ∷ labels) = ap (λ b. list_all p l.ops && b) (ops_by_batch p labels) ∙ sym (list_all-append p l.ops (ops_of labels))

-- what holds of the batches that aren't performed wholly holds of the operations that are to come
to_come : (p : OpLabel → Bool) (labels : List Label) (k n : ℕ) → k ≤ whole_batches labels n → list_all (λ (l : Label). list_all p l.ops) (drop k labels) ≡ true → list_all p (drop n (ops_of labels)) ≡ true
to_come p labels k n low all =
    let first = ops_of (take k labels) in
    let rest = ops_of (drop k labels) in
    let c = whole_covers labels k n low in
    let there : list_all p (drop (length first) (ops_of labels)) ≡ true =
    ap (λ ops. list_all p (drop (length first) ops)) (ops_of_all k labels) ∙ (ap (list_all p) (behind_all first rest) ∙ (sym (ops_by_batch p (drop k labels)) ∙ all)) in
    let further : length first + (n - length first) ≡ n = omega (arith, c.1) in
    ap (λ m. list_all p (drop m (ops_of labels))) (sym further) ∙ later_too p (ops_of labels) (length first) (n - length first) there

module _ (w : State) (at : QueueAt) (op : OpLabel) (other : QueueAt) (place : PlaceView) (config : place.config ≡ w.config) (history : place.history ≡ w.history) (counts : place.counts ≡ w.counts)
    (labels : List Label) (is : labels ≡ on_queue other (standing_in place).labels) (k : ℕ) (low : k ≤ batches_done (labels_of w) w.work other) where
  abbrev no : OpLabel → Bool
  no x = not (ops_conflict at.device op other.device x)

  there : labels ≡ on_queue other (labels_of w)
  there = is ∙ ap (on_queue other) (labels_there w place config history counts)

  pub told_queue : list_all (λ (l : Label). list_all no l.ops) (drop k labels) ≡ true → queue_is_clear w at op other ≡ true
  told_queue all =
      or_right (same_queue at other) (list_all no (ops_to_come w other))
      (to_come no (on_queue other (labels_of w)) k (length (performed other w.work)) low (ap (λ (ls : List Label). list_all (λ (l : Label). list_all no l.ops) (drop k ls)) (sym there) ∙ all))

-- ## The operation

pub told_apart : (w : State) (at : QueueAt) (op : OpLabel) → next_by w at ≡ Some op → is_enabled w at ≡ true → (nobody_asks w ≡ true) ⊎ GoesOn w at
    → list_all (host_is_clear w at op) w.hosts ≡ true → queues_are_clear w at op (queue_count w.config) ≡ true → is_at_apart at w ≡ true
told_apart w at op e enabled quiet hosts queues = at_apart at w op (record { next = told_next w at op e enabled quiet; queues = queues; hosts = hosts })
