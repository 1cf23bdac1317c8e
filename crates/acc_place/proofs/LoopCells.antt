-- Each loop that accepted directives place has its cells: what it uses names each array at most once, and has all cells that it
-- reaches.
use Rattle.std.proofs.Common.{◌≡◌, ℕ, Bool, true, false, List, [], ◌∷◌, drop, Option, Some, None, refl, sym, subst, ◌∙◌}
use Rattle.std.specs.Prelude.{All, slice_index_or}
use Rattle.std.proofs.lemmas.List.Elements.{All-nil, All-cons, All-head, All-tail, All-append}
use Rattle.acc_base.specs.declared.fault.Fault.{Fault}
use Rattle.acc_base.specs.declared.fault.Fault.TheVariants.{OutsideRange}
use Rattle.acc_base.specs.declared.ids.QueueAt.{QueueAt}
use Rattle.acc_base.specs.Configurations.{Configuration}
use Rattle.acc_batch.specs.declared.label.Label.{Label}
use Rattle.acc_batch.specs.declared.label.OpLabel.{OpLabel}
use Rattle.acc_batch.specs.declared.label.OpLabel.TheVariants.{Make, CopyIn, CopyOut, Release, Run, Await, Close}
use Rattle.acc_batch.specs.Awaits.{close_label, is_await}
use Rattle.acc_batch.specs.Ops.{HasItsCells}
use Rattle.acc_batch.proofs.OrderedBatches.{behind_is}
use Rattle.acc_present.specs.Marks.{Mark}
use Rattle.acc_present.specs.Presences.{presences}
use Rattle.acc_place.specs.Directives.{Directive}
use Rattle.acc_place.specs.declared.directive.DataItem.{DataItem}
use Rattle.acc_place.specs.declared.directive.Kind.{Kind}
use Rattle.acc_place.specs.declared.directive.Kind.TheVariants as kind
use Rattle.acc_place.specs.declared.directive.PlaceEntry.{PlaceEntry}
use Rattle.acc_place.specs.declared.directive.PlaceEntry.TheVariants.{Accepted, Closing, Closed}
use Rattle.acc_place.specs.Accepting.{fault_where, is_past, refusal}
use Rattle.acc_place.specs.Batches.{walk_at, runs, runs_by, operations_of, batch_of, labels_with}
use Rattle.acc_place.specs.Histories.{AllAccepted, standing}
use Rattle.acc_place.specs.Sound.{AcceptedHaveTheirCells, HaveTheirCells}
use Rattle.acc_place.specs.Standings.{all_visits, loop_in, marks_between, walk_of}
use Rattle.acc_place.specs.inner.Judging.{Holding, StaysBy, AllHeldFor, fault_or, first_fault_in, holding, past_fault}
use Rattle.acc_place.proofs.AcceptedDirective.{accepted_device, accepted_open, device_in, is_free, items_asked, items_in, middle_is, refused_by}
use Rattle.acc_place.proofs.DirectivesCounted.{tables}
use Rattle.acc_place.proofs.GroupedOperations.{HoldsOfBlocks, grouped_all}
use Rattle.acc_place.proofs.LoopReach.{run_has_its_cells}
use Rattle.acc_place.proofs.ReachJudged.{reach_judged}

-- ## Awaits

await_has : (op : OpLabel) → is_await op ≡ true → HasItsCells op
await_has (Await q n) h = tt
await_has (Make r b) h = tt
await_has (CopyIn r b) h = tt
await_has (CopyOut r b) h = tt
await_has (Release b) h = tt
await_has (Run k uses) h = absurd cc
await_has Close h = tt

awaits_have : (ops : List OpLabel) → All (λ op. is_await op ≡ true) ops → All HasItsCells ops
awaits_have [] h = All-nil HasItsCells
awaits_have (op ∷ ops) h =
    All-cons HasItsCells op ops (await_has op (All-head (λ op. is_await op ≡ true) op ops h)) (awaits_have ops (All-tail (λ op. is_await op ≡ true) op ops h))

-- ## A loop

-- a directive without a fault stays in the ranges of its items
none_behind : (a b c : Option Fault) → fault_or a (fault_or b c) ≡ None → c ≡ None
none_behind None None c h = h
none_behind None (Some f) c h = absurd cc
none_behind (Some f) b c h = absurd cc

where_none : (b : Bool) → fault_where b OutsideRange ≡ None → b ≡ false
where_none true h = absurd cc
where_none false h = refl

stays_by : (k : Kind) (items : List DataItem) → past_fault (loop_in k) items ≡ None → StaysBy k items
stays_by (kind.Loop kernel) items none = (reach_judged kernel items).0 (where_none (is_past (Some kernel) items) none)
stays_by kind.Data items none = tt
stays_by kind.EndData items none = tt
stays_by kind.EnterData items none = tt
stays_by (kind.ExitData finalize) items none = tt
stays_by (kind.Update if_present) items none = tt
stays_by kind.Wait items none = tt
stays_by kind.AsyncTest items none = tt
stays_by kind.IsPresent items none = tt

run_has : (k : Kind) (items : List DataItem) (ms : List Mark) → StaysBy k items → AllHeldFor k (presences ms) items → All HasItsCells (runs_by (loop_in k) items ms)
run_has (kind.Loop kernel) items ms stays held = All-cons HasItsCells (Run kernel _) [] (run_has_its_cells items (presences ms) kernel stays held) (All-nil HasItsCells)
run_has kind.Data items ms stays held = All-nil HasItsCells
run_has kind.EndData items ms stays held = All-nil HasItsCells
run_has kind.EnterData items ms stays held = All-nil HasItsCells
run_has (kind.ExitData finalize) items ms stays held = All-nil HasItsCells
run_has (kind.Update if_present) items ms stays held = All-nil HasItsCells
run_has kind.Wait items ms stays held = All-nil HasItsCells
run_has kind.AsyncTest items ms stays held = All-nil HasItsCells
run_has kind.IsPresent items ms stays held = All-nil HasItsCells

-- so does the loop of an accepted directive, which finds its items present
loop_has : (config : Configuration) (history : List PlaceEntry) (counts : List ℕ) (host : ℕ) (d : Directive) → AllAccepted config history counts
    → refusal config (standing config history counts) host d ≡ None
    → All HasItsCells (runs (walk_of (standing config history counts) host d) ((standing config history counts).marks (device_in (standing config history counts) host d)))
unfolding walk_of
loop_has config history counts host d all accepted =
    let st = standing config history counts in
    let items = items_in st host d in
    let ms = st.marks (device_in st host d) in
    let h = tables config history counts (device_in st host d) all in
    let before = holding h.table.presences h.blocks in
    let free = is_free config st host d h.table h.blocks h.tied accepted in
    let none = sym (refused_by config st host d h.table h.blocks h.tied (accepted_open config st host d accepted) (accepted_device config st host d accepted)) ∙ accepted in
    let stays = stays_by d.kind items (none_behind _ (first_fault_in config d.kind before items) (past_fault (loop_in d.kind) items) none) in
    let middle = middle_is config st host d h.table h.blocks h.tied accepted in
    let between = marks_between ms (walk_of st host d) in
    let held : AllHeldFor d.kind (presences between) items =
    subst (λ (now : Holding). AllHeldFor d.kind now.presences items) (sym middle) free.held in
    subst (λ is. All HasItsCells (runs_by (loop_in d.kind) is between)) (sym (items_asked d.kind items)) (run_has d.kind items between stays held)

-- ## A batch, and all labels

of_blocks : HoldsOfBlocks HasItsCells
of_blocks = record { make = λ r b. tt; copy_in = λ r b. tt; copy_out = λ r b. tt; release = λ b. tt }

batch_has : (config : Configuration) (history : List PlaceEntry) (counts : List ℕ) (host : ℕ) (d : Directive) → AllAccepted config history counts
    → refusal config (standing config history counts) host d ≡ None
    → All HasItsCells (batch_of (standing config history counts) (walk_of (standing config history counts) host d))
unfolding batch_of walk_of
batch_has config history counts host d all accepted =
    let st = standing config history counts in
    let walk = walk_of st host d in
    let ms = st.marks (device_in st host d) in
    let ops = operations_of st walk in
    let b = behind_is walk.alone walk.waits (walk_at walk) st.labels ops in
    rw b.split
    (All-append HasItsCells b.first ops (awaits_have b.first b.all_await)
    (grouped_all HasItsCells of_blocks (runs walk ms) (all_visits ms walk) (loop_has config history counts host d all accepted)))

one_more : (at : QueueAt) (host items_done : ℕ) (labels : List Label) (ops : List OpLabel) → All HaveTheirCells labels → All HasItsCells ops
    → All HaveTheirCells (labels_with at host items_done labels ops)
one_more at host items_done labels [] all more = all
one_more at host items_done labels (op ∷ ops) all more =
    All-append HaveTheirCells labels _ all (All-cons HaveTheirCells _ [] more (All-nil HaveTheirCells))

pub labels_have : AcceptedHaveTheirCells
unfolding standing
labels_have config [] counts all = All-nil HaveTheirCells
labels_have config (Accepted host d ∷ before) counts all =
    let st = standing config before (drop 1 counts) in
    one_more (walk_at (walk_of st host d)) host (slice_index_or counts 0 0) st.labels (batch_of st (walk_of st host d))
    (labels_have config before (drop 1 counts) all.1) (batch_has config before (drop 1 counts) host d all.1 all.0)
labels_have config (Closing ∷ before) counts all = labels_have config before counts all.1
labels_have config (Closed at ∷ before) counts all =
    let labels = (standing config before counts).labels in
    All-append HaveTheirCells labels (close_label at labels ∷ []) (labels_have config before counts all.1)
    (All-cons HaveTheirCells (close_label at labels) [] (All-cons HasItsCells Close [] tt (All-nil HasItsCells)) (All-nil HaveTheirCells))
