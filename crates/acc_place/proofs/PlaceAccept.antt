-- The notes of the device where a directive acts, once it is accepted.
use Rattle.std.proofs.Common.{◌≡◌, ℕ, ◌<◌, List, [], ◌∷◌, map, refl, sym, ap, subst, ◌∙◌, arith}
use Rattle.std.specs.Prelude.{All, IfSome}
use Rattle.std.specs.List.{flat_map}
use Rattle.acc_base.specs.declared.ids.QueueAt.{QueueAt}
use Rattle.acc_base.specs.declared.ids.TheConstants.{QUEUES}
use Rattle.acc_base.specs.declared.range.Range.{Range}
use Rattle.acc_batch.specs.declared.label.OpLabel.{OpLabel}
use Rattle.acc_present.specs.Notes.{Note, HasNotes}
use Rattle.acc_present.specs.Tables.{TableView, AreNoted}
use Rattle.acc_place.specs.declared.device.Device.{Device}
use Rattle.acc_place.specs.Batches.{batch_of, next_number, walk_at}
use Rattle.acc_place.specs.inner.Devices.{held_on, AreFresh}
use Rattle.acc_place.specs.Histories.{after_directive, AllAccepted}
use Rattle.acc_place.specs.inner.Noting.{noted_by, noted_ranges, noted_with, notes_on}
use Rattle.acc_place.specs.Plans.{label_for, standing_in, Fits, PlaceView, PlanView}
use Rattle.acc_place.specs.Standings.{marks_between, walk_of}
use Rattle.acc_place.specs.inner.Judging.{Holding, holding_between}
use Rattle.acc_place.proofs.AcceptedDirective.{device_in, items_in, middle_is, walk_known, IsTiedAt}
use Rattle.acc_place.proofs.NotesOn.{fresh_after, fresh_before, noted_cells, notes_after}
use Rattle.acc_place.proofs.AwaitedNumbers.{HasCells}
use Rattle.acc_place.proofs.Visits.{holding_of}

-- the label of a batch without operations, which there is none of, notes nothing
with_label : (at : QueueAt) (number host items_done : ℕ) (ops : List OpLabel) (notes : Range → ℕ → Note) → noted_with (label_for at number host items_done ops) notes ≡ noted_by at.queue number ops notes
with_label at number host items_done [] notes = refl
with_label at number host items_done (op ∷ ops) notes = refl

with_cells : (at : QueueAt) (number host items_done : ℕ) (ops : List OpLabel) → at.queue < QUEUES → All HasCells (flat_map noted_ranges ops)
    → IfSome (label_for at number host items_done ops) (λ l. (l.at.queue < QUEUES) × All HasCells (flat_map noted_ranges l.ops))
with_cells at number host items_done [] low all = tt
with_cells at number host items_done (op ∷ ops) low all = (low, all)

-- what is noted of a batch has cells
pub label_cells : (p : PlaceView) (q : PlanView) (t : TableView) (blocks : ℕ) → IsTiedAt p.config (standing_in p) q.host q.directive t blocks → Fits p q → AllAccepted p.config p.history p.counts
    → IfSome q.label (λ l. (l.at.queue < QUEUES) × All HasCells (flat_map noted_ranges l.ops))
unfolding walk_of
label_cells p q t blocks tied fits all =
    let st = standing_in p in
    let walk = walk_of st q.host q.directive in
    let w = walk_known p.config p.history p.counts q.host q.directive t blocks all tied fits.accepted in
    rw fits.labelled (with_cells (walk_at walk) (next_number (walk_at walk) st.labels) q.host q.items_done (batch_of st walk) w.queue (noted_cells p.config st walk w))

-- The notes are those of the labels with one more, if there is one: once the items are marked, the batch is noted, and a loop's
-- ends are marked.
pub notes_then : (p : PlaceView) (q : PlanView) (v marked noted after : Device) → IsTiedAt p.config (standing_in p) q.host q.directive v.table v.opened → Fits p q → AllAccepted p.config p.history p.counts
    → held_on marked ≡ holding_between q.directive.kind (held_on v) (items_in (standing_in p) q.host q.directive) → held_on noted ≡ held_on marked
    → ((notes : Range → ℕ → Note) → AreFresh notes v.opened → HasNotes notes v.table.notes → HasNotes notes marked.table.notes)
    → ((notes : Range → ℕ → Note) → HasNotes notes marked.table.notes → HasNotes (noted_with q.label notes) noted.table.notes)
    → ((notes : Range → ℕ → Note) → AreFresh notes noted.opened → HasNotes notes noted.table.notes → HasNotes notes after.table.notes)
    → AreNoted noted.table.presences noted.table.notes
    → HasNotes (notes_on (device_in (standing_in p) q.host q.directive) (after_directive (standing_in p) q.host q.items_done q.directive).labels) after.table.notes
unfolding walk_of
notes_then p q v marked noted after tied fits all held same first second third are_noted =
    let st = standing_in p in
    let d = q.directive in
    let walk = walk_of st q.host d in
    let device = device_in st q.host d in
    let ms = st.marks device in
    let at = walk_at walk in
    let number = next_number at st.labels in
    let ops = batch_of st walk in
    let w = walk_known p.config p.history p.counts q.host d v.table v.opened all tied fits.accepted in
    let middle : held_on noted ≡ holding_of (marks_between ms walk) = same ∙ (held ∙ sym (middle_is p.config st q.host d v.table v.opened tied fits.accepted)) in
    let before = first (notes_on device st.labels) (fresh_before p.config st walk w v.opened (omega (arith, tied.opened))) tied.noted in
    let batch : noted_with q.label (notes_on device st.labels) ≡ noted_by walk.queue number ops (notes_on device st.labels) =
    ap (λ l. noted_with l (notes_on device st.labels)) fits.labelled ∙ with_label at number q.host q.items_done ops (notes_on device st.labels) in
    let between = subst (λ f. HasNotes f noted.table.notes) batch (second (notes_on device st.labels) before) in
    let places = are_noted ∙ ap (λ (h : Holding). map {B = Range × ℕ} (λ p. (p.range, p.block)) h.presences) middle in
    let behind = notes_after p.config st walk w q.host q.items_done noted.table.notes places between in
    third _ (fresh_after p.config st walk w q.host q.items_done d noted.opened (omega (arith, ap (λ (h : Holding). h.opened) middle))) behind
