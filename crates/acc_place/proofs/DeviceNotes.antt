-- The notes of a device, as items are marked and batches are noted.
use Rattle.std.proofs.Common.{◌≡◌, ℕ, ◌<◌, ◌≤◌, List, [], ◌∷◌, ◌++◌, arith, Option}
use Rattle.std.specs.Prelude.{All}
use Rattle.std.specs.List.{flat_map}
use Rattle.std.proofs.lemmas.List.Elements.{All-head, All-tail, All-nil, All-cons}
use Rattle.acc_base.specs.declared.range.Range.{Range}
use Rattle.acc_batch.specs.declared.label.OpLabel.{OpLabel}
use Rattle.acc_kernel.specs.Jobs.{Use}
use Rattle.acc_present.specs.Notes.{Note}
use Rattle.acc_present.specs.declared.change.Change.{Change}
use Rattle.acc_place.specs.inner.Devices.{AreFresh}
use Rattle.acc_place.specs.inner.Noting.{noted_ranges}
use Rattle.acc_place.specs.inner.Judging.{Holding, holding_after, opens_one}
use Rattle.acc_place.proofs.AwaitedNumbers.{HasCells}
use Rattle.acc_place.proofs.WalkItem.{opened-least}

-- a mark opens no fewer lifetimes than there were
pub opened_later : (change : Option Change) (r : Range) (h : Holding) → h.opened ≤ (holding_after change r h).opened
unfolding holding_after
opened_later change r h = opened-least (opens_one change h.presences r) h.opened

pub fresh_later : (notes : Range → ℕ → Note) (n m : ℕ) → n ≤ m → AreFresh notes n → AreFresh notes m
fresh_later notes n m low fresh = λ r b late. fresh r b (omega (arith, low, late))

-- ## Ranges with cells

-- the one range that an operation notes
pub cells_noted : (op o : OpLabel) (b : ℕ) (r : Range) → op ≡ o → noted_ranges o ≡ (b, r) ∷ [] → All HasCells (noted_ranges op) → 0 < r.len
cells_noted op o b r is one all = (let here : All HasCells ((b, r) ∷ []) = rw (is, one) at all in All-head HasCells (b, r) [] here)

all_left : (us vs : List Use) → All HasCells (us ++ vs) → All HasCells us
all_left [] vs all = All-nil HasCells
all_left (u ∷ us) vs all = All-cons HasCells u us (All-head HasCells u (us ++ vs) all) (all_left us vs (All-tail HasCells u (us ++ vs) all))

all_right : (us vs : List Use) → All HasCells (us ++ vs) → All HasCells vs
all_right [] vs all = all
all_right (u ∷ us) vs all = all_right us vs (All-tail HasCells u (us ++ vs) all)

-- those of the first operation, and of the others
pub cells_first : (ops : List OpLabel) (op : OpLabel) (rest : List OpLabel) → ops ≡ op ∷ rest → All HasCells (flat_map noted_ranges ops) → All HasCells (noted_ranges op)
cells_first ops op rest is all = (let here : All HasCells (noted_ranges op ++ flat_map noted_ranges rest) = rw is at all in all_left (noted_ranges op) (flat_map noted_ranges rest) here)

pub cells_rest : (ops : List OpLabel) (op : OpLabel) (rest : List OpLabel) → ops ≡ op ∷ rest → All HasCells (flat_map noted_ranges ops) → All HasCells (flat_map noted_ranges rest)
cells_rest ops op rest is all = (let here : All HasCells (noted_ranges op ++ flat_map noted_ranges rest) = rw is at all in all_right (noted_ranges op) (flat_map noted_ranges rest) here)
