-- One entry more on logs that are alike leaves them so, and being alike is an equivalence of logs that are in order.
use Rattle.std.proofs.Common.{◌≡◌, ℕ, ◌+◌, Bool, true, false, ◌&&◌, cond, List, ◌∷◌, length, refl, sym, ap, ◌∙◌, subst, ℤ, ◌==◌}
use Rattle.std.specs.Prelude.{Contains}
use Rattle.std.proofs.lemmas.List.{length_push}
use Rattle.acc_base.specs.declared.ids.QueueAt.{QueueAt}
use Rattle.acc_base.specs.declared.range.Range.{Range}
use Rattle.acc_base.specs.Queues.{same_queue}
use Rattle.acc_batch.specs.declared.entry.Told.{Told}
use Rattle.acc_batch.specs.declared.entry.Told.TheVariants as told
use Rattle.acc_batch.specs.declared.entry.WorkEntry.{WorkEntry}
use Rattle.acc_batch.specs.declared.entry.WorkEntry.TheVariants as entry
use Rattle.acc_batch.specs.declared.label.Label.{Label}
use Rattle.acc_batch.specs.declared.label.OpLabel.{OpLabel}
use Rattle.acc_batch.specs.declared.label.OpLabel.TheVariants.{Make, Release}
use Rattle.acc_batch.specs.Lives.{UsesLive, HoldsBlock}
use Rattle.acc_batch.specs.Ops.{HasItsCells}
use Rattle.acc_host.specs.Engines.{Had}
use Rattle.acc_memory.specs.Values.{Cell, Host_cell, Block_cell}
use Rattle.acc_work.specs.Logs.{one_more, performed, device_ops}
use Rattle.acc_work.specs.Orders.{InOrder}
use Rattle.acc_work.proofs.DeviceOps.{by_queue, by_device}
use Rattle.acc_work.proofs.MadeAndReleased.{made_op, op_made, op_released, released_op}
use Rattle.acc_explore.specs.Alike.{AlikeLogs, SameCells, IsLive}
use Rattle.acc_explore.proofs.LiveCells.{cells_after}
use Rattle.acc_explore.proofs.LogReadings.{performed_same}

-- ## One entry more

one_more_length : {X : Type 0} → (more : Bool) (xs ys : List X) (x : X) → length xs ≡ length ys → length (one_more more xs x) ≡ length (one_more more ys x)
one_more_length true xs ys x e = length_push xs x ∙ (ap (λ n. n + 1) e ∙ sym (length_push ys x))
one_more_length false xs ys x e = e

pub same_op : (arrays : List (List ℤ)) (old new : List WorkEntry) → AlikeLogs arrays old new → (at : QueueAt) (op : OpLabel)
    → UsesLive arrays op (device_ops at.device old) → HasItsCells op → AlikeLogs arrays (entry.Op at op ∷ old) (entry.Op at op ∷ new)
same_op arrays old new s at op uses cells = record {
  done = λ other. one_more_length (same_queue at other) (performed other old) (performed other new) op (s.done other);
  shown = s.shown;
  items = s.items;
  cells = cells_after arrays old new at op s.cells uses cells;
}

item_cells : (arrays : List (List ℤ)) (old new : List WorkEntry) → SameCells arrays old new → (host : ℕ) (what : Told) → SameCells arrays (entry.Item host what ∷ old) (entry.Item host what ∷ new)
item_cells arrays old new s host (told.Write a i z) (Host_cell array cell) live = ap (λ (was : ℤ). cond ((array == a) && (cell == i)) z was) (s (Host_cell array cell) tt)
item_cells arrays old new s host (told.Write a i z) (Block_cell device block cell) live = s (Block_cell device block cell) live
item_cells arrays old new s host (told.Print range values) (Host_cell array cell) live = s (Host_cell array cell) tt
item_cells arrays old new s host (told.Print range values) (Block_cell device block cell) live = s (Block_cell device block cell) live
item_cells arrays old new s host (told.Seen device counts) (Host_cell array cell) live = s (Host_cell array cell) tt
item_cells arrays old new s host (told.Seen device counts) (Block_cell d block cell) live = s (Block_cell d block cell) live
item_cells arrays old new s host (told.Test device answer counts) (Host_cell array cell) live = s (Host_cell array cell) tt
item_cells arrays old new s host (told.Test device answer counts) (Block_cell d block cell) live = s (Block_cell d block cell) live

pub same_item : (arrays : List (List ℤ)) (old new : List WorkEntry) → AlikeLogs arrays old new → (host : ℕ) (what : Told) → AlikeLogs arrays (entry.Item host what ∷ old) (entry.Item host what ∷ new)
same_item arrays old new s host what = record {
  done = s.done;
  shown = λ k. ap (λ xs. one_more (host == k) xs (Had what)) (s.shown k);
  items = ap (λ n. n + 1) s.items;
  cells = item_cells arrays old new s.cells host what;
}

-- ## Logs in which each queue has performed the same have the same live blocks

ops_there : (old new : List WorkEntry) → ((at : QueueAt) → performed at old ≡ performed at new) → (device : ℕ) (op : OpLabel) → Contains (device_ops device old) op → Contains (device_ops device new) op
ops_there old new same device op h =
    let f = by_queue device old op h in
    subst (λ n. Contains (device_ops n new) op) f.of_device (by_device f.at new op (subst (λ (ops : List OpLabel). Contains ops op) (same f.at) f.member))

held_there : (old new : List WorkEntry) → ((at : QueueAt) → performed at old ≡ performed at new) → (device block : ℕ) (r : Range)
    → HoldsBlock (device_ops device old) block r → HoldsBlock (device_ops device new) block r
held_there old new same device block r h = record {
  whole_range = h.whole_range;
  is_made = op_made (device_ops device new) block h.whole_range (ops_there old new same device (Make h.whole_range block) (made_op (device_ops device old) block h.whole_range h.is_made));
  not_released = λ gone. h.not_released (op_released (device_ops device old) block (ops_there new old (λ at. sym (same at)) device (Release block) (released_op (device_ops device new) block gone)));
  inside = h.inside;
}

live_there : (old new : List WorkEntry) → ((at : QueueAt) → performed at old ≡ performed at new) → (c : Cell) → IsLive old c → IsLive new c
live_there old new same (Host_cell array cell) live = tt
live_there old new same (Block_cell device block cell) live = (live.0, held_there old new same device block live.0 live.1, live.2)

-- ## An equivalence

pub same_itself : (arrays : List (List ℤ)) (work : List WorkEntry) → AlikeLogs arrays work work
same_itself arrays work = record { done = λ at. refl; shown = λ host. refl; items = refl; cells = λ c live. refl }

pub same_back : (arrays : List (List ℤ)) (labels : List Label) (old new : List WorkEntry) → InOrder labels old → InOrder labels new → AlikeLogs arrays old new → AlikeLogs arrays new old
same_back arrays labels old new a b s = record {
  done = λ at. sym (s.done at);
  shown = λ host. sym (s.shown host);
  items = sym s.items;
  cells = λ c live. sym (s.cells c (live_there new old (λ at. sym (performed_same labels old new s.done a b at)) c live));
}

pub same_on : (arrays : List (List ℤ)) (labels : List Label) (old mid new : List WorkEntry) → InOrder labels old → InOrder labels mid → AlikeLogs arrays old mid → AlikeLogs arrays mid new → AlikeLogs arrays old new
same_on arrays labels old mid new a b s t = record {
  done = λ at. s.done at ∙ t.done at;
  shown = λ host. s.shown host ∙ t.shown host;
  items = s.items ∙ t.items;
  cells = λ c live. s.cells c live ∙ t.cells c (live_there old mid (performed_same labels old mid s.done a b) c live);
}
