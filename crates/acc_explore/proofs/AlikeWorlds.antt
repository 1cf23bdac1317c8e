-- Worlds of one script that are compared and found the same are alike.
use Rattle.std.proofs.Common.{inl, inr, ◌≡◌, ℕ, zero, suc, ◌+◌, ◌<◌, true, false, ◌&&◌, List, [], ◌∷◌, ◌++◌, length, map, take, refl, sym, ap, subst, ◌∙◌, Option, ℤ, nat_lt, slice_get, arith}
use Rattle.std.specs.Prelude.{All, Contains, slice_index_or, ◌==◌}
use Rattle.std.proofs.lemmas.Bool.{cases_Bool, and_from, eqb-true, lt-ltb}
use Rattle.std.proofs.lemmas.List.{length-append}
use Rattle.std.proofs.lemmas.List.Elements.{All-contains, Contains-push_cases}
use Rattle.acc_base.specs.Configurations.{Configuration, has_range, ends_within}
use Rattle.acc_base.specs.declared.ids.QueueAt.{QueueAt}
use Rattle.acc_base.specs.declared.ids.TheConstants.{QUEUES}
use Rattle.acc_base.specs.declared.range.Range.{Range}
use Rattle.acc_base.specs.Queues.{at_seat, seat, queue_count}
use Rattle.acc_base.proofs.Members.{member_first, member_rest, no_member}
use Rattle.acc_batch.specs.declared.entry.WorkEntry.{WorkEntry}
use Rattle.acc_batch.specs.declared.entry.WorkEntry.TheVariants as entry
use Rattle.acc_batch.specs.declared.label.OpLabel.{OpLabel}
use Rattle.acc_batch.specs.declared.label.OpLabel.TheVariants.{Make}
use Rattle.acc_batch.specs.Labels.{on_queue, ops_of}
use Rattle.acc_batch.specs.Lives.{Made}
use Rattle.acc_core.specs.Following.{AllStand}
use Rattle.acc_core.specs.Legality.{IsLegalState}
use Rattle.acc_core.specs.Machine.{State, is_there, labels_of, standing_of}
use Rattle.acc_core.specs.Progress.{IsTakenInOrder, left_there, taken_by}
use Rattle.acc_core.specs.Worlds.{OutsideIsZero}
use Rattle.acc_explore.specs.Alike.{Alike, AlikePlaces, IsLive, SameCells, own_directives}
use Rattle.acc_explore.specs.Scripts.{AreOfOneScript}
use Rattle.acc_explore.specs.inner.Comparing.{AllStandAlike, HaveSameProgress, HoldSame, HoldSameArray, HoldSameBlock, HoldSameMade, StandAlike}
use Rattle.acc_explore.proofs.AlikeLabels.{SameByQueue}
use Rattle.acc_explore.proofs.ComparedPlaces.{none_on}
use Rattle.acc_explore.proofs.KnownEvents.{HasSeat, has_seat}
use Rattle.acc_explore.proofs.LiveCells.{in_wider}
use Rattle.acc_host.specs.Entries.{items_shown}
use Rattle.acc_host.specs.Hosts.{HostView}
use Rattle.acc_memory.specs.Memories.{find_block, has_cell}
use Rattle.acc_memory.specs.Values.{Cell, Host_cell, Block_cell, is_in}
use Rattle.acc_place.proofs.LabelsThere.{labels_there}
use Rattle.acc_work.specs.Logs.{performed, device_ops, all_items, value}
use Rattle.acc_work.specs.Remembering.{blocks_in}
use Rattle.acc_work.proofs.HeldInLog.{held_in}
use Rattle.acc_work.proofs.MadeAndReleased.{made_op}

-- What every world keeps.
pub record IsKept (w : State) : Type 0 where
  pub legal : IsLegalState w
  pub stand : AllStand w 0 w.hosts
  pub taken : length w.taken ≡ queue_count w.config
  pub in_order : (at : QueueAt) → is_there w at ≡ true → IsTakenInOrder w at
  pub outside : OutsideIsZero w

-- What two worlds were found the same in.
pub record AreCompared (old new : State) : Type 0 where
  pub hosts : AllStandAlike old new
  pub progress : HaveSameProgress old new
  pub places : AlikePlaces (standing_of old) (standing_of new)
  pub own : (host : ℕ) → own_directives old host ≡ own_directives new host
  pub shown : (host : ℕ) → items_shown host old.work ≡ items_shown host new.work
  pub items : all_items old.work ≡ all_items new.work
  pub arrays : (array : ℕ) → array < length old.config.arrays → HoldSameArray old new array
  pub blocks : All (HoldSameMade old new) old.work

-- ## Hosts

-- hosts of the same numbers and statements that stand alike are the same
hosts_are : (v w : State) (n : ℕ) (olds news : List HostView) → AllStand v n olds → AllStand w n news
    → map (λ (h : HostView). h.statements) news ≡ map (λ (h : HostView). h.statements) olds → length olds ≡ length news
    → ((h : ℕ) → h < length olds → StandAlike (slice_get olds h) (slice_get news h)) → news ≡ olds
hosts_are v w n [] [] a b same len alike = refl
hosts_are v w n [] (y ∷ ys) a b same len alike = absurd (omega (arith, len))
hosts_are v w n (x ∷ xs) [] a b same len alike = absurd (omega (arith, len))
hosts_are v w n (x ∷ xs) (y ∷ ys) a b same len alike =
    let s = alike 0 (omega arith) in
    let number : y.host ≡ x.host = b.0.0 ∙ sym a.0.0 in
    let first : y.statements ≡ x.statements = cc in
    let rest : map (λ (h : HostView). h.statements) ys ≡ map (λ (h : HostView). h.statements) xs = cc in
    let one : y ≡ x = λ i. record { host = number i; statements = first i; ended = sym s.0 i; ids = sym s.1 i; phase = sym s.2 i } in
    let others : ys ≡ xs = hosts_are v w (n + 1) xs ys a.1 b.1 rest (omega (arith, len)) (λ h low. alike (suc h) (omega (arith, low))) in
    ap (λ h. h ∷ ys) one ∙ ap (λ hs. x ∷ hs) others

-- ## Queues

lists_are : (xs ys : List ℕ) → length xs ≡ length ys → ((k : ℕ) → k < length xs → slice_index_or xs k 0 ≡ slice_index_or ys k 0) → xs ≡ ys
lists_are [] [] len each = refl
lists_are [] (y ∷ ys) len each = absurd (omega (arith, len))
lists_are (x ∷ xs) [] len each = absurd (omega (arith, len))
lists_are (x ∷ xs) (y ∷ ys) len each =
    let first : x ≡ y = each 0 (omega arith) in
    let rest : xs ≡ ys = lists_are xs ys (omega (arith, len)) (λ k low. each (suc k) (omega (arith, low))) in
    ap (λ z. z ∷ xs) first ∙ ap (λ zs. y ∷ zs) rest

-- a seat is one of a queue that is there
seat_there : (w : State) (n : ℕ) → n < queue_count w.config → is_there w (at_seat n) ≡ true
seat_there w n low =
    and_from (nat_lt (at_seat n).device w.config.devices) (nat_lt (at_seat n).queue QUEUES)
    (lt-ltb (at_seat n).device w.config.devices (omega (arith, low))) (lt-ltb (at_seat n).queue QUEUES (omega arith))

taken_are : (old new : State) → length old.taken ≡ queue_count old.config → length new.taken ≡ queue_count new.config → new.config ≡ old.config → HaveSameProgress old new → new.taken ≡ old.taken
taken_are old new few fewer config p =
    lists_are new.taken old.taken (omega (arith, few, fewer, ap queue_count config)) (λ n low. sym (at n (omega (arith, few, fewer, ap queue_count config, low))))
  where
    at : (n : ℕ) → n < queue_count old.config → slice_index_or old.taken n 0 ≡ slice_index_or new.taken n 0
    at n low =
        let there = seat_there old n low in
        let other : is_there new (at_seat n) ≡ true = ap (λ (c : Configuration). nat_lt (at_seat n).device c.devices && nat_lt (at_seat n).queue QUEUES) config ∙ there in
        let back : seat (at_seat n) ≡ n = omega arith in
        let same = (p n low).0 in
        let found : slice_index_or old.taken (seat (at_seat n)) 0 ≡ slice_index_or new.taken (seat (at_seat n)) 0 = rw other at (rw there at same) in
        subst (λ k. slice_index_or old.taken k 0 ≡ slice_index_or new.taken k 0) back found

-- a queue that isn't there has performed nothing
none_before : (xs more : List OpLabel) → xs ++ more ≡ [] → xs ≡ []
none_before [] more e = refl
none_before (x ∷ xs) more e = absurd cc

none_performed : (w : State) (at : QueueAt) → IsLegalState w → is_there w at ≡ false → performed at w.work ≡ []
none_performed w at l none =
    let p = l.kept.prefix at in
    none_before (performed at w.work) p.0
    (p.1 ∙ ap ops_of (none_on w.config.devices at (labels_of w) none (labels_there w.config w.history w.counts l.accepted)))

-- as much is left of as many batches: so as much is performed
done_there : (old new : State) (at : QueueAt) → IsTakenInOrder old at → IsTakenInOrder new at → on_queue at (labels_of old) ≡ on_queue at (labels_of new) → taken_by old at ≡ taken_by new at
    → length (left_there old at) ≡ length (left_there new at) → length (performed at old.work) ≡ length (performed at new.work)
done_there old new at a b labels taken left =
    let same : length (ops_of (take (taken_by old at) (on_queue at (labels_of old)))) ≡ length (ops_of (take (taken_by new at) (on_queue at (labels_of new)))) =
    ap (λ n. length (ops_of (take n (on_queue at (labels_of old))))) taken ∙ ap (λ ls. length (ops_of (take (taken_by new at) ls))) labels in
    omega (arith, same, ap length a, ap length b, left, length-append (performed at old.work) (left_there old at), length-append (performed at new.work) (left_there new at))

done_are : (old new : State) → IsKept old → IsKept new → new.config ≡ old.config → SameByQueue (labels_of old) (labels_of new) → HaveSameProgress old new
    → (at : QueueAt) → length (performed at old.work) ≡ length (performed at new.work)
done_are old new a b config labels p at = elim (cases_Bool (is_there old at)) [
  | inl there ↦ (
      let s : HasSeat old at = has_seat old at there in
      let other : is_there new at ≡ true = ap (λ (c : Configuration). nat_lt at.device c.devices && nat_lt at.queue QUEUES) config ∙ there in
      let q = subst (λ (q : QueueAt). (taken_by old q ≡ taken_by new q) × (length (left_there old q) ≡ length (left_there new q))) s.same (p (seat at) s.low) in
      done_there old new at (a.in_order at there) (b.in_order at other) (labels at) q.0 q.1
      )
  | inr none ↦ (
      let other : is_there new at ≡ false = ap (λ (c : Configuration). nat_lt at.device c.devices && nat_lt at.queue QUEUES) config ∙ none in
      ap length (none_performed old at a.legal none) ∙ sym (ap length (none_performed new at b.legal other))
      )
]

-- ## Cells

within_arrays : (arrays : List (List ℤ)) (array cell : ℕ) → has_range arrays (record { array = array; lo = cell; len = 1 }) ≡ true → array < length arrays
within_arrays arrays array cell has = by arrays array has
  where
    by : (xs : List (List ℤ)) (n : ℕ) → ends_within (slice_get xs n) (cell + 1) ≡ true → n < length xs
    by [] n e = cc
    by (x ∷ xs) zero e = omega arith
    by (x ∷ xs) (suc n) e = let low = by xs n e in omega (arith, low)

-- an operation of a device stands in the log
record IsLogged (device : ℕ) (work : List WorkEntry) (op : OpLabel) : Type 0 where
  at : QueueAt
  of_device : at.device ≡ device
  listed : Contains work (entry.Op at op)

logged : (device : ℕ) (work : List WorkEntry) (op : OpLabel) → Contains (device_ops device work) op → IsLogged device work op
logged device [] op h = absurd (no_member op h)
logged device (entry.Op at o ∷ before) op h = elim (cases_Bool (at.device == device)) [
  | inl here ↦ elim (Contains-push_cases (device_ops device before) o op (rw here at h)) [
    | inl old ↦ (let f = logged device before op old in record { at = f.at; of_device = f.of_device; listed = member_rest (entry.Op f.at op) (entry.Op at o) before f.listed })
    | inr same ↦ record { at = at; of_device = eqb-true at.device device here; listed = rw (← same) (member_first (entry.Op at o) before) }
  ]
  | inr other ↦ (let f = logged device before op (rw other at h) in record { at = f.at; of_device = f.of_device; listed = member_rest (entry.Op f.at op) (entry.Op at o) before f.listed })
]
logged device (entry.Item host what ∷ before) op h =
    let f = logged device before op h in
    record { at = f.at; of_device = f.of_device; listed = member_rest (entry.Op f.at op) (entry.Item host what) before f.listed }

cells_are : (old new : State) → IsKept old → IsKept new → new.config ≡ old.config
    → ((array : ℕ) → array < length old.config.arrays → HoldSameArray old new array) → All (HoldSameMade old new) old.work → SameCells old.config.arrays old.work new.work
cells_are old new a b config arrays blocks = by
  where
    same_arrays : new.config.arrays ≡ old.config.arrays
    same_arrays = ap (λ (c : Configuration). c.arrays) config

    back : (c : Cell) → HoldSame old new c → value old.config.arrays old.work c ≡ value old.config.arrays new.work c
    back c same = same ∙ ap (λ (arrays : List (List ℤ)). value arrays new.work c) same_arrays

    by : (c : Cell) → IsLive old.work c → value old.config.arrays old.work c ≡ value old.config.arrays new.work c
    by (Host_cell array cell) live = elim (cases_Bool (has_range old.config.arrays (record { array = array; lo = cell; len = 1 }))) [
      | inl has ↦ back (Host_cell array cell) (arrays array (within_arrays old.config.arrays array cell has) cell has)
      | inr none ↦ (
          let other : has_range new.config.arrays (record { array = array; lo = cell; len = 1 }) ≡ false = ap (λ (arrays : List (List ℤ)). has_range arrays (record { array = array; lo = cell; len = 1 })) same_arrays ∙ none in
          back (Host_cell array cell) (a.outside array cell none ∙ sym (b.outside array cell other))
          )
    ]
    by (Block_cell device block cell) live =
        let held = live.1 in
        let whole : Range = held.whole_range in
        let made : Made = record { block = block; range = whole } in
        let log = logged device old.work (Make whole block) (made_op (device_ops device old.work) block whole held.is_made) in
        let same = All-contains (HoldSameMade old new) old.work (entry.Op log.at (Make whole block)) blocks log.listed in
        let here : HoldSameBlock old new device block whole = subst (λ n. HoldSameBlock old new n block whole) log.of_device same in
        let inside : is_in whole cell ≡ true = in_wider whole live.0 cell held.inside live.2 in
        let found = (held_in old.config.arrays device old.work a.legal.kept.live_blocks).held.there made held.is_made held.not_released in
        let has : has_cell (find_block (blocks_in device old.work) block) cell ≡ true = ap (λ (o : Option Made). has_cell o cell) found ∙ inside in
        back (Block_cell device block cell) (here cell inside has)

-- ## All

pub alike_worlds : (old new : State) → IsKept old → IsKept new → AreOfOneScript old new → AreCompared old new → Alike old new
alike_worlds old new a b s c = record {
  config = sym s.config;
  taken = sym (taken_are old new a.taken b.taken s.config c.progress);
  hosts = sym (hosts_are old new 0 old.hosts new.hosts a.stand b.stand s.statements c.hosts.count c.hosts.each);
  places = c.places;
  own = c.own;
  work = record {
    done = done_are old new a b s.config c.places.placed c.progress;
    shown = c.shown;
    items = c.items;
    cells = cells_are old new a b s.config c.arrays c.blocks;
  };
}
