-- What a walk's batch, once it is noted, makes of the notes of its device.
use Rattle.std.proofs.Common.{inl, inr, ◌≡◌, ℕ, ◌+◌, ◌<◌, ◌≤◌, Bool, true, false, List, [], ◌∷◌, ◌++◌, length, map, refl, sym, ap, subst, ◌∙◌, arith, Option, Some, None}
use Rattle.std.specs.Prelude.{All, Contains, ◌&&◌, ◌==◌}
use Rattle.std.specs.List.{flat_map}
use Rattle.std.proofs.lemmas.Bool.{cases_Bool, and_parts, eqb-true, eq-eqb}
use Rattle.std.proofs.lemmas.List.{append_assoc, length-append}
use Rattle.std.proofs.lemmas.List.Elements.{All-nil, All-cons, All-head, All-tail, All-append, All-weaker}
use Rattle.acc_base.specs.declared.ids.QueueAt.{QueueAt}
use Rattle.acc_base.specs.declared.range.Range.{Range}
use Rattle.acc_base.specs.Configurations.{Configuration}
use Rattle.acc_base.specs.Queues.{same_queue}
use Rattle.acc_base.specs.Ranges.{range_contains}
use Rattle.acc_base.proofs.Members.{member_map, member_image}
use Rattle.acc_base.proofs.SameQueue.{same_queue_is}
use Rattle.acc_batch.specs.declared.label.Label.{Label}
use Rattle.acc_batch.specs.declared.label.OpLabel.{OpLabel}
use Rattle.acc_batch.specs.declared.label.OpLabel.TheVariants.{Make, CopyIn, CopyOut, Release, Run, Await, Close}
use Rattle.acc_batch.specs.Awaits.{is_await, AllOrdered}
use Rattle.acc_batch.specs.Labels.{on_queue, ops_of, made_blocks, used_blocks, has_number, makes_block, touches_block}
use Rattle.acc_batch.specs.Lives.{Made, blocks_made, on_device}
use Rattle.acc_batch.proofs.Labels.{on_queue-append}
use Rattle.acc_batch.proofs.OrderedBatches.{behind_is}
use Rattle.acc_kernel.specs.Jobs.{Use}
use Rattle.acc_present.specs.Legality.{AllLegal}
use Rattle.acc_present.specs.Lifetimes.{Lifetime, opened_lifetimes, live_lifetimes, lives}
use Rattle.acc_present.specs.Marks.{Mark}
use Rattle.acc_present.specs.Presences.{Presence, presence_of, presences}
use Rattle.acc_present.proofs.LifetimesApart.{apart_same}
use Rattle.acc_present.proofs.LifetimeNumbers.{numbered}
use Rattle.acc_place.specs.Batches.{operations_of, batch_of, walk_at, next_number, labels_with}
use Rattle.acc_place.specs.inner.Noting.{notes_on, noted_by, IsNext}
use Rattle.acc_place.specs.BlockNotes.{note_of, maker_in}
use Rattle.acc_place.specs.Standings.{Standing, Walk, marks_between}
use Rattle.acc_place.proofs.HeldAndMade.{look_finds, label_makes, makes_it, makes_made, made_once}
use Rattle.acc_place.proofs.ExitWalks.{held_from, none_opened}
use Rattle.acc_place.proofs.NoteFound.{IsWalked, IsUse, operations_use}
use Rattle.acc_place.proofs.NoteOf.{notes_follow, find_is}
use Rattle.acc_place.proofs.NotedBy.{becomes, IsOf, noted_is}
use Rattle.acc_place.proofs.LabelsSound.{behaves, labelled_cases}
use Rattle.acc_place.proofs.VisitLives.{IsHeld, live_member}
use Rattle.acc_place.proofs.HeldInWalk.{NotesSo, Turns, enters, leaves, middle}

-- ## Present ranges and blocks

-- a present range is that of a lifetime
record IsShown (ms : List Mark) (p : Presence) : Type 0 where
  lifetime : Lifetime
  member : Contains (opened_lifetimes ms) lifetime
  lived : lives ms lifetime ≡ true
  shown : presence_of ms lifetime ≡ p

shown_is : (ms : List Mark) (p : Presence) → Contains (presences ms) p → IsShown ms p
unfolding presences
shown_is ms p c =
    let f = member_map (presence_of ms) (live_lifetimes ms) p c in
    let l = live_member ms f.source f.member in
    record { lifetime = f.source; member = l.1; lived = l.0; shown = f.same }

-- a range is held by one block
one_block : (ms : List Mark) (r : Range) (b k : ℕ) → AllLegal ms → 0 < r.len → IsHeld ms r b → IsHeld ms r k → b ≡ k
one_block ms r b k lawful cells h j =
    let x = look_finds ms r b lawful cells h in
    let y = look_finds ms r k lawful cells j in
    let same : x.0 ≡ y.0 = some_is x.0 y.0 (sym x.1 ∙ y.1) in
    sym x.2 ∙ (ap (λ (z : Presence). z.block) same ∙ y.2)
  where
    some_is : (x y : Presence) → Some x ≡ Some y → x ≡ y
    some_is x y e = cc

differs : (v : Bool) → (v ≡ true → true ≡ false) → v ≡ false
differs true h = sym (sym (h refl))
differs false h = refl

-- What is present at some marks, among lifetimes that others have opened already, contains a range exactly where it has the
-- block that holds the range at these.
of_block : (ms now : List Mark) (r : Range) (b : ℕ) → AllLegal ms → 0 < r.len → IsHeld ms r b → ((k : ℕ) → IsHeld now r k → IsHeld ms r k)
    → ((l : Lifetime) → Contains (opened_lifetimes now) l → Contains (opened_lifetimes ms) l) → (p : Presence) → Contains (presences now) p → range_contains p.range r ≡ (b == p.block)
of_block ms now r b lawful cells h back old p c =
    let s = shown_is now p c in
    elim (cases_Bool (range_contains p.range r)) [
      | inl has ↦
          let around : range_contains s.lifetime.range r ≡ true = ap (λ (z : Presence). range_contains z.range r) s.shown ∙ has in
          let named : s.lifetime.block ≡ p.block = ap (λ (z : Presence). z.block) s.shown in
          let held = back p.block (record { lifetime = s.lifetime; member = s.member; lived = s.lived; named = named; around = around }) in
          has ∙ sym (eq-eqb b p.block (one_block ms r b p.block lawful cells h held))
      | inr misses ↦ misses ∙ sym (differs (b == p.block) (λ same.
          let block : s.lifetime.block ≡ h.lifetime.block = ap (λ (z : Presence). z.block) s.shown ∙ (sym (eqb-true b p.block same) ∙ sym h.named) in
          let one : s.lifetime ≡ h.lifetime = apart_same (opened_lifetimes ms) (numbered ms).apart s.lifetime h.lifetime (old s.lifetime s.member) h.member block in
          let has : range_contains p.range r ≡ true = ap (λ (z : Presence). range_contains z.range r) (sym s.shown) ∙ (ap (λ (z : Lifetime). range_contains z.range r) one ∙ h.around) in
          sym has ∙ misses))
    ]

-- So it is between the items of a walk and their ends.
within_is : (config : Configuration) (st : Standing) (walk : Walk) (w : IsWalked config st walk) (p : Presence) → Contains (presences (marks_between (st.marks walk.device) walk)) p
    → (u : Use) → IsUse (middle walk w.turns (st.marks walk.device)) u → IsOf p.range p.block u
within_is config st walk w p c u h = by_turns w.turns h.1
  where
    ms : List Mark
    ms = st.marks walk.device

    by_turns : (t : Turns walk) → IsHeld (middle walk t ms) u.1 u.0 → range_contains p.range u.1 ≡ (u.0 == p.block)
    by_turns (enters i e) held = of_block (marks_between ms walk) (marks_between ms walk) u.1 u.0 w.between h.0 held (λ k j. j) (λ l j. j) p c
    by_turns (leaves i e) held =
        of_block ms (marks_between ms walk) u.1 u.0 w.legal h.0 held (λ k j. held_from walk.items ms u.1 k i j)
        (λ l j. subst (λ ls. Contains ls l) (none_opened walk.items ms i) j) p c

-- ## The batch

awaits_so : (P : Use → Type 0) (ops : List OpLabel) → All (λ op. is_await op ≡ true) ops → All (NotesSo P) ops
awaits_so P [] h = All-nil (NotesSo P)
awaits_so P (op ∷ ops) h = All-cons (NotesSo P) op ops (by_op op (All-head (λ o. is_await o ≡ true) op ops h)) (awaits_so P ops (All-tail (λ o. is_await o ≡ true) op ops h))
  where
    by_op : (o : OpLabel) → is_await o ≡ true → NotesSo P o
    by_op (Await q n) is = All-nil P
    by_op (Make r b) is = cc
    by_op (CopyIn r b) is = cc
    by_op (CopyOut r b) is = cc
    by_op (Release b) is = cc
    by_op (Run k uses) is = cc
    by_op Close is = cc

-- what a walk's operations note, its batch notes
batch_so : (P : Use → Type 0) (st : Standing) (walk : Walk) → All (NotesSo P) (operations_of st walk) → All (NotesSo P) (batch_of st walk)
unfolding batch_of
batch_so P st walk h =
    let b = behind_is walk.alone walk.waits (walk_at walk) st.labels (operations_of st walk) in
    rw b.split (All-append (NotesSo P) b.first (operations_of st walk) (awaits_so P b.first b.all_await) h)

pub batch_notes : (P : Use → Type 0) (config : Configuration) (st : Standing) (walk : Walk) (w : IsWalked config st walk) → ((u : Use) → IsUse (middle walk w.turns (st.marks walk.device)) u → P u) → All (NotesSo P) (batch_of st walk)
batch_notes P config st walk w h =
    let Q = IsUse (middle walk w.turns (st.marks walk.device)) in
    batch_so P st walk (All-weaker (NotesSo Q) (NotesSo P) (λ op k. All-weaker Q P h _ k) (operations_of st walk) (operations_use config st walk w))

-- no earlier batch of the device made a block that the batch makes
first_made : (config : Configuration) (st : Standing) (walk : Walk) (w : IsWalked config st walk) (b : ℕ) → has_number (flat_map made_blocks (batch_of st walk)) b ≡ true → maker_in walk.device b st.labels ≡ None
first_made config st walk w b makes = by_maker (maker_in walk.device b st.labels) refl
  where
    before : List OpLabel
    before = ops_of (on_device walk.device st.labels)

    by_maker : (o : Option Label) → maker_in walk.device b st.labels ≡ o → o ≡ None
    by_maker None e = refl
    by_maker (Some m) e =
        let f = find_is (λ (l : Label). (l.at.device == walk.device) && makes_block b l) st.labels m e in
        let parts = and_parts (m.at.device == walk.device) (makes_block b m) f.1 in
        let k = label_makes walk.device st.labels b m f.0 (eqb-true m.at.device walk.device parts.0) parts.1 in
        let old : Contains (map (λ (z : Made). z.block) (blocks_made before)) b = member_image (λ (z : Made). z.block) (blocks_made before) (record { block = b; range = k.range }) (makes_made before b k) in
        absurd (made_once config.arrays before (batch_of st walk) b (behaves config st walk w.sound w.inside).use_live old (makes_it (batch_of st walk) b makes))

-- the numbers of a queue's labels are no higher than how many there are
highest : (at : QueueAt) (first ls : List Label) → AllOrdered first ls → All (λ (k : Label). k.number ≤ length (on_queue at (first ++ ls))) (on_queue at ls)
highest at first [] h = All-nil (λ (k : Label). k.number ≤ length (on_queue at (first ++ [])))
highest at first (l ∷ ls) h =
    let low = λ (k : Label). k.number ≤ length (on_queue at (first ++ l ∷ ls)) in
    let rest : All low (on_queue at ls) = subst (λ r. All (λ (k : Label). k.number ≤ length (on_queue at r)) (on_queue at ls)) (append_assoc first (l ∷ []) ls) (highest at (first ++ l ∷ []) ls h.1) in
    elim (cases_Bool (same_queue l.at at)) [
      | inl same ↦
          let cut = on_queue-append at first (l ∷ ls) in
          let here : on_queue at (l ∷ ls) ≡ l ∷ on_queue at ls = rw same refl in
          let number : l.number ≡ length (on_queue at first) + 1 = subst (λ q. l.number ≡ length (on_queue q first) + 1) (same_queue_is l.at at same) h.0.numbered in
          let first_low : l.number ≤ length (on_queue at (first ++ l ∷ ls)) =
          omega (arith, number, ap (λ (r : List Label). length r) cut, ap (λ (r : List Label). length r) here, length-append (on_queue at first) (on_queue at (l ∷ ls))) in
          rw here (All-cons low l (on_queue at ls) first_low rest)
      | inr differ ↦ (let none : on_queue at (l ∷ ls) ≡ on_queue at ls = rw differ refl in rw none rest)
    ]

-- ## Its label

-- what a label makes of the note of a block, whether it makes the block or uses it
label_becomes : (labels : List Label) (l : Label) (b : ℕ) → IsNext labels l → (makes_block b l ≡ true → maker_in l.at.device b labels ≡ None)
    → becomes l.at.queue l.number (has_number (flat_map made_blocks l.ops) b) (has_number (flat_map used_blocks l.ops) b) (note_of l.at.device labels b) ≡ note_of l.at.device (labels ++ l ∷ []) b
label_becomes labels l b next none =
    let f = notes_follow labels l b next in
    elim (cases_Bool (makes_block b l)) [
      | inl makes ↦ rw makes (sym (f.0 (none makes) makes))
      | inr fails ↦ elim (cases_Bool (has_number (flat_map used_blocks l.ops) b)) [
        | inl uses ↦ (let touches : touches_block b l ≡ true = rw (fails, uses) refl in rw (fails, uses) (sym (f.1 fails touches)))
        | inr idle ↦ (let touches : touches_block b l ≡ false = rw (fails, idle) refl in rw (fails, idle) (sym (f.2 touches)))
      ]
    ]

-- Noting a batch gives each range that is present once its items have left their marks the note that its label gives it.
pub noted_follows : (config : Configuration) (st : Standing) (walk : Walk) (w : IsWalked config st walk) (host items_done : ℕ) (p : Presence) → Contains (presences (marks_between (st.marks walk.device) walk)) p
    → noted_by walk.queue (next_number (walk_at walk) st.labels) (batch_of st walk) (notes_on walk.device st.labels) p.range p.block
    ≡ note_of walk.device (labels_with (walk_at walk) host items_done st.labels (batch_of st walk)) p.block
noted_follows config st walk w host items_done p c = elim (labelled_cases (walk_at walk) host items_done st.labels (batch_of st walk)) [
  | inl none ↦ rw (none.1, none.0) refl
  | inr one ↦
      let n = next_number (walk_at walk) st.labels in
      let l : Label = record { at = walk_at walk; number = n; host = host; items_done = items_done; ops = batch_of st walk } in
      let low = highest (walk_at walk) [] st.labels w.sound.ordered in
      let next : IsNext st.labels l = record {
        queue = w.queue;
        highest = All-weaker (λ (k : Label). k.number ≤ length (on_queue (walk_at walk) st.labels)) (λ (k : Label). k.number ≤ n) (λ k h. omega (arith, h)) (on_queue (walk_at walk) st.labels) low;
      } in
      rw one
      (noted_is walk.queue n p.block p.range (batch_of st walk) (notes_on walk.device st.labels) (batch_notes (IsOf p.range p.block) config st walk w (within_is config st walk w p c))
      ∙ label_becomes st.labels l p.block next (first_made config st walk w p.block))
]
