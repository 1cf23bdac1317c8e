-- Each range that a walk's operations make or use is held by its block within the walk.
use Rattle.std.proofs.Common.{inl, inr, ◌≡◌, ◌⊎◌, ℕ, Bool, true, false, cond, List, [], ◌∷◌, length, map, refl, ap, subst, arith, Option, Some, None}
use Rattle.std.specs.Prelude.{All, Contains, ◌==◌}
use Rattle.std.specs.List.{flat_map}
use Rattle.std.proofs.lemmas.Bool.{cases_Bool}
use Rattle.std.proofs.lemmas.List.Elements.{All-nil, All-cons, All-head, All-tail, All-append, All-map}
use Rattle.acc_base.specs.declared.range.Range.{Range}
use Rattle.acc_base.proofs.Members.{member_first, member_rest}
use Rattle.acc_batch.specs.declared.label.OpLabel.{OpLabel}
use Rattle.acc_batch.specs.declared.label.OpLabel.TheVariants.{Make, CopyIn, CopyOut, Release, Run}
use Rattle.acc_kernel.specs.Jobs.{Use}
use Rattle.acc_kernel.specs.Kernels.{Loop, arrays_of}
use Rattle.acc_present.specs.Lifetimes.{Lifetime, can_open}
use Rattle.acc_present.specs.Marks.{Mark}
use Rattle.acc_place.specs.declared.directive.Clause.{Clause}
use Rattle.acc_place.specs.declared.directive.Clause.TheVariants.{Copy, Copyin, Copyout, Create, Present, NoCreate, Delete, UpdateSelf, UpdateDevice}
use Rattle.acc_place.specs.Directives.{Directive}
use Rattle.acc_place.specs.declared.directive.DataItem.{DataItem}
use Rattle.acc_place.specs.declared.directive.Kind.{Kind}
use Rattle.acc_place.specs.declared.directive.Kind.TheVariants as kind
use Rattle.acc_place.specs.Batches.{opened_blocks, ended_blocks, holding_blocks, makes, copy_ins, updates, updates_by, use_by, uses_by, runs_by, copy_outs, releases, copies_in, copies_out, grouped}
use Rattle.acc_place.specs.Implicit.{item_of}
use Rattle.acc_place.specs.inner.Noting.{noted_ranges}
use Rattle.acc_place.specs.Standings.{Standing, AskedItem, Walk, Visit, visits, all_visits, marks_after, marks_between, all_asked, change_by, exit_by, ends_by, subject_by, walk_of, marked_by}
use Rattle.acc_place.proofs.EntryWalks.{Enters, AllEnter, held_after, opened_held}
use Rattle.acc_place.proofs.ExitWalks.{Leaves, AllLeave, none_opened, held_from, ended_held}
use Rattle.acc_place.proofs.GroupLives.{all_from_members, opened_is}
use Rattle.acc_place.proofs.VisitLives.{IsHeld, visit, held_block_is}

-- ## From visits to operations

-- All that an operation makes or uses is so.
abbrev pub NotesSo : (Use → Type 0) → OpLabel → Type 0
NotesSo P op = All P (noted_ranges op)

-- The blocks of a visit, each with the item's range, are so.
pub record IsSoAt (P : Use → Type 0) (v : Visit) : Type 0 where
  pub opened_so : (b : ℕ) → Contains (opened_blocks v) b → P (b, v.item.range)
  pub ended_so : (b : ℕ) → Contains (ended_blocks v) b → P (b, v.item.range)
  pub held_so : (b : ℕ) → Contains (holding_blocks v.before v.item.range) b → P (b, v.item.range)

each_so : (P : Use → Type 0) (f : ℕ → OpLabel) (bs : List ℕ) → ((b : ℕ) → Contains bs b → NotesSo P (f b)) → All (NotesSo P) (map f bs)
each_so P f bs h = All-map (NotesSo P) f bs (all_from_members (λ b. NotesSo P (f b)) bs h)

one_so : (P : Use → Type 0) (u : Use) → P u → All P (u ∷ [])
one_so P u h = All-cons P u [] h (All-nil P)

makes_so : (P : Use → Type 0) (v : Visit) → IsSoAt P v → All (NotesSo P) (makes v)
makes_so P v h = each_so P (λ b. Make v.item.range b) (opened_blocks v) (λ b c. one_so P (b, v.item.range) (h.opened_so b c))

copy_ins_so : (P : Use → Type 0) (v : Visit) → IsSoAt P v → All (NotesSo P) (copy_ins v)
copy_ins_so P v h = elim (copies_in v.item.clause) as (λ t. All (NotesSo P) (cond t (map (λ b. CopyIn v.item.range b) (opened_blocks v)) [])) [
  | true ↦ each_so P (λ b. CopyIn v.item.range b) (opened_blocks v) (λ b c. one_so P (b, v.item.range) (h.opened_so b c))
  | false ↦ All-nil (NotesSo P)
]

copy_outs_so : (P : Use → Type 0) (v : Visit) → IsSoAt P v → All (NotesSo P) (copy_outs v)
copy_outs_so P v h = elim (copies_out v.item.clause) as (λ t. All (NotesSo P) (cond t (map (λ b. CopyOut v.item.range b) (ended_blocks v)) [])) [
  | true ↦ each_so P (λ b. CopyOut v.item.range b) (ended_blocks v) (λ b c. one_so P (b, v.item.range) (h.ended_so b c))
  | false ↦ All-nil (NotesSo P)
]

releases_so : (P : Use → Type 0) (v : Visit) → All (NotesSo P) (releases v)
releases_so P v = each_so P Release (ended_blocks v) (λ b c. All-nil P)

updates_so : (P : Use → Type 0) (v : Visit) → IsSoAt P v → All (NotesSo P) (updates v)
updates_so P v h = by_clause v.item.clause
  where
    blocks : List ℕ
    blocks = holding_blocks v.before v.item.range

    by_clause : (c : Clause) → All (NotesSo P) (updates_by c v.item.range blocks)
    by_clause UpdateSelf = each_so P (λ b. CopyOut v.item.range b) blocks (λ b c. one_so P (b, v.item.range) (h.held_so b c))
    by_clause UpdateDevice = each_so P (λ b. CopyIn v.item.range b) blocks (λ b c. one_so P (b, v.item.range) (h.held_so b c))
    by_clause Copy = All-nil (NotesSo P)
    by_clause Copyin = All-nil (NotesSo P)
    by_clause Copyout = All-nil (NotesSo P)
    by_clause Create = All-nil (NotesSo P)
    by_clause Present = All-nil (NotesSo P)
    by_clause NoCreate = All-nil (NotesSo P)
    by_clause Delete = All-nil (NotesSo P)

group_so : (P : Use → Type 0) (f : Visit → List OpLabel) (vs : List Visit) → ((v : Visit) → IsSoAt P v → All (NotesSo P) (f v)) → All (IsSoAt P) vs → All (NotesSo P) (flat_map f vs)
group_so P f [] g h = All-nil (NotesSo P)
group_so P f (v ∷ vs) g h = All-append (NotesSo P) (f v) (flat_map f vs) (g v (All-head (IsSoAt P) v vs h)) (group_so P f vs g (All-tail (IsSoAt P) v vs h))

-- what a loop uses of the items' ranges is so
abbrev pub HoldingSo : (Use → Type 0) → List DataItem → List Mark → Type 0
HoldingSo P items marks = (i : DataItem) → Contains items i → (b : ℕ) → Contains (holding_blocks marks i.range) b → P (b, i.range)

found_item : (array : ℕ) (items : List DataItem) (i : DataItem) → item_of array items ≡ Some i → Contains items i
found_item array [] i e = absurd (cc)
found_item array (k ∷ items) i e = elim (cases_Bool (k.range.array == array)) [
  | inl named ↦ (let same : k ≡ i = some_is k i (rw named at e) in subst (λ z. Contains (k ∷ items) z) same (member_first k items))
  | inr other ↦ member_rest i k items (found_item array items i (rw other at e))
]
  where
    some_is : (x y : DataItem) → Some x ≡ Some y → x ≡ y
    some_is x y h = cc

uses_so : (P : Use → Type 0) (items : List DataItem) (marks : List Mark) (arrays : List ℕ) → HoldingSo P items marks → All P (flat_map (λ array. use_by marks (item_of array items)) arrays)
uses_so P items marks [] h = All-nil P
uses_so P items marks (array ∷ arrays) h =
    All-append P (use_by marks (item_of array items)) (flat_map (λ other. use_by marks (item_of other items)) arrays)
    (by_item (item_of array items) refl) (uses_so P items marks arrays h)
  where
    by_item : (o : Option DataItem) → item_of array items ≡ o → All P (use_by marks o)
    by_item None e = All-nil P
    by_item (Some i) e = All-map P (λ b. (b, i.range)) (holding_blocks marks i.range) (all_from_members (λ b. P (b, i.range)) (holding_blocks marks i.range) (h i (found_item array items i e)))

pub run_so : (P : Use → Type 0) (k : Option Loop) (items : List DataItem) (marks : List Mark) → HoldingSo P items marks → All (NotesSo P) (runs_by k items marks)
run_so P None items marks h = All-nil (NotesSo P)
run_so P (Some k) items marks h = All-cons (NotesSo P) (Run k (uses_by k items marks)) [] (uses_so P items marks (arrays_of k) h) (All-nil (NotesSo P))

-- Where the blocks of all visits are so, and those of a loop, all that the operations make or use is so.
pub grouped_so : (P : Use → Type 0) (run : List OpLabel) (vs : List Visit) → All (IsSoAt P) vs → All (NotesSo P) run → All (NotesSo P) (grouped run vs)
grouped_so P run vs h runs_are =
    All-append (NotesSo P) (flat_map makes vs) _ (group_so P makes vs (makes_so P) h)
    (All-append (NotesSo P) (flat_map copy_ins vs) _ (group_so P copy_ins vs (copy_ins_so P) h)
    (All-append (NotesSo P) run _ runs_are
    (All-append (NotesSo P) (flat_map updates vs) _ (group_so P updates vs (updates_so P) h)
    (All-append (NotesSo P) (flat_map copy_outs vs) _ (group_so P copy_outs vs (copy_outs_so P) h)
    (group_so P releases vs (λ v k. releases_so P v) h)))))

-- ## Walks

-- A walk enters, and leaves at its end; or it only leaves.
pub data Turns (walk : Walk) : Type 0 where
  enters : AllEnter walk.items → AllLeave walk.ends → Turns walk
  leaves : AllLeave walk.items → AllLeave walk.ends → Turns walk

-- the marks behind which its ranges are held: between its items and its ends, or before it
abbrev pub middle : (walk : Walk) → Turns walk → List Mark → List Mark
middle walk (enters i e) ms = marks_between ms walk
middle walk (leaves i e) ms = ms

abbrev pub IsHeldAt : List Mark → Use → Type 0
IsHeldAt ms u = IsHeld ms u.1 u.0

enters_so : (asks : List AskedItem) (ms : List Mark) → AllEnter asks → All (IsSoAt (IsHeldAt (marks_after ms asks))) (visits ms asks)
enters_so [] ms can = All-nil (IsSoAt (IsHeldAt ms))
enters_so (a ∷ asks) ms can =
    let last = marks_after ms (a ∷ asks) in
    All-cons (IsSoAt (IsHeldAt last)) (visit ms a) (visits (marked_by ms a) asks)
    (record {
      opened_so = λ b c. held_after asks (marked_by ms a) a.item.range b can.1 (opened_held ms a b can.0 c);
      ended_so = λ b c. held_after (a ∷ asks) ms a.item.range b can (ended_held ms a b c);
      held_so = λ b c. held_after (a ∷ asks) ms a.item.range b can (held_block_is ms a.item.range b c);
    })
    (enters_so asks (marked_by ms a) can.1)

leaves_so : (asks : List AskedItem) (ms first : List Mark) → AllLeave asks → ((r : Range) (b : ℕ) → IsHeld ms r b → IsHeld first r b) → All (IsSoAt (IsHeldAt first)) (visits ms asks)
leaves_so [] ms first out back = All-nil (IsSoAt (IsHeldAt first))
leaves_so (a ∷ asks) ms first out back =
    All-cons (IsSoAt (IsHeldAt first)) (visit ms a) (visits (marked_by ms a) asks)
    (record {
      opened_so = λ b c. absurd (omega (arith, (opened_is ms a b c).1, ap (λ (ls : List Lifetime). length ls) (none_opened (a ∷ []) ms (out.0, tt))));
      ended_so = λ b c. back a.item.range b (ended_held ms a b c);
      held_so = λ b c. back a.item.range b (held_block_is ms a.item.range b c);
    })
    (leaves_so asks (marked_by ms a) first out.1 (λ r b h. back r b (held_from (a ∷ []) ms r b (out.0, tt) h)))

-- what is held between the items and their ends is held there
pub held_middle : (walk : Walk) (t : Turns walk) (ms : List Mark) (r : Range) (b : ℕ) → IsHeld (marks_between ms walk) r b → IsHeld (middle walk t ms) r b
held_middle walk (enters i e) ms r b h = h
held_middle walk (leaves i e) ms r b h = held_from walk.items ms r b i h

pub visits_within : (walk : Walk) (t : Turns walk) (ms : List Mark) → All (IsSoAt (IsHeldAt (middle walk t ms))) (all_visits ms walk)
visits_within walk (enters i e) ms =
    let between = marks_between ms walk in
    All-append (IsSoAt (IsHeldAt between)) (visits ms walk.items) (visits between walk.ends) (enters_so walk.items ms i) (leaves_so walk.ends between between e (λ r b h. h))
visits_within walk (leaves i e) ms =
    let between = marks_between ms walk in
    All-append (IsSoAt (IsHeldAt ms)) (visits ms walk.items) (visits between walk.ends) (leaves_so walk.items ms ms i (λ r b h. h)) (leaves_so walk.ends between ms e (λ r b h. held_from walk.items ms r b i h))

-- ## The walk of a directive

enter_asked : (k : Kind) (items : List DataItem) → Enters (change_by k) → AllEnter (all_asked k items)
enter_asked k [] h = tt
enter_asked k (i ∷ items) h = (h, enter_asked k items h)

leave_asked : (k : Kind) (items : List DataItem) → Leaves (change_by k) → AllLeave (all_asked k items)
leave_asked k [] h = tt
leave_asked k (i ∷ items) h = (h, leave_asked k items h)

-- an exit opens nothing
exit_leaves : (finalize : Bool) → can_open (exit_by finalize) ≡ false
exit_leaves true = refl
exit_leaves false = refl

abbrev EntersBy : Kind → List DataItem → Type 0
EntersBy k items = AllEnter (all_asked k items) × AllLeave (ends_by k items)

abbrev LeavesBy : Kind → List DataItem → Type 0
LeavesBy k items = AllLeave (all_asked k items) × AllLeave (ends_by k items)

by_kind : (k : Kind) (items : List DataItem) → EntersBy k items ⊎ LeavesBy k items
by_kind kind.Data items = inl (enter_asked kind.Data items refl, tt)
by_kind kind.EndData items = inr (leave_asked kind.EndData items refl, tt)
by_kind kind.EnterData items = inl (enter_asked kind.EnterData items refl, tt)
by_kind (kind.ExitData finalize) items = inr (leave_asked (kind.ExitData finalize) items (exit_leaves finalize), tt)
by_kind (kind.Update if_present) items = inl (enter_asked (kind.Update if_present) items tt, tt)
by_kind (kind.Loop k) items = inl (enter_asked (kind.Loop k) items refl, leave_asked kind.EndData items refl)
by_kind kind.Wait items = inl (enter_asked kind.Wait items tt, tt)
by_kind kind.AsyncTest items = inl (enter_asked kind.AsyncTest items tt, tt)
by_kind kind.IsPresent items = inl (enter_asked kind.IsPresent items tt, tt)

-- Each directive's walk is of one of the two sorts.
pub walk_turns : (st : Standing) (host : ℕ) (d : Directive) → Turns (walk_of st host d)
unfolding walk_of
walk_turns st host d = elim (by_kind d.kind (subject_by st.lengths st.regions host d d.kind).items) [ inl h ↦ enters h.0 h.1 | inr h ↦ leaves h.0 h.1 ]
