-- The operations of a batch have the arrays that its directive names.
use Rattle.std.proofs.Common.{inl, inr, ◌≡◌, ℕ, Bool, true, false, not, ◌||◌, ◌==◌, cond, List, [], ◌∷◌, ◌++◌, map, refl, sym, ap, ◌∙◌, Some, None, Option}
use Rattle.std.specs.Prelude.{filter, find}
use Rattle.std.specs.List.{flat_map, list_all, list_any}
use Rattle.std.proofs.lemmas.Bool.{and_from, and_parts, cases_Bool, eqb-true, or_parts}
use Rattle.std.proofs.lemmas.List.Folds.{list_all-append, list_all-map}
use Rattle.acc_base.specs.declared.ids.QueueAt.{QueueAt}
use Rattle.acc_base.specs.declared.range.Range.{Range}
use Rattle.acc_base.specs.Queues.{every_queue}
use Rattle.acc_batch.specs.Awaits.{await_of, awaits, number_awaited, with_awaits}
use Rattle.acc_batch.specs.declared.label.Label.{Label}
use Rattle.acc_batch.specs.declared.label.OpLabel.{OpLabel}
use Rattle.acc_batch.specs.declared.label.OpLabel.TheVariants.{Make, CopyIn, CopyOut, Release, Run, Await, Close}
use Rattle.acc_batch.specs.Labels.{released_blocks, used_blocks}
use Rattle.acc_kernel.specs.Jobs.{Use}
use Rattle.acc_kernel.specs.Kernels.{Loop, arrays_of}
use Rattle.acc_place.specs.Regions.{ends_region}
use Rattle.acc_place.specs.Batches.{batch_of, copies_in, copies_out, copy_ins, copy_outs, ended_blocks, grouped, holding_blocks, makes, opened_blocks, operations_of, releases, runs, runs_by, updates, updates_by, use_by, uses_by, walk_at}
use Rattle.acc_place.specs.declared.directive.Clause.{Clause}
use Rattle.acc_place.specs.declared.directive.Clause.TheVariants.{Copy, Copyin, Copyout, Create, Present, NoCreate, Delete, UpdateSelf, UpdateDevice}
use Rattle.acc_place.specs.declared.directive.DataItem.{DataItem}
use Rattle.acc_place.specs.declared.directive.Kind.{Kind}
use Rattle.acc_place.specs.declared.directive.Kind.TheVariants as kind
use Rattle.acc_place.specs.declared.directive.Region.{Region}
use Rattle.acc_place.specs.Directives.{Directive}
use Rattle.acc_place.specs.Implicit.{implicit_item, implicit_items, is_named, item_of, items_around}
use Rattle.acc_place.specs.Standings.{AskedItem, Standing, Visit, Walk, all_asked, all_visits, ends_by, marked_by, marks_between, subject_by, visits, walk_of}
use Rattle.acc_present.specs.Marks.{Mark}
use Rattle.acc_explore.specs.ApartOperations.{arrays_in, may_name, touches_array}

-- ## Of lists

all_of_map : {X Y : Type 0} (p : Y → Bool) (f : X → Y) (xs : List X) → ((x : X) → p (f x) ≡ true) → list_all p (map f xs) ≡ true
all_of_map p f [] each = refl
all_of_map p f (x ∷ xs) each = and_from (p (f x)) (list_all p (map f xs)) (each x) (all_of_map p f xs each)

pub all_joined : {X : Type 0} (p : X → Bool) (xs ys : List X) → list_all p xs ≡ true → list_all p ys ≡ true → list_all p (xs ++ ys) ≡ true
all_joined p xs ys one two = list_all-append p xs ys ∙ and_from (list_all p xs) (list_all p ys) one two

all_flat : {X Y : Type 0} (q : X → Bool) (p : Y → Bool) (f : X → List Y) (xs : List X) → ((x : X) → q x ≡ true → list_all p (f x) ≡ true) → list_all q xs ≡ true → list_all p (flat_map f xs) ≡ true
all_flat q p f [] each all = refl
all_flat q p f (x ∷ xs) each all =
    let parts = and_parts (q x) (list_all q xs) all in
    all_joined p (f x) (flat_map f xs) (each x parts.0) (all_flat q p f xs each parts.1)

all_if : {X : Type 0} (p : X → Bool) (b : Bool) (xs : List X) → list_all p xs ≡ true → list_all p (cond b xs []) ≡ true
all_if p true xs all = all
all_if p false xs all = refl

all_filtered : {X : Type 0} (p q : X → Bool) (xs : List X) → list_all p xs ≡ true → list_all p (filter q xs) ≡ true
all_filtered p q [] all = refl
all_filtered p q (x ∷ xs) all =
    let parts = and_parts (p x) (list_all p xs) all in
    elim (cases_Bool (q x)) [
      | inl passes ↦ rw passes (and_from (p x) (list_all p (filter q xs)) parts.0 (all_filtered p q xs parts.1))
      | inr fails ↦ rw fails (all_filtered p q xs parts.1)
    ]

-- what is found passed the test, and was among them
pub found_passes : {X : Type 0} (q p : X → Bool) (xs : List X) (x : X) → find q xs ≡ Some x → (q x ≡ true) × (list_all p xs ≡ true → p x ≡ true)
found_passes q p [] x e = cc
found_passes q p (y ∷ ys) x e = elim (cases_Bool (q y)) [
  | inl passes ↦ (
      let first : find q (y ∷ ys) ≡ Some y = rw passes refl in
      let both : Some y ≡ Some x = sym first ∙ e in
      let same : y ≡ x = cc in
      (ap q (sym same) ∙ passes, λ all. ap p (sym same) ∙ (and_parts (p y) (list_all p ys) all).0)
      )
  | inr fails ↦ (
      let next : find q (y ∷ ys) ≡ find q ys = rw fails refl in
      let later = found_passes q p ys x (sym next ∙ e) in
      (later.0, λ all. later.1 (and_parts (p y) (list_all p ys) all).1)
      )
]

-- from none to all that are not
none_all : {X : Type 0} (p : X → Bool) (xs : List X) → list_any p xs ≡ false → list_all (λ x. not (p x)) xs ≡ true
none_all p [] none = refl
none_all p (x ∷ xs) none =
    let parts = or_parts (p x) (list_any p xs) none in
    and_from (not (p x)) (list_all (λ x. not (p x)) xs) (ap not parts.0) (none_all p xs parts.1)

-- ## Of arrays that pass a test

module _ (f : ℕ → Bool) where
  -- all cells that an operation touches are of such arrays
  abbrev pub has_arrays : OpLabel → Bool
  has_arrays (Make r b) = f r.array
  has_arrays (CopyIn r b) = f r.array
  has_arrays (CopyOut r b) = f r.array
  has_arrays (Release b) = true
  has_arrays (Run k uses) = list_all (λ (u : Use). f u.1.array) uses
  has_arrays (Await q n) = true
  has_arrays Close = true

  abbrev of_item : DataItem → Bool
  of_item i = f i.range.array

  abbrev of_asked : AskedItem → Bool
  of_asked a = f a.item.range.array

  abbrev of_visit : Visit → Bool
  of_visit v = f v.item.range.array

  visits_all : (before : List Mark) (asks : List AskedItem) → list_all of_asked asks ≡ true → list_all of_visit (visits before asks) ≡ true
  visits_all before [] all = refl
  visits_all before (a ∷ asks) all =
      let parts = and_parts (of_asked a) (list_all of_asked asks) all in
      and_from (of_asked a) (list_all of_visit (visits (marked_by before a) asks)) parts.0 (visits_all (marked_by before a) asks parts.1)

  updates_all : (c : Clause) (r : Range) (blocks : List ℕ) → f r.array ≡ true → list_all has_arrays (updates_by c r blocks) ≡ true
  updates_all UpdateSelf r blocks e = all_of_map has_arrays (λ b. CopyOut r b) blocks (λ b. e)
  updates_all UpdateDevice r blocks e = all_of_map has_arrays (λ b. CopyIn r b) blocks (λ b. e)
  updates_all Copy r blocks e = refl
  updates_all Copyin r blocks e = refl
  updates_all Copyout r blocks e = refl
  updates_all Create r blocks e = refl
  updates_all Present r blocks e = refl
  updates_all NoCreate r blocks e = refl
  updates_all Delete r blocks e = refl

  grouped_all : (run : List OpLabel) (vs : List Visit) → list_all has_arrays run ≡ true → list_all of_visit vs ≡ true → list_all has_arrays (grouped run vs) ≡ true
  grouped_all run vs ran all =
      all_joined has_arrays (flat_map makes vs) _ (all_flat of_visit has_arrays makes vs (λ v e. all_of_map has_arrays (λ b. Make v.item.range b) (opened_blocks v) (λ b. e)) all)
      (all_joined has_arrays (flat_map copy_ins vs) _
      (all_flat of_visit has_arrays copy_ins vs (λ v e. all_if has_arrays (copies_in v.item.clause) (map (λ b. CopyIn v.item.range b) (opened_blocks v)) (all_of_map has_arrays (λ b. CopyIn v.item.range b) (opened_blocks v) (λ b. e))) all)
      (all_joined has_arrays run _ ran
      (all_joined has_arrays (flat_map updates vs) _ (all_flat of_visit has_arrays updates vs (λ v e. updates_all v.item.clause v.item.range (holding_blocks v.before v.item.range) e) all)
      (all_joined has_arrays (flat_map copy_outs vs) _
      (all_flat of_visit has_arrays copy_outs vs (λ v e. all_if has_arrays (copies_out v.item.clause) (map (λ b. CopyOut v.item.range b) (ended_blocks v)) (all_of_map has_arrays (λ b. CopyOut v.item.range b) (ended_blocks v) (λ b. e))) all)
      (all_flat of_visit has_arrays releases vs (λ v e. all_of_map has_arrays Release (ended_blocks v) (λ b. refl)) all)))))

  -- a loop uses ranges of its items
  use_all : (marks : List Mark) (o : Option DataItem) → ((i : DataItem) → o ≡ Some i → of_item i ≡ true) → list_all (λ (u : Use). f u.1.array) (use_by marks o) ≡ true
  use_all marks None each = refl
  use_all marks (Some i) each = all_of_map (λ (u : Use). f u.1.array) (λ b. (b, i.range)) (holding_blocks marks i.range) (λ b. each i refl)

  uses_all : (arrays : List ℕ) (items : List DataItem) (marks : List Mark) → list_all of_item items ≡ true → list_all (λ (u : Use). f u.1.array) (flat_map (λ array. use_by marks (item_of array items)) arrays) ≡ true
  uses_all [] items marks all = refl
  uses_all (array ∷ arrays) items marks all =
      all_joined (λ (u : Use). f u.1.array) (use_by marks (item_of array items)) (flat_map (λ array. use_by marks (item_of array items)) arrays)
      (use_all marks (item_of array items) (λ i e. (found_passes (λ (j : DataItem). j.range.array == array) of_item items i e).1 all))
      (uses_all arrays items marks all)

  runs_all : (o : Option Loop) (items : List DataItem) (marks : List Mark) → list_all of_item items ≡ true → list_all has_arrays (runs_by o items marks) ≡ true
  runs_all None items marks all = refl
  runs_all (Some k) items marks all = and_from (has_arrays (Run k (uses_by k items marks))) true (uses_all (arrays_of k) items marks all) refl

  -- awaits touch none
  await_all : (own q n : ℕ) → list_all has_arrays (await_of own q n) ≡ true
  await_all own q n = by ((q == own) || (n == 0))
    where
      by : (b : Bool) → list_all has_arrays (cond b [] (Await q n ∷ [])) ≡ true
      by true = refl
      by false = refl

  awaits_all : (named : List ℕ) (own : QueueAt) (labels : List Label) (used released queues : List ℕ) → list_all has_arrays (flat_map (λ q. await_of own.queue q (number_awaited named own labels used released q)) queues) ≡ true
  awaits_all named own labels used released [] = refl
  awaits_all named own labels used released (q ∷ queues) =
      all_joined has_arrays (await_of own.queue q (number_awaited named own labels used released q)) _ (await_all own.queue q (number_awaited named own labels used released q))
      (awaits_all named own labels used released queues)

  behind_all : (alone : Bool) (before ops : List OpLabel) → list_all has_arrays before ≡ true → list_all has_arrays ops ≡ true → list_all has_arrays (with_awaits alone before ops) ≡ true
  behind_all alone before [] one two = all_if has_arrays alone before one
  behind_all alone before (op ∷ ops) one two = all_joined has_arrays before (op ∷ ops) one two

  -- a walk's batch has the arrays of its items
  walk_all : (st : Standing) (walk : Walk) → list_all of_asked walk.items ≡ true → list_all of_asked walk.ends ≡ true → list_all has_arrays (batch_of st walk) ≡ true
  unfolding batch_of
  walk_all st walk items ends =
      let ops = operations_of st walk in
      let marks = st.marks walk.device in
      behind_all walk.alone (awaits walk.waits (walk_at walk) st.labels (flat_map used_blocks ops) (flat_map released_blocks ops)) ops
      (awaits_all walk.waits (walk_at walk) st.labels (flat_map used_blocks ops) (flat_map released_blocks ops) every_queue)
      (grouped_all (runs walk marks) (all_visits marks walk)
      (runs_all walk.runs (map (λ (a : AskedItem). a.item) walk.items) (marks_between marks walk) (list_all-map of_item (λ (a : AskedItem). a.item) walk.items ∙ items))
      (all_joined of_visit (visits marks walk.items) (visits (marks_between marks walk) walk.ends) (visits_all marks walk.items items) (visits_all (marks_between marks walk) walk.ends ends)))

  -- those are the arrays that the directive names
  asked_all : (k : Kind) (items : List DataItem) → list_all of_item items ≡ true → list_all of_asked (all_asked k items) ≡ true
  asked_all k [] all = refl
  asked_all k (i ∷ items) all =
      let parts = and_parts (of_item i) (list_all of_item items) all in
      and_from (of_item i) (list_all of_asked (all_asked k items)) parts.0 (asked_all k items parts.1)

  ends_all : (k : Kind) (items : List DataItem) → list_all of_item items ≡ true → list_all of_asked (ends_by k items) ≡ true
  ends_all (kind.Loop k) items all = asked_all kind.EndData items all
  ends_all kind.Data items all = refl
  ends_all kind.EndData items all = refl
  ends_all kind.EnterData items all = refl
  ends_all (kind.ExitData finalize) items all = refl
  ends_all (kind.Update if_present) items all = refl
  ends_all kind.Wait items all = refl
  ends_all kind.AsyncTest items all = refl
  ends_all kind.IsPresent items all = refl

  implicit_all : (lengths : List ℕ) (around : List DataItem) (arrays : List ℕ) → list_all f arrays ≡ true → list_all of_item (map (λ array. implicit_item lengths array (item_of array around)) arrays) ≡ true
  implicit_all lengths around [] all = refl
  implicit_all lengths around (array ∷ arrays) all =
      let parts = and_parts (f array) (list_all f arrays) all in
      and_from (of_item (implicit_item lengths array (item_of array around))) (list_all of_item (map (λ array. implicit_item lengths array (item_of array around)) arrays))
      (by (item_of array around) refl parts.0) (implicit_all lengths around arrays parts.1)
    where
      by : (o : Option DataItem) → item_of array around ≡ o → f array ≡ true → of_item (implicit_item lengths array o) ≡ true
      by None e all = all
      by (Some i) e all =
          ap f (eqb-true i.range.array array (found_passes (λ (j : DataItem). j.range.array == array) of_item around i e).0) ∙ all

  subject_all : (lengths : List ℕ) (rs : List Region) (h : ℕ) (d : Directive) (k : Kind) → ends_region k ≡ false → list_all of_item d.items ≡ true → list_all f (arrays_in k) ≡ true → list_all of_item (subject_by lengths rs h d k).items ≡ true
  subject_all lengths rs h d (kind.Loop k) none items arrays =
      all_joined of_item d.items (implicit_items lengths rs h d k) items
      (implicit_all lengths (items_around h d.device rs) (filter (λ array. not (is_named d.items array)) (arrays_of k)) (all_filtered f (λ array. not (is_named d.items array)) (arrays_of k) arrays))
  subject_all lengths rs h d kind.EndData none items arrays = cc
  subject_all lengths rs h d kind.Data none items arrays = items
  subject_all lengths rs h d kind.EnterData none items arrays = items
  subject_all lengths rs h d (kind.ExitData finalize) none items arrays = items
  subject_all lengths rs h d (kind.Update if_present) none items arrays = items
  subject_all lengths rs h d kind.Wait none items arrays = items
  subject_all lengths rs h d kind.AsyncTest none items arrays = items
  subject_all lengths rs h d kind.IsPresent none items arrays = items

  batch_all : (st : Standing) (h : ℕ) (d : Directive) → ends_region d.kind ≡ false → list_all of_item d.items ≡ true → list_all f (arrays_in d.kind) ≡ true → list_all has_arrays (batch_of st (walk_of st h d)) ≡ true
  unfolding walk_of
  batch_all st h d none items arrays =
      let s = subject_all st.lengths st.regions h d d.kind none items arrays in
      let of = (subject_by st.lengths st.regions h d d.kind).items in
      walk_all st (walk_of st h d) (asked_all d.kind of s) (ends_all d.kind of s)

-- Where a directive names no array that an operation touches, its batch touches none.
pub batch_named : (op : OpLabel) (st : Standing) (h : ℕ) (d : Directive) → may_name op d ≡ false → list_all (has_arrays (λ array. not (touches_array op array))) (batch_of st (walk_of st h d)) ≡ true
batch_named op st h d none =
    let one = or_parts (ends_region d.kind) (list_any (λ (i : DataItem). touches_array op i.range.array) d.items || list_any (touches_array op) (arrays_in d.kind)) none in
    let two = or_parts (list_any (λ (i : DataItem). touches_array op i.range.array) d.items) (list_any (touches_array op) (arrays_in d.kind)) one.1 in
    batch_all (λ array. not (touches_array op array)) st h d one.0 (none_all (λ (i : DataItem). touches_array op i.range.array) d.items two.0) (none_all (touches_array op) (arrays_in d.kind) two.1)
