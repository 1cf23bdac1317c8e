-- The note of a block, where one more label is placed.
use Rattle.std.proofs.Common.{inl, inr, ◌≡◌, ℕ, ◌<◌, ◌≤◌, Bool, true, false, cond, List, [], ◌∷◌, ◌++◌, map, refl, sym, ap, subst, ◌∙◌, arith, Option, Some, None}
use Rattle.std.specs.Prelude.{All, Contains, filter, max, ◌&&◌, ◌==◌}
use Rattle.std.specs.List.{find}
use Rattle.std.proofs.lemmas.Bool.{cases_Bool, or_parts, and_parts, and_from, eq-eqb, eqb-true, ne_eqb}
use Rattle.std.proofs.lemmas.List.{append-nil}
use Rattle.std.proofs.lemmas.List.Elements.{All-head, All-tail, All-filter, filter-append}
use Rattle.acc_base.proofs.EachQueue.{at_queue, none_each, set_queue}
use Rattle.acc_base.proofs.Members.{member_first, member_rest, member_filter}
use Rattle.acc_base.specs.declared.ids.TheConstants.{QUEUES}
use Rattle.acc_batch.proofs.OrderedBatches.{last_least, filter_member}
use Rattle.acc_base.specs.declared.ids.QueueAt.{QueueAt}
use Rattle.acc_base.specs.Queues.{every_queue, same_queue}
use Rattle.acc_base.proofs.SameQueue.{same_queue_itself, same_queue_is}
use Rattle.acc_batch.specs.declared.label.Label.{Label}
use Rattle.acc_batch.specs.Labels.{on_queue, has_number, makes_block, touches_block, greatest, last_number}
use Rattle.acc_batch.proofs.Labels.{on_queue-append}
use Rattle.acc_present.specs.Notes.{no_note}
use Rattle.acc_place.specs.inner.Noting.{IsNext, NotesFollow, HasOneMaker, made_at, used_at, NotesTell}
use Rattle.acc_place.specs.BlockNotes.{maker_in, queue_made, number_made, last_use, note_of}

greatest_push : (ns : List ℕ) (n : ℕ) → greatest (ns ++ n ∷ []) ≡ max (greatest ns) n
greatest_push [] n = omega arith
greatest_push (k ∷ ns) n = (let ih = greatest_push ns n in omega (arith, ih))

numbers_push : (ls : List Label) (l : Label) → map (λ (k : Label). k.number) (ls ++ l ∷ []) ≡ map (λ (k : Label). k.number) ls ++ l.number ∷ []
numbers_push [] l = refl
numbers_push (k ∷ ls) l = ap (λ r. k.number ∷ r) (numbers_push ls l)

greatest_low : (ls : List Label) (n : ℕ) → All (λ (k : Label). k.number ≤ n) ls → greatest (map (λ (k : Label). k.number) ls) ≤ n
greatest_low [] n h = omega arith
greatest_low (k ∷ ls) n h =
    let first = All-head (λ (x : Label). x.number ≤ n) k ls h in
    let ih = greatest_low ls n (All-tail (λ (x : Label). x.number ≤ n) k ls h) in
    omega (arith, first, ih)

-- the last that passes, where one more stands behind
last_passes : (test : Label → Bool) (ls : List Label) (l : Label) → test l ≡ true → All (λ (k : Label). k.number ≤ l.number) ls → last_number test (ls ++ l ∷ []) ≡ l.number
last_passes test ls l passes_it h =
    let one : filter test (l ∷ []) ≡ l ∷ [] = rw passes_it refl in
    let all : filter test (ls ++ l ∷ []) ≡ filter test ls ++ l ∷ [] = filter-append test ls (l ∷ []) ∙ ap (λ r. filter test ls ++ r) one in
    let low = greatest_low (filter test ls) l.number (All-filter test (λ (k : Label). k.number ≤ l.number) ls h) in
    ap (λ r. greatest (map (λ (k : Label). k.number) r)) all
    ∙ (ap greatest (numbers_push (filter test ls) l) ∙ (greatest_push (map (λ (k : Label). k.number) (filter test ls)) l.number ∙ omega (arith, low)))

last_fails : (test : Label → Bool) (ls : List Label) (l : Label) → test l ≡ false → last_number test (ls ++ l ∷ []) ≡ last_number test ls
last_fails test ls l fails =
    let none : filter test (l ∷ []) ≡ [] = rw fails refl in
    ap (λ r. greatest (map (λ (k : Label). k.number) r)) (filter-append test ls (l ∷ []) ∙ (ap (λ r. filter test ls ++ r) none ∙ append-nil (filter test ls)))

-- a queue's labels with one more
on_other : (at : QueueAt) (ls : List Label) (l : Label) → same_queue l.at at ≡ false → on_queue at (ls ++ l ∷ []) ≡ on_queue at ls
on_other at ls l differ = (let none : on_queue at (l ∷ []) ≡ [] = rw differ refl in on_queue-append at ls (l ∷ []) ∙ (ap (λ r. on_queue at ls ++ r) none ∙ append-nil (on_queue at ls)))

on_same : (ls : List Label) (l : Label) → on_queue l.at (ls ++ l ∷ []) ≡ on_queue l.at ls ++ l ∷ []
on_same ls l = (let one : on_queue l.at (l ∷ []) ≡ l ∷ [] = rw (same_queue_itself l.at) refl in on_queue-append l.at ls (l ∷ []) ∙ ap (λ r. on_queue l.at ls ++ r) one)

-- the last use on each queue, where one more label touches the block
use_after : (labels : List Label) (l : Label) (b q : ℕ) → IsNext labels l → touches_block b l ≡ true → last_use l.at.device (labels ++ l ∷ []) b q ≡ cond (q == l.at.queue) l.number (last_use l.at.device labels b q)
use_after labels l b q next passes_it = elim (cases_Bool (q == l.at.queue)) [
  | inl same ↦ rw same (by_queue q (eqb q l.at.queue same))
  | inr differ ↦
      let at : QueueAt = record { device = l.at.device; queue = q } in
      let other : same_queue l.at at ≡ false = apart (l.at.device == l.at.device) (l.at.queue == q) (turned l.at.queue q differ) in
      rw differ (ap (last_number (touches_block b)) (on_other at labels l other))
]
  where
    eqb : (a c : ℕ) → (a == c) ≡ true → a ≡ c
    eqb a c h = eqb-true a c h

    turned : (a c : ℕ) → (c == a) ≡ false → (a == c) ≡ false
    turned a c h = ne_eqb a c (λ e. (let w : true ≡ false = sym (eq-eqb c a (sym e)) ∙ h in cc))

    apart : (x y : Bool) → y ≡ false → (x && y) ≡ false
    apart true y h = h
    apart false y h = refl

    by_queue : (k : ℕ) → k ≡ l.at.queue → last_use l.at.device (labels ++ l ∷ []) b k ≡ l.number
    by_queue k e = rw e (ap (last_number (touches_block b)) (on_same labels l) ∙ last_passes (touches_block b) (on_queue l.at labels) l passes_it next.highest)

-- the first that passes, where one more stands behind
find_push : (test : Label → Bool) (ls : List Label) (l : Label) → test l ≡ false → find test (ls ++ l ∷ []) ≡ find test ls
find_push test [] l fails = rw fails refl
find_push test (k ∷ ls) l fails = elim (test k) as (λ v. cond v (Some k) (find test (ls ++ l ∷ [])) ≡ cond v (Some k) (find test ls)) [ true ↦ refl | false ↦ find_push test ls l fails ]

find_new : (test : Label → Bool) (ls : List Label) (l : Label) → find test ls ≡ None → test l ≡ true → find test (ls ++ l ∷ []) ≡ Some l
find_new test [] l none passes_it = rw passes_it refl
find_new test (k ∷ ls) l none passes_it = elim (cases_Bool (test k)) [
  | inl passes ↦ (let w : Some k ≡ None = rw passes at none in absurd (cc))
  | inr fails ↦ rw fails (find_new test ls l (rw fails at none) passes_it)
]

use_same : (labels : List Label) (l : Label) (b q : ℕ) → touches_block b l ≡ false → last_use l.at.device (labels ++ l ∷ []) b q ≡ last_use l.at.device labels b q
use_same labels l b q no_touch =
    let at : QueueAt = record { device = l.at.device; queue = q } in
    elim (cases_Bool (same_queue l.at at)) [
      | inl same ↦
          let one : on_queue at (l ∷ []) ≡ l ∷ [] = rw same refl in
          ap (last_number (touches_block b)) (on_queue-append at labels (l ∷ []) ∙ ap (λ r. on_queue at labels ++ r) one) ∙ last_fails (touches_block b) (on_queue at labels) l no_touch
      | inr differ ↦ ap (last_number (touches_block b)) (on_other at labels l differ)
    ]

makes_none : (b : ℕ) (l : Label) → touches_block b l ≡ false → makes_block b l ≡ false
makes_none b l h = (or_parts (makes_block b l) (has_number _ b) h).0

touches_made : (b : ℕ) (l : Label) → makes_block b l ≡ true → touches_block b l ≡ true
touches_made b l passes_it = rw passes_it refl

maker_same : (labels : List Label) (l : Label) (b : ℕ) → makes_block b l ≡ false → maker_in l.at.device b (labels ++ l ∷ []) ≡ maker_in l.at.device b labels
maker_same labels l b fails = find_push (λ (k : Label). (k.at.device == l.at.device) && makes_block b k) labels l (rw fails (elim (l.at.device == l.at.device) as (λ v. (v && false) ≡ false) [ true ↦ refl | false ↦ refl ]))

same_uses : (f g : ℕ → ℕ) (qs : List ℕ) → ((q : ℕ) → g q ≡ f q) → map g qs ≡ map f qs
same_uses f g [] h = refl
same_uses f g (q ∷ qs) h = rw (h q, same_uses f g qs h) refl

pub notes_follow : NotesFollow
unfolding note_of
notes_follow labels l b next =
    let d = l.at.device in
    let uses = λ (passes_it : touches_block b l ≡ true). set_queue (last_use d labels b) (last_use d (labels ++ l ∷ []) b) l.at.queue l.number next.queue (λ q. use_after labels l b q next passes_it) in (
      (λ none made.
          let found : maker_in d b (labels ++ l ∷ []) ≡ Some l = find_new (λ (k : Label). (k.at.device == d) && makes_block b k) labels l none (and_from (l.at.device == d) (makes_block b l) (eq-eqb d d refl) made) in
          rw (found, uses (touches_made b l made)) refl),
      (λ fails touches. rw (maker_same labels l b fails, uses touches) refl),
      (λ fails. rw (maker_same labels l b (makes_none b l fails), same_uses (last_use d labels b) (last_use d (labels ++ l ∷ []) b) every_queue (λ q. use_same labels l b q fails)) refl),
    )

-- a label of another device changes no note
pub note_beside : (device : ℕ) (labels : List Label) (l : Label) (b : ℕ) → (l.at.device == device) ≡ false → note_of device (labels ++ l ∷ []) b ≡ note_of device labels b
unfolding note_of
note_beside device labels l b away =
    let test = λ (k : Label). (k.at.device == device) && makes_block b k in
    let maker : maker_in device b (labels ++ l ∷ []) ≡ maker_in device b labels = find_push test labels l (rw away refl) in
    let uses = same_uses (last_use device labels b) (last_use device (labels ++ l ∷ []) b) every_queue
    (λ q.
    let at : QueueAt = record { device = device; queue = q } in
    let other : same_queue l.at at ≡ false = rw away refl in
    ap (last_number (touches_block b)) (on_other at labels l other)) in
    rw (maker, uses) refl

-- nor does one that touches no block, of whatever device
pub note_untouched : (device : ℕ) (labels : List Label) (l : Label) (b : ℕ) → touches_block b l ≡ false → note_of device (labels ++ l ∷ []) b ≡ note_of device labels b
unfolding note_of
note_untouched device labels l b fails = elim (cases_Bool (l.at.device == device)) [
  | inl here ↦
      subst (λ d. note_of d (labels ++ l ∷ []) b ≡ note_of d labels b) (eqb-true l.at.device device here)
      (rw (maker_same labels l b (makes_none b l fails), same_uses (last_use l.at.device labels b) (last_use l.at.device (labels ++ l ∷ []) b) every_queue (λ q. use_same labels l b q fails)) refl)
  | inr away ↦ note_beside device labels l b away
]

-- the last that passes is no later than a bound on all that do
last_most : (test : Label → Bool) (ls : List Label) (n : ℕ) → ((m : Label) → Contains ls m → test m ≡ true → m.number ≤ n) → last_number test ls ≤ n
last_most test [] n h = omega arith
last_most test (k ∷ ls) n h =
    let ih = last_most test ls n (λ m c passes_it. h m (member_rest m k ls c) passes_it) in
    elim (cases_Bool (test k)) [
      | inl passes_it ↦ (let first = h k (member_first k ls) passes_it in rw passes_it (omega (arith, ih, first)))
      | inr fails ↦ rw fails ih
    ]

-- what is found is a member, and passes
pub find_is : (test : Label → Bool) (ls : List Label) (l : Label) → find test ls ≡ Some l → Contains ls l × (test l ≡ true)
find_is test [] l e = absurd (cc)
find_is test (k ∷ ls) l e = elim (cases_Bool (test k)) [
  | inl passes_it ↦ (let same : k ≡ l = some_is k l (rw passes_it at e) in (subst (λ z. Contains (k ∷ ls) z) same (member_first k ls), ap test (sym same) ∙ passes_it))
  | inr fails ↦ (let f = find_is test ls l (rw fails at e) in (member_rest l k ls f.0, f.1))
]
  where
    some_is : (x y : Label) → Some x ≡ Some y → x ≡ y
    some_is x y h = cc

-- the last batch of a queue that made a block is the maker, where that is one of the queue
last_made : (device : ℕ) (labels : List Label) (b q : ℕ) → HasOneMaker device labels b
    → last_number (makes_block b) (on_queue (record { device = device; queue = q }) labels) ≡ cond (queue_made (maker_in device b labels) == q) (number_made (maker_in device b labels)) 0
last_made device labels b q one = by_maker (maker_in device b labels) refl
  where
    at : QueueAt
    at = record { device = device; queue = q }

    test : Label → Bool
    test l = (l.at.device == device) && makes_block b l

    here : (m : Label) → Contains (on_queue at labels) m → (m.at ≡ at) × Contains labels m
    here m c = (let f = member_filter (λ (l : Label). same_queue l.at at) labels m c in (same_queue_is m.at at f.0, f.1))

    by_maker : (o : Option Label) → maker_in device b labels ≡ o → last_number (makes_block b) (on_queue at labels) ≡ cond (queue_made o == q) (number_made o) 0
    by_maker None e =
        let none = last_most (makes_block b) (on_queue at labels) 0 (λ m c passes_it.
        (let h = here m c in let w : Some m ≡ None = sym (one m h.1 (ap (λ (z : QueueAt). z.device) h.0) passes_it) ∙ e in absurd (cc))) in
        elim (0 == q) as (λ v. last_number (makes_block b) (on_queue at labels) ≡ cond v 0 0) [ true ↦ omega (arith, none) | false ↦ omega (arith, none) ]
    by_maker (Some k) e =
        let f = find_is test labels k e in
        let parts = and_parts (k.at.device == device) (makes_block b k) f.1 in
        let is_it = λ (m : Label) (c : Contains (on_queue at labels) m) (passes_it : makes_block b m ≡ true). (let h = here m c in let w : Some m ≡ Some k = sym (one m h.1 (ap (λ (z : QueueAt). z.device) h.0) passes_it) ∙ e in some_is m k w) in
        elim (cases_Bool (k.at.queue == q)) [
          | inl same ↦
              let queue : k.at ≡ at = ap (λ n. record { device = n; queue = k.at.queue }) (eqb-true k.at.device device parts.0) ∙ ap (λ n. record { device = device; queue = n }) (eqb-true k.at.queue q same) in
              let there : Contains (on_queue at labels) k = filter_member (λ (l : Label). same_queue l.at at) labels k (ap (λ z. same_queue z at) queue ∙ same_queue_itself at) f.0 in
              let low = last_least (makes_block b) (on_queue at labels) k parts.1 there in
              let most = last_most (makes_block b) (on_queue at labels) k.number (λ m c passes_it. (let s : m.number ≡ k.number = ap (λ (z : Label). z.number) (is_it m c passes_it) in omega (arith, s))) in
              rw same (omega (arith, low, most))
          | inr differ ↦
              let none = last_most (makes_block b) (on_queue at labels) 0 (λ m c passes_it.
              (let h = here m c in
              let s : k.at.queue ≡ q = ap (λ (z : Label). z.at.queue) (sym (is_it m c passes_it)) ∙ ap (λ (z : QueueAt). z.queue) h.0 in
              let w : true ≡ false = sym (eq-eqb k.at.queue q s) ∙ differ in absurd (cc))) in
              rw differ (omega (arith, none))
        ]
      where
        some_is : (x y : Label) → Some x ≡ Some y → x ≡ y
        some_is x y h = cc

made_all : (device : ℕ) (labels : List Label) (q : ℕ) (used : List ℕ) → ((b : ℕ) → Contains used b → HasOneMaker device labels b)
    → map (λ b. last_number (makes_block b) (on_queue (record { device = device; queue = q }) labels)) used ≡ map (made_at q) (map (note_of device labels) used)
unfolding note_of
made_all device labels q [] one = refl
made_all device labels q (b ∷ used) one =
    rw (last_made device labels b q (one b (member_first b used)), made_all device labels q used (λ k c. one k (member_rest k b used c))) refl

used_all : (device : ℕ) (labels : List Label) (q : ℕ) (blocks : List ℕ) → q < QUEUES
    → map (λ b. last_number (touches_block b) (on_queue (record { device = device; queue = q }) labels)) blocks ≡ map (used_at q) (map (note_of device labels) blocks)
unfolding note_of
used_all device labels q [] low = refl
used_all device labels q (b ∷ blocks) low = rw (at_queue (last_use device labels b) q low, used_all device labels q blocks low) refl

pub notes_tell : NotesTell
notes_tell device labels named used released q low one =
    let first = made_all device labels q used one in
    let second = used_all device labels q released low in
    rw (first, second) refl

-- a block that no label of the device touches has no note
pub note_fresh : (device : ℕ) (labels : List Label) (b : ℕ) → ((m : Label) → Contains labels m → m.at.device ≡ device → touches_block b m ≡ false) → note_of device labels b ≡ no_note
unfolding note_of
note_fresh device labels b none = rw (find_none labels (λ m c. c), none_each (last_use device labels b) unused) refl
  where
    test : Label → Bool
    test l = (l.at.device == device) && makes_block b l

    fails : (l : Label) → Contains labels l → test l ≡ false
    fails l c = elim (cases_Bool (l.at.device == device)) [
      | inl here ↦ rw here (makes_none b l (none l c (eqb-true l.at.device device here)))
      | inr away ↦ rw away refl
    ]

    find_none : (ls : List Label) → ((m : Label) → Contains ls m → Contains labels m) → find test ls ≡ None
    find_none [] sub = refl
    find_none (l ∷ ls) sub = rw (fails l (sub l (member_first l ls))) (find_none ls (λ m c. sub m (member_rest m l ls c)))

    unused : (q : ℕ) → last_use device labels b q ≡ 0
    unused q =
        let at : QueueAt = record { device = device; queue = q } in
        let low = last_most (touches_block b) (on_queue at labels) 0 (λ m c touches.
        (let f = member_filter (λ (l : Label). same_queue l.at at) labels m c in
        let w : true ≡ false = sym touches ∙ none m f.1 (ap (λ (z : QueueAt). z.device) (same_queue_is m.at at f.0)) in absurd (cc))) in
        omega (arith, low)
