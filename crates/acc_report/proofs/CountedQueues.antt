-- How many operations each queue has, its close apart: one operation after another.
use Rattle.std.proofs.Common.{inl, inr, ◌≡◌, ℕ, ◌+◌, ◌*◌, ◌^◌, ◌<◌, ◌≤◌, Bool, true, false, cond, List, [], ◌∷◌, ◌++◌, length, take, get_or, reverse, refl, sym, ap, subst, ◌∙◌, arith}
use Rattle.std.specs.Prelude.{nat_lt, not, slice_index_or, slice_set}
use Rattle.std.proofs.lemmas.Bool.{and_from, and_parts, cases_Bool, lt-ltb, ltb-true}
use Rattle.std.proofs.lemmas.List.{append-nil, get_or-set_same, length-append, length-reverse, length-set, length-take, reverse-append, take_more}
use Rattle.std.proofs.lemmas.Grind.{flat_map-append}
use Rattle.std.proofs.lemmas.List.Elements.{filter-append}
use Rattle.acc_base.specs.declared.ids.QueueAt.{QueueAt}
use Rattle.acc_base.specs.declared.ids.TheConstants.{QUEUES}
use Rattle.acc_base.specs.Queues.{same_queue, seat}
use Rattle.acc_base.proofs.SameQueue.{same_queue_is}
use Rattle.acc_batch.proofs.Seats.{seat_kept, seat_there}
use Rattle.acc_batch.specs.declared.label.OpLabel.{OpLabel}
use Rattle.acc_host.specs.declared.outcome.Discarded.{Discarded}
use Rattle.acc_host.specs.Discards.{discarded_on}
use Rattle.acc_place.specs.Sound.{is_close}
use Rattle.acc_report.specs.Totals.{plain_ops}
use Rattle.acc_batch.specs.declared.entry.WorkEntry.{WorkEntry}
use Rattle.acc_batch.specs.declared.entry.WorkEntry.TheVariants as entry
use Rattle.acc_work.specs.Logs.{one_more, performed}
use Rattle.acc_report.specs.inner.Counting.{AreCounted, counted_behind, counted_with, has_seat, one_counted}

-- one more operation, which is a close or not
plain_close : (mine : Bool) (ops : List OpLabel) (op : OpLabel) → is_close op ≡ true → length (plain_ops (one_more mine ops op)) ≡ length (plain_ops ops)
plain_close false ops op close = refl
plain_close true ops op close =
    let none : plain_ops (op ∷ []) ≡ [] = rw close refl in
    let all = ap length (filter-append (λ (o : OpLabel). not (is_close o)) ops (op ∷ [])) in
    omega (arith, all, length-append (plain_ops ops) (plain_ops (op ∷ [])), ap length none)

plain_more : (ops : List OpLabel) (op : OpLabel) → is_close op ≡ false → length (plain_ops (ops ++ op ∷ [])) ≡ length (plain_ops ops) + 1
plain_more ops op plain =
    let one : plain_ops (op ∷ []) ≡ op ∷ [] = rw plain refl in
    let all = ap length (filter-append (λ (o : OpLabel). not (is_close o)) ops (op ∷ [])) in
    omega (arith, all, length-append (plain_ops ops) (plain_ops (op ∷ [])), ap length one)

-- a queue that is there has a count
seated : (devices : ℕ) (at : QueueAt) (counts : List ℕ) → length counts ≡ devices * QUEUES → at.device < devices → at.queue < QUEUES → has_seat at counts ≡ true
seated devices at counts all device queue =
    let low : seat at < length counts = omega (arith, all, device, queue) in
    and_from (nat_lt at.queue QUEUES) (nat_lt (seat at) (length counts)) (lt-ltb at.queue QUEUES queue) (lt-ltb (seat at) (length counts) low)

-- the own count
counted_own : (at : QueueAt) (counts : List ℕ) → has_seat at counts ≡ true → slice_index_or (one_counted at counts) (seat at) 0 ≡ slice_index_or counts (seat at) 0 + 1
counted_own at counts has =
    let parts = and_parts (nat_lt at.queue QUEUES) (nat_lt (seat at) (length counts)) has in
    let new = slice_index_or counts (seat at) 0 + 1 in
    ap (λ b. slice_index_or (cond b (slice_set counts (seat at) new) counts) (seat at) 0) has
    ∙ get_or-set_same counts (seat at) new 0 (ltb-true (seat at) (length counts) parts.1)

-- another queue's count stays
counted_other : (at other : QueueAt) (counts : List ℕ) → same_queue at other ≡ false → other.queue < QUEUES → slice_index_or (one_counted at counts) (seat other) 0 ≡ slice_index_or counts (seat other) 0
counted_other at other counts differ queue = elim (cases_Bool (has_seat at counts)) [
  | inl has ↦
      let parts = and_parts (nat_lt at.queue QUEUES) (nat_lt (seat at) (length counts)) has in
      let new = slice_index_or counts (seat at) 0 + 1 in
      let set = slice_set counts (seat at) new in
      ap (λ b. slice_index_or (cond b set counts) (seat other) 0) has
      ∙ (sym (seat_there 0 set other queue) ∙ (seat_kept 0 counts at other new (ltb-true at.queue QUEUES parts.0) differ ∙ seat_there 0 counts other queue))
  | inr none ↦ ap (λ b. slice_index_or (cond b (slice_set counts (seat at) (slice_index_or counts (seat at) 0 + 1)) counts) (seat other) 0) none
]

length_counted : (at : QueueAt) (counts : List ℕ) → length (one_counted at counts) ≡ length counts
length_counted at counts = elim (has_seat at counts) as (λ b. length (cond b (slice_set counts (seat at) (slice_index_or counts (seat at) 0 + 1)) counts) ≡ length counts) [
  | true ↦ length-set counts (seat at) (slice_index_or counts (seat at) 0 + 1)
  | false ↦ refl
]

-- one more of a queue
pub counted_more : (devices : ℕ) (before after : QueueAt → List OpLabel) (at : QueueAt) (op : OpLabel) (counts : List ℕ) → ((q : QueueAt) → after q ≡ one_more (same_queue at q) (before q) op)
    → AreCounted devices before counts → AreCounted devices after (counted_behind at op counts)
counted_more devices before after at op counts more h = elim (cases_Bool (is_close op)) [
  | inl close ↦
      rw close (record {
        all = h.all;
        each = λ q device queue. h.each q device queue ∙ sym (ap (λ (ops : List OpLabel). length (plain_ops ops)) (more q) ∙ plain_close (same_queue at q) (before q) op close);
      })
  | inr plain ↦ rw plain (record { all = length_counted at counts ∙ h.all; each = λ q device queue. each q device queue plain })
]
  where
    each : (q : QueueAt) → q.device < devices → q.queue < QUEUES → is_close op ≡ false → slice_index_or (one_counted at counts) (seat q) 0 ≡ length (plain_ops (after q))
    each q device queue plain = elim (cases_Bool (same_queue at q)) [
      | inl same ↦
          let one = same_queue_is at q same in
          let has : has_seat at counts ≡ true = subst (λ (x : QueueAt). has_seat x counts ≡ true) (sym one) (seated devices q counts h.all device queue) in
          let own : slice_index_or (one_counted at counts) (seat q) 0 ≡ slice_index_or counts (seat q) 0 + 1 =
          subst (λ (x : QueueAt). slice_index_or (one_counted at counts) (seat x) 0 ≡ slice_index_or counts (seat x) 0 + 1) one (counted_own at counts has) in
          own ∙ (ap (λ n. n + 1) (h.each q device queue) ∙ (sym (plain_more (before q) op plain) ∙ sym (ap (λ (ops : List OpLabel). length (plain_ops ops)) (more q ∙ ap (λ b. one_more b (before q) op) same))))
      | inr differ ↦
          counted_other at q counts differ queue ∙ (h.each q device queue ∙ sym (ap (λ (ops : List OpLabel). length (plain_ops ops)) (more q ∙ ap (λ b. one_more b (before q) op) differ)))
    ]

-- ## The work log

pub entry_counted : (devices : ℕ) (before : List WorkEntry) (e : WorkEntry) (counts : List ℕ)
    → AreCounted devices (λ at. performed at before) counts → AreCounted devices (λ at. performed at (e ∷ before)) (counted_with e counts)
entry_counted devices before (entry.Op at op) counts h = counted_more devices (λ q. performed q before) (λ q. performed q (entry.Op at op ∷ before)) at op counts (λ q. refl) h
entry_counted devices before (entry.Item host what) counts h = record { all = h.all; each = h.each }

-- ## The list of what was discarded

-- one more
pub one_discarded : (list : List Discarded) (i : ℕ) (d : Discarded) → i < length list → d ≡ get_or list i d → (q : QueueAt) → discarded_on q (take (i + 1) list) ≡ one_more (same_queue d.at q) (discarded_on q (take i list)) d.what
one_discarded list i d low is q =
    let before = discarded_on q (take i list) in
    let mine : Bool → List OpLabel = λ b. cond b (d.what ∷ []) [] in
    let all : take (i + 1) list ≡ take i list ++ d ∷ [] = take_more list i d low ∙ ap (λ (x : Discarded). take i list ++ x ∷ []) (sym is) in
    ap (discarded_on q) all
    ∙ (flat_map-append (λ (x : Discarded). cond (same_queue x.at q) (x.what ∷ []) []) (take i list) (d ∷ [])
    ∙ (ap (λ (ops : List OpLabel). before ++ ops) (append-nil (mine (same_queue d.at q)))
    ∙ elim (same_queue d.at q) as (λ b. before ++ mine b ≡ one_more b before d.what) [ true ↦ refl | false ↦ append-nil before ]))

pub discard_counted : (devices : ℕ) (list : List Discarded) (i : ℕ) (d : Discarded) (counts : List ℕ) → i < length list → d ≡ get_or list i d
    → AreCounted devices (λ at. discarded_on at (take i list)) counts → AreCounted devices (λ at. discarded_on at (take (i + 1) list)) (counted_behind d.at d.what counts)
discard_counted devices list i d counts low is h =
    counted_more devices (λ q. discarded_on q (take i list)) (λ q. discarded_on q (take (i + 1) list)) d.at d.what counts (one_discarded list i d low is) h
