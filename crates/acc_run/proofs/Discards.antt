-- What is left of each queue, as it is listed.
use Rattle.std.proofs.Common.{inl, inr, ◌≡◌, ◌≢◌, ℕ, zero, suc, ◌+◌, ◌-◌, ◌<◌, ◌≤◌, false, List, [], ◌∷◌, ◌++◌, length, take, drop, get_or, Some, None, refl, sym, ap, subst, ◌∙◌, arith}
use Rattle.std.specs.Prelude.{map, if◌then◌else◌}
use Rattle.std.proofs.lemmas.Bool.{cases_Bool, cases_lt}
use Rattle.std.proofs.lemmas.Grind.{flat_map-append}
use Rattle.std.proofs.lemmas.List.{append_assoc, append-nil, drop_more, length-append, length-drop, map-append, take_all}
use Rattle.std.proofs.Math.Seq.{drop-append_seam, drop-append-add}
use Rattle.acc_base.specs.Configurations.{Configuration}
use Rattle.acc_base.specs.declared.ids.QueueAt.{QueueAt}
use Rattle.acc_base.specs.Queues.{at_seat, queue_count, same_queue, seat}
use Rattle.acc_base.proofs.SameQueue.{same_queue_is, same_queue_itself}
use Rattle.acc_batch.specs.declared.label.Label.{Label}
use Rattle.acc_batch.specs.declared.label.OpLabel.{OpLabel}
use Rattle.acc_batch.specs.Labels.{ops_of}
use Rattle.acc_batch.proofs.Labels.{ops_of-append}
use Rattle.acc_host.specs.declared.outcome.Discarded.{Discarded}
use Rattle.acc_host.specs.Discards.{discarded_on}
use Rattle.acc_place.specs.Histories.{IsQueue}
use Rattle.acc_work.proofs.TakenLabels.{Last, last_is}
use Rattle.acc_work.specs.Lanes.{last_of, ops_of_last}
use Rattle.acc_work.specs.Logs.{performed}
use Rattle.acc_work.specs.Works.{WorkView, KeepsOrder, lane_at}
use Rattle.acc_run.specs.Finishing.{left_on}
use Rattle.acc_run.specs.PlaceSides.{PlaceSideView}
use Rattle.acc_run.specs.WorkSides.{WorkSideView}
use Rattle.acc_run.specs.inner.Discarding.{discarded, discards}
use Rattle.acc_run.proofs.EachQueue.{at_each, seat_is_queue, there_or_not}

-- one batch more is listed
pub batch_listed : (at : QueueAt) (before list longer : List Discarded) (labels : List Label) (i : ℕ) (x : Label) → x ≡ get_or labels i x → i < length labels → longer ≡ list ++ map (discarded at) x.ops
    → list ++ map (discarded at) (ops_of (drop i labels)) ≡ before → longer ++ map (discarded at) (ops_of (drop (i + 1) labels)) ≡ before
batch_listed at before list longer labels i x is there e all =
    let f = discarded at in
    let rest = ops_of (drop (i + 1) labels) in
    let here : drop i labels ≡ x ∷ drop (i + 1) labels = drop_more labels i x there ∙ ap (λ y. y ∷ drop (i + 1) labels) (sym is) in
    ap (λ l. l ++ map f rest) e
    ∙ (append_assoc list (map f x.ops) (map f rest)
    ∙ (ap (λ l. list ++ l) (sym (map-append f x.ops rest))
    ∙ (ap (λ (ls : List Label). list ++ map f (ops_of ls)) (sym here)
    ∙ all)))

-- ## What is left of a lane

none_left : (taken : List Label) (done left : List OpLabel) → done ++ left ≡ ops_of taken → last_of taken ≡ None → left ≡ []
none_left [] [] left e none = e
none_left [] (d ∷ done) left e none = cc
none_left (l ∷ ls) done left e none = (let s : Last (l ∷ ls) = last_is l ls in absurd (some_is (sym s.last ∙ none)))
  where
    some_is : {X : Type 0} {x : X} → Some x ≡ None → ⊥
    some_is e = cc

last_left : (taken : List Label) (done left : List OpLabel) (label : Label) → done ++ left ≡ ops_of taken → length left ≤ ops_of_last (last_of taken) → last_of taken ≡ Some label
    → drop (length label.ops - length left) label.ops ≡ left
last_left [] done left label e low is = absurd cc
last_left (l ∷ ls) done left label e low is =
    let s : Last (l ∷ ls) = last_is l ls in
    let one : s.label ≡ label = some_same (sym s.last ∙ is) in
    let ops = s.label.ops in
    let early = ops_of s.earlier in
    let all : ops_of (l ∷ ls) ≡ early ++ ops = ap ops_of s.split ∙ (ops_of-append s.earlier (s.label ∷ []) ∙ ap (λ r. early ++ r) (append-nil ops)) in
    let count : length done + length left ≡ length early + length ops = sym (length-append done left) ∙ (ap length (e ∙ all) ∙ length-append early ops) in
    let few : length left ≤ length ops = rw s.last at low in
    let place : length done ≡ length early + (length ops - length left) = omega (arith, count, few) in
    ap (λ (m : Label). drop (length m.ops - length left) m.ops) (sym one)
    ∙ (sym (drop-append-add early ops (length ops - length left))
    ∙ (ap (λ n. drop n (early ++ ops)) (sym place)
    ∙ (ap (drop (length done)) (sym (e ∙ all))
    ∙ drop-append_seam done left)))
  where
    some_same : {X : Type 0} {x y : X} → Some x ≡ Some y → x ≡ y
    some_same e = cc

pub last_in_lane : (w : WorkView) (at : QueueAt) (label : Label) → KeepsOrder w → last_of (lane_at w at).taken ≡ Some label → drop (length label.ops - length (lane_at w at).left) label.ops ≡ (lane_at w at).left
last_in_lane w at label k is = last_left (lane_at w at).taken (performed at w.work) (lane_at w at).left label (k.order at).in_order (k.order at).batches.begun is

pub all_behind : {X : Type 0} (xs : List X) (k : ℕ) → take (length xs - k) (drop k xs) ≡ drop k xs
all_behind xs k = take_all (length xs - k) (drop k xs) (omega (arith, length-drop k xs))

-- ## The list of all queues, queue by queue

mine : (at : QueueAt) (ops : List OpLabel) → discarded_on at (map (discarded at) ops) ≡ ops
mine at [] = refl
mine at (op ∷ ops) = rw (same_queue_itself at) (ap (λ r. op ∷ r) (mine at ops))

others : (at other : QueueAt) (ops : List OpLabel) → same_queue at other ≡ false → discarded_on other (map (discarded at) ops) ≡ []
others at other [] differ = refl
others at other (op ∷ ops) differ = rw differ (others at other ops differ)

on_append : (at : QueueAt) (xs ys : List Discarded) → discarded_on at (xs ++ ys) ≡ discarded_on at xs ++ discarded_on at ys
on_append at xs ys = flat_map-append (λ (d : Discarded). if same_queue d.at at then d.what ∷ [] else []) xs ys

seat_at : (k : ℕ) → seat (at_seat k) ≡ k
seat_at k = omega arith

apart : (k n : ℕ) → k ≢ n → same_queue (at_seat k) (at_seat n) ≡ false
apart k n differ = elim (cases_Bool (same_queue (at_seat k) (at_seat n))) [
  | inl same ↦ absurd (differ (sym (seat_at k) ∙ (ap seat (same_queue_is (at_seat k) (at_seat n) same) ∙ seat_at n)))
  | inr differs ↦ differs
]

-- the list of one queue more
one_more_queue : (p : PlaceSideView) (w : WorkSideView) (at : QueueAt) (n : ℕ)
    → discarded_on at (discards p w (suc n)) ≡ discarded_on at (discards p w n) ++ discarded_on at (map (discarded (at_seat n)) (left_on p w (at_seat n)))
one_more_queue p w at n = on_append at (discards p w n) (map (discarded (at_seat n)) (left_on p w (at_seat n)))

-- a queue that isn't among the first ones has nothing in their list
none_listed : (p : PlaceSideView) (w : WorkSideView) (at : QueueAt) (n : ℕ) → ((k : ℕ) → k < n → same_queue (at_seat k) at ≡ false) → discarded_on at (discards p w n) ≡ []
none_listed p w at zero differ = refl
none_listed p w at (suc n) differ =
    one_more_queue p w at n
    ∙ (ap (λ ops. ops ++ discarded_on at (map (discarded (at_seat n)) (left_on p w (at_seat n)))) (none_listed p w at n (λ k low. differ k (omega (arith, low))))
    ∙ others (at_seat n) at (left_on p w (at_seat n)) (differ n (omega arith)))

-- one that is has what is left of it
one_listed : (p : PlaceSideView) (w : WorkSideView) (k n : ℕ) → k < n → discarded_on (at_seat k) (discards p w n) ≡ left_on p w (at_seat k)
one_listed p w k zero low = absurd (omega (arith, low))
one_listed p w k (suc n) low = elim (cases_lt k n) [
  | inl less ↦
      let at = at_seat k in
      one_more_queue p w at n
      ∙ (ap (λ ops. discarded_on at (discards p w n) ++ ops) (others (at_seat n) at (left_on p w (at_seat n)) (apart n k (λ same. omega (arith, less, same))))
      ∙ (append-nil (discarded_on at (discards p w n)) ∙ one_listed p w k n less))
  | inr past ↦
      let last : k ≡ n = omega (arith, low, past) in
      let at = at_seat n in
      subst (λ j. discarded_on (at_seat j) (discards p w (suc n)) ≡ left_on p w (at_seat j)) (sym last)
      (one_more_queue p w at n
      ∙ (ap (λ ops. ops ++ discarded_on at (map (discarded at) (left_on p w at))) (none_listed p w at n (λ j less. apart j n (λ same. omega (arith, less, same))))
      ∙ mine at (left_on p w at)))
]

-- So each queue has, where one that isn't there has nothing left.
pub all_listed : (config : Configuration) (p : PlaceSideView) (w : WorkSideView) → ((at : QueueAt) → (IsQueue config at → ⊥) → left_on p w at ≡ []) → (at : QueueAt) → discarded_on at (discards p w (queue_count config)) ≡ left_on p w at
all_listed config p w none at =
    let n = queue_count config in
    elim (there_or_not config at) [
      | inl there ↦ at_each (λ q. discarded_on q (discards p w n) ≡ left_on p w q) config n (omega arith) (λ k low. one_listed p w k n low) at there
      | inr absent ↦
          none_listed p w at n (λ k low. other k (absent_at k low absent)) ∙ sym (none at absent)
    ]
  where
    absent_at : (k : ℕ) → k < queue_count config → (IsQueue config at → ⊥) → at_seat k ≡ at → ⊥
    absent_at k low absent same = absent (subst (IsQueue config) same (seat_is_queue config k low))

    other : (k : ℕ) → (at_seat k ≡ at → ⊥) → same_queue (at_seat k) at ≡ false
    other k differ = elim (cases_Bool (same_queue (at_seat k) at)) [
      | inl same ↦ absurd (differ (same_queue_is (at_seat k) at same))
      | inr differs ↦ differs
    ]
