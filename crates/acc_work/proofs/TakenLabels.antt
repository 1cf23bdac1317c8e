-- The batches that a queue took.
use Rattle.std.proofs.Common.{◌≡◌, ℕ, suc, ◌+◌, ◌-◌, ◌<◌, ◌≤◌, List, [], ◌∷◌, ◌++◌, length, refl, sym, ap, ◌∙◌, arith, Some}
use Rattle.std.specs.Prelude.{slice_get, if◌then◌else◌}
use Rattle.std.proofs.lemmas.Bool.{lt-ltb}
use Rattle.std.proofs.lemmas.List.Elements.{All-push}
use Rattle.std.proofs.lemmas.List.{append-nil, length-append}
use Rattle.acc_base.specs.declared.ids.QueueAt.{QueueAt}
use Rattle.acc_batch.specs.declared.label.Label.{Label}
use Rattle.acc_batch.specs.declared.label.OpLabel.{OpLabel}
use Rattle.acc_batch.specs.Labels.{ops_of, whole_batches, AllAt}
use Rattle.acc_batch.proofs.Labels.{ops_of-append}
use Rattle.acc_batch.proofs.WholeBatches.{whole_behind, none_whole}
use Rattle.acc_base.specs.declared.config.TheConstants.{MAX_HOSTS}
use Rattle.acc_work.specs.Lanes.{LaneView, IsLane, lane_with_batch, last_of, ops_of_last, lane_done}
use Rattle.acc_work.specs.Logs.{performed, batches_done}
use Rattle.acc_work.specs.Works.{WorkView, KeepsOrder, lane_at, taken_labels}

-- a list that isn't empty is its last item behind the others
pub record Last (labels : List Label) : Type 0 where
  pub earlier : List Label
  pub label : Label
  pub split : labels ≡ earlier ++ label ∷ []
  pub last : last_of labels ≡ Some label

pub last_is : (l : Label) (ls : List Label) → Last (l ∷ ls)
last_is l [] = record { earlier = []; label = l; split = refl; last = refl }
last_is l (k ∷ ls) =
    let rest = last_is k ls in
    let place : length (l ∷ k ∷ ls) - 1 ≡ suc (length (k ∷ ls) - 1) = omega arith in
    record { earlier = l ∷ rest.earlier; label = rest.label; split = ap (λ r. l ∷ r) rest.split; last = ap (slice_get (l ∷ k ∷ ls)) place ∙ rest.last }

-- Where nothing is left all batches are performed, and else all but the last.
whole_all : (taken : List Label) (done : ℕ) → done ≡ length (ops_of taken) → whole_batches taken done ≡ length taken
whole_all taken done e =
    let behind = whole_behind taken [] done (omega (arith, e)) in
    ap (λ r. whole_batches r done) (sym (append-nil taken)) ∙ (behind ∙ omega arith)

whole_begun : (taken : List Label) (done left : ℕ) → done + left ≡ length (ops_of taken) → 0 < left → left ≤ ops_of_last (last_of taken) → whole_batches taken done ≡ length taken - 1
whole_begun [] done left e some low = absurd (omega (arith, low, some))
whole_begun (l ∷ ls) done left e some low = by_last (last_is l ls)
  where
    by_last : Last (l ∷ ls) → whole_batches (l ∷ ls) done ≡ length (l ∷ ls) - 1
    by_last s =
        let all : length (ops_of (l ∷ ls)) ≡ length (ops_of s.earlier) + length s.label.ops =
        ap (λ r. length (ops_of r)) s.split ∙ (ap length (ops_of-append s.earlier (s.label ∷ []) ∙ ap (λ r. ops_of s.earlier ++ r) (append-nil s.label.ops)) ∙ length-append (ops_of s.earlier) s.label.ops) in
        let few : left ≤ length s.label.ops = rw s.last at low in
        let behind = whole_behind s.earlier (s.label ∷ []) done (omega (arith, e, all, few)) in
        let short : done - length (ops_of s.earlier) < length s.label.ops = omega (arith, e, all, few, some) in
        let none = none_whole s.label [] (done - length (ops_of s.earlier)) short in
        ap (λ r. whole_batches r done) s.split ∙ omega (arith, behind, none, ap length s.split, length-append s.earlier (s.label ∷ []))

-- so many batches are performed of those that the lane was filled from
pub lane_tells : (lane : LaneView) (ops : List OpLabel) → IsLane lane → ops ++ lane.left ≡ ops_of lane.taken → whole_batches lane.taken (length ops) ≡ lane_done lane
lane_tells lane ops h e = by_left lane.left refl
  where
    count : length ops + length lane.left ≡ length (ops_of lane.taken)
    count = sym (length-append ops lane.left) ∙ ap length e

    by_left : (left : List OpLabel) → lane.left ≡ left → whole_batches lane.taken (length ops) ≡ lane_done lane
    by_left [] none = rw none (whole_all lane.taken (length ops) (omega (arith, count, ap length none)))
    by_left (op ∷ left) some =
        let more : 0 < length lane.left = omega (arith, ap length some) in
        whole_begun lane.taken (length ops) (length lane.left) count more h.begun
        ∙ sym (ap (λ b. if b then length lane.taken - 1 else length lane.taken) (lt-ltb 0 (length lane.left) more))

-- one more batch
pub all_at_more : (at : QueueAt) (ls : List Label) (l : Label) → AllAt at ls → l.at ≡ at → AllAt at (ls ++ l ∷ [])
all_at_more at [] l all here = (here, tt)
all_at_more at (k ∷ ls) l all here = (all.0, all_at_more at ls l all.1 here)

last_more : (ls : List Label) (l : Label) → last_of (ls ++ l ∷ []) ≡ Some l
last_more [] l = refl
last_more (k ∷ ls) l =
    let place : length (k ∷ ls ++ l ∷ []) - 1 ≡ suc (length (ls ++ l ∷ []) - 1) = omega (arith, length-append ls (l ∷ [])) in
    ap (slice_get (k ∷ ls ++ l ∷ [])) place ∙ last_more ls l

pub lane_filled : (lane : LaneView) (l : Label) → IsLane lane → 0 < length l.ops → l.host < MAX_HOSTS → IsLane (lane_with_batch lane l)
lane_filled lane l h some host = record {
  filled = All-push (λ (k : Label). 0 < length k.ops) lane.taken l h.filled some;
  hosts = All-push (λ (k : Label). k.host < MAX_HOSTS) lane.taken l h.hosts host;
  begun = rw (last_more lane.taken l) (omega arith);
}

pub order_filled : (lane : LaneView) (l : Label) (ops : List OpLabel) → ops ++ lane.left ≡ ops_of lane.taken → length lane.left ≤ 0 → ops ++ l.ops ≡ ops_of (lane.taken ++ l ∷ [])
order_filled lane l ops e none =
    let empty : lane.left ≡ [] = no_op lane.left none in
    let all : ops ≡ ops_of lane.taken = sym (append-nil ops) ∙ (ap (λ r. ops ++ r) (sym empty) ∙ e) in
    ap (λ r. r ++ l.ops) all ∙ sym (ops_of-append lane.taken (l ∷ []) ∙ ap (λ r. ops_of lane.taken ++ r) (append-nil l.ops))
  where
    no_op : (xs : List OpLabel) → length xs ≤ 0 → xs ≡ []
    no_op [] h = refl
    no_op (x ∷ xs) h = absurd (omega (arith, h))

-- How many batches a queue has performed, by its lane.
pub done_is : (w : WorkView) (at : QueueAt) → KeepsOrder w → batches_done (taken_labels w) w.work at ≡ lane_done (lane_at w at)
done_is w at h =
    let o = h.order at in
    ap (λ ls. whole_batches ls (length (performed at w.work))) (h.taken at) ∙ lane_tells (lane_at w at) (performed at w.work) o.batches o.in_order
