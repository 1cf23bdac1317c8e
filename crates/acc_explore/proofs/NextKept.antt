-- The operation that comes next on a queue, and can be performed, goes on to, with more batches behind and more that is performed.
use Rattle.std.proofs.Common.{◌≡◌, ℕ, ◌<◌, ◌≤◌, true, List, ◌∷◌, ◌++◌, length, take, drop, ap, ◌∙◌, Some, None, Option, arith}
use Rattle.std.proofs.lemmas.Bool.{and_parts, and_from, le-leb, leb-true}
use Rattle.acc_base.specs.declared.ids.QueueAt.{QueueAt}
use Rattle.acc_batch.specs.declared.label.Label.{Label}
use Rattle.acc_batch.specs.declared.label.OpLabel.{OpLabel}
use Rattle.acc_batch.specs.declared.label.OpLabel.TheVariants.{Make, CopyIn, CopyOut, Release, Run, Await, Close}
use Rattle.acc_batch.specs.Labels.{on_queue, ops_of, batch_at, whole_batches}
use Rattle.acc_batch.proofs.Labels.{ops_of-take-le}
use Rattle.acc_batch.proofs.WholeBatches.{whole-more}
use Rattle.acc_core.specs.Machine.{State, can_perform, labels_of, ops_left, taken_on}
use Rattle.acc_work.specs.Logs.{await_allows, batches_done, host_allows, items_of, performed}
use Rattle.acc_explore.proofs.MoreBatches.{batch_stays, left_stays, left_within, whole_grows}

-- This operation comes next of what a queue has taken, and can be performed.
pub record ComesNext (at : QueueAt) (w : State) (op : OpLabel) : Type 0 where
  pub later : List OpLabel
  pub left : ops_left w (labels_of w) at ≡ op ∷ later
  pub can : can_perform (labels_of w) w.work at op ≡ true

-- What was taken and performed of the queue stays, all batches with maybe more behind them, and no fewer operations and items.
pub record LeavesNext (at : QueueAt) (w s : State) : Type 0 where
  pub labels : (q : QueueAt) → (more : List Label) × (on_queue q (labels_of s) ≡ on_queue q (labels_of w) ++ more)
  pub taken : taken_on s at ≡ taken_on w at
  pub same : performed at s.work ≡ performed at w.work
  pub done : (q : QueueAt) → length (performed q w.work) ≤ length (performed q s.work)
  pub items : (host : ℕ) → items_of host w.work ≤ items_of host s.work

module _ (at : QueueAt) (w : State) (op : OpLabel) (c : ComesNext at w op) where
  -- it was placed, and not performed
  pub next_placed : length (performed at w.work) < length (ops_of (on_queue at (labels_of w)))
  next_placed =
      let first = on_queue at (labels_of w) in
      let n = length (performed at w.work) in
      omega (arith, left_within n (ops_of (take (taken_on w at) first)) op c.later c.left, ops_of-take-le (taken_on w at) first)

  module _ (s : State) (l : LeavesNext at w s) where
    abbrev first : List Label
    first = on_queue at (labels_of w)

    abbrev now : List Label
    now = on_queue at (labels_of s)

    abbrev n : ℕ
    n = length (performed at w.work)

    left_kept : (later : List OpLabel) × (ops_left s (labels_of s) at ≡ op ∷ later)
    left_kept =
        let g = left_stays first (l.labels at).0 (taken_on w at) n op c.later c.left in (
          c.later ++ g.0,
          ap (λ (ops : List OpLabel). drop (length ops) (ops_of (take (taken_on s at) now))) l.same
              ∙ (ap (λ t. drop n (ops_of (take t now))) l.taken
              ∙ (ap (λ (ls : List Label). drop n (ops_of (take (taken_on w at) ls))) (l.labels at).1 ∙ g.1)),
        )

    done_grows : (q : QueueAt) → batches_done (labels_of w) w.work q ≤ batches_done (labels_of s) s.work q
    done_grows q =
        let so_many = length (performed q s.work) in
        omega (
          arith,
          whole_grows (on_queue q (labels_of w)) (length (performed q w.work)) so_many (l.done q),
          whole-more (on_queue q (labels_of w)) (l.labels q).0 so_many,
          ap (λ (ls : List Label). whole_batches ls so_many) (l.labels q).1,
        )

    await_kept : (o : OpLabel) → await_allows (labels_of w) w.work at.device o ≡ true → await_allows (labels_of s) s.work at.device o ≡ true
    await_kept (Await q k) e =
        let there : QueueAt = record { device = at.device; queue = q } in
        le-leb k (batches_done (labels_of s) s.work there) (omega (arith, leb-true k (batches_done (labels_of w) w.work there) e, done_grows there))
    await_kept (Make r b) e = e
    await_kept (CopyIn r b) e = e
    await_kept (CopyOut r b) e = e
    await_kept (Release b) e = e
    await_kept (Run k uses) e = e
    await_kept Close e = e

    host_kept : (o : Option Label) → host_allows o w.work ≡ true → host_allows o s.work ≡ true
    host_kept None e = e
    host_kept (Some b) e = le-leb b.items_done (items_of b.host s.work) (omega (arith, leb-true b.items_done (items_of b.host w.work) e, l.items b.host))

    batch_kept : batch_at now (length (performed at s.work)) ≡ batch_at first n
    batch_kept =
        ap (λ (ops : List OpLabel). batch_at now (length ops)) l.same
        ∙ (ap (λ (ls : List Label). batch_at ls n) (l.labels at).1 ∙ batch_stays first (l.labels at).0 n next_placed)

    can_kept : can_perform (labels_of s) s.work at op ≡ true
    can_kept =
        let parts = and_parts (await_allows (labels_of w) w.work at.device op) (host_allows (batch_at first n) w.work) c.can in
        and_from (await_allows (labels_of s) s.work at.device op) (host_allows (batch_at now (length (performed at s.work))) s.work) (await_kept op parts.0)
        (ap (λ (b : Option Label). host_allows b s.work) batch_kept ∙ host_kept (batch_at first n) parts.1)

    pub next_kept : ComesNext at s op
    next_kept = record { later = left_kept.0; left = left_kept.1; can = can_kept }
